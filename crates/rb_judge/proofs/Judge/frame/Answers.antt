use Rattle.std.proofs.Common.{refl}
use Rattle.rb_base.specs.Nodes.Side.{Biu, Rmu}
use Rattle.rb_judge.proofs.Sides.{kind_none}
use Rattle.rb_judge.proofs.Judge.frame.Goals as goal

pub returns-clause-begun : goal.returns-clause-begun
returns-clause-begun c =
    let b = c.new-self-inside.ensures in
    let r = c.new-self-inside-2.ensures in
    record {
      eps = refl;
      bius = kind_none Biu _ b.none_good b.none_trusted b.none_unlike b.none_taken b.none_unlike_now b.none_heard b.by_none;
      rmus = kind_none Rmu _ r.none_good r.none_trusted r.none_unlike r.none_taken r.none_unlike_now r.none_heard r.by_none;
    }
