use Rattle.std.proofs.Common.{refl, sym, subst}
use Rattle.rb_base.specs.Nodes.Side.{Biu, Rmu}
use Rattle.rb_rules.specs.Judging.{by_kind}
use Rattle.rb_judge.specs.Stages.{KeptJudge, Knows}
use Rattle.rb_judge.proofs.Sides.{kind_begun}
use Rattle.rb_judge.proofs.Judge.stage.Goals as goal

pub returns-clause-begun : goal.returns-clause-begun
returns-clause-begun c = λ stages is.
    let good = by_kind c.args.good_biu c.args.good_rmu in
    let trusted = by_kind c.args.trusted_biu c.args.trusted_rmu in
    let known = subst (λ (k : KeptJudge). Knows k stages) (sym c.self.view_is) is in
    record {
      eps = refl;
      bius = kind_begun Biu stages _ _ good trusted c.args.eps c.begin.ensures.sets c.begin.ensures.by_none known.bius;
      rmus = kind_begun Rmu stages _ _ good trusted c.args.eps c.begin-2.ensures.sets c.begin-2.ensures.by_none known.rmus;
    }
