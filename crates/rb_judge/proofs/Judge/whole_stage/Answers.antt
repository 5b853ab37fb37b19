use Rattle.std.proofs.Common.{sym, subst}
use Rattle.rb_base.specs.Nodes.Side.{Biu, Rmu}
use Rattle.rb_judge.specs.Stages.{KeptJudge, Knows}
use Rattle.rb_judge.proofs.Sides.{kind_passed}
use Rattle.rb_judge.proofs.Judge.whole_stage.Goals as goal

pub returns-clause-known : goal.returns-clause-known
returns-clause-known c = λ stages s is biu rmu.
    let known = subst (λ (k : KeptJudge). Knows k stages) (sym c.self.view_is) is in
    record {
      bius = kind_passed Biu stages _ _ c.args.biu.now s c.pass.ensures biu known.bius;
      rmus = kind_passed Rmu stages _ _ c.args.rmu.now s c.pass-2.ensures rmu known.rmus;
    }
