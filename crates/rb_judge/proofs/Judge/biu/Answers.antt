use Rattle.std.proofs.Common.{◌∙◌, sym, subst}
use Rattle.rb_base.specs.Nodes.Side.{Biu}
use Rattle.rb_judge.specs.Stages.{KeptJudge, Knows}
use Rattle.rb_judge.proofs.Sides.{classes_are}
use Rattle.rb_judge.proofs.Judge.biu.Goals as goal

pub returns : goal.returns
returns c = λ stages is.
    c.classes.ensures ∙ classes_are Biu stages _ (subst (λ (k : KeptJudge). Knows k stages) (sym c.self.view_is) is).bius
