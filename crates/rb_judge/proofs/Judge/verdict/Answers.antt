use Rattle.std.proofs.Common.{◌∙◌, ap}
use Rattle.rb_base.specs.Nodes.Side.{Biu}
use Rattle.rb_rules.specs.Judging.{cause_of, classes_of, verdict_of}
use Rattle.rb_judge.specs.Kinds.{sets_of}
use Rattle.rb_judge.proofs.Judge.verdict.Goals as goal

pub returns : goal.returns
unfolding verdict_of
returns c = λ stages is.
    c.cause_of.ensures
    ∙ ap (λ biu. cause_of biu (sets_of c.rmu.result)) (c.biu.ensures stages is)
    ∙ ap (cause_of (classes_of Biu stages)) (c.rmu.ensures stages is)
