use Rattle.std.proofs.Common.{◌+◌, ◌∙◌, ap}
use Rattle.rb_base.specs.Nodes.Side.{Rmu}
use Rattle.rb_diag.specs.Votes.{vector_in}
use Rattle.rb_rules.specs.{Conviction.convicted_by, Slots.first_diagnosis_of}
use Rattle.rb_slot.proofs.Convicting.{same_convicted}
use Rattle.rb_listen.specs.Lessons.{vote_on}
use Rattle.rb_listen.proofs.lesson.convicted_bius.Goals as goal

pub returns : goal.returns
returns c =
    c.convicted.ensures
    ∙ ap (λ n. convicted_by n c.args.rmus c.args.bius (vector_in c.ballot_of-ballot.result.vectors)) (c.ballot_of-ballot.ensures.others ∙ c.biu.ensures.value)
    ∙ same_convicted c.args.shape.now.bius c.args.rmus c.args.bius (vector_in c.ballot_of-ballot.result.vectors)
    (λ i. vote_on c.args.records.now c.args.rmus (first_diagnosis_of Rmu c.args.shape.now + i))
    (λ i h. c.ballot_of-ballot.ensures.vectors i h ∙ ap (λ f. vote_on c.args.records.now c.args.rmus (f + i)) c.first_of_rmus.ensures.value)
