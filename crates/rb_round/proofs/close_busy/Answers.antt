use Rattle.std.proofs.Common.{refl}
use Rattle.rb_base.specs.Nodes.{has}
use Rattle.rb_rules.specs.ExactStage.{present}
use Rattle.rb_eligible.specs.{Inboxes.sense_in, Standings.standing_of}
use Rattle.rb_round.proofs.Closings.{closing_is}
use Rattle.rb_round.proofs.close_busy.Goals as goal

pub returns-clause-closing : goal.returns-clause-closing
returns-clause-closing g c = λ received shown.
    let taken = c.take_with_evidence-taking.new.taken in
    closing_is (standing_of c.args.standing.now) (has c.args.expected) (sense_in c.args.expect.now received) taken (present taken) c.vote-closing.result
    (c.take_with_evidence-taking.ensures.taken received shown) refl c.vote-closing.ensures
