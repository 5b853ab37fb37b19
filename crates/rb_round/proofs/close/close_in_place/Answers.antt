use Rattle.std.proofs.Common.{sym}
use Rattle.rb_base.specs.Nodes.{has}
use Rattle.rb_eligible.specs.{Inboxes.sense_in, Standings.standing_of}
use Rattle.rb_eligible.proofs.Quiet.{quiet_accuses, quiet_takes}
use Rattle.rb_round.proofs.Closings.{nothing_closing}
use Rattle.rb_round.proofs.close.close_in_place.Goals as goal

pub returns-then-is_quiet-clause-closing : goal.returns-then-is_quiet-clause-closing
returns-then-is_quiet-clause-closing g c = λ received shown.
    let s = standing_of c.args.standing.now in
    let sense = sense_in c.args.expect.now received in
    nothing_closing s (has c.args.expected) sense (quiet_takes s c.args.expected sense (c.is_quiet.ensures.nobody c.if-is_quiet.true))

pub returns-then-is_quiet-clause-accused : goal.returns-then-is_quiet-clause-accused
returns-then-is_quiet-clause-accused g c = λ received shown.
    sym
    (quiet_accuses (standing_of c.args.standing.now) c.args.expected c.args.expect.now c.args.inbox.now received c.is_quiet.ensures.direct c.is_quiet.ensures.fresh (c.is_quiet.ensures.came c.if-is_quiet.true)
    (c.is_quiet.ensures.nobody c.if-is_quiet.true) shown)
