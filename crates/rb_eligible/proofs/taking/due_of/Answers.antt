use Rattle.std.proofs.Common.{ℕ, Bool, ◌&&◌, ◌∙◌, ap}
use Rattle.rb_base.specs.Nodes.{has}
use Rattle.rb_base.proofs.Sets.{has-is, set_of-lt}
use Rattle.rb_rules.specs.Standing.{is_eligible}
use Rattle.rb_eligible.specs.{Inboxes.is_sole, Standings.standing_of}
use Rattle.rb_eligible.proofs.Scans.{common_has}
use Rattle.rb_eligible.proofs.taking.due_of.Goals as goal

pub returns-clause-fits : goal.returns-clause-fits
returns-clause-fits g c = rw c.intersection.ensures (set_of-lt (λ i. has c.eligible_of.result i && has c.soles.result i))

pub returns-clause-due : goal.returns-clause-due
returns-clause-due g c = λ j h.
    let takable : ℕ → Bool = λ j. has c.args.expected j && is_eligible (standing_of c.args.standing.now) j in
    common_has c.eligible_of.result c.soles.result c.intersection.result j (is_sole c.args.inbox.now) c.intersection.ensures c.soles.ensures h
    ∙ ap (λ b. b && is_sole c.args.inbox.now j) (has-is c.eligible_of.result j takable c.eligible_of.ensures h)
