use Rattle.std.proofs.Common.{◌&&◌, sym, ◌∙◌, ap}
use Rattle.rb_base.specs.Nodes.{has}
use Rattle.rb_base.proofs.{Plain.and_second, Sets.{same_set_of, set_of-lt}}
use Rattle.rb_rules.specs.Sense.{is_one}
use Rattle.rb_eligible.specs.Inboxes.{is_sole, sense_in}
use Rattle.rb_eligible.proofs.{Scans.common_has, Sensed.none_but_soles}
use Rattle.rb_eligible.proofs.taking.ones_among.Goals as goal

pub take_due-requires-clause-fits : goal.take_due-requires-clause-fits
take_due-requires-clause-fits g c = rw c.intersection-due.ensures (set_of-lt (λ i. has c.args.set i && has c.soles.result i))

pub take_due-requires-clause-due : goal.take_due-requires-clause-due
take_due-requires-clause-due g c = λ j h inside.
    and_second (has c.args.set j) (is_sole c.args.inbox.now j) (sym (common_has c.args.set c.soles.result c.intersection-due.result j (is_sole c.args.inbox.now) c.intersection-due.ensures c.soles.ensures h) ∙ inside)

pub returns : goal.returns
returns g c = λ received shown.
    c.take_due.ensures.ones received shown
    ∙ same_set_of _ _ (λ j h.
    ap (λ b. b && is_one (sense_in c.args.expect.now received j))
    (common_has c.args.set c.soles.result c.intersection-due.result j (is_sole c.args.inbox.now) c.intersection-due.ensures c.soles.ensures h)
    ∙ none_but_soles c.args.expect.now c.args.inbox.now received (has c.args.set j) j shown h)
