use Rattle.std.proofs.Common.{Some, ◌++◌, ap, ◌∙◌}
use Rattle.rb_group.specs.Portions.{deliveries_in, told_of}
use Rattle.rb_rules.specs.Book.Record.{Slot}
use Rattle.rb_group_run.proofs.Held.{slot_told, slot_untold, told_same, untold}
use Rattle.rb_group_run.proofs.ports.hear_if_now.Goals as goal

pub returns-then-slot-frame : goal.returns-then-slot-frame
returns-then-slot-frame c = λ members told hold.
    let s = c.args.slot.now in
    told_same members (λ i. told i ++ deliveries_in s.frame s.slot i c.as_slice.result.now) (λ i. told i ++ told_of c.args.frame i (Slot s.frame s.slot s.lines.items)) c.hear_slot.new.groups
    (λ i. ap (λ ds. told i ++ ds) (ap (deliveries_in s.frame s.slot i) c.as_slice.ensures.value ∙ slot_told c.args.frame i s.frame s.slot s.lines.items c.if-slot-frame.true))
    (c.hear_slot.ensures members told hold)

pub returns-else-slot-frame : goal.returns-else-slot-frame
returns-else-slot-frame c = λ members told hold.
    let s = c.args.slot.now in
    untold members c.args.frame told (Some (Slot s.frame s.slot s.lines.items)) c.args.groups.now (λ i. slot_untold c.args.frame i s.frame s.slot s.lines.items c.if-slot-frame.false) hold
