use Rattle.std.proofs.Common.{◌≤◌, sym, ◌∙◌, arith}
use Rattle.rb_base.specs.Sizes.{sync_slot_of}
use Rattle.rb_listen.proofs.Passing.{in-a-slot}
use Rattle.rb_listen.proofs.lesson.note.Goals as goal

pub record_of-before-requires-clause-slot : goal.record_of-before-requires-clause-slot
record_of-before-requires-clause-slot c =
    let placed : c.args.message.now.slot ≤ sync_slot_of c.args.shape.now =
    in-a-slot c.args.shape.now c.args.lesson.now.frame c.args.message.now (sym c.has_place.ensures ∙ c.if-has_place.true) in
    omega (arith, placed, c.sync_slot-calls.ensures.value, c.sync_slot-calls.ensures.most)
