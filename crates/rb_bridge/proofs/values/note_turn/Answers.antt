use Rattle.std.proofs.Common.{ap, sym}
use Rattle.std.specs.Option.{option_or}
use Rattle.rb_world_book.specs.Records.{record_of}
use Rattle.rb_bridge.specs.Holding.{value_with}
use Rattle.rb_bridge.proofs.Noted.{hold-same}
use Rattle.rb_bridge.proofs.values.note_turn.Goals as goal

pub returns-in-Slot : goal.returns-in-Slot
returns-in-Slot c = λ told hold.
    hold-same _ _ c.note_slot.new.kept (λ i. ap (option_or (told i)) (sym (ap (λ o. value_with c.args.frame c.args.slot o i) (ap record_of c.in-Slot.is))))
    (c.note_slot.ensures told hold)
