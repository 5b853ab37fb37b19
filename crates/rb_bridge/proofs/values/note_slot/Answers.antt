use Rattle.std.proofs.Common.{ap, ◌∙◌}
use Rattle.std.specs.Option.{option_or}
use Rattle.rb_bridge.specs.Holding.{value_by}
use Rattle.rb_bridge.proofs.Noted.{here-told, hold-same}
use Rattle.rb_bridge.proofs.values.note_slot.Goals as goal

pub returns-then-brought-slot : goal.returns-then-brought-slot
returns-then-brought-slot c = λ told hold.
    let r = c.args.brought.now in
    hold-same _ _ c.note_lines.new.kept (λ i. ap (option_or (told i))
    (ap (λ lines. value_by lines i) c.as_slice.ensures.value ∙ here-told c.args.frame c.args.slot r.frame r.slot i r.lines.items c.if-brought-frame.true c.if-brought-slot.true))
    (c.note_lines.ensures told hold)
