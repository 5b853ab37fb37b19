use Rattle.rb_world_book.proofs.Steady.{next-slot}
use Rattle.rb_world_book.proofs.book.Book.steady_next.Goals as goal

pub returns-then-all_stay : goal.returns-then-all_stay
returns-then-all_stay c =
    next-slot c.args.self.now c.args.place c.sync_slot.result c.saturating_add.result c.if-place-lt3.false c.sync_slot.ensures.value c.sync_slot.type_inv
    c.if-place-sync_slot.true (c.all_stay.ensures c.if-all_stay.true) c.saturating_add.ensures
