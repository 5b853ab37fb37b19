use Rattle.std.proofs.Common.{ap}
use Rattle.std.specs.Prelude.{Some}
use Rattle.rb_rules.specs.Book.{Record}
use Rattle.rb_world_book.proofs.book.write_slot.Goals as goal

pub returns : goal.returns
returns c =
    c.give_lines.ensures c.args.place.frame c.args.place.slot (ap (λ l. Some (Record.Slot c.args.place.frame c.args.place.slot l)) c.new.ensures)
