use Rattle.std.proofs.Common.{◌∙◌}
use Rattle.rb_world_book.proofs.Popped.{those_are}
use Rattle.rb_world_book.proofs.walks.those_below.Goals as goal

pub returns : goal.returns
returns g c = c.intersection.ensures ∙ those_are c.args.count c.args.set c.first.result c.first.ensures
