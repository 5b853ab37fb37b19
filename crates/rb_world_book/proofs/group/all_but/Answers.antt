use Rattle.rb_world_book.proofs.Counted.{all_but_is}
use Rattle.rb_world_book.proofs.group.all_but.Goals as goal

pub returns : goal.returns
returns g c = all_but_is c.args.count c.args.set c.first.result c.difference.result c.first.ensures c.difference.ensures
