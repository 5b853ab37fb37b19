use Rattle.rb_picture.proofs.Cells.{one_cell_each}
use Rattle.rb_picture.proofs.laws.one_cell_each.Goals as goal

pub returns : goal.returns
returns c = one_cell_each
