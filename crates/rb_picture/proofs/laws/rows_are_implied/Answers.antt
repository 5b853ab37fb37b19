use Rattle.rb_picture.proofs.Implied.{rows_are_implied}
use Rattle.rb_picture.proofs.laws.rows_are_implied.Goals as goal

pub returns : goal.returns
returns c = rows_are_implied
