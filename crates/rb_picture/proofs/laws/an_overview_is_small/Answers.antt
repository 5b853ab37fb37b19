use Rattle.rb_picture.proofs.Sizes.{is_small}
use Rattle.rb_picture.proofs.laws.an_overview_is_small.Goals as goal

pub returns : goal.returns
returns c = is_small
