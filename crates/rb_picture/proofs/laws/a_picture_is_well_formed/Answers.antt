use Rattle.rb_picture.proofs.Documents.{well_formed}
use Rattle.rb_picture.proofs.laws.a_picture_is_well_formed.Goals as goal

pub returns : goal.returns
returns c = well_formed
