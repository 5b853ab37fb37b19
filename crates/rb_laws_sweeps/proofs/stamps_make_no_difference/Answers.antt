use Rattle.rb_laws_sweeps.proofs.StampsOff.{stamps-make-no-difference}
use Rattle.rb_laws_sweeps.proofs.stamps_make_no_difference.Goals as goal

pub returns : goal.returns
returns c = stamps-make-no-difference
