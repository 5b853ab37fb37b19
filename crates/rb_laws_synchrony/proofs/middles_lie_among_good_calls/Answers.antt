use Rattle.rb_laws_synchrony.proofs.OneStages.{middles-lie-among}
use Rattle.rb_laws_synchrony.proofs.middles_lie_among_good_calls.Goals as goal

pub returns : goal.returns
returns c = middles-lie-among
