use Rattle.rb_laws_synchrony.proofs.OneStages.{middles-are-near}
use Rattle.rb_laws_synchrony.proofs.middles_are_near.Goals as goal

pub returns : goal.returns
returns c = middles-are-near
