use Rattle.rb_laws_agreement.proofs.Promises.{deliveries_are_right}
use Rattle.rb_laws_agreement.proofs.deliveries_are_right.Goals as goal

pub returns : goal.returns
returns c = deliveries_are_right
