use Rattle.rb_laws_agreement.proofs.{Promises.deliveries_are_right, TablesHold.held-delivered}
use Rattle.rb_laws_agreement.proofs.held_words_are_delivered.Goals as goal

pub returns : goal.returns
returns c = λ sc hands law. held-delivered law (deliveries_are_right sc hands law).1
