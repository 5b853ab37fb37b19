use Rattle.rb_laws_agreement.proofs.OneSlotAgrees.{votes-are-valid}
use Rattle.rb_laws_agreement.proofs.votes_are_valid.Goals as goal

pub returns : goal.returns
returns c = votes-are-valid
