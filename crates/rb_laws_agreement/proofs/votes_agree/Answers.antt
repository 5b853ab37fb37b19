use Rattle.rb_laws_agreement.proofs.OneSlotAgrees.{votes-agree}
use Rattle.rb_laws_agreement.proofs.votes_agree.Goals as goal

pub returns : goal.returns
returns c = votes-agree
