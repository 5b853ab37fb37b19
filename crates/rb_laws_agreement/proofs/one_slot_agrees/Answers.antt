use Rattle.rb_laws_agreement.proofs.OneSlotAgrees.{one-slot-agrees}
use Rattle.rb_laws_agreement.proofs.one_slot_agrees.Goals as goal

pub returns : goal.returns
returns c = one-slot-agrees
