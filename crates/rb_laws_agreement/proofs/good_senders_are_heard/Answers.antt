use Rattle.rb_laws_agreement.proofs.SlotValues.{senders_are_heard}
use Rattle.rb_laws_agreement.proofs.good_senders_are_heard.Goals as goal

pub returns : goal.returns
returns c = senders_are_heard
