use Rattle.rb_laws_letters.proofs.Received.{senders-received}
use Rattle.rb_laws_letters.proofs.good_senders_are_received.Goals as goal

pub returns : goal.returns
returns c = senders-received
