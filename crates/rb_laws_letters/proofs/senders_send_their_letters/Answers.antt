use Rattle.rb_laws_letters.proofs.Senders.{senders-send}
use Rattle.rb_laws_letters.proofs.senders_send_their_letters.Goals as goal

pub returns : goal.returns
returns c = senders-send
