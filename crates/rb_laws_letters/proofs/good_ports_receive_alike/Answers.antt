use Rattle.rb_laws_letters.proofs.Received.{receive-alike}
use Rattle.rb_laws_letters.proofs.good_ports_receive_alike.Goals as goal

pub returns : goal.returns
returns c = receive-alike
