use Rattle.rb_laws_events.proofs.PortsAlike.{ports-agree}
use Rattle.rb_laws_events.proofs.running_ports_agree.Goals as goal

pub returns : goal.returns
returns c = ports-agree
