use Rattle.rb_laws_bridge.proofs.Stayed.{earlier-stay}
use Rattle.rb_laws_bridge.proofs.earlier_records_stay.Goals as goal

pub returns : goal.returns
returns c = earlier-stay
