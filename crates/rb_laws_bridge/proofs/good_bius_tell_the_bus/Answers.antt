use Rattle.rb_laws_bridge.proofs.Told.{good-tell}
use Rattle.rb_laws_bridge.proofs.good_bius_tell_the_bus.Goals as goal

pub returns : goal.returns
returns c = good-tell
