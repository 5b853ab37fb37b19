use Rattle.rb_laws_agreement.proofs.PortHistories.{ports_follow}
use Rattle.rb_laws_agreement.proofs.ports_follow_the_bus.Goals as goal

pub returns : goal.returns
returns c = ports_follow
