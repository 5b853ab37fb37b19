use Rattle.rb_laws_agreement.proofs.PortHistories.{ports_alike}
use Rattle.rb_laws_agreement.proofs.ports_hold_one_state.Goals as goal

pub returns : goal.returns
returns c = ports_alike
