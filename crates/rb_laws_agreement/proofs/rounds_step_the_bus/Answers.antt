use Rattle.rb_laws_agreement.proofs.BusLaws.{steps_the_bus}
use Rattle.rb_laws_agreement.proofs.rounds_step_the_bus.Goals as goal

pub returns : goal.returns
returns c = steps_the_bus
