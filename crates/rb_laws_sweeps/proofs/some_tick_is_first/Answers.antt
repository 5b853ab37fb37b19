use Rattle.rb_laws_sweeps.proofs.SomeFirst.{some-tick-is-first}
use Rattle.rb_laws_sweeps.proofs.some_tick_is_first.Goals as goal

pub returns : goal.returns
returns c = some-tick-is-first
