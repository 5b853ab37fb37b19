-- The first ports are there.
use Rattle.rb_world.proofs.Openings.{HoldEach}
use Rattle.rb_world.specs.Buses.{scenario_of}
use Rattle.rb_world.proofs.opening.open_ports.Given as goal

abbrev pub invariant-loop-i : goal.invariant-loop-i
invariant-loop-i l = HoldEach (scenario_of l.bus) l.i l.ports.items
