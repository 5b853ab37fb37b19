-- The nodes before the next have begun.
use Rattle.rb_base.specs.Nodes.{side_of}
use Rattle.rb_rules.specs.WorldStep.{World as RunWorld}
use Rattle.rb_world.specs.{Openings.{HaveBegun, MayBegin}, Buses.scenario_of}
use Rattle.rb_world.proofs.opening.begin_all.Given as goal

abbrev pub invariant-loop-i : goal.invariant-loop-i
invariant-loop-i g l = (w : RunWorld) → MayBegin (scenario_of l.bus) (side_of g.K.Kind.CODE) l.fn.scene w → HaveBegun (scenario_of l.bus) (side_of g.K.Kind.CODE) l.i l.sites.items l.scene w
