-- The first nodes are there.
use Rattle.rb_base.specs.Nodes.{side_of}
use Rattle.rb_world.proofs.Openings.{FirstFresh}
use Rattle.rb_world.specs.Buses.{scenario_of}
use Rattle.rb_world.proofs.opening.open_sites.Given as goal

abbrev pub invariant-loop-i : goal.invariant-loop-i
invariant-loop-i g l = FirstFresh (scenario_of l.bus) (side_of g.K.Kind.CODE) l.i l.sites.items
