-- The nodes so far have been swept.
use Rattle.std.proofs.Common.{◌≡◌, Some, length}
use Rattle.rb_base.specs.{Nodes.side_of, declared.node.NodeName.NodeName}
use Rattle.rb_rules.specs.{Book.Each, WorldStep.Site as WorldSite}
use Rattle.rb_world.specs.{Observing.{WasTold, left_below}, Trailing.{HaveCaughtUp, MayCatchUp, until_from}, Buses.scenario_of}
use Rattle.rb_world.proofs.sweeping.catch_up_all.Given as goal

abbrev pub invariant-loop-i : goal.invariant-loop-i
invariant-loop-i g l = record {
  many : length l.sites.items ≡ length l.fn.sites.items;
  done : (nodes : Each WorldSite) → MayCatchUp (scenario_of l.setup.bus.now) (until_from (Some l.tick)) (side_of g.K.Kind.CODE) l.fn.sites.items l.fn.agenda nodes
      → HaveCaughtUp (scenario_of l.setup.bus.now) (until_from (Some l.tick)) (side_of g.K.Kind.CODE) l.i l.sites.items l.agenda nodes;
  told : (name : NodeName) → l.setup.observed ≡ Some name → (nodes : Each WorldSite) → MayCatchUp (scenario_of l.setup.bus.now) (until_from (Some l.tick)) (side_of g.K.Kind.CODE) l.fn.sites.items l.fn.agenda nodes
      → WasTold _ g.T.Observer.observes l.fn.observer (left_below (scenario_of l.setup.bus.now) (until_from (Some l.tick)) (side_of g.K.Kind.CODE) l.i nodes name) l.observer;
}
