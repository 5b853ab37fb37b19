use Rattle.std.proofs.Common.{◌≡◌, length}
use Rattle.rb_base.specs.{Nodes.side_of, declared.node.NodeName.NodeName}
use Rattle.rb_rules.specs.{Book.Each, WorldStep.Site as WorldSite}
use Rattle.rb_queue.specs.Waiting.{HasLane, lane_of}
use Rattle.rb_world.specs.{Sites.number_of, Trailing.MaySweep, Buses.scenario_of}
use Rattle.rb_world.proofs.SweptTold.{SweepsTold}
use Rattle.rb_world.proofs.sweeping.sweep_told.Given as goal

abbrev pub invariant-events : goal.invariant-events
invariant-events g l = record {
  number : number_of l.site ≡ number_of l.fn.site;
  lanes : (other : NodeName) → HasLane l.fn.agenda other → HasLane l.agenda other;
  on : (sites : Each WorldSite) (s : WorldSite) → MaySweep (scenario_of l.bus) (side_of g.K.Kind.CODE) (number_of l.fn.site) l.until l.fn.site l.fn.agenda sites s
      → SweepsTold _ g.T.Observer.observes l.fn.observer l.observer (scenario_of l.bus) (side_of g.K.Kind.CODE) (number_of l.fn.site) l.until l.site l.agenda sites s;
}

abbrev pub decreases-events : goal.decreases-events
decreases-events g l = length (lane_of l.agenda l.node).arrivals
