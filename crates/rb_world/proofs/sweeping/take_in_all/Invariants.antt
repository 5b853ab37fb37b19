use Rattle.std.proofs.Common.{◌≡◌, take}
use Rattle.rb_base.specs.Nodes.{side_of}
use Rattle.rb_rules.specs.{Goodness.Scenario, WorldStep.Site as WorldSite}
use Rattle.rb_queue.specs.Waiting.{lane_of}
use Rattle.rb_world.specs.{Sites.Stands as StandsFor, Unstamped.{due_before, taken_all}}
use Rattle.rb_world.proofs.sweeping.take_in_all.Given as goal

abbrev pub invariant-loop-arrival : goal.invariant-loop-arrival
invariant-loop-arrival g l = record {
  stands : (sc : Scenario) (s : WorldSite) → StandsFor sc (side_of g.K.Kind.CODE) l.fn.site s
      → StandsFor sc (side_of g.K.Kind.CODE) l.site (taken_all sc (side_of g.K.Kind.CODE) (due_before l.until (take l.arrival-index (lane_of l.fn.agenda l.node).arrivals)) s);
  seat : l.site.node.seat ≡ l.fn.site.node.seat;
}
