-- Nodes of a bus by their names, and how much may be pending at them.
use Rattle.std.specs.Prelude.{ℕ, ◌≡◌, ◌+◌, ◌≤◌, All, List, Option, length}
use Rattle.rb_base.specs.{Nodes.{Side, other}, Nodes.Side.{Biu, Rmu}, Sizes.Sizes, declared.node.NodeName.NodeName}
use Rattle.rb_rules.specs.{declared.plan.Plan.Plan, declared.say.Say.Say, Behavior.Behavior, Book.Each, Entries.{IsListed, listed}, Goodness.{Scenario, clock_among}, Clock.Timeline, Lawful.{IsLawful, kind_of}, Links.DelayRules, WorldStep.{Site, at_node, says_in}}
use Rattle.rb_world_onset.specs.Faults.{Faults, faults_of}
use Rattle.rb_node.specs.{Acts.span_in, declared.act.Span.Span}
use Rattle.rb_plan.specs.Timetable.{Timetable}
use Rattle.rb_world_agenda.specs.Holding.{HoldsSites}
use Rattle.rb_world_traffic.specs.{Arriving.{AreRunning, number_of}, Departing.with_sent, declared.sending.Departure.Departure, Saying.{KeptSayings, hears, kept_of, with_arrivals}}
use Rattle.rb_laws_events.specs.PendingEvents.{most_pending}
use Rattle.rb_queue.specs.Waiting.{Held, lane_of, with_lane}
use Rattle.rb_world.specs.{Calm.AreRestless, declared.calm.Restless.Restless}

-- what is kept of a scenario: all but what faulty nodes do, which is what the entries list
pub record KeptBus : Type 0 where
  pub sizes : Sizes
  pub plan : Plan
  pub frames : ℕ
  pub requests : List ℕ
  pub words : List ℕ
  pub apps : List ℕ
  pub clocks : List Timeline
  pub delays : DelayRules
  pub biu_onsets : List (Option (ℕ × ℕ))
  pub rmu_onsets : List (Option (ℕ × ℕ))
  pub says : List Say

abbrev pub bus_of : Timetable → ℕ → List ℕ → List ℕ → List ℕ → List Timeline → DelayRules → Faults → KeptSayings → KeptBus
bus_of plan frames requests words apps clocks delays onsets sayings = record {
  sizes = plan.sizes;
  plan = plan.plan;
  frames = frames;
  requests = requests;
  words = words;
  apps = apps;
  clocks = clocks;
  delays = delays;
  biu_onsets = onsets.biu_onsets;
  rmu_onsets = onsets.rmu_onsets;
  says = sayings.says;
}

-- the behavior that the entries of a scenario list
abbrev pub listed_by : Scenario → Behavior
listed_by sc = listed sc.plan.version (clock_among sc.sizes sc.clocks) sc.says

-- the scenario of which this is kept
abbrev pub scenario_of : KeptBus → Scenario
scenario_of b = record {
  sizes = b.sizes;
  plan = b.plan;
  frames = b.frames;
  requests = b.requests;
  words = b.words;
  apps = b.apps;
  clocks = b.clocks;
  delays = b.delays;
  biu_onsets = b.biu_onsets;
  rmu_onsets = b.rmu_onsets;
  behavior = listed b.plan.version (clock_among b.sizes b.clocks) b.says;
  says = b.says;
}

-- the scenario is lawful, its faulty nodes do what its entries list, and this is kept of who is
-- good, of what is said, which are `count` entries, and of the frames in which a node may not be
-- good or may be told something
pub record IsBus (count : ℕ) (sc : Scenario) (onsets : Faults) (sayings : KeptSayings) (bius rmus : List Restless) : Type 0 where
  pub lawful : IsLawful sc
  pub listed : IsListed sc
  pub onsets_are : onsets ≡ faults_of sc
  pub sayings_are : sayings ≡ kept_of sc
  pub many : count ≡ length sc.says
  pub restless_bius : AreRestless sc.biu_onsets (kept_of sc) Biu sc.sizes.bius bius
  pub restless_rmus : AreRestless sc.rmu_onsets (kept_of sc) Rmu sc.sizes.rmus rmus

-- At a node of kind me there is room for all that is pending there, and, when an event has been
-- taken, for all that may then come at once: its next tick and what is said to it in a window, or a
-- message
abbrev pub HasRoom : Scenario → Side → Held → Type 0
HasRoom sc me lane = most_pending sc me + length sc.says + 1 ≤ lane.room

-- there is room in the lane of each node
pub record HaveRooms (sc : Scenario) (lanes : Each Held) : Type 0 where
  pub bius : All (HasRoom sc Biu) lanes.bius
  pub rmus : All (HasRoom sc Rmu) lanes.rmus

-- Calls.

-- what nodes that are not good say to this one in a window is pending there
abbrev pub with_said : Scenario → NodeName → Span → Each Held → Each Held
with_said sc node span lanes =
    with_lane node (with_arrivals (says_in sc (kind_of node) (number_of node) (span_in span)) (lane_of lanes node)) lanes

-- the lanes hold what was pending at sites, with what faulty nodes say to the node in a window
abbrev pub HasSaid : Scenario → NodeName → Span → Each Held → Each Held → Type 0
HasSaid sc node span before after = (sites : Each Site) → HoldsSites sc.sizes before sites
    → HoldsSites sc.sizes after (at_node (kind_of node) (number_of node) (hears sc node (span_in span)) sites)

-- the lanes hold what was pending at sites, with the message that is sent to those of them that run
abbrev pub HasSent : Scenario → Departure → ℕ → Each Held → Each Held → Type 0
HasSent sc d running before after = (sites : Each Site) → AreRunning (other (kind_of d.from)) running sites
    → HoldsSites sc.sizes before sites → HoldsSites sc.sizes after (with_sent sc d sites)
