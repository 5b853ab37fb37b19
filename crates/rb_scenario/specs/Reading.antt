-- Whether all values of a document are in range, and the scenario that it says.
use Rattle.std.specs.{Prelude.{ℕ, ◌+◌, ◌/◌, Bool, ◌&&◌, codes}, List.list_all}
use Rattle.toml.specs.Data.{Members}
use Rattle.rb_base.specs.Nodes.Side.{Biu, Rmu}
use Rattle.rb_rules.specs.{Entries.listed, Goodness.{Scenario, clock_among}, Links.DelayRules, declared.plan.Plan.Plan}
use Rattle.rb_scenario_document.specs.{Values.{may_have_number, number_at}, Walk.entries_at}
use Rattle.rb_scenario_entries.specs.{declared.bus.Bus.Bus, Bus.{bus_of, has_bus}, Clocks.{clocks_of, has_clocks}, Faults.{has_faults, onsets_of}, Links.{is_link, rules_of}, Says.{is_say, says_of}}
use Rattle.rb_scenario.specs.Hosts.{apps_of, has_lists, requests_of, words_of}

-- the values of the entries, and those at the root that go by the bus, are in range
unfoldable pub fits_bus : Bus → Members → Bool
fits_bus bus t =
    has_lists bus.shape.bius t && may_have_number (codes "delay") 1 1000000000 t && has_clocks bus t
    && list_all (is_link bus) (entries_at (codes "link") t) && has_faults bus t
    && list_all (is_say bus) (entries_at (codes "say") t)

-- all values are in range
abbrev pub is_in_range : Members → Bool
is_in_range t = has_bus t && fits_bus (bus_of t) t

-- the delay of a message for which there is no rule: midway, if nothing is said
abbrev pub base_delay_of : Plan → Members → ℕ
base_delay_of plan t = number_at (codes "delay") ((plan.dmin + plan.dmax) / 2) t

-- how long messages are on their way
abbrev pub delays_on : Bus → Members → DelayRules
delays_on bus t = record { base = base_delay_of bus.plan t; rules = rules_of bus t }

-- what a document says of a bus
abbrev pub scenario_on : Bus → Members → Scenario
scenario_on bus t = record {
  sizes = bus.shape;
  plan = bus.plan;
  frames = bus.frames;
  requests = requests_of bus.shape.bius t;
  words = words_of t;
  apps = apps_of t;
  clocks = clocks_of bus t;
  delays = delays_on bus t;
  biu_onsets = onsets_of Biu bus t;
  rmu_onsets = onsets_of Rmu bus t;
  behavior = listed bus.plan.version (clock_among bus.shape (clocks_of bus t)) (says_of bus t);
  says = says_of bus t;
}

-- the scenario that a document says
abbrev pub scenario_of : Members → Scenario
scenario_of t = scenario_on (bus_of t) t
