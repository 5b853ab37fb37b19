-- The rules on what a document says.
use Rattle.std.specs.{Prelude.{ℕ, ◌-◌, Bool, not, ◌&&◌, nat_le, List}, List.list_all}
use Rattle.rb_rules.specs.{Clock.Timeline, Goodness.Scenario, Lawful.{is_node_good, segments_of_all}, Links.DelayRules, declared.plan.Plan.Plan}
use Rattle.rb_scenario_entries.specs.Clocks.{keeps_time}

-- every clock keeps time
abbrev pub keep_time : Plan → List Timeline → Bool
keep_time plan clocks = list_all (keeps_time plan) clocks

-- the delay is within the plan's bounds
abbrev pub is_delay : Plan → ℕ → Bool
is_delay plan delay = nat_le plan.dmin delay && nat_le delay plan.dmax

-- every delay is
abbrev pub are_delays : Plan → DelayRules → Bool
are_delays plan delays = is_delay plan delays.base && list_all (λ r. is_delay plan r.delay) delays.rules

-- no clock starts later than another by more than the bound
unfoldable pub start_together : ℕ → List Timeline → Bool
start_together bound clocks = list_all (λ a. list_all (λ b. nat_le (a.start - b.start) bound) clocks) clocks

-- each node that says something is not good at the first place of its entry
abbrev pub are_sayers_faulty : Scenario → Bool
are_sayers_faulty sc = list_all (λ say. not (is_node_good sc say.from say.frames.0 say.slots.0)) sc.says

-- there are not too many say entries, link entries, and segments of all clocks
abbrev pub are_few : ℕ → ℕ → List Timeline → Bool
are_few says rules clocks = nat_le says 1024 && nat_le rules 4096 && nat_le (segments_of_all clocks) 4096
