-- Link entries: the delays of some messages.
use Rattle.std.specs.Prelude.{ℕ, ◌-◌, Bool, true, false, not, ◌&&◌, List, map, Option, Some, None, unwrap_or, codes}
use Rattle.toml.specs.Data.{Members}
use Rattle.rb_base.specs.Sizes.{sync_slot_of}
use Rattle.rb_rules.specs.{declared.link.Pattern.Pattern, declared.link.Pattern.TheVariants.AllBiu, declared.link.Rule.Rule}
use Rattle.rb_scenario_document.specs.{Names.{is_of_bius, pattern_at}, Values.{has_number, may_have_range, number_at, range_at}, Walk.entries_at}
use Rattle.rb_scenario_entries.specs.declared.bus.Bus.{Bus}

abbrev pub differ : Bool → Bool → Bool
differ true b = not b
differ false b = b

-- both are nodes of the bus, and of different kinds
abbrev pub are_apart : Option Pattern → Option Pattern → Bool
are_apart None to = false
are_apart (Some from) None = false
are_apart (Some from) (Some to) = differ (is_of_bius from) (is_of_bius to)

-- the numbers of a link entry are in range
abbrev pub is_link : Bus → Members → Bool
is_link bus e =
    are_apart (pattern_at bus.shape (codes "from") e) (pattern_at bus.shape (codes "to") e)
    && has_number (codes "delay") 1 1000000000 e
    && may_have_range (codes "frames") 0 (bus.frames - 1) e
    && may_have_range (codes "slots") 0 (sync_slot_of bus.shape) e
    && may_have_range (codes "stages") 1 3 e

-- the nodes that are named at a key of an entry in range
abbrev pub pattern_of : Bus → List ℕ → Members → Pattern
pattern_of bus key e = unwrap_or (pattern_at bus.shape key e) AllBiu

-- the rule of an entry: for all frames, slots and stages, if nothing is said
unfoldable pub rule_of : Bus → Members → Rule
rule_of bus e = record {
  from = pattern_of bus (codes "from") e;
  to = pattern_of bus (codes "to") e;
  frames = range_at (codes "frames") (0, bus.frames - 1) e;
  slots = range_at (codes "slots") (0, sync_slot_of bus.shape) e;
  stages = range_at (codes "stages") (1, 3) e;
  delay = number_at (codes "delay") 0 e;
}

abbrev pub rules_of : Bus → Members → List Rule
rules_of bus t = map (rule_of bus) (entries_at (codes "link") t)
