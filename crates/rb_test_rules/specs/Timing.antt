-- A plan and a clock whose numbers are all different, and rules of delay.
use Rattle.std.specs.Prelude.{[], ◌∷◌}
use Rattle.rb_base.specs.{declared.node.NodeName.TheVariants.{Biu, Rmu}, declared.values.Place.Place}
use Rattle.rb_rules.specs.{declared.link.Pattern.TheVariants.{One, AllBiu, AllRmu}, declared.link.Rule.Rule, declared.message.Tag.TheVariants.Word, declared.plan.Plan.Plan, Clock.Timeline, Goodness.Scenario, Hearing.Sending, Links.DelayRules}
use Rattle.rb_test_rules.specs.{Ordinary.ordinary_use, Parts.plan}

-- ticks that may be nearly twice as long as the nominal one, or a tenth of it. No bus could run by
-- it
abbrev pub uneven_plan : Plan
uneven_plan = record plan {
  u = 1000;
  r = 900;
  dmin = 700;
  dmax = 2000;
  l = 31;
  h = 5;
  v = 37;
  z = 43;
  c = 3;
  p = 90000;
}

-- ticks 0 and 1 take 10 units each, all later ones 12
abbrev pub quick_then_slow : Timeline
quick_then_slow = record { start = 3; segments = (0, 10) ∷ (2, 12) ∷ [] }

-- a place in a data slot
abbrev pub data_place : Place
data_place = record { frame = 0; slot = 5; stage = 1 }

abbrev pub word_sent : Sending
word_sent = record { tick = 0; message = record { tag = Word; frame = 0; slot = 5; stage = 1; value = 1 } }

-- what the BIUs send takes 6 units, but from BIU 0 to RMU 1 it takes 7; there is no rule for the
-- way back
abbrev pub from_all_bius : Rule
from_all_bius = record { from = AllBiu; to = AllRmu; frames = (0, 9); slots = (0, 9); stages = (1, 3); delay = 6 }

abbrev pub from_biu_0 : Rule
from_biu_0 = record from_all_bius { from = One (Biu 0); to = One (Rmu 1); delay = 7 }

abbrev pub two_rules : DelayRules
two_rules = record { base = 5; rules = from_all_bius ∷ from_biu_0 ∷ [] }

abbrev pub with_two_rules : Scenario
with_two_rules = record ordinary_use { delays = two_rules }
