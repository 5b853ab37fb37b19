-- The abstract bus at some slots of the usual bus, and nodes that hold what it holds.
use Rattle.std.specs.Prelude.{ℕ, zero, suc, ◌+◌, ◌*◌, ◌∷◌, ◌++◌, [], List, replicate, Some, None}
use Rattle.rb_base.specs.{declared.values.Heard.Heard, declared.values.Heard.TheVariants.{Word, Fault}}
use Rattle.rb_rules.specs.{AbstractBus.{AbstractBus, first_bus, bus_after_slot}, Goodness.Scenario, NodeState.NodeState}
use Rattle.rb_test_rules.specs.{Buses.ticking, Ordinary.{greatest_drift, ordinary_use}, Parts.{sizes, biu}}

-- at first, the first good node having begun at time 0
abbrev pub at_first : AbstractBus
at_first = first_bus sizes 0

-- after the slots of frame 0 with these values
abbrev pub after_values : AbstractBus → List Heard → AbstractBus
after_values bus [] = bus
after_values bus (value ∷ values) = after_values (bus_after_slot sizes value bus) values

-- after the schedule slots, in which each BIU asks for two data slots; and for one
abbrev pub scheduled : AbstractBus
scheduled = after_values at_first (replicate 4 (Word 2))

abbrev pub half_scheduled : AbstractBus
half_scheduled = after_values at_first (replicate 4 (Word 1))

-- before the sync slot of a frame in which all BIUs name RMU 2, and RMUs 1 and 2 name BIU 1
abbrev pub at_the_end : AbstractBus
at_the_end = after_values scheduled (replicate 8 Fault ++ Word 4 ∷ Word 4 ∷ Word 4 ∷ Word 4 ∷ Word 0 ∷ Word 2 ∷ Word 2 ∷ [])

-- before the sync slot of a frame in which nobody is named
abbrev pub at_a_quiet_end : AbstractBus
at_a_quiet_end = after_values scheduled (replicate 8 (Word 10) ++ replicate 7 (Word 0))

-- the first slots of a run
abbrev pub first_slots : ℕ → AbstractBus
first_slots zero = at_first
first_slots (suc n) = bus_after_slot sizes (Word 2) (first_slots n)

-- the word that each BIU is offered
abbrev pub offered : ℕ → ℕ → ℕ → ℕ
offered frame slot i = 10 + 10 * i

-- a node that holds the schedule
abbrev pub biu_with_owners : NodeState
biu_with_owners = record biu { owners = 0 ∷ 1 ∷ 2 ∷ 3 ∷ 0 ∷ 1 ∷ 2 ∷ 3 ∷ [] }

-- a bus with clocks out of the bands: the first starts a unit too late, and the second has ticks a
-- unit too short
abbrev pub out_of_bands : Scenario
out_of_bands = record greatest_drift { clocks = ticking 60201 10001 ∷ replicate 6 (ticking 0 9998) }

-- BIU 2 is not good
abbrev pub without_biu_2 : Scenario
without_biu_2 = record ordinary_use { biu_onsets = None ∷ None ∷ Some (0, 0) ∷ None ∷ [] }

-- the bus before the slot of BIU 0's vector, and before that of RMU 0's
abbrev pub before_biu_0 : AbstractBus
before_biu_0 = record scheduled { slot = 12 }

abbrev pub before_rmu_0 : AbstractBus
before_rmu_0 = record scheduled { slot = 16 }
