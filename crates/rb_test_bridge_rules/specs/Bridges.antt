-- The bridges of the worked cases, and what is said of them.
use Rattle.std.specs.Prelude.{ℕ, ◌+◌, ◌==◌, if◌then◌else◌, Option, Some, None, List, [], ◌∷◌, codes, get_or, replicate, take}
use Rattle.rb_base.specs.{Sizes.Sizes, declared.values.Delivery.Delivery, declared.values.Heard.TheVariants.Word}
use Rattle.rb_rules.specs.{declared.message.Version.TheVariants.One, declared.plan.Plan.Plan, Book.Record, Book.Record.{Ended, Slot}, Goodness.Scenario, Rounds.records_of}
use Rattle.rb_rules_bridge.specs.{declared.bank.Pair.Pair, Bridges.Bridge}

-- Buses.

-- ticks of 10000 units, give or take one; calls are sent at offset 6 of windows of 15, 18 and 20
-- ticks
abbrev pub plan : Plan
plan = record {
  u = 10000;
  r = 1;
  dmin = 5000;
  dmax = 15000;
  l = 15;
  h = 6;
  v = 18;
  z = 20;
  c = 1;
  p = 60200;
  version = One;
  probation = 0;
}

-- a bus whose BIUs have these words and tables, and ask for one data slot each. From these onsets
-- on BIUs are not good
abbrev pub bus : Sizes → ℕ → List ℕ → List (Option (ℕ × ℕ)) → Scenario
bus sizes frames words onsets = record {
  sizes = sizes;
  plan = plan;
  frames = frames;
  requests = replicate sizes.bius 1;
  words = words;
  apps = replicate sizes.bius 0;
  clocks = replicate (sizes.bius + sizes.rmus) (record { start = 0; segments = (0, 10000) ∷ [] });
  delays = record { base = 10000; rules = [] };
  biu_onsets = onsets;
  rmu_onsets = replicate sizes.rmus None;
  behavior = λ me i span j. [];
  says = [];
}

-- one BIU, one RMU, and `slots` data slots
abbrev pub single : ℕ → ℕ → ℕ → Option (ℕ × ℕ) → Scenario
single slots frames word onset = bus (record { bius = 1; rmus = 1; data_slots = slots }) frames (word ∷ []) (onset ∷ [])

-- three BIUs, one RMU, three data slots, two frames. From this onset on BIU 2 is not good
abbrev pub triple : ℕ → ℕ → ℕ → Option (ℕ × ℕ) → Scenario
triple first second third onset =
    bus (record { bius = 3; rmus = 1; data_slots = 3 }) 2 (first ∷ second ∷ third ∷ []) (None ∷ None ∷ onset ∷ [])

-- Bridges.

abbrev pub pair : ℕ → ℕ → Pair
pair left right = record { left = left; right = right }

-- a bridge of one pair
abbrev pub narrow : Scenario → Scenario → ℕ → ℕ → Bridge
narrow left right left_slot right_slot = record { left = left; right = right; pairs = pair 0 0 ∷ []; left_slot = left_slot; right_slot = right_slot }

-- from which the left bus's first data slot and the right bus's second are carried over
abbrev pub broad : Scenario → Scenario → List Pair → Bridge
broad left right pairs = record { left = left; right = right; pairs = pairs; left_slot = 0; right_slot = 1 }

-- Cases.

abbrev pub three_frames : Bridge
three_frames = narrow (single 1 3 7 None) (single 1 3 9 None) 0 0

abbrev pub three_frames_text : List ℕ
three_frames_text = codes "x 1 left B0 9\nx 1 right B0 7\nx 2 left B0 7\nx 2 right B0 9\nend 3\n"

abbrev pub idle_slot : Bridge
idle_slot = narrow (single 2 2 7 None) (single 1 2 9 None) 1 0

abbrev pub idle_slot_text : List ℕ
idle_slot_text = codes "x 1 left B0 9\nx 1 right B0 0\nend 2\n"

abbrev pub other_slots : Bridge
other_slots = broad (triple 10 20 30 None) (triple 50 60 70 None) (pair 0 1 ∷ pair 1 0 ∷ [])

abbrev pub other_slots_text : List ℕ
other_slots_text = codes "x 1 left B0 60\nx 1 left B1 60\nx 1 left B2 60\nx 1 right B0 10\nx 1 right B1 10\nx 1 right B2 10\nend 2\n"

-- pairs whose numbers on the two buses are not the same set
abbrev pub crossed : Bridge
crossed = broad (triple 10 20 30 None) (triple 50 60 70 None) (pair 0 1 ∷ pair 1 2 ∷ [])

abbrev pub crossed_text : List ℕ
crossed_text = codes "x 1 left B0 60\nx 1 left B1 60\nx 1 left B2 60\nx 1 right B0 10\nx 1 right B1 10\nx 1 right B2 10\nend 2\n"

-- a pair joins BIU 0 with BIU 2 of the right bus. BIU 2 of the left bus is not good
abbrev pub crossed_by_few : Bridge
crossed_by_few = broad (triple 10 20 30 (Some (0, 3))) (triple 50 60 70 None) (pair 0 2 ∷ pair 1 1 ∷ [])

abbrev pub crossed_by_few_text : List ℕ
crossed_by_few_text = codes "x 1 left B0 60\nx 1 left B1 60\nx 1 right B0 10\nx 1 right B1 10\nx 1 right B2 10\nend 2\n"

-- a bus of one BIU and one of three
abbrev pub unlike_buses : Bridge
unlike_buses = narrow (single 1 2 7 None) (triple 50 60 70 None) 0 1

abbrev pub unlike_buses_text : List ℕ
unlike_buses_text = codes "x 1 left B0 60\nx 1 right B0 7\nx 1 right B1 7\nx 1 right B2 7\nend 2\n"

abbrev pub outvoted : Bridge
outvoted = broad (triple 10 20 30 (Some (0, 3))) (triple 50 60 70 None) (pair 0 0 ∷ pair 1 1 ∷ pair 2 2 ∷ [])

abbrev pub outvoted_text : List ℕ
outvoted_text = codes "x 1 left B0 60\nx 1 left B1 60\nx 1 right B0 10\nx 1 right B1 10\nx 1 right B2 10\nend 2\n"

abbrev pub no_majority : Bridge
no_majority = broad (triple 10 20 30 (Some (0, 3))) (triple 50 60 70 None) (pair 0 0 ∷ pair 2 2 ∷ [])

abbrev pub no_majority_text : List ℕ
no_majority_text = codes "x 1 left B0 60\nx 1 left B1 60\nx 1 right B0 none\nx 1 right B1 none\nx 1 right B2 none\nend 2\n"

abbrev pub last_data_slot : Bridge
last_data_slot = broad (triple 10 20 30 None) (triple 50 60 70 (Some (1, 5))) (pair 0 0 ∷ pair 1 1 ∷ [])

abbrev pub last_data_slot_text : List ℕ
last_data_slot_text = codes "x 1 left B0 60\nx 1 left B1 60\nx 1 left B2 60\nx 1 right B0 10\nx 1 right B1 10\nend 2\n"

abbrev pub right_breaks : Bridge
right_breaks = narrow (single 1 3 7 (Some (2, 0))) (single 1 3 9 (Some (1, 0))) 0 0

abbrev pub right_breaks_text : List ℕ
right_breaks_text = codes "breach right 1 0 1 FewGoodBiu\n"

abbrev pub left_breaks : Bridge
left_breaks = narrow (single 1 3 7 (Some (2, 0))) (single 1 3 9 None) 0 0

abbrev pub left_breaks_text : List ℕ
left_breaks_text = codes "x 1 left B0 9\nx 1 right B0 7\nbreach left 2 0 1 FewGoodBiu\n"

abbrev pub both_break : Bridge
both_break = narrow (single 1 2 7 (Some (1, 0))) (single 1 2 9 (Some (1, 0))) 0 0

abbrev pub both_break_text : List ℕ
both_break_text = codes "breach left 1 0 1 FewGoodBiu\n"

-- the owners of data slots of three BIUs that ask for one each, in order
abbrev pub slot_each : ℕ → Option ℕ
slot_each slot = if slot == 3 then Some 0 else (if slot == 4 then Some 1 else (if slot == 5 then Some 2 else None))

-- two BIUs with one word, and a third that is not good when its slot comes
abbrev pub faulty_replica : Scenario
faulty_replica = triple 10 10 30 (Some (0, 3))

-- the records of the bus without a fault, alone: those of frame 0, and the one with which frame 1
-- begins
abbrev pub all_told : List Record
all_told = records_of outvoted.right []

abbrev pub first_told : List Record
first_told = take 11 all_told

abbrev pub next_told : Record
next_told = get_or all_told 11 Ended

-- a bus delivers two values of BIU 0 and, between them, one of BIU 1
abbrev pub two_of_a_sender : List Delivery
two_of_a_sender =
    record { frame = 0; slot = 3; sender = 0; value = Word 10 }
    ∷ record { frame = 0; slot = 4; sender = 1; value = Word 12 }
    ∷ record { frame = 0; slot = 5; sender = 0; value = Word 11 }
    ∷ []

-- receiver 0 delivers one of two values of BIU 0, and receiver 1 the other
abbrev pub one_at_each : List Record
one_at_each =
    Slot 0 3 (record { receiver = 0; sender = 0; value = Word 10 } ∷ [])
    ∷ Slot 0 4 (record { receiver = 1; sender = 0; value = Word 11 } ∷ [])
    ∷ []
