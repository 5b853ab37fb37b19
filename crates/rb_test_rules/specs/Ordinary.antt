-- Buses without a fault, and what they record.
use Rattle.std.specs.Prelude.{List, [], ◌∷◌, ◌++◌, replicate, None}
use Rattle.rb_rules.specs.{declared.link.Pattern.TheVariants.{AllBiu, AllRmu}, Book.Record, Book.Record.{Frame, Ended}, Goodness.Scenario}
use Rattle.rb_test_rules.specs.{Buses.{b, r, plan, ticking, steady}, Told.{word, begins, all_begin, everybody, port, usual_ports, silent, delivered, usual_words}}

-- four BIUs and three RMUs, all good; each BIU asks for two data slots
abbrev pub ordinary_use : Scenario
ordinary_use = record {
  sizes = record { bius = 4; rmus = 3; data_slots = 8 };
  plan = plan;
  frames = 1;
  requests = 2 ∷ 2 ∷ 2 ∷ 2 ∷ [];
  words = 10 ∷ 20 ∷ 30 ∷ 40 ∷ [];
  apps = 0 ∷ 0 ∷ 0 ∷ 0 ∷ [];
  clocks = replicate 7 steady;
  delays = record { base = 10000; rules = [] };
  biu_onsets = None ∷ None ∷ None ∷ None ∷ [];
  rmu_onsets = None ∷ None ∷ None ∷ [];
  behavior = λ me i span j. [];
  says = [];
}

abbrev pub ordinary_use_records : List Record
ordinary_use_records =
    all_begin 0 0 0 0 0 everybody usual_ports
    ∷ silent 0 0 4
    ++ usual_words 0 (0 ∷ 1 ∷ 2 ∷ 3 ∷ [])
    ++ silent 0 12 7
    ++ all_begin 1 917 9170000 0 0 everybody usual_ports
    ∷ Ended
    ∷ []

-- one BIU, one RMU, one data slot
abbrev pub smallest_bus : Scenario
smallest_bus = record ordinary_use {
  sizes = record { bius = 1; rmus = 1; data_slots = 1 };
  requests = 1 ∷ [];
  words = 7 ∷ [];
  apps = 0 ∷ [];
  clocks = replicate 2 steady;
  biu_onsets = None ∷ [];
  rmu_onsets = None ∷ [];
}

abbrev pub smallest_bus_records : List Record
smallest_bus_records =
    all_begin 0 0 0 0 0 (b 0 ∷ r 0 ∷ []) (port 0 7 0 ∷ [])
    ∷ silent 0 0 1
    ++ delivered 0 1 ((0, word 7) ∷ []) (0 ∷ [])
    ++ silent 0 2 2
    ++ all_begin 1 242 2420000 0 0 (b 0 ∷ r 0 ∷ []) (port 0 7 0 ∷ [])
    ∷ Ended
    ∷ []

-- BIU 0 starts as late as it may and has the longest ticks, all others have the shortest
abbrev pub greatest_drift : Scenario
greatest_drift = record ordinary_use { clocks = ticking 60200 10001 ∷ replicate 6 (ticking 0 9999) }

abbrev pub greatest_drift_records : List Record
greatest_drift_records =
    Frame 0 (begins 0 60200 0 0 (b 0) ∷ begins 0 0 0 0 (b 1) ∷ begins 0 0 0 0 (b 2) ∷ begins 0 0 0 0 (b 3) ∷ begins 0 0 0 0 (r 0) ∷ begins 0 0 0 0 (r 1) ∷ begins 0 0 0 0 (r 2) ∷ []) usual_ports
    ∷ silent 0 0 4
    ++ usual_words 0 (0 ∷ 1 ∷ 2 ∷ 3 ∷ [])
    ++ silent 0 12 7
    ++ Frame 1 (begins 912 9181112 0 0 (b 0) ∷ begins 919 9189081 0 0 (b 1) ∷ begins 919 9189081 0 0 (b 2) ∷ begins 919 9189081 0 0 (b 3) ∷ begins 920 9199080 0 0 (r 0) ∷ begins 920 9199080 0 0 (r 1) ∷ begins 920 9199080 0 0 (r 2) ∷ []) usual_ports
    ∷ Ended
    ∷ []

-- the BIUs ask for 3, 1, 0 and 2 slots
abbrev pub unequal_requests : Scenario
unequal_requests = record ordinary_use { requests = 3 ∷ 1 ∷ 0 ∷ 2 ∷ [] }

abbrev pub unequal_requests_records : List Record
unequal_requests_records =
    all_begin 0 0 0 0 0 everybody usual_ports
    ∷ silent 0 0 4
    ++ delivered 0 4 ((0, word 10) ∷ (1, word 20) ∷ (3, word 40) ∷ (0, word 10) ∷ (3, word 40) ∷ (0, word 10) ∷ []) (0 ∷ 1 ∷ 2 ∷ 3 ∷ [])
    ++ silent 0 10 9
    ++ all_begin 1 917 9170000 0 0 everybody usual_ports
    ∷ Ended
    ∷ []

-- two BIUs whose application mixes what is delivered into its state
abbrev pub one_state : Scenario
one_state = record ordinary_use {
  sizes = record { bius = 2; rmus = 1; data_slots = 2 };
  requests = 1 ∷ 1 ∷ [];
  words = 1 ∷ 1 ∷ [];
  apps = 2 ∷ 2 ∷ [];
  clocks = replicate 3 steady;
  biu_onsets = None ∷ None ∷ [];
  rmu_onsets = None ∷ [];
}

abbrev pub one_state_records : List Record
one_state_records =
    all_begin 0 0 0 0 0 (b 0 ∷ b 1 ∷ r 0 ∷ []) (port 0 1 0 ∷ port 1 1 0 ∷ [])
    ∷ silent 0 0 2
    ++ delivered 0 2 ((0, word 3) ∷ (1, word 37) ∷ []) (0 ∷ 1 ∷ [])
    ++ silent 0 4 3
    ++ all_begin 1 377 3770000 0 0 (b 0 ∷ b 1 ∷ r 0 ∷ []) (port 0 1091 0 ∷ port 1 1091 0 ∷ [])
    ∷ Ended
    ∷ []

-- what the BIUs call in stage 1 of the sync slot takes as long as it may; there is no rule for what
-- comes back
abbrev pub slow_calls : Scenario
slow_calls = record ordinary_use {
  delays = record {
    base = 10000;
    rules = record { from = AllBiu; to = AllRmu; frames = (0, 0); slots = (19, 19); stages = (1, 1); delay = 15000 } ∷ [];
  };
}

abbrev pub slow_calls_records : List Record
slow_calls_records =
    all_begin 0 0 0 0 0 everybody usual_ports
    ∷ silent 0 0 4
    ++ usual_words 0 (0 ∷ 1 ∷ 2 ∷ 3 ∷ [])
    ++ silent 0 12 7
    ++ all_begin 1 918 9180000 0 0 everybody usual_ports
    ∷ Ended
    ∷ []
