-- Several frames, and buses by their number.
use Rattle.std.specs.Prelude.{ℕ, List, [], ◌∷◌, ◌++◌, replicate, Option, Some, None, option_map, slice_get}
use Rattle.rb_base.specs.Nodes.Side.{Rmu}
use Rattle.rb_rules.specs.{declared.cause.Cause.TheVariants.FewGoodRmu, declared.link.Pattern.TheVariants.{One, AllBiu, AllRmu}, declared.say.Content.TheVariants.{Word, Fault, Sync}, Book.{Record, of_kind}, Book.Record.{Ended, Breach}, Goodness.Scenario, Ports.HandIn, Rounds.moment}
use Rattle.rb_test_rules.specs.{Buses.{b, r, plan, steady, says, listing, raw}, Told.{word, none, at, all_begin, everybody, all_but, port, usual_ports, silent, delivered, usual_words}, Ordinary.ordinary_use}
use Rattle.rb_rules.specs.declared.message.Version.TheVariants as version

-- four frames, and BIU 2 is silent from the fourth frame's slot 5 on
abbrev pub late_onset : Scenario
late_onset = record ordinary_use {
  frames = 4;
  requests = 1 ∷ 1 ∷ 1 ∷ 1 ∷ [];
  biu_onsets = None ∷ None ∷ Some (3, 5) ∷ None ∷ [];
}

abbrev pub late_onset_records : List Record
late_onset_records =
    all_begin 0 0 0 0 0 everybody usual_ports
    ∷ silent 0 0 4
    ++ delivered 0 4 ((0, word 10) ∷ (1, word 20) ∷ (2, word 30) ∷ (3, word 40) ∷ []) (0 ∷ 1 ∷ 2 ∷ 3 ∷ [])
    ++ silent 0 8 11
    ++ all_begin 1 917 9170000 0 0 everybody usual_ports
    ∷ silent 1 0 4
    ++ delivered 1 4 ((0, word 10) ∷ (1, word 20) ∷ (2, word 30) ∷ (3, word 40) ∷ []) (0 ∷ 1 ∷ 2 ∷ 3 ∷ [])
    ++ silent 1 8 11
    ++ all_begin 2 1834 18340000 0 0 everybody usual_ports
    ∷ silent 2 0 4
    ++ delivered 2 4 ((0, word 10) ∷ (1, word 20) ∷ (2, word 30) ∷ (3, word 40) ∷ []) (0 ∷ 1 ∷ 2 ∷ 3 ∷ [])
    ++ silent 2 8 11
    ++ all_begin 3 2751 27510000 0 0 everybody usual_ports
    ∷ silent 3 0 4
    ++ delivered 3 4 ((0, word 10) ∷ []) (0 ∷ 1 ∷ 2 ∷ 3 ∷ [])
    ++ delivered 3 5 ((1, word 20) ∷ (2, none) ∷ (3, word 40) ∷ []) (0 ∷ 1 ∷ 3 ∷ [])
    ++ silent 3 8 11
    ++ all_begin 4 3668 36680000 4 0 (all_but (b 2 ∷ [])) (port 0 10 1 ∷ port 1 20 1 ∷ port 3 40 1 ∷ [])
    ∷ Ended
    ∷ []

-- BIU 1 is heard by one of two RMUs in frame 0, and does right from then on; a probation of one
-- frame
abbrev pub probation_passed : Scenario
probation_passed = listing (record ordinary_use {
  sizes = record { bius = 4; rmus = 2; data_slots = 8 };
  plan = record plan { version = version.One; probation = 1 };
  frames = 3;
  requests = 1 ∷ 1 ∷ 1 ∷ 1 ∷ [];
  clocks = replicate 6 steady;
  biu_onsets = None ∷ Some (0, 5) ∷ None ∷ None ∷ [];
  rmu_onsets = None ∷ None ∷ [];
  says =
      says (b 1) (One (r 1)) (0, 0) (5, 5) (1, 1) (Word 20)
      ∷ says (b 1) AllRmu (1, 2) (1, 1) (1, 1) (Word 1)
      ∷ says (b 1) AllRmu (1, 2) (0, 0) (3, 3) (Word 1)
      ∷ says (b 1) AllRmu (1, 2) (2, 3) (3, 3) (Word 1)
      ∷ says (b 1) AllRmu (1, 1) (1, 1) (3, 3) Fault
      ∷ says (b 1) AllRmu (2, 2) (1, 1) (3, 3) (Word 1)
      ∷ says (b 1) AllRmu (2, 2) (5, 5) (1, 1) (Word 20)
      ∷ says (b 1) AllRmu (0, 2) (12, 12) (3, 3) (Word 0)
      ∷ says (b 1) AllRmu (0, 2) (14, 15) (3, 3) (Word 0)
      ∷ says (b 1) AllRmu (0, 2) (13, 13) (1, 1) (Word 0)
      ∷ says (b 1) AllRmu (0, 1) (13, 13) (3, 3) Fault
      ∷ says (b 1) AllRmu (2, 2) (13, 13) (3, 3) (Word 0)
      ∷ says (b 1) AllRmu (0, 2) (16, 17) (2, 2) (Word 0)
      ∷ says (b 1) AllRmu (0, 2) (18, 18) (1, 1) Sync
      ∷ says (b 1) AllRmu (0, 2) (18, 18) (3, 3) Sync
      ∷ [];
})

abbrev pub probation_passed_records : List Record
probation_passed_records =
    all_begin 0 0 0 0 0 (b 0 ∷ b 1 ∷ b 2 ∷ b 3 ∷ r 0 ∷ r 1 ∷ []) usual_ports
    ∷ silent 0 0 4
    ++ delivered 0 4 ((0, word 10) ∷ []) (0 ∷ 1 ∷ 2 ∷ 3 ∷ [])
    ++ delivered 0 5 ((1, none) ∷ (2, word 30) ∷ (3, word 40) ∷ []) (0 ∷ 2 ∷ 3 ∷ [])
    ++ silent 0 8 10
    ++ all_begin 1 872 8720000 0 0 (b 0 ∷ b 2 ∷ b 3 ∷ r 0 ∷ r 1 ∷ []) (port 0 10 1 ∷ port 2 30 1 ∷ port 3 40 1 ∷ [])
    ∷ silent 1 0 4
    ++ delivered 1 4 ((0, word 10) ∷ (2, word 30) ∷ (3, word 40) ∷ []) (0 ∷ 2 ∷ 3 ∷ [])
    ++ silent 1 7 11
    ++ all_begin 2 1744 17440000 0 0 (b 0 ∷ b 2 ∷ b 3 ∷ r 0 ∷ r 1 ∷ []) (port 0 10 1 ∷ port 2 30 1 ∷ port 3 40 1 ∷ [])
    ∷ silent 2 0 4
    ++ delivered 2 4 ((0, word 10) ∷ (1, word 20) ∷ (2, word 30) ∷ (3, word 40) ∷ []) (0 ∷ 2 ∷ 3 ∷ [])
    ++ silent 2 8 10
    ++ all_begin 3 2616 26160000 0 0 (b 0 ∷ b 2 ∷ b 3 ∷ r 0 ∷ r 1 ∷ []) (port 0 10 1 ∷ port 2 30 1 ∷ port 3 40 1 ∷ [])
    ∷ Ended
    ∷ []

-- the BIUs that RMU 0 accuses directly after n steps of that run
abbrev pub accused_after : ℕ → Option ℕ
accused_after n = option_map (λ st. st.far.direct) (slice_get (of_kind Rmu (moment probation_passed [] n).nodes) 0)

-- the ordinary use without a probation
abbrev pub no_probation : Scenario
no_probation = listing (record ordinary_use {
  sizes = record { bius = 4; rmus = 2; data_slots = 8 };
  frames = 3;
  requests = 1 ∷ 1 ∷ 1 ∷ 1 ∷ [];
  clocks = replicate 6 steady;
  biu_onsets = None ∷ Some (0, 5) ∷ None ∷ None ∷ [];
  rmu_onsets = None ∷ None ∷ [];
  says =
      says (b 1) (One (r 1)) (0, 0) (5, 5) (1, 1) (Word 20)
      ∷ says (b 1) AllRmu (1, 2) (1, 1) (1, 1) (Word 1)
      ∷ says (b 1) AllRmu (1, 2) (0, 0) (3, 3) (Word 1)
      ∷ says (b 1) AllRmu (1, 2) (2, 3) (3, 3) (Word 1)
      ∷ says (b 1) AllRmu (1, 1) (1, 1) (3, 3) Fault
      ∷ says (b 1) AllRmu (2, 2) (1, 1) (3, 3) (Word 1)
      ∷ says (b 1) AllRmu (2, 2) (5, 5) (1, 1) (Word 20)
      ∷ says (b 1) AllRmu (0, 2) (12, 12) (3, 3) (Word 0)
      ∷ says (b 1) AllRmu (0, 2) (14, 15) (3, 3) (Word 0)
      ∷ says (b 1) AllRmu (0, 2) (13, 13) (1, 1) (Word 0)
      ∷ says (b 1) AllRmu (0, 1) (13, 13) (3, 3) Fault
      ∷ says (b 1) AllRmu (2, 2) (13, 13) (3, 3) (Word 0)
      ∷ says (b 1) AllRmu (0, 2) (16, 17) (2, 2) (Word 0)
      ∷ says (b 1) AllRmu (0, 2) (18, 18) (1, 1) Sync
      ∷ says (b 1) AllRmu (0, 2) (18, 18) (3, 3) Sync
      ∷ [];
})

abbrev pub no_probation_records : List Record
no_probation_records =
    all_begin 0 0 0 0 0 (b 0 ∷ b 1 ∷ b 2 ∷ b 3 ∷ r 0 ∷ r 1 ∷ []) usual_ports
    ∷ silent 0 0 4
    ++ delivered 0 4 ((0, word 10) ∷ []) (0 ∷ 1 ∷ 2 ∷ 3 ∷ [])
    ++ delivered 0 5 ((1, none) ∷ (2, word 30) ∷ (3, word 40) ∷ []) (0 ∷ 2 ∷ 3 ∷ [])
    ++ silent 0 8 10
    ++ all_begin 1 872 8720000 0 0 (b 0 ∷ b 2 ∷ b 3 ∷ r 0 ∷ r 1 ∷ []) (port 0 10 1 ∷ port 2 30 1 ∷ port 3 40 1 ∷ [])
    ∷ silent 1 0 4
    ++ delivered 1 4 ((0, word 10) ∷ (2, word 30) ∷ (3, word 40) ∷ []) (0 ∷ 2 ∷ 3 ∷ [])
    ++ silent 1 7 11
    ++ all_begin 2 1744 17440000 0 0 (b 0 ∷ b 2 ∷ b 3 ∷ r 0 ∷ r 1 ∷ []) (port 0 10 1 ∷ port 2 30 1 ∷ port 3 40 1 ∷ [])
    ∷ silent 2 0 4
    ++ delivered 2 4 ((0, word 10) ∷ (2, word 30) ∷ (3, word 40) ∷ []) (0 ∷ 2 ∷ 3 ∷ [])
    ++ silent 2 7 11
    ++ all_begin 3 2616 26160000 2 0 (b 0 ∷ b 2 ∷ b 3 ∷ r 0 ∷ r 1 ∷ []) (port 0 10 1 ∷ port 2 30 1 ∷ port 3 40 1 ∷ [])
    ∷ Ended
    ∷ []

-- bus 5, on which RMUs 1 and 2 relay messages of bus 6
abbrev pub message_of_another_bus : Scenario
message_of_another_bus = listing (record ordinary_use {
  plan = record plan { version = version.Two 5; probation = 0 };
  rmu_onsets = None ∷ Some (0, 0) ∷ Some (0, 0) ∷ [];
  says =
      says (r 1) AllBiu (0, 0) (0, 0) (2, 2) (raw (1 ∷ 0 ∷ 0 ∷ 0 ∷ 0 ∷ 2 ∷ 0 ∷ 0 ∷ 0 ∷ 2 ∷ 6 ∷ 7 ∷ []))
      ∷ says (r 2) AllBiu (0, 0) (0, 0) (2, 2) (raw (1 ∷ 0 ∷ 0 ∷ 0 ∷ 0 ∷ 2 ∷ 0 ∷ 0 ∷ 0 ∷ 2 ∷ 6 ∷ 7 ∷ []))
      ∷ [];
})

abbrev pub message_of_another_bus_records : List Record
message_of_another_bus_records =
    all_begin 0 0 0 0 0 (all_but (r 1 ∷ r 2 ∷ [])) usual_ports
    ∷ silent 0 0 4
    ++ usual_words 0 (0 ∷ 1 ∷ 2 ∷ 3 ∷ [])
    ++ silent 0 12 7
    ++ all_begin 1 917 9170000 0 6 (all_but (r 1 ∷ r 2 ∷ [])) usual_ports
    ∷ Ended
    ∷ []

-- the ordinary use with messages of bus 5
abbrev pub message_of_the_bus : Scenario
message_of_the_bus = listing (record ordinary_use {
  plan = record plan { version = version.Two 5; probation = 0 };
  rmu_onsets = None ∷ Some (0, 0) ∷ Some (0, 0) ∷ [];
  says =
      says (r 1) AllBiu (0, 0) (0, 0) (2, 2) (raw (1 ∷ 0 ∷ 0 ∷ 0 ∷ 0 ∷ 2 ∷ 0 ∷ 0 ∷ 0 ∷ 2 ∷ 5 ∷ 4 ∷ []))
      ∷ says (r 2) AllBiu (0, 0) (0, 0) (2, 2) (raw (1 ∷ 0 ∷ 0 ∷ 0 ∷ 0 ∷ 2 ∷ 0 ∷ 0 ∷ 0 ∷ 2 ∷ 5 ∷ 4 ∷ []))
      ∷ [];
})

abbrev pub message_of_the_bus_records : List Record
message_of_the_bus_records =
    all_begin 0 0 0 0 0 (all_but (r 1 ∷ r 2 ∷ [])) usual_ports
    ∷ Breach (at 0 0 2) FewGoodRmu
    ∷ []

-- two frames of ordinary use
abbrev pub state_handed_in : Scenario
state_handed_in = record ordinary_use { frames = 2 }

abbrev pub state_handed_in_records : List Record
state_handed_in_records =
    all_begin 0 0 0 0 0 everybody usual_ports
    ∷ silent 0 0 4
    ++ usual_words 0 (0 ∷ 1 ∷ 2 ∷ 3 ∷ [])
    ++ silent 0 12 7
    ++ all_begin 1 917 9170000 0 0 everybody usual_ports
    ∷ silent 1 0 4
    ++ delivered 1 4 ((0, word 77) ∷ (1, word 20) ∷ (2, word 30) ∷ (3, word 40) ∷ (0, word 77) ∷ (1, word 20) ∷ (2, word 30) ∷ (3, word 40) ∷ []) (0 ∷ 1 ∷ 2 ∷ 3 ∷ [])
    ++ silent 1 12 7
    ++ all_begin 2 1834 18340000 0 0 everybody (port 0 77 0 ∷ port 1 20 0 ∷ port 2 30 0 ∷ port 3 40 0 ∷ [])
    ∷ Ended
    ∷ []

-- 77 for BIU 0 in frame 1
abbrev pub hand_ins : List HandIn
hand_ins = record { frame = 1; biu = 0; state = 77 } ∷ []

-- RMU 2 is silent in frame 0. In frame 1 it lies, and so does BIU 1
abbrev pub convicted_rmu : Scenario
convicted_rmu = listing (record ordinary_use {
  frames = 2;
  requests = 1 ∷ 1 ∷ 1 ∷ 1 ∷ [];
  biu_onsets = None ∷ Some (1, 5) ∷ None ∷ None ∷ [];
  rmu_onsets = None ∷ None ∷ Some (0, 0) ∷ [];
  says =
      says (b 1) (One (r 0)) (1, 1) (5, 5) (1, 1) (Word 1)
      ∷ says (b 1) (One (r 1)) (1, 1) (5, 5) (1, 1) (Word 2)
      ∷ says (r 2) (One (b 0)) (1, 1) (6, 6) (2, 2) (Word 5)
      ∷ says (r 2) (One (b 2)) (1, 1) (6, 6) (2, 2) (Word 6)
      ∷ [];
})

abbrev pub convicted_rmu_records : List Record
convicted_rmu_records =
    all_begin 0 0 0 0 0 (all_but (r 2 ∷ [])) usual_ports
    ∷ silent 0 0 4
    ++ delivered 0 4 ((0, word 10) ∷ (1, word 20) ∷ (2, word 30) ∷ (3, word 40) ∷ []) (0 ∷ 1 ∷ 2 ∷ 3 ∷ [])
    ++ silent 0 8 11
    ++ all_begin 1 917 9170000 0 4 (all_but (r 2 ∷ [])) usual_ports
    ∷ silent 1 0 4
    ++ delivered 1 4 ((0, word 10) ∷ []) (0 ∷ 1 ∷ 2 ∷ 3 ∷ [])
    ++ delivered 1 5 ((1, none) ∷ (2, word 30) ∷ (3, word 40) ∷ []) (0 ∷ 2 ∷ 3 ∷ [])
    ++ silent 1 8 11
    ++ all_begin 2 1834 18340000 2 4 (all_but (b 1 ∷ r 2 ∷ [])) (port 0 10 1 ∷ port 2 30 1 ∷ port 3 40 1 ∷ [])
    ∷ Ended
    ∷ []
