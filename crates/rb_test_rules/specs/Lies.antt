-- Nodes that are silent or lie in a frame, and what the good ones record.
use Rattle.std.specs.Prelude.{ℕ, List, [], ◌∷◌, ◌++◌, Some, None}
use Rattle.rb_rules.specs.{declared.cause.Cause.TheVariants.{FewGoodBiu, FewGoodRmu, TwoSided}, declared.link.Pattern.TheVariants.{One, AllBiu, AllRmu}, declared.say.Content.Content, declared.say.Content.TheVariants.{Word, Sync}, declared.say.Say.Say, Book.Record, Book.Record.{Ended, Breach}, Goodness.Scenario}
use Rattle.rb_test_rules.specs.{Buses.{b, r, says, listing, raw}, Told.{word, none, at, all_begin, everybody, all_but, port, usual_ports, silent, delivered, usual_words}, Ordinary.ordinary_use}

-- RMU 2 is silent
abbrev pub silent_rmu : Scenario
silent_rmu = record ordinary_use { rmu_onsets = None ∷ None ∷ Some (0, 0) ∷ [] }

abbrev pub silent_rmu_records : List Record
silent_rmu_records =
    all_begin 0 0 0 0 0 (all_but (r 2 ∷ [])) usual_ports
    ∷ silent 0 0 4
    ++ usual_words 0 (0 ∷ 1 ∷ 2 ∷ 3 ∷ [])
    ++ silent 0 12 7
    ++ all_begin 1 917 9170000 0 4 (all_but (r 2 ∷ [])) usual_ports
    ∷ Ended
    ∷ []

-- RMU 2 relays 999 in all slots of BIUs
abbrev pub symmetric_rmu : Scenario
symmetric_rmu = listing (record ordinary_use {
  rmu_onsets = None ∷ None ∷ Some (0, 0) ∷ [];
  says =
      says (r 2) AllBiu (0, 0) (0, 15) (2, 2) (Word 999)
      ∷ [];
})

abbrev pub symmetric_rmu_records : List Record
symmetric_rmu_records =
    all_begin 0 0 0 0 0 (all_but (r 2 ∷ [])) usual_ports
    ∷ silent 0 0 4
    ++ usual_words 0 (0 ∷ 1 ∷ 2 ∷ 3 ∷ [])
    ++ silent 0 12 7
    ++ all_begin 1 917 9170000 0 4 (all_but (r 2 ∷ [])) usual_ports
    ∷ Ended
    ∷ []

-- BIU 1 says 1 to one RMU and 2 to the others in its data slot
abbrev pub asymmetric_sender : Scenario
asymmetric_sender = listing (record ordinary_use {
  requests = 1 ∷ 1 ∷ 1 ∷ 1 ∷ [];
  biu_onsets = None ∷ Some (0, 5) ∷ None ∷ None ∷ [];
  says =
      says (b 1) (One (r 0)) (0, 0) (5, 5) (1, 1) (Word 1)
      ∷ says (b 1) (One (r 1)) (0, 0) (5, 5) (1, 1) (Word 2)
      ∷ says (b 1) (One (r 2)) (0, 0) (5, 5) (1, 1) (Word 2)
      ∷ [];
})

abbrev pub asymmetric_sender_records : List Record
asymmetric_sender_records =
    all_begin 0 0 0 0 0 everybody usual_ports
    ∷ silent 0 0 4
    ++ delivered 0 4 ((0, word 10) ∷ []) (0 ∷ 1 ∷ 2 ∷ 3 ∷ [])
    ++ delivered 0 5 ((1, word 2) ∷ (2, word 30) ∷ (3, word 40) ∷ []) (0 ∷ 2 ∷ 3 ∷ [])
    ++ silent 0 8 11
    ++ all_begin 1 917 9170000 2 0 (all_but (b 1 ∷ [])) (port 0 10 0 ∷ port 2 30 0 ∷ port 3 40 0 ∷ [])
    ∷ Ended
    ∷ []

-- BIU 1 says three different words
abbrev pub no_majority : Scenario
no_majority = listing (record ordinary_use {
  requests = 1 ∷ 1 ∷ 1 ∷ 1 ∷ [];
  biu_onsets = None ∷ Some (0, 5) ∷ None ∷ None ∷ [];
  says =
      says (b 1) (One (r 0)) (0, 0) (5, 5) (1, 1) (Word 1)
      ∷ says (b 1) (One (r 1)) (0, 0) (5, 5) (1, 1) (Word 2)
      ∷ says (b 1) (One (r 2)) (0, 0) (5, 5) (1, 1) (Word 3)
      ∷ [];
})

abbrev pub no_majority_records : List Record
no_majority_records =
    all_begin 0 0 0 0 0 everybody usual_ports
    ∷ silent 0 0 4
    ++ delivered 0 4 ((0, word 10) ∷ []) (0 ∷ 1 ∷ 2 ∷ 3 ∷ [])
    ++ delivered 0 5 ((1, none) ∷ (2, word 30) ∷ (3, word 40) ∷ []) (0 ∷ 2 ∷ 3 ∷ [])
    ++ silent 0 8 11
    ++ all_begin 1 917 9170000 2 0 (all_but (b 1 ∷ [])) (port 0 10 1 ∷ port 2 30 1 ∷ port 3 40 1 ∷ [])
    ∷ Ended
    ∷ []

-- BIU 1 lies as before, and RMU 2 in the slot after
abbrev pub two_sided : Scenario
two_sided = listing (record ordinary_use {
  requests = 1 ∷ 1 ∷ 1 ∷ 1 ∷ [];
  biu_onsets = None ∷ Some (0, 5) ∷ None ∷ None ∷ [];
  rmu_onsets = None ∷ None ∷ Some (0, 6) ∷ [];
  says =
      says (b 1) (One (r 0)) (0, 0) (5, 5) (1, 1) (Word 1)
      ∷ says (b 1) (One (r 1)) (0, 0) (5, 5) (1, 1) (Word 2)
      ∷ says (b 1) (One (r 2)) (0, 0) (5, 5) (1, 1) (Word 2)
      ∷ says (r 2) (One (b 0)) (0, 0) (6, 6) (2, 2) (Word 5)
      ∷ says (r 2) (One (b 2)) (0, 0) (6, 6) (2, 2) (Word 6)
      ∷ [];
})

abbrev pub two_sided_records : List Record
two_sided_records =
    all_begin 0 0 0 0 0 everybody usual_ports
    ∷ silent 0 0 4
    ++ delivered 0 4 ((0, word 10) ∷ []) (0 ∷ 1 ∷ 2 ∷ 3 ∷ [])
    ++ delivered 0 5 ((1, word 2) ∷ []) (0 ∷ 2 ∷ 3 ∷ [])
    ++ Breach (at 0 6 2) TwoSided
    ∷ []

-- RMUs 1 and 2 relay 9
abbrev pub too_few_good : Scenario
too_few_good = listing (record ordinary_use {
  rmu_onsets = None ∷ Some (0, 0) ∷ Some (0, 0) ∷ [];
  says =
      says (r 1) AllBiu (0, 0) (0, 0) (2, 2) (Word 9)
      ∷ says (r 2) AllBiu (0, 0) (0, 0) (2, 2) (Word 9)
      ∷ [];
})

abbrev pub too_few_good_records : List Record
too_few_good_records =
    all_begin 0 0 0 0 0 (all_but (r 1 ∷ r 2 ∷ [])) usual_ports
    ∷ Breach (at 0 0 2) FewGoodRmu
    ∷ []

-- what RMU 1 says after it has relayed BIU 0's request: all that is right for a node whose BIUs
-- have these vectors
abbrev pub rest_of_frame : ℕ → ℕ → ℕ → ℕ → List Say
rest_of_frame v0 v1 v2 v3 =
    says (r 1) AllBiu (0, 0) (1, 3) (2, 2) (Word 2)
    ∷ says (r 1) AllBiu (0, 0) (4, 4) (2, 2) (Word 10)
    ∷ says (r 1) AllBiu (0, 0) (5, 5) (2, 2) (Word 20)
    ∷ says (r 1) AllBiu (0, 0) (6, 6) (2, 2) (Word 30)
    ∷ says (r 1) AllBiu (0, 0) (7, 7) (2, 2) (Word 40)
    ∷ says (r 1) AllBiu (0, 0) (8, 8) (2, 2) (Word 10)
    ∷ says (r 1) AllBiu (0, 0) (9, 9) (2, 2) (Word 20)
    ∷ says (r 1) AllBiu (0, 0) (10, 10) (2, 2) (Word 30)
    ∷ says (r 1) AllBiu (0, 0) (11, 11) (2, 2) (Word 40)
    ∷ says (r 1) AllBiu (0, 0) (12, 12) (2, 2) (Word v0)
    ∷ says (r 1) AllBiu (0, 0) (13, 13) (2, 2) (Word v1)
    ∷ says (r 1) AllBiu (0, 0) (14, 14) (2, 2) (Word v2)
    ∷ says (r 1) AllBiu (0, 0) (15, 15) (2, 2) (Word v3)
    ∷ says (r 1) AllBiu (0, 0) (17, 17) (1, 1) (Word 0)
    ∷ says (r 1) AllBiu (0, 0) (16, 18) (3, 3) (Word 0)
    ∷ says (r 1) AllBiu (0, 0) (19, 19) (2, 2) Sync
    ∷ []

-- the request of BIU 0 as RMU 1 relays it, with the header of stage 2
abbrev pub relayed_request : Content
relayed_request = raw (1 ∷ 0 ∷ 0 ∷ 0 ∷ 0 ∷ 2 ∷ 0 ∷ 0 ∷ 0 ∷ 2 ∷ 1 ∷ [])

-- RMU 1 relays it to all BIUs in the last tick of stage 2
abbrev pub message_in_time : Scenario
message_in_time = listing (record ordinary_use {
  rmu_onsets = None ∷ Some (0, 0) ∷ None ∷ [];
  says = record (says (r 1) AllBiu (0, 0) (0, 0) (2, 2) relayed_request) { offset = 14 } ∷ rest_of_frame 0 0 0 0;
})

abbrev pub message_in_time_records : List Record
message_in_time_records =
    all_begin 0 0 0 0 0 (all_but (r 1 ∷ [])) usual_ports
    ∷ silent 0 0 4
    ++ usual_words 0 (0 ∷ 1 ∷ 2 ∷ 3 ∷ [])
    ++ silent 0 12 7
    ++ all_begin 1 917 9170000 0 0 (all_but (r 1 ∷ [])) usual_ports
    ∷ Ended
    ∷ []

-- to BIU 0 it comes in that tick, to the other BIUs one tick later, when the window is over
abbrev pub message_too_late : Scenario
message_too_late = listing (record message_in_time {
  says =
      record (says (r 1) (One (b 0)) (0, 0) (0, 0) (2, 2) relayed_request) { offset = 14 }
      ∷ record (says (r 1) (One (b 1)) (0, 0) (0, 0) (3, 3) relayed_request) { offset = 0 }
      ∷ record (says (r 1) (One (b 2)) (0, 0) (0, 0) (3, 3) relayed_request) { offset = 0 }
      ∷ record (says (r 1) (One (b 3)) (0, 0) (0, 0) (3, 3) relayed_request) { offset = 0 }
      ∷ rest_of_frame 0 2 2 2;
})

abbrev pub message_too_late_records : List Record
message_too_late_records =
    all_begin 0 0 0 0 0 (all_but (r 1 ∷ [])) usual_ports
    ∷ silent 0 0 4
    ++ usual_words 0 (0 ∷ 1 ∷ 2 ∷ 3 ∷ [])
    ++ silent 0 12 7
    ++ all_begin 1 917 9170000 0 2 (all_but (r 1 ∷ [])) usual_ports
    ∷ Ended
    ∷ []

-- RMU 1 is silent. RMU 2 sends two messages to BIU 0, and bytes that spell none to the others
abbrev pub ill_formed_messages : Scenario
ill_formed_messages = listing (record ordinary_use {
  rmu_onsets = None ∷ Some (0, 0) ∷ Some (0, 0) ∷ [];
  says =
      says (r 2) (One (b 0)) (0, 0) (0, 0) (2, 2) (Word 2)
      ∷ says (r 2) (One (b 0)) (0, 0) (0, 0) (2, 2) (Word 2)
      ∷ says (r 2) (One (b 1)) (0, 0) (0, 0) (2, 2) (raw (1 ∷ 0 ∷ 0 ∷ 0 ∷ 0 ∷ 2 ∷ 0 ∷ 0 ∷ 0 ∷ 1 ∷ []))
      ∷ says (r 2) (One (b 2)) (0, 0) (0, 0) (2, 2) (raw (1 ∷ 0 ∷ 0 ∷ 0 ∷ 0 ∷ 2 ∷ 0 ∷ 0 ∷ 0 ∷ 1 ∷ 3 ∷ []))
      ∷ says (r 2) (One (b 3)) (0, 0) (0, 0) (2, 2) (raw (2 ∷ 0 ∷ 0 ∷ 0 ∷ 0 ∷ 2 ∷ 0 ∷ 0 ∷ 0 ∷ 1 ∷ 1 ∷ []))
      ∷ [];
})

abbrev pub ill_formed_messages_records : List Record
ill_formed_messages_records =
    all_begin 0 0 0 0 0 (all_but (r 1 ∷ r 2 ∷ [])) usual_ports
    ∷ silent 0 0 4
    ++ usual_words 0 (0 ∷ 1 ∷ 2 ∷ 3 ∷ [])
    ++ silent 0 12 7
    ++ all_begin 1 917 9170000 0 6 (all_but (r 1 ∷ r 2 ∷ [])) usual_ports
    ∷ Ended
    ∷ []

-- BIU 2 asks for 4294967295 slots
abbrev pub greedy_biu : Scenario
greedy_biu = listing (record ordinary_use {
  requests = 1 ∷ 1 ∷ 1 ∷ 1 ∷ [];
  biu_onsets = None ∷ None ∷ Some (0, 2) ∷ None ∷ [];
  says =
      says (b 2) AllRmu (0, 0) (2, 2) (1, 1) (Word 4294967295)
      ∷ [];
})

abbrev pub greedy_biu_records : List Record
greedy_biu_records =
    all_begin 0 0 0 0 0 everybody usual_ports
    ∷ silent 0 0 4
    ++ delivered 0 4 ((0, word 10) ∷ (1, word 20) ∷ (2, none) ∷ (3, word 40) ∷ (2, none) ∷ (2, none) ∷ (2, none) ∷ (2, none) ∷ []) (0 ∷ 1 ∷ 3 ∷ [])
    ++ silent 0 12 7
    ++ all_begin 1 917 9170000 4 0 (all_but (b 2 ∷ [])) (port 0 10 5 ∷ port 1 20 5 ∷ port 3 40 5 ∷ [])
    ∷ Ended
    ∷ []

-- no node is good
abbrev pub nobody_good : Scenario
nobody_good = record ordinary_use {
  biu_onsets = Some (0, 0) ∷ Some (0, 0) ∷ Some (0, 0) ∷ Some (0, 0) ∷ [];
  rmu_onsets = Some (0, 0) ∷ Some (0, 0) ∷ Some (0, 0) ∷ [];
}

abbrev pub nobody_good_records : List Record
nobody_good_records =
    Breach (at 0 0 1) FewGoodBiu
    ∷ []
