-- Nodes that lie in the sync slot and before it, and what the good ones record.
use Rattle.std.specs.Prelude.{List, [], ◌∷◌, ◌++◌, Some, None}
use Rattle.rb_rules.specs.{declared.cause.Cause.TheVariants.TwoSided, declared.link.Pattern.TheVariants.{One, AllBiu, AllRmu}, declared.say.Content.TheVariants.{Word, Sync}, Book.Record, Book.Record.{Ended, Breach}, Goodness.Scenario}
use Rattle.rb_test_rules.specs.{Buses.{b, r, says, listing}, Told.{word, at, all_begin, everybody, all_but, port, usual_ports, silent, delivered, usual_words}, Ordinary.ordinary_use}

-- BIU 3 accuses all RMUs, repeats it, relays nothing and calls
abbrev pub false_accuser : Scenario
false_accuser = listing (record ordinary_use {
  biu_onsets = None ∷ None ∷ None ∷ Some (0, 15) ∷ [];
  says =
      says (b 3) AllRmu (0, 0) (15, 15) (1, 1) (Word 7)
      ∷ says (b 3) AllRmu (0, 0) (15, 15) (3, 3) (Word 7)
      ∷ says (b 3) AllRmu (0, 0) (16, 18) (2, 2) (Word 0)
      ∷ says (b 3) AllRmu (0, 0) (19, 19) (1, 1) Sync
      ∷ says (b 3) AllRmu (0, 0) (19, 19) (3, 3) Sync
      ∷ [];
})

abbrev pub false_accuser_records : List Record
false_accuser_records =
    all_begin 0 0 0 0 0 everybody usual_ports
    ∷ silent 0 0 4
    ++ usual_words 0 (0 ∷ 1 ∷ 2 ∷ 3 ∷ [])
    ++ silent 0 12 7
    ++ all_begin 1 917 9170000 0 0 (all_but (b 3 ∷ [])) (port 0 10 0 ∷ port 1 20 0 ∷ port 2 30 0 ∷ [])
    ∷ Ended
    ∷ []

-- RMU 1 calls at the first tick of the window
abbrev pub call_at_the_first_tick : Scenario
call_at_the_first_tick = listing (record ordinary_use {
  rmu_onsets = None ∷ Some (0, 19) ∷ None ∷ [];
  says =
      record (says (r 1) AllBiu (0, 0) (19, 19) (2, 2) Sync) { offset = 0 }
      ∷ [];
})

abbrev pub call_at_the_first_tick_records : List Record
call_at_the_first_tick_records =
    all_begin 0 0 0 0 0 everybody usual_ports
    ∷ silent 0 0 4
    ++ usual_words 0 (0 ∷ 1 ∷ 2 ∷ 3 ∷ [])
    ++ silent 0 12 7
    ++ all_begin 1 917 9170000 0 0 (all_but (r 1 ∷ [])) usual_ports
    ∷ Ended
    ∷ []

-- RMU 1 calls at the first tick at two BIUs, at the last at the others
abbrev pub calls_at_both_edges : Scenario
calls_at_both_edges = listing (record ordinary_use {
  rmu_onsets = None ∷ Some (0, 19) ∷ None ∷ [];
  says =
      record (says (r 1) (One (b 0)) (0, 0) (19, 19) (2, 2) Sync) { offset = 0 }
      ∷ record (says (r 1) (One (b 1)) (0, 0) (19, 19) (2, 2) Sync) { offset = 0 }
      ∷ record (says (r 1) (One (b 2)) (0, 0) (19, 19) (2, 2) Sync) { offset = 17 }
      ∷ record (says (r 1) (One (b 3)) (0, 0) (19, 19) (2, 2) Sync) { offset = 17 }
      ∷ [];
})

abbrev pub calls_at_both_edges_records : List Record
calls_at_both_edges_records =
    all_begin 0 0 0 0 0 everybody usual_ports
    ∷ silent 0 0 4
    ++ usual_words 0 (0 ∷ 1 ∷ 2 ∷ 3 ∷ [])
    ++ silent 0 12 7
    ++ all_begin 1 917 9170000 0 0 (all_but (r 1 ∷ [])) usual_ports
    ∷ Ended
    ∷ []

-- BIU 1 lies unlike in its data slot, and RMU 1 calls at times that differ by as much as they may
abbrev pub alike_in_time : Scenario
alike_in_time = listing (record ordinary_use {
  requests = 1 ∷ 1 ∷ 1 ∷ 1 ∷ [];
  biu_onsets = None ∷ Some (0, 5) ∷ None ∷ None ∷ [];
  rmu_onsets = None ∷ Some (0, 19) ∷ None ∷ [];
  says =
      says (b 1) (One (r 0)) (0, 0) (5, 5) (1, 1) (Word 1)
      ∷ says (b 1) (One (r 1)) (0, 0) (5, 5) (1, 1) (Word 2)
      ∷ says (b 1) (One (r 2)) (0, 0) (5, 5) (1, 1) (Word 2)
      ∷ record (says (r 1) (One (b 0)) (0, 0) (19, 19) (2, 2) Sync) { offset = 8 }
      ∷ record (says (r 1) (One (b 2)) (0, 0) (19, 19) (2, 2) Sync) { offset = 9 }
      ∷ record (says (r 1) (One (b 3)) (0, 0) (19, 19) (2, 2) Sync) { offset = 9 }
      ∷ [];
})

abbrev pub alike_in_time_records : List Record
alike_in_time_records =
    all_begin 0 0 0 0 0 everybody usual_ports
    ∷ silent 0 0 4
    ++ delivered 0 4 ((0, word 10) ∷ []) (0 ∷ 1 ∷ 2 ∷ 3 ∷ [])
    ++ delivered 0 5 ((1, word 2) ∷ (2, word 30) ∷ (3, word 40) ∷ []) (0 ∷ 2 ∷ 3 ∷ [])
    ++ silent 0 8 11
    ++ all_begin 1 917 9170000 2 0 (all_but (b 1 ∷ r 1 ∷ [])) (port 0 10 0 ∷ port 2 30 0 ∷ port 3 40 0 ∷ [])
    ∷ Ended
    ∷ []

-- the ordinary use with one of the calls one unit earlier
abbrev pub apart_in_time : Scenario
apart_in_time = listing (record ordinary_use {
  requests = 1 ∷ 1 ∷ 1 ∷ 1 ∷ [];
  biu_onsets = None ∷ Some (0, 5) ∷ None ∷ None ∷ [];
  rmu_onsets = None ∷ Some (0, 19) ∷ None ∷ [];
  says =
      says (b 1) (One (r 0)) (0, 0) (5, 5) (1, 1) (Word 1)
      ∷ says (b 1) (One (r 1)) (0, 0) (5, 5) (1, 1) (Word 2)
      ∷ says (b 1) (One (r 2)) (0, 0) (5, 5) (1, 1) (Word 2)
      ∷ record (says (r 1) (One (b 0)) (0, 0) (19, 19) (2, 2) Sync) { offset = 8; early = 1 }
      ∷ record (says (r 1) (One (b 2)) (0, 0) (19, 19) (2, 2) Sync) { offset = 9 }
      ∷ record (says (r 1) (One (b 3)) (0, 0) (19, 19) (2, 2) Sync) { offset = 9 }
      ∷ [];
})

abbrev pub apart_in_time_records : List Record
apart_in_time_records =
    all_begin 0 0 0 0 0 everybody usual_ports
    ∷ silent 0 0 4
    ++ delivered 0 4 ((0, word 10) ∷ []) (0 ∷ 1 ∷ 2 ∷ 3 ∷ [])
    ++ delivered 0 5 ((1, word 2) ∷ (2, word 30) ∷ (3, word 40) ∷ []) (0 ∷ 2 ∷ 3 ∷ [])
    ++ silent 0 8 11
    ++ Breach (at 0 19 2) TwoSided
    ∷ []
