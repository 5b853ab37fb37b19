use Rattle.std.proofs.Common.{◌≡◌, ◌<◌, All, Some, None, List, [], ◌∷◌, eqb, map, lit<, lit≤, refl, subst}
use Rattle.std.specs.List.{IsDistinct}
use Rattle.rb_base.specs.{Nodes.{set_below, set_of, size}, Sizes.sync_slot_of}
use Rattle.rb_group.specs.Groups.{values_of}
use Rattle.rb_rules.specs.{Book.{with_frame, with_stage}, Conviction.{convicted_by, turn}, ExactStage.{close_exact, outcome_of}, Hearing.{heard_from, row_of, sending}, Judging.{classes_of, verdict_of}, Lawful.IsLawful, Links.delay_of, Moments.IsComplete, Ports.HandIn, Rounds.{after_window, begin_frame, close_on, go_through, results_of, sent_in, step}, Spelling.message_in, SyncStage.{close_sync, sync_outcome_of}}
use Rattle.rb_laws_groups.specs.Laws.{IsSchedule}
use Rattle.rb_rules_bridge.specs.{declared.bank.Bank.Bank, declared.bank.Bank.TheVariants.{Left, Right}, declared.bank.Pair.Pair, Bridges.{IsHead, biu_on, bus_on, slot_on}, Crossings.{hands_of, hands_on}}
use Rattle.rb_laws_bridge.specs.Laws.{SoundPairsOutnumber}
use Rattle.rb_test_bridge_rules.specs.Bridges.{outvoted, pair, slot_each}
use Rattle.rb_test_bridge_rules.proofs.Triples.{HoldTheSlots, all_three, lawful, schedule}
use Rattle.rb_test_bridge_rules.proofs.sound_pairs_outnumber.Goals as goal

-- the hand-ins on the right
abbrev hands : List HandIn
hands =
    record { frame = 1; biu = 0; state = 10 } ∷ record { frame = 1; biu = 1; state = 10 } ∷ record { frame = 1; biu = 2; state = 0 }
    ∷ record { frame = 2; biu = 0; state = 60 } ∷ record { frame = 2; biu = 1; state = 60 } ∷ record { frame = 2; biu = 2; state = 0 }
    ∷ []

hands-are : hands ≡ (hands_of outvoted).right
unfolding set_below set_of size values_of with_frame with_stage convicted_by turn close_exact outcome_of heard_from row_of sending classes_of verdict_of delay_of after_window begin_frame close_on go_through results_of sent_in step message_in close_sync sync_outcome_of
hands-are = refl

held : HoldTheSlots outvoted.right hands 1
unfolding set_below set_of size with_frame with_stage convicted_by turn close_exact outcome_of heard_from row_of sending classes_of verdict_of delay_of after_window begin_frame close_on go_through results_of sent_in step message_in close_sync sync_outcome_of
held = record {
  first = record { first = refl; second = refl; third = refl; rmu = refl };
  second = record { first = refl; second = refl; third = refl; rmu = refl };
  third = record { first = refl; second = refl; third = refl; rmu = refl };
}

pub returns-clause-schedule : goal.returns-clause-schedule
returns-clause-schedule c = subst (λ hands. IsSchedule outvoted.right hands 1 slot_each) hands-are (schedule 50 60 70 None hands 1 held)

pub returns-clause-outnumber : goal.returns-clause-outnumber
unfolding SoundPairsOutnumber
returns-clause-outnumber c = lit< tt

-- no breach of the bus on a bank comes up to the end of frame 1
abbrev IsUnbroken : Bank → Type 0
IsUnbroken bank = IsComplete (bus_on outvoted bank) (hands_on bank (hands_of outvoted)) 1 (sync_slot_of (bus_on outvoted bank).sizes)

pub returns-clause-unbroken : goal.returns-clause-unbroken
unfolding set_below set_of size values_of with_frame with_stage convicted_by turn close_exact outcome_of heard_from row_of sending classes_of verdict_of delay_of after_window begin_frame close_on go_through results_of sent_in step message_in close_sync sync_outcome_of
returns-clause-unbroken c bank = elim bank as IsUnbroken [ Left ↦ refl | Right ↦ refl ]

-- The bridge.

both_lawful : (bank : Bank) → IsLawful (bus_on outvoted bank)
both_lawful Left = lawful 10 20 30 (Some (0, 3)) (lit< tt) (lit< tt) (lit< tt) (lit< tt, lit≤ tt)
both_lawful Right = lawful 50 60 70 None (lit< tt) (lit< tt) (lit< tt) tt

abbrev IsHeadOn : Bank → Pair → Type 0
IsHeadOn bank pair = IsHead (bus_on outvoted bank) (biu_on bank pair)

heads : (bank : Bank) → All (IsHeadOn bank) outvoted.pairs
heads Left = all_three (IsHeadOn Left) (pair 0 0) (pair 1 1) (pair 2 2) (record { inside = lit< tt; table = refl }) (record { inside = lit< tt; table = refl }) (record { inside = lit< tt; table = refl })
heads Right = all_three (IsHeadOn Right) (pair 0 0) (pair 1 1) (pair 2 2) (record { inside = lit< tt; table = refl }) (record { inside = lit< tt; table = refl }) (record { inside = lit< tt; table = refl })

apart : (bank : Bank) → IsDistinct eqb (map (biu_on bank) outvoted.pairs)
unfolding IsDistinct
apart Left = ((refl, (refl, tt)), ((refl, tt), (tt, tt)))
apart Right = ((refl, (refl, tt)), ((refl, tt), (tt, tt)))

slots : (bank : Bank) → slot_on outvoted bank < (bus_on outvoted bank).sizes.data_slots
slots Left = lit< tt
slots Right = lit< tt

pub returns-clause-bridge : goal.returns-clause-bridge
returns-clause-bridge c = record {
  lawful = both_lawful;
  frames = refl;
  some_pair = lit≤ tt;
  most_pairs = lit≤ tt;
  heads = heads;
  apart = apart;
  slots = slots;
}
