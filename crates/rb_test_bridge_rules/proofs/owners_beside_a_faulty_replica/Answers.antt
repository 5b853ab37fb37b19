use Rattle.std.proofs.{Common.{◌≡◌, ℕ, zero, suc, ◌≤◌, ◌==◌, false, Option, Some, None, [], lit<, refl, sym, ◌∙◌, ap, arith}, lemmas.Bool.Decides.nat_tests, lemmas.Option.same_Some}
use Rattle.rb_base.specs.Nodes.{set_below, set_of, size}
use Rattle.rb_rules.specs.{Book.{with_frame, with_stage}, Conviction.{convicted_by, turn}, ExactStage.{close_exact, outcome_of}, Hearing.{heard_from, row_of, sending}, Judging.{classes_of, verdict_of}, Links.delay_of, Rounds.{after_window, begin_frame, close_on, go_through, results_of, sent_in, step}, Spelling.message_in, SyncStage.{close_sync, sync_outcome_of}}
use Rattle.rb_laws_groups.specs.Laws.{Outnumber, first_slot, offer_in, offer_of}
use Rattle.rb_test_bridge_rules.specs.Bridges.{faulty_replica, slot_each}
use Rattle.rb_test_bridge_rules.proofs.owners_beside_a_faulty_replica.Goals as goal

pub returns-clause-owners : goal.returns-clause-owners
unfolding Outnumber set_below set_of size with_frame with_stage convicted_by turn close_exact outcome_of heard_from row_of sending classes_of verdict_of delay_of after_window begin_frame close_on go_through results_of sent_in step message_in close_sync sync_outcome_of
returns-clause-owners c = lit< tt

-- no BIU but the first three owns a slot
no-slot : (i : ℕ) → 3 ≤ i → first_slot faulty_replica.sizes slot_each i ≡ None
no-slot i high =
    let first : (0 == i) ≡ false = grind (arith, nat_tests) in
    let second : (1 == i) ≡ false = grind (arith, nat_tests) in
    let third : (2 == i) ≡ false = grind (arith, nat_tests) in
    rw (first, second, third) refl

nothing : (word : ℕ) (o : Option ℕ) → o ≡ None → o ≡ Some word → (10 ≤ word) × (word ≤ 10)
nothing word o none some = let apart : None ≡ Some word = sym none ∙ some in absurd (cc)

pub returns-clause-within : goal.returns-clause-within
unfolding set_below set_of size with_frame with_stage convicted_by turn close_exact outcome_of heard_from row_of sending classes_of verdict_of delay_of after_window begin_frame close_on go_through results_of sent_in step message_in close_sync sync_outcome_of
returns-clause-within c zero word member offered = let e : 10 ≡ word = same_Some 10 word offered in (omega arith, omega arith)
returns-clause-within c (suc zero) word member offered = let e : 10 ≡ word = same_Some 10 word offered in (omega arith, omega arith)
returns-clause-within c (suc (suc zero)) word member offered = nothing word None refl offered
returns-clause-within c (suc (suc (suc i))) word member offered =
    nothing word (offer_of faulty_replica [] 0 slot_each (suc (suc (suc i)))) (ap (offer_in faulty_replica [] 0 (suc (suc (suc i)))) (no-slot (suc (suc (suc i))) (omega arith))) offered
