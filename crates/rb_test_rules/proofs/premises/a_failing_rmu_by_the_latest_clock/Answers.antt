use Rattle.std.proofs.{Common.{◌≡◌, ℕ, zero, suc, ◌<◌, nat_lt, true, Option, Some, None, [], get_or, option_map, slice_get, lit<, lit≤, refl, sym, ◌∙◌, ap, arith}, lemmas.Bool.ltb-true, lemmas.Option.same_Some}
use Rattle.rb_base.specs.{Nodes.{Side, set_below, set_of, size}, Nodes.Side.{Biu, Rmu}}
use Rattle.rb_base.proofs.Plain.{and_first}
use Rattle.rb_rules.specs.{Book.{of_kind, with_frame, with_stage}, Conviction.{convicted_by, turn}, ExactStage.{close_exact, outcome_of}, Goodness.{is_before, is_good}, Hearing.{heard_from, row_of, sending}, Judging.{classes_of, verdict_of}, Links.delay_of, Moments.{IsGoodBefore, before_slot, time_in_frame}, NodeState.NodeState, Rounds.{after_window, begin_frame, close_on, go_through, results_of, sent_in, step}, Spelling.message_in, SyncStage.{close_sync, sync_outcome_of}}
use Rattle.rb_laws_listener_near.specs.Laws.{LieWithin}
use Rattle.rb_test_rules.specs.Receiver.{failing_rmu}
use Rattle.rb_test_rules.proofs.premises.a_failing_rmu_by_the_latest_clock.Goals as goal

-- the time at which a node begins frame 0
abbrev begin_of : Side → ℕ → Option ℕ
begin_of me i = option_map (λ st. time_in_frame failing_rmu me i st 0) (slice_get (of_kind me (before_slot failing_rmu [] 0 0).nodes) i)

first-biu : (i : ℕ) → i < 1 → begin_of Biu i ≡ Some 0
unfolding set_of set_below size message_in close_exact outcome_of close_sync sync_outcome_of turn convicted_by classes_of verdict_of delay_of with_stage with_frame sending heard_from row_of sent_in close_on go_through results_of after_window begin_frame step
first-biu zero h = refl
first-biu (suc i) h = absurd (omega arith)

first-rmus : (i : ℕ) → i < 3 → begin_of Rmu i ≡ Some 0
unfolding set_of set_below size message_in close_exact outcome_of close_sync sync_outcome_of turn convicted_by classes_of verdict_of delay_of with_stage with_frame sending heard_from row_of sent_in close_on go_through results_of after_window begin_frame step
first-rmus zero h = refl
first-rmus (suc zero) h = refl
first-rmus (suc (suc zero)) h = refl
first-rmus (suc (suc (suc i))) h = absurd (omega arith)

begins : (me : Side) (i : ℕ) → is_good failing_rmu me i 0 0 ≡ true → begin_of me i ≡ Some 0
begins Biu i good = first-biu i (ltb-true i 1 (and_first (nat_lt i 1) (is_before (get_or failing_rmu.biu_onsets i None) 0 0) good))
begins Rmu i good = first-rmus i (ltb-true i 3 (and_first (nat_lt i 3) (is_before (get_or failing_rmu.rmu_onsets i None) 0 0) good))

at-0 : (me : Side) (i : ℕ) (st : NodeState) → IsGoodBefore failing_rmu [] 0 0 me i st → time_in_frame failing_rmu me i st 0 ≡ 0
at-0 me i st x =
    same_Some (time_in_frame failing_rmu me i st 0) 0 (sym (ap (option_map (λ st. time_in_frame failing_rmu me i st 0)) x.state) ∙ begins me i x.good)

near : (time : ℕ) → time ≡ 0 → LieWithin 60200 60200 time
near time e = record { before = omega arith; after = omega arith }

pub returns-clause-begins : goal.returns-clause-begins
returns-clause-begins c = record {
  keeps = record { start = lit≤ tt; rising = refl; within = refl };
  near = λ me i st x. near (time_in_frame failing_rmu me i st 0) (at-0 me i st x);
}

pub returns-clause-time : goal.returns-clause-time
returns-clause-time c = lit< tt
