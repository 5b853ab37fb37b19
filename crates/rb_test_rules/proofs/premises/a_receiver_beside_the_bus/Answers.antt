use Rattle.std.proofs.{Common.{◌≡◌, ℕ, zero, suc, ◌<◌, ◌≤◌, ◌==◌, nat_lt, Bool, true, false, Option, Some, None, [], get_or, is_some, option_and_then, slice_get, if◌then◌else◌, lit<, lit≤, refl, sym, ◌∙◌, ap, subst, arith}, lemmas.Bool.ltb-true, lemmas.Bool.Decides.nat_tests, lemmas.Option.same_Some}
use Rattle.rb_base.specs.{Nodes.{Side, has, set_below, set_of, size}, Nodes.Side.{Biu, Rmu}}
use Rattle.rb_base.proofs.Plain.{and_first}
use Rattle.rb_rules.specs.{Book.{of_kind, with_frame, with_stage}, Clock.{stamp_of, time_of}, Conviction.{convicted_by, turn}, ExactStage.{close_exact, outcome_of}, Goodness.{clock_of, is_before, is_good}, Hearing.{heard_from, row_of, sending}, Judging.{classes_of, verdict_of}, Links.delay_of, Moments.before_stage, NodeState.{NodeState, trusted_of}, Rounds.{after_window, begin_frame, close_on, go_through, results_of, sent_in, step}, Spelling.message_in, SyncStage.{call_tick_of, close_sync, sync_outcome_of}}
use Rattle.rb_laws_listener_near.specs.Calls.{ComesAfter}
use Rattle.rb_test_rules.specs.{Buses.steady, Ordinary.smallest_bus, Receiver.{call_taken, call_time}}
use Rattle.rb_test_rules.proofs.LawfulTests.{lawful_by_tests}
use Rattle.rb_test_rules.proofs.premises.a_receiver_beside_the_bus.Goals as goal

pub returns-clause-lawful : goal.returns-clause-lawful
returns-clause-lawful c = lawful_by_tests smallest_bus refl

pub returns-clause-complete : goal.returns-clause-complete
unfolding set_of set_below size message_in close_exact outcome_of close_sync sync_outcome_of turn convicted_by classes_of verdict_of delay_of with_stage with_frame sending heard_from row_of sent_in close_on go_through results_of after_window begin_frame step
returns-clause-complete c = refl

pub returns-clause-most_good : goal.returns-clause-most_good
unfolding set_of set_below size
returns-clause-most_good c = lit< tt

pub returns-clause-clock : goal.returns-clause-clock
returns-clause-clock c = record { start = lit≤ tt; rising = refl; within = refl }

-- each kind has one node
one-each : (me : Side) (i : ℕ) → is_good smallest_bus me i 0 4 ≡ true → i < 1
one-each Biu i good = ltb-true i 1 (and_first (nat_lt i 1) (is_before (get_or smallest_bus.biu_onsets i None) 0 4) good)
one-each Rmu i good = ltb-true i 1 (and_first (nat_lt i 1) (is_before (get_or smallest_bus.rmu_onsets i None) 0 4) good)

-- there is a node, and it trusts the RMU
abbrev trusts : Side → Option NodeState → Bool
trusts me None = false
trusts me (Some st) = has (trusted_of Rmu me st) 0

each-trusts : (me : Side) (i : ℕ) → i < 1 → trusts me (slice_get (of_kind me (before_stage smallest_bus [] 0 4 2).nodes) i) ≡ true
unfolding set_of set_below size message_in close_exact outcome_of close_sync sync_outcome_of turn convicted_by classes_of verdict_of delay_of with_stage with_frame sending heard_from row_of sent_in close_on go_through results_of after_window begin_frame step
each-trusts Biu zero h = refl
each-trusts Rmu zero h = refl
each-trusts me (suc i) h = absurd (omega arith)

first-taken : (j : ℕ) → is_some (call_taken j) ≡ true → 0 ≡ j
first-taken zero h = refl
first-taken (suc j) h =
    let other : (suc j == 0) ≡ false = grind (arith, nat_tests) in
    let none : false ≡ true = ap (λ (b : Bool). is_some {T = ℕ} (if b then Some 203 else None)) (sym other) ∙ h in
    absurd (cc)

-- the RMU calls with this tick
calls-with : option_and_then (λ st. call_tick_of smallest_bus.sizes smallest_bus.plan st 2) (slice_get (of_kind Rmu (before_stage smallest_bus [] 0 4 2).nodes) 0) ≡ Some 202
unfolding set_of set_below size message_in close_exact outcome_of close_sync sync_outcome_of turn convicted_by classes_of verdict_of delay_of with_stage with_frame sending heard_from row_of sent_in close_on go_through results_of after_window begin_frame step
calls-with = refl

stamp-is : stamp_of steady 2030000 ≡ 203
stamp-is = refl

called : (j : ℕ) → 0 ≡ j → (source : NodeState) (tick : ℕ) → slice_get (of_kind Rmu (before_stage smallest_bus [] 0 4 2).nodes) j ≡ Some source
    → call_tick_of smallest_bus.sizes smallest_bus.plan source 2 ≡ Some tick → (202 ≡ tick) × (0 ≡ j)
called j first source tick there call =
    let at : slice_get (of_kind Rmu (before_stage smallest_bus [] 0 4 2).nodes) 0 ≡ Some source = ap (slice_get (of_kind Rmu (before_stage smallest_bus [] 0 4 2).nodes)) first ∙ there in
    (same_Some 202 tick (sym calls-with ∙ ap (option_and_then (λ st. call_tick_of smallest_bus.sizes smallest_bus.plan st 2)) at ∙ call), first)

comes : ComesAfter smallest_bus (time_of (clock_of smallest_bus Rmu 0) 202) 2030000
comes = record { least = lit≤ tt; most = lit≤ tt }

pub returns-clause-takes : goal.returns-clause-takes
returns-clause-takes c = record {
  trusts = λ j some me i st x.
      subst (λ j. has (trusted_of Rmu me st) j ≡ true) (first-taken j some)
      (sym (ap (trusts me) x.state) ∙ each-trusts me i (one-each me i x.good));
  stamped = λ j k taken. stamped j k taken;
  calls = λ j source tick x call.
      let less : j < 1 = one-each Rmu j x.good in
      let found = called j (omega arith) source tick x.state call in
      subst (λ j. (call_taken j ≡ Some (stamp_of steady (call_time j))) × ComesAfter smallest_bus (time_of (clock_of smallest_bus Rmu j) tick) (call_time j)) found.1
      (subst (λ tick. (call_taken 0 ≡ Some (stamp_of steady (call_time 0))) × ComesAfter smallest_bus (time_of (clock_of smallest_bus Rmu 0) tick) (call_time 0)) found.0
      (ap (λ k. Some k) (sym stamp-is), comes));
}
  where
    stamped : (j k : ℕ) → call_taken j ≡ Some k → (1 ≤ k) × (stamp_of steady (call_time j) ≡ k)
    stamped zero k taken = let e : 203 ≡ k = same_Some 203 k taken in (omega arith, stamp-is ∙ e)
    stamped (suc j) k taken =
        let first : 0 ≡ suc j = first-taken (suc j) (ap (λ o. is_some o) taken) in absurd (omega arith)
