use Rattle.std.proofs.{Common.{◌≡◌, ℕ, zero, suc, ◌<◌, ◌==◌, ◌&&◌, Bool, true, false, None, if◌then◌else◌, lit<, lit≤, inl, inr, refl, ◌∙◌, ap, arith}, lemmas.Bool.ltb-true, lemmas.Bool.Decides.nat_tests}
use Rattle.rb_base.specs.{Nodes.{set_of, set_below}, Nodes.Side.Biu}
use Rattle.rb_rules.specs.{declared.sense.Sense.Sense, declared.sense.Sense.TheVariants.Silent, Clock.Timeline, Sense.stamp_in, Standing.{Standing, is_eligible, taken_of}, SyncStage.expects_call}
use Rattle.rb_laws_synchrony.specs.OneStage.{HearsGoodCalls, IsCalledBetween, TakeNear}
use Rattle.rb_test_rules.specs.{OneStage.{a_call, calls_of, early_clock, early_listener, first_two, late_clock, late_listener}, Parts.plan}
use Rattle.rb_test_rules.proofs.premises.stage_with_near_calls.Goals as goal

good-cases : (P : ℕ → Type 0) → P 0 → P 1 → (j : ℕ) → first_two j ≡ true → P j
good-cases P first second zero h = first
good-cases P first second (suc zero) h = second
good-cases P first second (suc (suc j)) h = let less : suc (suc j) < 2 = ltb-true (suc (suc j)) 2 h in absurd (omega arith)

early : HearsGoodCalls plan first_two 8770000 8784000 early_listener
unfolding set_of set_below
early = record {
  listening = refl;
  a_stage = (lit≤ tt, lit≤ tt);
  clock = record { start = lit≤ tt; rising = refl; within = refl };
  ticks = lit≤ tt;
  begun = lit< tt;
  numbered = good-cases (λ j. j < 16) (lit< tt) (lit< tt);
  eligible = good-cases (λ j. is_eligible early_listener.state.far j ≡ true) refl refl;
  called = good-cases (λ j. IsCalledBetween early_clock 8770000 8784000 (early_listener.came j))
      (record { time = 8774000; message = a_call; came = refl; not_early = lit≤ tt; not_late = lit≤ tt })
      (record { time = 8776000; message = a_call; came = refl; not_early = lit≤ tt; not_late = lit≤ tt });
  most = lit< tt;
}

late : HearsGoodCalls plan first_two 8770000 8784000 late_listener
unfolding set_of set_below
late = record {
  listening = refl;
  a_stage = (lit≤ tt, lit≤ tt);
  clock = record { start = lit≤ tt; rising = refl; within = refl };
  ticks = lit≤ tt;
  begun = lit< tt;
  numbered = good-cases (λ j. j < 16) (lit< tt) (lit< tt);
  eligible = good-cases (λ j. is_eligible late_listener.state.far j ≡ true) refl refl;
  called = good-cases (λ j. IsCalledBetween late_clock 8770000 8784000 (late_listener.came j))
      (record { time = 8784000; message = a_call; came = refl; not_early = lit≤ tt; not_late = lit≤ tt })
      (record { time = 8770000; message = a_call; came = refl; not_early = lit≤ tt; not_late = lit≤ tt });
  most = lit< tt;
}

-- nothing is taken from a silent source
nothing : (s : Standing) (expected : ℕ → Bool) (sense : ℕ → Sense) (j : ℕ) → sense j ≡ Silent → taken_of stamp_in s expected sense j ≡ None
nothing s expected sense j silent = ap (λ x. if expected j && is_eligible s j then stamp_in x else None) silent ∙ go (expected j && is_eligible s j)
  where
    go : (b : Bool) → (if b then stamp_in Silent else None) ≡ None
    go true = refl
    go false = refl

silent : (clock : Timeline) (first second third j : ℕ) → 3 < suc j → calls_of clock first second third j ≡ Silent
silent clock first second third j h =
    let a : (j == 0) ≡ false = grind (arith, nat_tests) in
    let b : (j == 1) ≡ false = grind (arith, nat_tests) in
    let c : (j == 2) ≡ false = grind (arith, nat_tests) in
    rw (a, b, c) refl

near : (j : ℕ) → TakeNear 10000 early_listener late_listener j
unfolding set_of set_below
near zero = inr (record { mine = 8774000; yours = 8784000; mine_taken = refl; yours_taken = refl; mine_begun = lit< tt; yours_begun = lit< tt; above = lit≤ tt; under = lit≤ tt })
near (suc zero) = inr (record { mine = 8776000; yours = 8770000; mine_taken = refl; yours_taken = refl; mine_begun = lit< tt; yours_begun = lit< tt; above = lit≤ tt; under = lit≤ tt })
near (suc (suc zero)) = inr (record { mine = 8705000; yours = 8710000; mine_taken = refl; yours_taken = refl; mine_begun = lit< tt; yours_begun = lit< tt; above = lit≤ tt; under = lit≤ tt })
near (suc (suc (suc j))) =
    inl (
      nothing early_listener.state.far (expects_call Biu early_listener.state 2) early_listener.came (suc (suc (suc j))) (silent early_clock 8774000 8776000 8705000 (suc (suc (suc j))) (omega arith)),
      nothing late_listener.state.far (expects_call Biu late_listener.state 2) late_listener.came (suc (suc (suc j))) (silent late_clock 8784000 8770000 8710000 (suc (suc (suc j))) (omega arith)),
    )

pub returns-clause-premise : goal.returns-clause-premise
returns-clause-premise c = record { mine = early; yours = late; near = λ j below. near j }
