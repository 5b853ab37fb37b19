use Rattle.std.proofs.{Common.{◌≡◌, ℕ, zero, suc, ◌+◌, ◌<◌, ◌≤◌, ◌==◌, ◌&&◌, nat_lt, not, Bool, true, false, None, Some, is_some, if◌then◌else◌, lit<, lit≤, inl, refl, sym, ◌∙◌, ap, subst, arith}, lemmas.Bool.ltb-true, lemmas.Option.same_Some}
use Rattle.rb_base.specs.{Counting.{count_if, numbers}, Nodes.{Side, other, set_of, set_below}, Nodes.Side.{Biu, Rmu}}
use Rattle.rb_rules.specs.{declared.role.Role.TheVariants.Sync, declared.sense.Sense.Sense, declared.sense.Sense.TheVariants.Silent, NodeState.first_state, Sense.stamp_in, Slots.listens, Standing.{Standing, is_eligible, taken_of}, SyncStage.{call_of, call_tick_of, close_sync, expects_call, sync_outcome_of}}
use Rattle.rb_rules.proofs.Feasibility.{feasible_exactly}
use Rattle.rb_laws_synchrony.specs.{OneFrame.{BringsTheCall, HearsGoodNodes, listener, state_through}, OneStage.stamp_taken}
use Rattle.rb_test_rules.specs.{Buses.plan, OneFrame.{calls_of_bius, early_call}, OneSlot.two_and_three}
use Rattle.rb_test_rules.proofs.premises.frame_with_an_early_call.Goals as goal

-- the good nodes of a kind are 0 and 1
good-cases : (P : ℕ → Type 0) → P 0 → P 1 → (j : ℕ) → nat_lt j 2 ≡ true → P j
good-cases P first second zero h = first
good-cases P first second (suc zero) h = second
good-cases P first second (suc (suc j)) h = let less : suc (suc j) < 2 = ltb-true (suc (suc j)) 2 h in absurd (omega arith)

eligible : (me : Side) (j : ℕ) → nat_lt j 2 ≡ true → is_eligible (first_state two_and_three me).far j ≡ true
unfolding set_of set_below
eligible Biu j h = good-cases (λ j. is_eligible (first_state two_and_three Biu).far j ≡ true) refl refl j h
eligible Rmu j h = good-cases (λ j. is_eligible (first_state two_and_three Rmu).far j ≡ true) refl refl j h

-- the calls have these ticks
calls-at : (q : ℕ) → q < 3 → (kind : Side) (j : ℕ) → nat_lt j 2 ≡ true → listens (other kind) Sync (q + 1) ≡ true
    → call_tick_of two_and_three plan (state_through early_call q kind j) (q + 1) ≡ Some (if q == 0 then 366 else (if q == 1 then 382 else 401))
unfolding set_of set_below state_through close_sync sync_outcome_of
calls-at zero small Biu j good h = refl
calls-at zero small Rmu j good h = absurd (cc)
calls-at (suc zero) small Rmu j good h = good-cases (λ j. call_tick_of two_and_three plan (state_through early_call 1 Rmu j) 2 ≡ Some 382) refl refl j good
calls-at (suc zero) small Biu j good h = absurd (cc)
calls-at (suc (suc zero)) small Biu j good h = good-cases (λ j. call_tick_of two_and_three plan (state_through early_call 2 Biu j) 3 ≡ Some 401) refl refl j good
calls-at (suc (suc zero)) small Rmu j good h = absurd (cc)
calls-at (suc (suc (suc q))) small kind j good h = absurd (omega (arith, small))

-- each call comes 10,000 reference units later
brings : (q : ℕ) → q < 3 → (me : Side) (i j : ℕ) → nat_lt i 2 ≡ true → nat_lt j 2 ≡ true → listens me Sync (q + 1) ≡ true
    → BringsTheCall early_call q me i j (if q == 0 then 366 else (if q == 1 then 382 else 401))
brings zero small Rmu i j here good h =
    record {
      time = 3670000;
      message = call_of two_and_three (first_state two_and_three Biu) 1;
      arrives = record { not_early = lit≤ tt; not_late = lit≤ tt };
      came = λ inside. good-cases (λ j. calls_of_bius 1 j ≡ calls_of_bius 1 0) refl refl j good;
    }
brings zero small Biu i j here good h = absurd (cc)
brings (suc zero) small Biu i j here good h =
    record {
      time = 3830000;
      message = call_of two_and_three (first_state two_and_three Biu) 2;
      arrives = record { not_early = lit≤ tt; not_late = lit≤ tt };
      came = λ inside. good-cases (λ j. early_call.came 2 Biu i j ≡ early_call.came 2 Biu i 0) refl refl j good;
    }
brings (suc zero) small Rmu i j here good h = absurd (cc)
brings (suc (suc zero)) small Rmu i j here good h =
    record {
      time = 4020000;
      message = call_of two_and_three (first_state two_and_three Biu) 3;
      arrives = record { not_early = lit≤ tt; not_late = lit≤ tt };
      came = λ inside. good-cases (λ j. calls_of_bius 3 j ≡ calls_of_bius 3 0) refl refl j good;
    }
brings (suc (suc zero)) small Biu i j here good h = absurd (cc)
brings (suc (suc (suc q))) small me i j here good h = absurd (omega (arith, small))

-- nothing comes to a kind in a stage in which it does not listen
quiet : (q : ℕ) → q < 3 → (me : Side) (i j : ℕ) → nat_lt j 2 ≡ true → listens me Sync (q + 1) ≡ false → early_call.came (q + 1) me i j ≡ Silent
quiet zero small Biu i j good h = good-cases (λ j. early_call.came 1 Biu i j ≡ Silent) refl refl j good
quiet zero small Rmu i j good h = absurd (cc)
quiet (suc zero) small Rmu i j good h = good-cases (λ j. early_call.came 2 Rmu i j ≡ Silent) refl refl j good
quiet (suc zero) small Biu i j good h = absurd (cc)
quiet (suc (suc zero)) small Biu i j good h = good-cases (λ j. early_call.came 3 Biu i j ≡ Silent) refl refl j good
quiet (suc (suc zero)) small Rmu i j good h = absurd (cc)
quiet (suc (suc (suc q))) small me i j good h = absurd (omega (arith, small))

hears : (q : ℕ) (me : Side) (i j : ℕ) → q < 3 → nat_lt i 2 ≡ true → nat_lt j 2 ≡ true → HearsGoodNodes early_call q me i j
hears q me i j small here good = record {
  calls = λ h tick at.
      subst (BringsTheCall early_call q me i j)
      (same_Some (if q == 0 then 366 else (if q == 1 then 382 else 401)) tick (sym (calls-at q small (other me) j good (listens-back me (q + 1) h)) ∙ at))
      (brings q small me i j here good h);
  quiet = quiet q small me i j good;
}
  where
    listens-back : (me : Side) (stage : ℕ) → listens me Sync stage ≡ true → listens (other (other me)) Sync stage ≡ true
    listens-back Biu stage h = h
    listens-back Rmu stage h = h

pub returns-clause-frame : goal.returns-clause-frame
returns-clause-frame c = record {
  shape = record { some_biu = lit≤ tt; most_bius = lit≤ tt; some_rmu = lit≤ tt; most_rmus = lit≤ tt; some_slot = lit≤ tt; most_slots = lit≤ tt };
  plan = record {
    u = (lit≤ tt, lit≤ tt);
    r = lit< tt;
    dmin = (lit≤ tt, lit≤ tt);
    dmax = lit≤ tt;
    l = (lit≤ tt, lit≤ tt);
    h = (lit≤ tt, lit≤ tt);
    v = (lit≤ tt, lit≤ tt);
    z = (lit≤ tt, lit≤ tt);
    c = lit≤ tt;
    p = lit≤ tt;
    probation = lit≤ tt;
  };
  feasible = (feasible_exactly two_and_three plan).0 refl;
  numbered = λ kind j good. let less : j < 2 = ltb-true j 2 good in omega arith;
  clocks = λ me i good. record { start = lit≤ tt; rising = refl; within = refl };
  begun = begins;
  eligible = λ me i j here good. eligible me j good;
  hears = hears;
}
  where
    begins : (me : Side) (i : ℕ) → nat_lt i 2 ≡ true → (0 ≤ 0) × (0 ≤ 0 + 60200)
    begins me i good = (lit≤ tt, lit≤ tt)

-- The premise.

most : (q : ℕ) (me : Side) (i : ℕ) → q < 3 → listens me Sync (q + 1) ≡ true → nat_lt i 2 ≡ true
    → count_if (λ j. not (nat_lt j 2) && is_some (stamp_taken (listener early_call q me i) j)) (numbers 16) < count_if (λ j. nat_lt j 2) (numbers 16)
unfolding set_of set_below state_through close_sync sync_outcome_of
most zero Rmu i small h good = lit< tt
most zero Biu i small h good = absurd (cc)
most (suc zero) Biu i small h good =
    good-cases (λ i. count_if (λ j. not (nat_lt j 2) && is_some (stamp_taken (listener early_call 1 Biu i) j)) (numbers 16) < count_if (λ j. nat_lt j 2) (numbers 16))
    (lit< tt) (lit< tt) i good
most (suc zero) Rmu i small h good = absurd (cc)
most (suc (suc zero)) Rmu i small h good =
    good-cases (λ i. count_if (λ j. not (nat_lt j 2) && is_some (stamp_taken (listener early_call 2 Rmu i) j)) (numbers 16) < count_if (λ j. nat_lt j 2) (numbers 16))
    (lit< tt) (lit< tt) i good
most (suc (suc zero)) Biu i small h good = absurd (cc)
most (suc (suc (suc q))) me i small h good = absurd (omega (arith, small))

-- nothing is taken from a silent source
nothing : (s : Standing) (expected : ℕ → Bool) (sense : ℕ → Sense) (j : ℕ) → sense j ≡ Silent → taken_of stamp_in s expected sense j ≡ None
nothing s expected sense j silent = ap (λ x. if expected j && is_eligible s j then stamp_in x else None) silent ∙ go (expected j && is_eligible s j)
  where
    go : (b : Bool) → (if b then stamp_in Silent else None) ≡ None
    go true = refl
    go false = refl

silent : (stage j : ℕ) → nat_lt j 2 ≡ false → calls_of_bius stage j ≡ Silent
silent stage j h = rw h refl

pub returns-clause-premise : goal.returns-clause-premise
returns-clause-premise c = record {
  most = most;
  one_kind = inl (λ q a b j small h good_a good_b below faulty. inl (
    nothing (state_through early_call q Rmu a).far (expects_call Rmu (state_through early_call q Rmu a) (q + 1)) (calls_of_bius (q + 1)) j (silent (q + 1) j faulty),
    nothing (state_through early_call q Rmu b).far (expects_call Rmu (state_through early_call q Rmu b) (q + 1)) (calls_of_bius (q + 1)) j (silent (q + 1) j faulty),
  ));
}
