use Rattle.std.proofs.{Common.{◌≡◌, ℕ, zero, suc, ◌+◌, ◌<◌, ◌≤◌, ◌==◌, ◌&&◌, nat_lt, Bool, true, false, None, [], if◌then◌else◌, lit<, lit≤, inl, refl, sym, ◌∙◌, ap, arith}, lemmas.Bool.ltb-true, lemmas.Bool.Decides.nat_tests}
use Rattle.rb_base.specs.{Nodes.{Side, other, has, set_of, set_below}, Nodes.Side.{Biu, Rmu}}
use Rattle.rb_rules.specs.{declared.sense.Sense.Sense, declared.sense.Sense.TheVariants.Silent, ExactStage.{close_exact, outcome_of, says}, NodeState.{first_state, trusted_of}, Sense.value_in, Slots.count_of, Standing.{Standing, is_eligible, taken_of}}
use Rattle.rb_laws_agreement.specs.OneSlot.{Brings, GoodOutnumber, HoldsAlike, IsSpared, state_after, takes_after}
use Rattle.rb_laws_agreement.proofs.ExactWindows.{expected_at}
use Rattle.rb_test_rules.specs.OneSlot.{all_trusted, comes_to, from_bius, lying_relay, two_and_three}
use Rattle.rb_test_rules.proofs.premises.slot_with_a_lying_relay.Goals as goal

-- the good nodes of a kind are 0 and 1
good-cases : (P : ℕ → Type 0) → P 0 → P 1 → (j : ℕ) → nat_lt j 2 ≡ true → P j
good-cases P first second zero h = first
good-cases P first second (suc zero) h = second
good-cases P first second (suc (suc j)) h = let less : suc (suc j) < 2 = ltb-true (suc (suc j)) 2 h in absurd (omega arith)

spares : (me : Side) (j : ℕ) → nat_lt j 2 ≡ true → IsSpared (first_state two_and_three me).far j
unfolding set_of set_below
spares Biu j h = good-cases (λ j. IsSpared (first_state two_and_three Biu).far j) (record { direct = refl; mismatch = refl }) (record { direct = refl; mismatch = refl }) j h
spares Rmu j h = good-cases (λ j. IsSpared (first_state two_and_three Rmu).far j) (record { direct = refl; mismatch = refl }) (record { direct = refl; mismatch = refl }) j h

holds : (me : Side) (i : ℕ) → HoldsAlike lying_relay all_trusted [] me i
unfolding set_of set_below
holds Biu i = record {
  trusts = λ kind. elim kind as (λ kind. trusted_of kind Biu (first_state two_and_three Biu) ≡ all_trusted kind) [ Biu ↦ refl | Rmu ↦ refl ];
  owners_are = refl;
  has_place = lit< tt;
  spares = λ j h. spares Biu j h;
}
holds Rmu i = record {
  trusts = λ kind. elim kind as (λ kind. trusted_of kind Rmu (first_state two_and_three Rmu) ≡ all_trusted kind) [ Biu ↦ refl | Rmu ↦ refl ];
  owners_are = refl;
  has_place = lit< tt;
  spares = λ j h. spares Rmu j h;
}

abbrev BringsIn : ℕ → Side → ℕ → ℕ → Type 0
BringsIn q me i j =
    Brings (state_after lying_relay q (other me) j) 0 (q + 1) (says two_and_three (other me) j (state_after lying_relay q (other me) j) 0 (q + 1) 2) (comes_to (q + 1) me i j)

hears : (q : ℕ) → q < 3 → (me : Side) (i j : ℕ) → nat_lt j 2 ≡ true → BringsIn q me i j
unfolding set_of set_below close_exact outcome_of state_after
hears zero h Biu i j good = good-cases (BringsIn 0 Biu i) refl refl j good
hears zero h Rmu i j good = good-cases (BringsIn 0 Rmu i) (9, refl) refl j good
hears (suc zero) h Biu i j good = good-cases (BringsIn 1 Biu i) (9, refl) (9, refl) j good
hears (suc zero) h Rmu i j good = good-cases (BringsIn 1 Rmu i) refl refl j good
hears (suc (suc zero)) h Biu i j good = good-cases (BringsIn 2 Biu i) refl refl j good
hears (suc (suc zero)) h Rmu i j good = good-cases (BringsIn 2 Rmu i) (9, refl) (9, refl) j good
hears (suc (suc (suc q))) h me i j good = absurd (omega arith)

numbered : (kind : Side) (j : ℕ) → nat_lt j 2 ≡ true → j < count_of kind two_and_three
numbered Biu j h = ltb-true j 2 h
numbered Rmu j h = let less : j < 2 = ltb-true j 2 h in omega arith

trusted : (kind : Side) (j : ℕ) → nat_lt j 2 ≡ true → has (all_trusted kind) j ≡ true
trusted Biu j h = good-cases (λ j. has 3 j ≡ true) refl refl j h
trusted Rmu j h = good-cases (λ j. has 7 j ≡ true) refl refl j h

pub returns-clause-exchange : goal.returns-clause-exchange
returns-clause-exchange c = record {
  shape = record { some_biu = lit≤ tt; most_bius = lit≤ tt; some_rmu = lit≤ tt; most_rmus = lit≤ tt; some_slot = lit≤ tt; most_slots = lit≤ tt };
  below = lit< tt;
  numbered = numbered;
  trusts_good = trusted;
  holds = λ me i good. holds me i;
  hears = λ q me i j small good there. hears q small me i j there;
}

-- The premise.

most : (q : ℕ) (me : Side) (i : ℕ) → 1 ≤ q → q < 3 → nat_lt i 2 ≡ true → GoodOutnumber (λ j. nat_lt j 2) (takes_after lying_relay q me i)
unfolding set_of set_below close_exact outcome_of state_after
most zero me i late small good = absurd (omega arith)
most (suc zero) Biu i late small good = good-cases (λ i. GoodOutnumber (λ j. nat_lt j 2) (takes_after lying_relay 1 Biu i)) (lit< tt) (lit< tt) i good
most (suc zero) Rmu i late small good = good-cases (λ i. GoodOutnumber (λ j. nat_lt j 2) (takes_after lying_relay 1 Rmu i)) (lit< tt) (lit< tt) i good
most (suc (suc zero)) Biu i late small good = good-cases (λ i. GoodOutnumber (λ j. nat_lt j 2) (takes_after lying_relay 2 Biu i)) (lit< tt) (lit< tt) i good
most (suc (suc zero)) Rmu i late small good = good-cases (λ i. GoodOutnumber (λ j. nat_lt j 2) (takes_after lying_relay 2 Rmu i)) (lit< tt) (lit< tt) i good
most (suc (suc (suc q))) me i late small good = absurd (omega arith)

-- nothing is taken from a silent source
nothing : (s : Standing) (expected : ℕ → Bool) (sense : ℕ → Sense) (j : ℕ) → sense j ≡ Silent → taken_of value_in s expected sense j ≡ None
nothing s expected sense j silent = ap (λ x. if expected j && is_eligible s j then value_in x else None) silent ∙ go (expected j && is_eligible s j)
  where
    go : (b : Bool) → (if b then value_in Silent else None) ≡ None
    go true = refl
    go false = refl

silent : (stage j : ℕ) → nat_lt j 2 ≡ false → from_bius stage j ≡ Silent
silent stage j h = let first : (j == 0) ≡ false = grind (arith, nat_tests) in rw (first, h) refl

pub returns-clause-premise : goal.returns-clause-premise
returns-clause-premise c = record {
  most = most;
  one_kind = inl (λ q a b j small good_a good_b faulty.
      nothing (state_after lying_relay q Rmu a).far (expected_at two_and_three Rmu (state_after lying_relay q Rmu a) 0 (q + 1)) (λ j. from_bius (q + 1) j) j (silent (q + 1) j faulty)
      ∙ sym (nothing (state_after lying_relay q Rmu b).far (expected_at two_and_three Rmu (state_after lying_relay q Rmu b) 0 (q + 1)) (λ j. from_bius (q + 1) j) j (silent (q + 1) j faulty)));
}
