-- The first rule that is broken, from which of them are kept.
use Rattle.std.proofs.Common.{◌≡◌, ℕ, Bool, true, false, length, Option, Some, None, inl, inr, refl}
use Rattle.rb_rules.specs.{Goodness.Scenario, Plan.first_failing}
use Rattle.rb_scenario_entries.specs.{declared.refusal.Refusal.Refusal, declared.refusal.Refusal.TheVariants.{PlanFails, ClockBounds, DelayBounds, StartApart, SayOfGood, TooMany}, Outcome.IsRefusalBy}
use Rattle.rb_scenario.specs.{Acceptance.{IsBrokenBy, broken_by, or_else, plan_rule}, Rules.{are_delays, are_few, are_sayers_faulty, keep_time, start_together}}

chain : Option ℕ → Bool → Bool → Bool → Bool → Bool → Option Refusal
chain o a b c d e =
    plan_rule o (or_else a ClockBounds (or_else b DelayBounds (or_else c StartApart (or_else d SayOfGood (or_else e TooMany None)))))

-- the rules are kept one after the other: each record has one more than the record before it
pub record PlanKept (sc : Scenario) : Type 0 where
  pub plan : first_failing sc.sizes sc.plan ≡ None

pub record ClocksKept (sc : Scenario) : Type 0 where
  pub plan : first_failing sc.sizes sc.plan ≡ None
  pub clocks : keep_time sc.plan sc.clocks ≡ true

pub record DelaysKept (sc : Scenario) : Type 0 where
  pub plan : first_failing sc.sizes sc.plan ≡ None
  pub clocks : keep_time sc.plan sc.clocks ≡ true
  pub delays : are_delays sc.plan sc.delays ≡ true

pub record StartsKept (sc : Scenario) : Type 0 where
  pub plan : first_failing sc.sizes sc.plan ≡ None
  pub clocks : keep_time sc.plan sc.clocks ≡ true
  pub delays : are_delays sc.plan sc.delays ≡ true
  pub starts : start_together sc.plan.p sc.clocks ≡ true

pub record SaysKept (sc : Scenario) : Type 0 where
  pub plan : first_failing sc.sizes sc.plan ≡ None
  pub clocks : keep_time sc.plan sc.clocks ≡ true
  pub delays : are_delays sc.plan sc.delays ≡ true
  pub starts : start_together sc.plan.p sc.clocks ≡ true
  pub says : are_sayers_faulty sc ≡ true

pub record AllKept (sc : Scenario) : Type 0 where
  pub plan : first_failing sc.sizes sc.plan ≡ None
  pub clocks : keep_time sc.plan sc.clocks ≡ true
  pub delays : are_delays sc.plan sc.delays ≡ true
  pub starts : start_together sc.plan.p sc.clocks ≡ true
  pub says : are_sayers_faulty sc ≡ true
  pub few : are_few (length sc.says) (length sc.delays.rules) sc.clocks ≡ true

at_plan : (o : Option ℕ) (a b c d e : Bool) (n : ℕ) → o ≡ Some n → chain o a b c d e ≡ Some (PlanFails n)
unfolding chain
at_plan o a b c d e n h = rw h refl

at_clocks : (o : Option ℕ) (a b c d e : Bool) → o ≡ None → a ≡ false → chain o a b c d e ≡ Some ClockBounds
unfolding chain
at_clocks o a b c d e h0 h1 = rw (h0, h1) refl

at_delays : (o : Option ℕ) (a b c d e : Bool) → o ≡ None → a ≡ true → b ≡ false → chain o a b c d e ≡ Some DelayBounds
unfolding chain
at_delays o a b c d e h0 h1 h2 = rw (h0, h1, h2) refl

at_starts : (o : Option ℕ) (a b c d e : Bool) → o ≡ None → a ≡ true → b ≡ true → c ≡ false → chain o a b c d e ≡ Some StartApart
unfolding chain
at_starts o a b c d e h0 h1 h2 h3 = rw (h0, h1, h2, h3) refl

at_says : (o : Option ℕ) (a b c d e : Bool) → o ≡ None → a ≡ true → b ≡ true → c ≡ true → d ≡ false → chain o a b c d e ≡ Some SayOfGood
unfolding chain
at_says o a b c d e h0 h1 h2 h3 h4 = rw (h0, h1, h2, h3, h4) refl

at_few : (o : Option ℕ) (a b c d e : Bool) → o ≡ None → a ≡ true → b ≡ true → c ≡ true → d ≡ true → e ≡ false → chain o a b c d e ≡ Some TooMany
unfolding chain
at_few o a b c d e h0 h1 h2 h3 h4 h5 = rw (h0, h1, h2, h3, h4, h5) refl

at_end : (o : Option ℕ) (a b c d e : Bool) → o ≡ None → a ≡ true → b ≡ true → c ≡ true → d ≡ true → e ≡ true → chain o a b c d e ≡ None
unfolding chain
at_end o a b c d e h0 h1 h2 h3 h4 h5 = rw (h0, h1, h2, h3, h4, h5) refl

-- a rule that fails is the one that is broken, if those before it are kept
pub plan_breaks : (sc : Scenario) (n : ℕ) → first_failing sc.sizes sc.plan ≡ Some n → IsBrokenBy sc (PlanFails n)
unfolding chain broken_by
plan_breaks sc n h = inr (at_plan _ (keep_time sc.plan sc.clocks) (are_delays sc.plan sc.delays) (start_together sc.plan.p sc.clocks) (are_sayers_faulty sc) (are_few (length sc.says) (length sc.delays.rules) sc.clocks) n h)

pub clocks_break : (sc : Scenario) (why : Refusal) → PlanKept sc → IsRefusalBy ClockBounds (keep_time sc.plan sc.clocks) why → IsBrokenBy sc why
unfolding chain broken_by
clocks_break sc why k r = elim r [
  | inl memory ↦ inl memory
  | inr broken ↦ rw broken.0 (inr (at_clocks _ _ (are_delays sc.plan sc.delays) (start_together sc.plan.p sc.clocks) (are_sayers_faulty sc) (are_few (length sc.says) (length sc.delays.rules) sc.clocks) k.plan broken.1))
]

pub delays_break : (sc : Scenario) (why : Refusal) → ClocksKept sc → IsRefusalBy DelayBounds (are_delays sc.plan sc.delays) why → IsBrokenBy sc why
unfolding chain broken_by
delays_break sc why k r = elim r [
  | inl memory ↦ inl memory
  | inr broken ↦ rw broken.0 (inr (at_delays _ _ _ (start_together sc.plan.p sc.clocks) (are_sayers_faulty sc) (are_few (length sc.says) (length sc.delays.rules) sc.clocks) k.plan k.clocks broken.1))
]

pub starts_break : (sc : Scenario) → DelaysKept sc → start_together sc.plan.p sc.clocks ≡ false → IsBrokenBy sc StartApart
unfolding chain broken_by
starts_break sc k h = inr (at_starts _ _ _ _ (are_sayers_faulty sc) (are_few (length sc.says) (length sc.delays.rules) sc.clocks) k.plan k.clocks k.delays h)

pub says_break : (sc : Scenario) (why : Refusal) → StartsKept sc → IsRefusalBy SayOfGood (are_sayers_faulty sc) why → IsBrokenBy sc why
unfolding chain broken_by
says_break sc why k r = elim r [
  | inl memory ↦ inl memory
  | inr broken ↦ rw broken.0 (inr (at_says _ _ _ _ _ (are_few (length sc.says) (length sc.delays.rules) sc.clocks) k.plan k.clocks k.delays k.starts broken.1))
]

pub few_break : (sc : Scenario) → SaysKept sc → are_few (length sc.says) (length sc.delays.rules) sc.clocks ≡ false → IsBrokenBy sc TooMany
unfolding chain broken_by
few_break sc k h = inr (at_few _ _ _ _ _ _ k.plan k.clocks k.delays k.starts k.says h)

pub none_breaks : (sc : Scenario) → AllKept sc → broken_by sc ≡ None
unfolding chain broken_by
none_breaks sc k = at_end _ _ _ _ _ _ k.plan k.clocks k.delays k.starts k.says k.few

-- if no rule is broken, all rules are kept
all_from_end : (o : Option ℕ) (a b c d e : Bool) → chain o a b c d e ≡ None
    → (o ≡ None) × (a ≡ true) × (b ≡ true) × (c ≡ true) × (d ≡ true) × (e ≡ true)
unfolding chain
all_from_end (Some n) a b c d e h = cc
all_from_end None false b c d e h = cc
all_from_end None true false c d e h = cc
all_from_end None true true false d e h = cc
all_from_end None true true true false e h = cc
all_from_end None true true true true false h = cc
all_from_end None true true true true true h = (refl, refl, refl, refl, refl, refl)

pub kept_from_none : (sc : Scenario) → broken_by sc ≡ None → AllKept sc
unfolding chain broken_by
kept_from_none sc h =
    let k = all_from_end _ _ _ _ _ _ h in record { plan = k.0; clocks = k.1; delays = k.2; starts = k.3; says = k.4; few = k.5 }
