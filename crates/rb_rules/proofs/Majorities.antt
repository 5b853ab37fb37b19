-- More than half of the values.
use Rattle.std.proofs.{Common.{◌≡◌, ◌+◌, ◌*◌, ◌<◌, ◌≤◌, ◌⊎◌, Bool, true, false, cond, List, [], ◌∷◌, length, nat_lt, refl, sym, ◌∙◌, ap, arith, inl, inr, if◌then◌else◌}, lemmas.List.Elements.All-weaker, lemmas.Bool.Decides.nat_tests}
use Rattle.std.specs.Prelude.{All}
use Rattle.rb_base.specs.{declared.values.Heard.Heard, declared.values.Heard.TheVariants.{Word, Fault}}
use Rattle.rb_rules.specs.Majority.{same_heard, times, IsMajority, winner_among, majority_of}
use Rattle.rb_base.proofs.Counts.{count_if-all, count_if-apart}

pub same_heard-is : (v w : Heard) → same_heard v w ≡ true → v ≡ w
same_heard-is (Word a) (Word b) h = let e : a ≡ b = grind (arith, nat_tests) in ap (λ n. Word n) e
same_heard-is (Word a) Fault h = cc
same_heard-is Fault (Word b) h = cc
same_heard-is Fault Fault h = refl

pub same_heard_self : (v : Heard) → same_heard v v ≡ true
same_heard_self (Word a) = grind (arith, nat_tests)
same_heard_self Fault = refl

-- what equals one of two values that differ is not the other
apart : (v w : Heard) → same_heard v w ≡ false → (x : Heard) → same_heard v x ≡ true → same_heard w x ≡ false
apart v w differ x is =
    let go : (b : Bool) → same_heard w x ≡ b → b ≡ false =
    λ b. elim b as (λ b. same_heard w x ≡ b → b ≡ false) [
      | true ↦ λ e.
          let same : w ≡ v = same_heard-is w x e ∙ sym (same_heard-is v x is) in
          let self : same_heard v w ≡ true = ap (λ u. same_heard v u) same ∙ same_heard_self v in
          cc
      | false ↦ λ e. refl
    ] in
    go (same_heard w x) refl

-- two values that differ stand in a list no more often than it has items
pub times_apart : (v w : Heard) (values : List Heard) → same_heard v w ≡ false → times v values + times w values ≤ length values
times_apart v w values differ = count_if-apart (same_heard v) (same_heard w) (apart v w differ) values

-- at most one value is held by more than half
pub one_majority : (v w : Heard) (values : List Heard) → IsMajority v values → IsMajority w values → v ≡ w
one_majority v w values most_v most_w =
    let go : (b : Bool) → same_heard v w ≡ b → v ≡ w =
    λ b. elim b as (λ b. same_heard v w ≡ b → v ≡ w) [
      | true ↦ λ e. same_heard-is v w e
      | false ↦ λ e. absurd (omega (arith, most_v, most_w, times_apart v w values e))
    ] in
    go (same_heard v w) refl

-- the winner among some candidates is a majority or Fault
winner_cases : (values candidates : List Heard) → IsMajority (winner_among values candidates) values ⊎ (winner_among values candidates ≡ Fault)
winner_cases values [] = inr refl
winner_cases values (x ∷ xs) =
    let go : (b : Bool) → nat_lt (length values) (2 * times x values) ≡ b
    → IsMajority (if b then x else winner_among values xs) values ⊎ ((if b then x else winner_among values xs) ≡ Fault) =
    λ b. elim b as (λ b. nat_lt (length values) (2 * times x values) ≡ b → IsMajority (if b then x else winner_among values xs) values ⊎ ((if b then x else winner_among values xs) ≡ Fault)) [
      | true ↦ λ e. let most : length values < 2 * times x values = grind (arith, nat_tests) in inl most
      | false ↦ λ e. winner_cases values xs
    ] in
    go (nat_lt (length values) (2 * times x values)) refl

-- the majority is held by more than half, or it is Fault
pub majority_cases : (values : List Heard) → IsMajority (majority_of values) values ⊎ (majority_of values ≡ Fault)
majority_cases values = winner_cases values values

-- if no value is held by more than half, the majority is Fault
pub no_majority : (values : List Heard) → ((v : Heard) → ¬ IsMajority v values) → majority_of values ≡ Fault
no_majority values none = elim (majority_cases values) [ inl most ↦ absurd (none (majority_of values) most) | inr is ↦ is ]

-- a value held by more than half wins among candidates that have it
found : (v : Heard) (values candidates : List Heard) → IsMajority v values → 0 < times v candidates → winner_among values candidates ≡ v
found v values [] most here = absurd (omega arith)
found v values (x ∷ xs) most here =
    let go : (b : Bool) → nat_lt (length values) (2 * times x values) ≡ b → (if b then x else winner_among values xs) ≡ v =
    λ b. elim b as (λ b. nat_lt (length values) (2 * times x values) ≡ b → (if b then x else winner_among values xs) ≡ v) [
      | true ↦ λ e. let more : length values < 2 * times x values = grind (arith, nat_tests) in one_majority x v values more most
      | false ↦ λ e.
          let few : 2 * times x values ≤ length values = grind (arith, nat_tests) in
          let by : (c : Bool) → same_heard v x ≡ c → 0 < cond c 1 0 + times v xs → winner_among values xs ≡ v =
          λ c. elim c as (λ c. same_heard v x ≡ c → 0 < cond c 1 0 + times v xs → winner_among values xs ≡ v) [
            | true ↦ λ q h. absurd (let same : times v values ≡ times x values = ap (λ u. times u values) (same_heard-is v x q) in omega (arith, most, few, same))
            | false ↦ λ q h. found v values xs most (omega arith)
          ] in
          by (same_heard v x) refl here
    ] in
    go (nat_lt (length values) (2 * times x values)) refl

-- a value held by more than half is the majority
pub majority_is : (v : Heard) (values : List Heard) → IsMajority v values → majority_of values ≡ v
majority_is v values most = found v values values most (omega arith)

-- copies of one value, one at least, have it as their majority
pub majority_of_same : (w : Heard) (values : List Heard) → 0 < length values → All (λ v. v ≡ w) values → majority_of values ≡ w
majority_of_same w values some all =
    let each : All (λ v. same_heard w v ≡ true) values =
    All-weaker (λ v. v ≡ w) (λ v. same_heard w v ≡ true) (λ v e. ap (λ u. same_heard w u) e ∙ same_heard_self w) values all in
    majority_is w values (omega (arith, some, count_if-all (same_heard w) values each))
