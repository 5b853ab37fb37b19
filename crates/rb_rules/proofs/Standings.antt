-- Who is accused, and who is not.
use Rattle.std.proofs.{Common.{◌≡◌, ℕ, ◌<◌, ◌^◌, Bool, true, false, not, ◌&&◌, ◌||◌, nat_le, Option, Some, None, is_some, refl, sym, ◌∙◌, ap}, lemmas.Bool.{and_right, or_right}}
use Rattle.rb_base.specs.{Nodes.has, declared.values.Heard.Heard}
use Rattle.rb_base.proofs.{Sets.{has-set_of, is_set_of}, Plain.or-false}
use Rattle.rb_rules.specs.{declared.sense.Sense.Sense, Standing.{Standing, is_eligible, taken_of, does_wrong, has_evidence, with_evidence, is_unlike, with_mismatch, lapses, standing_at_end, calm_after}}
use Rattle.rb_rules.proofs.Majorities.{same_heard_self}

-- if something unlike a value was taken, something was taken
pub unlike_is_taken : (value : Heard) (taken : Option Heard) → is_unlike value taken ≡ true → is_some taken ≡ true
unlike_is_taken value None h = h
unlike_is_taken value (Some v) h = refl

-- a value is not unlike itself
pub alike_is_not_unlike : (value : Heard) → is_unlike value (Some value) ≡ false
alike_is_not_unlike value = ap not (same_heard_self value)

-- nothing is taken from a source that is not expected
pub unexpected_not_taken : {X : Type 0} (part : Sense → Option X) (s : Standing) (expected : ℕ → Bool) (sense : ℕ → Sense) (j : ℕ)
    → expected j ≡ false → taken_of part s expected sense j ≡ None
unexpected_not_taken part s expected sense j h = rw h refl

-- from a source that is expected and eligible all that is wanted is taken
pub expected_is_taken : {X : Type 0} (part : Sense → Option X) (s : Standing) (expected : ℕ → Bool) (sense : ℕ → Sense) (j : ℕ)
    → expected j ≡ true → is_eligible s j ≡ true → taken_of part s expected sense j ≡ part (sense j)
expected_is_taken part s expected sense j h e = rw (h, e) refl

-- there is evidence against a trusted source that did wrong
pub wrong_is_evidence : (s : Standing) (expected : ℕ → Bool) (sense : ℕ → Sense) (j : ℕ)
    → has s.trusted j ≡ true → does_wrong (expected j) (sense j) ≡ true → has_evidence s expected sense j ≡ true
wrong_is_evidence s expected sense j t w = rw (t, w) refl

pub right_is_no_evidence : (s : Standing) (expected : ℕ → Bool) (sense : ℕ → Sense) (j : ℕ)
    → does_wrong (expected j) (sense j) ≡ false → has_evidence s expected sense j ≡ false
right_is_no_evidence s expected sense j r = and_right (has s.trusted j) (does_wrong (expected j) (sense j)) r

-- evidence accuses
pub evidence_accuses : (evidence : ℕ → Bool) (s : Standing) (j : ℕ) → j < 16 → evidence j ≡ true → has (with_evidence evidence s).direct j ≡ true
evidence_accuses evidence s j below h = has-set_of j (λ j. has s.direct j || evidence j) below ∙ or_right (has s.direct j) (evidence j) h

-- a node against which there is no evidence is accused directly if and only if it was before
pub others_stay : (evidence : ℕ → Bool) (s : Standing) (j : ℕ) → j < 16 → evidence j ≡ false → has (with_evidence evidence s).direct j ≡ has s.direct j
others_stay evidence s j below h =
    has-set_of j (λ j. has s.direct j || evidence j) below ∙ ap (λ c. has s.direct j || c) h ∙ or-false (has s.direct j)

-- a value that differs accuses by mismatch
pub mismatch_accuses : (differs : ℕ → Bool) (s : Standing) (j : ℕ) → j < 16 → differs j ≡ true → has (with_mismatch differs s).mismatch j ≡ true
mismatch_accuses differs s j below h = has-set_of j (λ j. has s.mismatch j || differs j) below ∙ or_right (has s.mismatch j) (differs j) h

-- a node of which nothing differed is accused by mismatch if and only if it was before
pub alike_stay : (differs : ℕ → Bool) (s : Standing) (j : ℕ) → j < 16 → differs j ≡ false → has (with_mismatch differs s).mismatch j ≡ has s.mismatch j
alike_stay differs s j below h =
    has-set_of j (λ j. has s.mismatch j || differs j) below ∙ ap (λ c. has s.mismatch j || c) h ∙ or-false (has s.mismatch j)

-- if the probation is 0, no accusation lapses
pub none_lapses : (s : Standing) (j : ℕ) → lapses 0 s j ≡ false
none_lapses s j =
    let go : (a b c : Bool) → (a && not b && false && c) ≡ false =
    λ a b c. elim a as (λ a. (a && not b && false && c) ≡ false) [
      | true ↦ elim b as (λ b. (true && not b && false && c) ≡ false) [ true ↦ refl | false ↦ refl ]
      | false ↦ refl
    ] in
    go (has s.direct j) (has s.fresh j) (nat_le 0 (calm_after s j))

-- if the probation is 0, the end of a frame leaves the direct accusations
pub accused_stay : (s : Standing) → s.direct < 2 ^ 16 → (standing_at_end 0 s).direct ≡ s.direct
accused_stay s fits =
    let and_true : (b : Bool) → b ≡ (b && true) = λ b. elim b as (λ b. b ≡ (b && true)) [ true ↦ refl | false ↦ refl ] in
    sym (is_set_of s.direct (λ j. has s.direct j && not (lapses 0 s j)) fits (λ j below.
    and_true (has s.direct j) ∙ ap (λ l. has s.direct j && not l) (sym (none_lapses s j))))
