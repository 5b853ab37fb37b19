-- Tests that hold, and tests of which one holds.
use Rattle.std.proofs.{Common.{◌≡◌, ℕ, zero, suc, ◌+◌, ◌<◌, ◌≤◌, Bool, true, false, ◌||◌, List, [], ◌∷◌, get_or, Option, Some, None, is_some, slice_get, refl, ◌∙◌, ap, ◌⊎◌, inl, inr, arith, zero-add}, lemmas.Bool.or_cases, lemmas.List.Folds.list_any_at, lemmas.List.FromFn.get_or-range_with_len}
use Rattle.std.specs.List.{list_any, range_with_len}
use Rattle.rb_base.specs.Counting.{numbers}

pub true_or_false : (b : Bool) → (b ≡ true) ⊎ (b ≡ false)
true_or_false true = inl refl
true_or_false false = inr refl

pub or_neither_first : (a b : Bool) → (a || b) ≡ false → a ≡ false
or_neither_first true b h = h
or_neither_first false b h = refl

pub or_neither_second : (a b : Bool) → (a || b) ≡ false → b ≡ false
or_neither_second true b h = cc
or_neither_second false b h = h

-- Numbers that pass a test.

-- A number below 16 that passes.

pub passes_at : (p : ℕ → Bool) (i : ℕ) → i < 16 → p i ≡ true → list_any p (numbers 16) ≡ true
passes_at p i h pass =
    let at : get_or (numbers 16) i 0 ≡ i = get_or-range_with_len 0 16 i 0 h ∙ zero-add i in
    list_any_at p (numbers 16) i 0 h (ap p at ∙ pass)

-- a number of the `n` ones from `from` on passes
pub record Passing (p : ℕ → Bool) (from n : ℕ) : Type 0 where
  pub at : ℕ
  pub low : from ≤ at
  pub high : at < from + n
  pub passes : p at ≡ true

pub passing : (p : ℕ → Bool) (from n : ℕ) → list_any p (range_with_len from n) ≡ true → Passing p from n
passing p from zero h = cc
passing p from (suc n) h =
    elim (or_cases (p from) (list_any p (range_with_len (from + 1) n)) h) [
      | inl here ↦ record { at = from; low = omega arith; high = omega arith; passes = here }
      | inr later ↦
          let r : Passing p (from + 1) n = passing p (from + 1) n later in
          record { at = r.at; low = omega (arith, r.low); high = omega (arith, r.high); passes = r.passes }
    ]

-- What a list has at a number.

pub get-some : {X : Type 0} (xs : List X) (i : ℕ) (d : X) {x : X} → slice_get xs i ≡ Some x → get_or xs i d ≡ x
get-some [] i d h = cc
get-some (y ∷ ys) zero d h = cc
get-some (y ∷ ys) (suc i) d h = get-some ys i d h

-- the option has a value
pub record Present {X : Type 0} (o : Option X) : Type 0 where
  pub value : X
  pub is : o ≡ Some value

pub present_if : {X : Type 0} (o : Option X) → is_some o ≡ true → Present o
present_if None h = cc
present_if (Some x) h = record { value = x; is = refl }
