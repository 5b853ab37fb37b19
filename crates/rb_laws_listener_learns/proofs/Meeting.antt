-- Two sets of more than half of all RMUs have one in common.
use Rattle.std.proofs.{Common.{◌≡◌, ℕ, ◌+◌, ◌*◌, ◌<◌, ◌≤◌, ◌&&◌, nat_lt, true, false, sym, ◌∙◌, inl, inr, arith}, lemmas.Bool.{and_from, false_from_ne_true, lt-ltb, ltb-true}}
use Rattle.std.specs.List.{list_any}
use Rattle.rb_base.specs.{Counting.numbers, Nodes.{has, set_of, size}, Sizes.Sizes}
use Rattle.rb_base.proofs.{Sets.has-set_of, SetSizes.{size_apart, size_first}}
use Rattle.rb_listen.specs.Passes.{are_most}
use Rattle.rb_laws_agreement.proofs.Tests.{Passing, passes_at, passing, true_or_false}

-- the nodes of the set are RMUs of the bus
abbrev pub AreRmus : Sizes → ℕ → Type 0
AreRmus sizes set = (j : ℕ) → j < 16 → has set j ≡ true → j < sizes.rmus

pub meet : (sizes : Sizes) (s t : ℕ) → sizes.rmus ≤ 16 → AreRmus sizes s → AreRmus sizes t → are_most sizes s ≡ true → are_most sizes t ≡ true
    → Passing (λ j. has s j && has t j) 0 16
meet sizes s t few in_s in_t most_s most_t =
    elim (true_or_false (list_any (λ j. has s j && has t j) (numbers 16))) [
      | inl is ↦ passing (λ j. has s j && has t j) 0 16 is
      | inr none ↦
          let total : size all ≡ sizes.rmus = size_first sizes.rmus few in
          let half_s : sizes.rmus < 2 * size s = ltb-true sizes.rmus (2 * size s) most_s in
          let half_t : sizes.rmus < 2 * size t = ltb-true sizes.rmus (2 * size t) most_t in
          let apart : size s + size t ≤ size all = size_apart all s t (within s in_s) (within t in_t) (λ j below is. other none j below is) in
          absurd (omega (arith, total, half_s, half_t, apart))
    ]
  where
    all : ℕ
    all = set_of (λ i. nat_lt i sizes.rmus)

    within : (set : ℕ) → AreRmus sizes set → (j : ℕ) → j < 16 → has set j ≡ true → has all j ≡ true
    within set are j below is = has-set_of j (λ i. nat_lt i sizes.rmus) below ∙ lt-ltb j sizes.rmus (are j below is)

    other : list_any (λ j. has s j && has t j) (numbers 16) ≡ false → (j : ℕ) → j < 16 → has s j ≡ true → has t j ≡ false
    other none j below is =
        false_from_ne_true (has t j) (λ too.
        let found : list_any (λ j. has s j && has t j) (numbers 16) ≡ true =
        passes_at (λ j. has s j && has t j) j below (and_from (has s j) (has t j) is too) in
        let both : true ≡ false = sym found ∙ none in cc)
