-- How many nodes pass a test.
use Rattle.std.proofs.Common.{◌≡◌, ℕ, ◌<◌, ◌≤◌, Bool, true, refl, sym, ◌∙◌, inl, inr, arith}
use Rattle.std.specs.List.{list_any}
use Rattle.rb_base.specs.{Counting.numbers, Nodes.{set_of, size}}
use Rattle.rb_base.proofs.{Sets.has-set_of, SetSizes.{size_none, size_within}}
use Rattle.rb_laws_agreement.proofs.Tests.{true_or_false, passes_at, Passing, passing}

-- how many of the nodes pass
unfoldable pub how_many : (ℕ → Bool) → ℕ
how_many p = size (set_of p)

pub how_many-is : (p : ℕ → Bool) → how_many p ≡ size (set_of p)
unfolding how_many
how_many-is p = refl

-- if what passes `p` passes `q`, at most as many pass `p` as `q`
pub how_many-le : (p q : ℕ → Bool) → ((i : ℕ) → i < 16 → p i ≡ true → q i ≡ true) → how_many p ≤ how_many q
unfolding how_many
how_many-le p q gives =
    size_within (set_of p) (set_of q) (λ i below is. has-set_of i q below ∙ gives i below (sym (has-set_of i p below) ∙ is))

-- if some number passes, one can be named
pub one_of_many : (p : ℕ → Bool) → 0 < how_many p → Passing p 0 16
unfolding how_many
one_of_many p some =
    elim (true_or_false (list_any p (numbers 16))) [
      | inl is ↦ passing p 0 16 is
      | inr none ↦
          let few : size (set_of p) ≤ size 0 =
          size_within (set_of p) 0 (λ i below is. let pass : list_any p (numbers 16) ≡ true = passes_at p i below (sym (has-set_of i p below) ∙ is) in cc) in
          absurd (omega (arith, some, few, size_none))
    ]
