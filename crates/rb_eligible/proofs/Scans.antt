-- A walk over the nodes of a set: what is left of it, which of the others passed, and what was
-- written down of them.
use Rattle.std.proofs.Common.{◌≡◌, ℕ, ◌<◌, Bool, true, false, not, ◌&&◌, ◌==◌, set, refl, sym, ◌∙◌, ap}
use Rattle.rb_base.specs.Nodes.{has, set_of}
use Rattle.rb_base.proofs.Sets.{has-is}

-- after one more node all that is left is still to be done
pub within_next : (todo : ℕ → Bool) (left left' k : ℕ) → ((j : ℕ) → j < 16 → has left' j ≡ (has left j && not (j == k))) → ((j : ℕ) → j < 16 → has left j ≡ true → todo j ≡ true)
    → (j : ℕ) → j < 16 → has left' j ≡ true → todo j ≡ true
within_next todo left left' k removed within j h inside =
    let both : (has left j && not (j == k)) ≡ true = sym (removed j h) ∙ inside in
    within j h (first (has left j) (not (j == k)) both)
  where
    first : (a b : Bool) → (a && b) ≡ true → a ≡ true
    first true b e = refl
    first false b e = e

-- `set & those` has the nodes of `set` that pass, if `those` has all nodes that pass
pub common_has : (set those left j : ℕ) (p : ℕ → Bool) → left ≡ set_of (λ i. has set i && has those i) → those ≡ set_of p → j < 16 → has left j ≡ (has set j && p j)
common_has set those left j p is those_are h = has-is left j (λ i. has set i && has those i) is h ∙ ap (λ b. has set j && b) (has-is those j p those_are h)
