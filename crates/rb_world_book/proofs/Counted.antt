-- The sources of which a node counts what was seen.
use Rattle.std.proofs.{Common.{◌≡◌, ℕ, ◌<◌, ◌≤◌, ◌&&◌, not, nat_lt, true, ◌∙◌, ap, arith}, lemmas.Bool.ltb-true}
use Rattle.rb_base.specs.Nodes.{has, set_of}
use Rattle.rb_world_book.specs.Waiting.{all_but}
use Rattle.rb_base.proofs.Sets.{has-is, same_set_of}

pub all_but_is : (count set first rest : ℕ) → first ≡ set_of (λ i. nat_lt i count) → rest ≡ set_of (λ i. has first i && not (has set i)) → rest ≡ all_but count set
all_but_is count set first rest first_is is =
    is ∙ same_set_of _ _ (λ j h. ap (λ b. b && not (has set j)) (has-is first j (λ i. nat_lt i count) first_is h))

-- all nodes are counted if none is left out
pub first_counted : (count first : ℕ) → count ≤ 16 → first ≡ set_of (λ i. nat_lt i count) → (j : ℕ) → nat_lt j count ≡ true → has first j ≡ true
first_counted count first few is j e = let below : j < count = ltb-true j count e in has-is first j (λ i. nat_lt i count) is (omega arith) ∙ e
