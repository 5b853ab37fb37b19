-- Changes of each node that are alike.
use Rattle.std.proofs.Common.{◌≡◌, ℕ, suc, ◌+◌, List, [], ◌∷◌, refl, ap, sym, ◌∙◌, arith, Some, slice_get}
use Rattle.rb_base.specs.{Nodes.Side, Nodes.Side.{Biu, Rmu}}
use Rattle.rb_rules.specs.Book.{Each, map_each, map_from, of_kind}

pub each-is : {X : Type 0} (xs ys : Each X) → xs.bius ≡ ys.bius → xs.rmus ≡ ys.rmus → xs ≡ ys
each-is xs ys e f = ap (λ l. record xs { bius = l }) e ∙ ap (λ l. record ys { rmus = l }) f

from-alike : {X Y : Type 0} (f g : ℕ → X → Y) (i : ℕ) (xs : List X) → ((n : ℕ) (x : X) → slice_get xs n ≡ Some x → f (i + n) x ≡ g (i + n) x) → map_from i f xs ≡ map_from i g xs
from-alike f g i [] same = refl
from-alike f g i (x ∷ xs) same =
    let z : i + 0 ≡ i = omega arith in
    ap (λ y. y ∷ map_from (i + 1) f xs) (ap (λ k. f k x) (sym z) ∙ same 0 x refl ∙ ap (λ k. g k x) z)
    ∙ ap (λ l. g i x ∷ l)
    (from-alike f g (i + 1) xs (λ n y e. let s : i + 1 + n ≡ i + suc n = omega arith in ap (λ k. f k y) s ∙ same (suc n) y e ∙ ap (λ k. g k y) (sym s)))

-- two changes of each node are one if they are alike at the nodes that there are
pub each-alike : {X Y : Type 0} (f g : Side → ℕ → X → Y) (xs : Each X) → ((side : Side) (n : ℕ) (x : X) → slice_get (of_kind side xs) n ≡ Some x → f side n x ≡ g side n x)
    → map_each f xs ≡ map_each g xs
each-alike f g xs same =
    each-is (map_each f xs) (map_each g xs)
    (from-alike (f Biu) (g Biu) 0 xs.bius (λ n x e. let z : 0 + n ≡ n = omega arith in ap (λ k. f Biu k x) z ∙ same Biu n x e ∙ ap (λ k. g Biu k x) (sym z)))
    (from-alike (f Rmu) (g Rmu) 0 xs.rmus (λ n x e. let z : 0 + n ≡ n = omega arith in ap (λ k. f Rmu k x) z ∙ same Rmu n x e ∙ ap (λ k. g Rmu k x) (sym z)))
