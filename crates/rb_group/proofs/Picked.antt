-- Values that are picked out of a list one after another.
use Rattle.std.proofs.{Common.{◌≡◌, ℕ, ◌+◌, ◌<◌, ◌≤◌, Option, Some, None, List, [], ◌∷◌, ◌++◌, length, take, get_or, sym, ◌∙◌, ap, arith, length-append}, lemmas.List.take_more, lemmas.List.Elements.filter_map-append}
use Rattle.std.specs.{List.cons_option, List.filter_map}

-- what is picked from one more item
pub picked_more : {X Y : Type 0} (pick : X → Option Y) (xs : List X) (i : ℕ) (d : X) (before after : List Y) → i < length xs
    → before ≡ filter_map pick (take i xs) → after ≡ before ++ filter_map pick (get_or xs i d ∷ []) → after ≡ filter_map pick (take (i + 1) xs)
picked_more pick xs i d before after inside held more =
    more
    ∙ ap (λ ys. ys ++ filter_map pick (get_or xs i d ∷ [])) held
    ∙ sym (filter_map-append pick (take i xs) (get_or xs i d ∷ []))
    ∙ ap (filter_map pick) (sym (take_more xs i d inside))

few_of : {Y : Type 0} (o : Option Y) (before after : List Y) (i : ℕ) → length before ≤ i → after ≡ before ++ cons_option o [] → length after ≤ i + 1
few_of None before after i few more = let n : length after ≡ length before + 0 = ap length more ∙ length-append before [] in omega arith
few_of (Some y) before after i few more = let n : length after ≡ length before + 1 = ap length more ∙ length-append before (y ∷ []) in omega arith

pub few_more : {X Y : Type 0} (pick : X → Option Y) (x : X) (before after : List Y) (i : ℕ) → length before ≤ i
    → after ≡ before ++ filter_map pick (x ∷ []) → length after ≤ i + 1
few_more pick x before after i few more = few_of (pick x) before after i few more
