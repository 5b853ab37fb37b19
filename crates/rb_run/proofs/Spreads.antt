-- The greatest difference of two numbers is that of the greatest and the least.
use Rattle.std.proofs.{Common.{◌≡◌, ℕ, ◌+◌, ◌-◌, ◌<◌, ◌≤◌, min, max, Some, List, [], ◌∷◌, ◌++◌, length, get_or, map, take, refl, sym, ap, ◌∙◌, subst, arith, slice_get}, lemmas.List.{take_all, take_more}}
use Rattle.std.specs.List.{flat_map}
use Rattle.rb_base.specs.declared.node.NodeName.TheVariants.{Biu}
use Rattle.rb_rules.specs.declared.record.NodeLine.{NodeLine}
use Rattle.rb_run.specs.Tallies.{differences_in, greatest}
use Rattle.rb_run.proofs.Numbers.{greatest-append}

-- the latest and the earliest of one time and the times of these lines
abbrev pub latest_of : ℕ → List NodeLine → ℕ
latest_of t [] = t
latest_of t (l ∷ ls) = max l.time (latest_of t ls)

abbrev pub earliest_of : ℕ → List NodeLine → ℕ
earliest_of t [] = t
earliest_of t (l ∷ ls) = min l.time (earliest_of t ls)

latest-more : (t : ℕ) (ls : List NodeLine) (l : NodeLine) → latest_of t (ls ++ l ∷ []) ≡ max l.time (latest_of t ls)
latest-more t [] l = refl
latest-more t (x ∷ ls) l = let rest = latest-more t ls l in omega (arith, rest)

earliest-more : (t : ℕ) (ls : List NodeLine) (l : NodeLine) → earliest_of t (ls ++ l ∷ []) ≡ min l.time (earliest_of t ls)
earliest-more t [] l = refl
earliest-more t (x ∷ ls) l = let rest = earliest-more t ls l in omega (arith, rest)

-- what a line reads as if there is none
abbrev pub no_line : NodeLine
no_line = record { node = Biu 0; tick = 0; time = 0; biu = 0; rmu = 0 }

pub latest-next : (t : ℕ) (ls : List NodeLine) (i : ℕ) → i < length ls → latest_of t (take (i + 1) ls) ≡ max (get_or ls i no_line).time (latest_of t (take i ls))
latest-next t ls i below = ap (latest_of t) (take_more ls i no_line below) ∙ latest-more t (take i ls) (get_or ls i no_line)

pub earliest-next : (t : ℕ) (ls : List NodeLine) (i : ℕ) → i < length ls → earliest_of t (take (i + 1) ls) ≡ min (get_or ls i no_line).time (earliest_of t (take i ls))
earliest-next t ls i below = ap (earliest_of t) (take_more ls i no_line below) ∙ earliest-more t (take i ls) (get_or ls i no_line)

-- how much later a time is than the earliest is the most that it is later than any of the times
later-than : (t first : ℕ) (ls : List NodeLine) → t - earliest_of first ls ≡ max (t - first) (greatest (map (λ l. t - l.time) ls))
later-than t first [] = omega arith
later-than t first (l ∷ ls) = let rest = later-than t first ls in omega (arith, rest)

later-than-all : (t : ℕ) (l : NodeLine) (ls : List NodeLine) → greatest (map (λ x. t - x.time) (l ∷ ls)) ≡ t - earliest_of l.time (l ∷ ls)
later-than-all t l ls = let e = later-than t l.time (l ∷ ls) in omega (arith, e)

-- the greatest difference of these lines' times and one more from `low` is that of the latest
rows : (low first : ℕ) (f : NodeLine → List ℕ) (ls : List NodeLine) → ((l : NodeLine) → greatest (f l) ≡ l.time - low)
    → latest_of first ls - low ≡ max (first - low) (greatest (flat_map f ls))
rows low first f [] each = omega arith
rows low first f (l ∷ ls) each =
    let rest = rows low first f ls each in
    let here = each l in
    let both = greatest-append (f l) (flat_map f ls) in
    omega (arith, rest, here, both)

-- the greatest difference in a block is that of its latest and its earliest time
pub spread-is : (l : NodeLine) (ls : List NodeLine) → greatest (differences_in (l ∷ ls)) ≡ latest_of l.time (l ∷ ls) - earliest_of l.time (l ∷ ls)
spread-is l ls =
    let low : ℕ = earliest_of l.time (l ∷ ls) in
    let f : NodeLine → List ℕ = λ later. map (λ earlier. later.time - earlier.time) (l ∷ ls) in
    let each : (x : NodeLine) → greatest (f x) ≡ x.time - low = λ x. later-than-all x.time l ls in
    let e = rows low l.time f (l ∷ ls) each in
    let here = each l in
    let both = greatest-append (f l) (flat_map f ls) in
    omega (arith, e, here, both)

spread-so : (l : NodeLine) (ls : List NodeLine) → Some l ≡ slice_get ls 0 → greatest (differences_in ls) ≡ latest_of l.time ls - earliest_of l.time ls
spread-so l [] is = absurd (cc)
spread-so l (x ∷ ls) is = let same : l ≡ x = cc in subst (λ (y : NodeLine). greatest (differences_in (x ∷ ls)) ≡ latest_of y.time (x ∷ ls) - earliest_of y.time (x ∷ ls)) (sym same) (spread-is x ls)

-- once all lines are read, the spread is the greatest difference of the block
pub spread-from : (l : NodeLine) (ls : List NodeLine) (i latest earliest : ℕ) → Some l ≡ slice_get ls 0 → length ls ≤ i
    → latest ≡ latest_of l.time (take i ls) → earliest ≡ earliest_of l.time (take i ls) → latest - earliest ≡ greatest (differences_in ls)
spread-from l ls i latest earliest first past late early =
    let all = take_all i ls past in
    let e = spread-so l ls first in
    let a = late ∙ ap (latest_of l.time) all in
    let b = early ∙ ap (earliest_of l.time) all in
    omega (arith, e, a, b)
