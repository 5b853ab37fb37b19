-- What came of one source, in the inbox and with its times.
use Rattle.std.proofs.{Common.{◌≡◌, ℕ, suc, ◌<◌, ◌==◌, Bool, true, false, cond, List, [], ◌∷◌, ◌++◌, filter, length, map, get_or, refl, sym, ◌∙◌, ap, subst, arith}, lemmas.Bool.Decides.nat_tests, lemmas.List.{get_or-set_other, get_or-set_same}}
use Rattle.std.specs.Prelude.{slice_index, slice_set}
use Rattle.rb_base.specs.{declared.values.See.See, declared.values.See.TheVariants.{Nothing, Value, Time}}
use Rattle.rb_rules.specs.{declared.closing.Closed.Closed, Core.of_source, ExactStage.each_node, Hearing.{Coming, judged_see, sole_time}, Sense.Arrival, WorldStep.coming_from}
use Rattle.rb_rules.proofs.ExactStages.{same_each_node}
use Rattle.rb_world.specs.{Sites.{ComeTogether, HoldsTimes}, Tells.sees_at}
use Rattle.rb_world.proofs.Closing.{ShowsTime}

-- How many came of a source.

abbrev count_of_source : ℕ → List ℕ → ℕ
count_of_source j [] = 0
count_of_source j (k ∷ ks) = cond (k == j) (suc (count_of_source j ks)) (count_of_source j ks)

count-inbox : (j : ℕ) (inbox : List (ℕ × Arrival)) → length (of_source inbox j) ≡ count_of_source j (map (λ (a : ℕ × Arrival). a.0) inbox)
count-inbox j [] = refl
count-inbox j (a ∷ rest) = by (a.0 == j) (count-inbox j rest)
  where
    by : (b : Bool) → length (of_source rest j) ≡ count_of_source j (map (λ (a : ℕ × Arrival). a.0) rest)
        → length (map (λ (a : ℕ × Arrival). a.1) (cond b (a ∷ filter (λ (a : ℕ × Arrival). a.0 == j) rest) (filter (λ (a : ℕ × Arrival). a.0 == j) rest)))
        ≡ cond b (suc (count_of_source j (map (λ (a : ℕ × Arrival). a.0) rest))) (count_of_source j (map (λ (a : ℕ × Arrival). a.0) rest))
    by true e = ap suc e
    by false e = e

count-got : (j : ℕ) (got : List Coming) → length (coming_from got j) ≡ count_of_source j (map (λ (c : Coming). c.from) got)
count-got j [] = refl
count-got j (c ∷ rest) = by (c.from == j) (count-got j rest)
  where
    by : (b : Bool) → length (coming_from rest j) ≡ count_of_source j (map (λ (c : Coming). c.from) rest)
        → length (cond b (c ∷ coming_from rest j) (coming_from rest j))
        ≡ cond b (suc (count_of_source j (map (λ (c : Coming). c.from) rest))) (count_of_source j (map (λ (c : Coming). c.from) rest))
    by true e = ap suc e
    by false e = e

one-long : (xs : List Coming) → length xs ≡ 1 → (c : Coming) × (xs ≡ c ∷ [])
one-long [] e = absurd (omega (arith, e))
one-long (c ∷ []) e = (c, refl)
one-long (c ∷ (d ∷ others)) e = absurd (omega (arith, e))

-- a sole arrival in the inbox is the sole one that was got
pub sole-got : (inbox : List (ℕ × Arrival)) (got : List Coming) (j : ℕ) → ComeTogether inbox got → (a : Arrival) → of_source inbox j ≡ a ∷ []
    → (c : Coming) × (coming_from got j ≡ c ∷ [])
sole-got inbox got j together a e =
    one-long (coming_from got j) (count-got j got ∙ ap (count_of_source j) (sym together) ∙ sym (count-inbox j inbox) ∙ ap length e)

-- The times kept.

-- if times are shown only for sources with one message, the kept times are those of what was got
see-same : (times : List ℕ) (got : List Coming) (j : ℕ) (see : See)
    → ((stamp : ℕ) → see ≡ Time stamp → (c : Coming) × ((coming_from got j ≡ c ∷ []) × (slice_index times j ≡ c.time)))
    → judged_see (sole_time (coming_from got j)) see ≡ judged_see (slice_index times j) see
see-same times got j Nothing sole = refl
see-same times got j (Value v) sole = refl
see-same times got j (Time stamp) sole =
    let c = sole stamp refl in
    ap (λ t. Time t) (ap sole_time c.1.0 ∙ sym c.1.1)

pub sees-same : (times : List ℕ) (inbox : List (ℕ × Arrival)) (got : List Coming) (shown : Closed) → ComeTogether inbox got → HoldsTimes times got
    → ((j stamp : ℕ) → j < 16 → ShowsTime shown j stamp → (a : Arrival) × (of_source inbox j ≡ a ∷ []))
    → each_node (λ j. judged_see (sole_time (coming_from got j)) (get_or shown.sees j Nothing)) ≡ sees_at times shown
sees-same times inbox got shown together holds sole =
    same_each_node (λ j. judged_see (sole_time (coming_from got j)) (get_or shown.sees j Nothing))
    (λ j. judged_see (slice_index times j) (get_or shown.sees j Nothing))
    (λ j h. see-same times got j (get_or shown.sees j Nothing)
    (λ stamp e.
    let a = sole j stamp h e in
    let c = sole-got inbox got j together a.0 a.1 in
    (c.0, (c.1, holds j h c.0 c.1))))

-- One more comes.

pub together-more : (inbox : List (ℕ × Arrival)) (got : List Coming) (a : ℕ × Arrival) (c : Coming) → a.0 ≡ c.from → ComeTogether inbox got
    → ComeTogether (inbox ++ a ∷ []) (got ++ c ∷ [])
together-more inbox got a c e h =
    map-end (λ (a : ℕ × Arrival). a.0) inbox a ∙ ap (λ xs. xs ++ a.0 ∷ []) h ∙ ap (λ n. map (λ (c : Coming). c.from) got ++ n ∷ []) e
    ∙ sym (map-end (λ (c : Coming). c.from) got c)
  where
    map-end : {X : Type 0} (f : X → ℕ) (xs : List X) (x : X) → map f (xs ++ x ∷ []) ≡ map f xs ++ f x ∷ []
    map-end f [] x = refl
    map-end f (y ∷ ys) x = ap (λ rest. f y ∷ rest) (map-end f ys x)

from-end : (got : List Coming) (c : Coming) (j : ℕ) → coming_from (got ++ c ∷ []) j ≡ coming_from got j ++ coming_from (c ∷ []) j
from-end [] c j = refl
from-end (d ∷ got) c j = by (d.from == j) (from-end got c j)
  where
    by : (b : Bool) → coming_from (got ++ c ∷ []) j ≡ coming_from got j ++ coming_from (c ∷ []) j
        → cond b (d ∷ coming_from (got ++ c ∷ []) j) (coming_from (got ++ c ∷ []) j) ≡ cond b (d ∷ coming_from got j) (coming_from got j) ++ coming_from (c ∷ []) j
    by true e = ap (λ rest. d ∷ rest) e
    by false e = e

end-sole : (xs : List Coming) (c d : Coming) → xs ++ c ∷ [] ≡ d ∷ [] → c ≡ d
end-sole [] c d e = cc
end-sole (x ∷ []) c d e = absurd (cc)
end-sole (x ∷ (y ∷ xs)) c d e = absurd (cc)

no-end : (xs : List Coming) → xs ++ [] ≡ xs
no-end [] = refl
no-end (x ∷ xs) = ap (λ rest. x ∷ rest) (no-end xs)

-- the time of what came last is the one kept
pub times-more : (times : List ℕ) (got : List Coming) (c : Coming) → length times ≡ 16 → HoldsTimes times got
    → HoldsTimes (slice_set times c.from c.time) (got ++ c ∷ [])
times-more times got c all holds j h d sole = by (c.from == j) refl (sym (from-end got c j) ∙ sole)
  where
    by : (b : Bool) → (c.from == j) ≡ b → coming_from got j ++ cond b (c ∷ []) [] ≡ d ∷ [] → slice_index (slice_set times c.from c.time) j ≡ d.time
    by true e s =
        let same : j ≡ c.from = grind (arith, nat_tests) in
        let inside : j < length times = omega (arith, all) in
        subst (λ k. slice_index (slice_set times k c.time) j ≡ d.time) same
        (get_or-set_same times j c.time 0 inside ∙ ap (λ (x : Coming). x.time) (end-sole (coming_from got j) c d s))
    by false e s =
        get_or-set_other times c.from j c.time 0 (λ same. let yes : (c.from == j) ≡ true = grind (arith, nat_tests) in absurd (cc))
        ∙ holds j h d (sym (no-end (coming_from got j)) ∙ s)
