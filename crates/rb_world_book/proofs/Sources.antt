-- What good receivers told of the sources in a stage, and what is noted of it.
use Rattle.std.proofs.{Common.{◌≡◌, ℕ, zero, suc, ◌+◌, ◌<◌, ◌≤◌, ◌&&◌, not, nat_lt, Bool, true, false, List, [], ◌∷◌, length, take, get_or, Option, Some, None, refl, sym, ◌∙◌, ap, arith, if◌then◌else◌}, lemmas.Bool.Decides.nat_tests, lemmas.List.{get_or-take, length-take}, lemmas.List.FromFn.get_or-map-range_with_len}
use Rattle.std.specs.Prelude.{is_some}
use Rattle.rb_base.specs.{Nodes.has, declared.values.Place.Place, declared.values.See.See, declared.values.See.TheVariants.Nothing}
use Rattle.rb_base.proofs.Sets.{has-set_of, has_none}
use Rattle.rb_rules.specs.{Book.{Row, map_from, see_in}, ExactStage.each_node, Judging.{are_alike, is_something}, WorldStep.{row_for, same_place}}
use Rattle.rb_judge.specs.Sights.{some_node}
use Rattle.rb_judge.proofs.SomeNode.{some_none, some_same}
use Rattle.rb_world_book.specs.{declared.milestone.Milestone.TheVariants.Stage, declared.told.Told.Told, Telling.{has_told, latest_seeing, no_told, row_seeing, see_of, told_at}, Waiting.{row_saw, some_good, waiting_for, was_taken, was_unlike}}

-- Good receivers.

-- if two tests agree at the good nodes, some good node passes the one if some passes the other
pub same-good : (count good : ℕ) (p q : ℕ → Bool) → ((i : ℕ) → i < 16 → has good i ≡ true → nat_lt i count ≡ true)
    → ((i : ℕ) → i < 16 → has good i ≡ true → p i ≡ q i) → some_node (λ i. has good i && p i) ≡ some_good count good q
unfolding some_good
same-good count good p q there same = some_same _ _ (λ i h. by i h (has good i) refl)
  where
    by : (i : ℕ) → i < 16 → (b : Bool) → has good i ≡ b → (b && p i) ≡ (nat_lt i count && (b && q i))
    by i h true e = same i h e ∙ sym (ap (λ c. c && (true && q i)) (there i h e))
    by i h false e = none (nat_lt i count)
      where
        none : (c : Bool) → false ≡ (c && false)
        none true = refl
        none false = refl

none-good : (good : ℕ) (p : ℕ → Bool) → ((i : ℕ) → i < 16 → has good i ≡ true → p i ≡ false) → some_node (λ i. has good i && p i) ≡ false
none-good good p none = some_none _ (λ i h. by i h (has good i) refl)
  where
    by : (i : ℕ) → i < 16 → (b : Bool) → has good i ≡ b → (b && p i) ≡ false
    by i h true e = none i h e
    by i h false e = refl

-- What was seen of a source, by what its good receivers saw.

pub saw-nothing : (good : ℕ) (sight : ℕ → See) → ((i : ℕ) → i < 16 → has good i ≡ true → sight i ≡ Nothing)
    → some_node (λ i. has good i && is_something (sight i)) ≡ false
saw-nothing good sight none = none-good good (λ i. is_something (sight i)) (λ i h e. ap is_something (none i h e))

pub saw-nothing-unlike : (eps good : ℕ) (sight : ℕ → See) → ((i : ℕ) → i < 16 → has good i ≡ true → sight i ≡ Nothing)
    → some_node (λ a. has good a && some_node (λ b. has good b && not (are_alike eps (sight a) (sight b)))) ≡ false
saw-nothing-unlike eps good sight none =
    none-good good _ (λ a ha ea. none-good good _ (λ b hb eb. ap (λ x. not (are_alike eps x (sight b))) (none a ha ea) ∙ ap (λ y. not (are_alike eps Nothing y)) (none b hb eb)))

pub saw-same : (count good : ℕ) (sight seen : ℕ → See) → ((i : ℕ) → i < 16 → has good i ≡ true → nat_lt i count ≡ true)
    → ((i : ℕ) → i < 16 → has good i ≡ true → sight i ≡ seen i)
    → some_node (λ i. has good i && is_something (sight i)) ≡ some_good count good (λ i. is_something (seen i))
saw-same count good sight seen there same = same-good count good _ _ there (λ i h e. ap is_something (same i h e))

pub saw-same-unlike : (eps count good : ℕ) (sight seen : ℕ → See) → ((i : ℕ) → i < 16 → has good i ≡ true → nat_lt i count ≡ true)
    → ((i : ℕ) → i < 16 → has good i ≡ true → sight i ≡ seen i)
    → some_node (λ a. has good a && some_node (λ b. has good b && not (are_alike eps (sight a) (sight b))))
    ≡ some_good count good (λ a. some_good count good (λ b. not (are_alike eps (seen a) (seen b))))
saw-same-unlike eps count good sight seen there same =
    same-good count good _ _ there (λ a ha ea. same-good count good _ _ there (λ b hb eb.
    ap (λ x. not (are_alike eps x (sight b))) (same a ha ea) ∙ ap (λ y. not (are_alike eps (seen a) y)) (same b hb eb)))

-- A good receiver that has told.

get-node : (f : ℕ → See) (j : ℕ) → j < 16 → get_or (each_node f) j Nothing ≡ f j
get-node f j h = get_or-map-range_with_len f 0 16 j j Nothing h (let e : 0 + j ≡ j = omega arith in e)

-- item `i` of the rows is that of node `i`
row-item : (k : ℕ) (f : ℕ → Told → Option Row) (xs : List Told) (i : ℕ) → i < length xs → get_or (map_from k f xs) i None ≡ f (k + i) (told_at xs i)
row-item k f [] i h = absurd (omega arith)
row-item k f (x ∷ xs) zero h = let e : k ≡ k + 0 = omega arith in ap (λ n. f n x) e
row-item k f (x ∷ xs) (suc i) h =
    let e : k + 1 + i ≡ k + suc i = omega arith in
    row-item (k + 1) f xs i (omega arith) ∙ ap (λ n. f n (told_at xs i)) e

told-row : (place : Place) (saw : ℕ → See) (t : Told) → has_told (Stage place) t ≡ true → row_for place (row_seeing saw t) ≡ Some (latest_seeing saw t)
told-row place saw t e = by t.has_closed e
  where
    same : (b : Bool) → is_some (elim b as (λ _. Option Row) [ true ↦ Some (latest_seeing (see_of t) t) | false ↦ None ]) ≡ true
        → (elim b as (λ _. Option Row) [ true ↦ Some (latest_seeing saw t) | false ↦ None ]) ≡ Some (latest_seeing saw t)
    same true e = refl
    same false e = absurd (cc)

    by : (b : Bool) → is_some (row_for place (if b then Some (latest_seeing (see_of t) t) else None)) ≡ true
        → row_for place (if b then Some (latest_seeing saw t) else None) ≡ Some (latest_seeing saw t)
    by false e = absurd (cc)
    by true e = same (same_place t.place place) e

-- a node that has told of a stage has told of its place
pub told-there : (place : Place) (t : Told) → has_told (Stage place) t ≡ true → same_place t.place place ≡ true
told-there place t e = by t.has_closed e
  where
    same : (b : Bool) → is_some (elim b as (λ _. Option Row) [ true ↦ Some (latest_seeing (see_of t) t) | false ↦ None ]) ≡ true → b ≡ true
    same true e = refl
    same false e = absurd (cc)

    by : (b : Bool) → is_some (row_for place (if b then Some (latest_seeing (see_of t) t) else None)) ≡ true → same_place t.place place ≡ true
    by false e = absurd (cc)
    by true e = same (same_place t.place place) e

in-list : (place : Place) (told : List Told) (i : ℕ) → has_told (Stage place) (told_at told i) ≡ true → i < length told
in-list place [] i e = absurd (cc)
in-list place (t ∷ told) zero e = omega arith
in-list place (t ∷ told) (suc i) e = let h : i < length told = in-list place told i e in omega arith

-- what a good receiver saw is the same in the definitions and in what is kept
pub saw : (seen : ℕ → ℕ → See) (good count : ℕ) (place : Place) (told : List Told) (i j : ℕ) → j < 16 → nat_lt i count ≡ true → has good i ≡ true → has_told (Stage place) (told_at told i) ≡ true
    → see_in (get_or (map_from 0 (row_saw seen good place) (take count told)) i None) j ≡ seen i j
saw seen good count place told i j hj within e told_it =
    let there : i < length told = in-list place told i told_it in
    let below : i < count = grind (arith, nat_tests) in
    let inside : i < length (take count told) = omega (arith, length-take count told) in
    let start : 0 + i ≡ i = omega arith in
    ap (λ r. see_in r j)
    (row-item 0 (row_saw seen good place) (take count told) i inside
    ∙ ap (λ n. row_saw seen good place n (told_at (take count told) i)) start
    ∙ ap (row_saw seen good place i) (get_or-take count told i no_told below)
    ∙ ap (λ b. let o : Option Row = elim b [ true ↦ row_for place (row_seeing (seen i) (told_at told i)) | false ↦ None ] in o) e
    ∙ told-row place (seen i) (told_at told i) told_it)
    ∙ get-node (seen i) j hj

-- if nobody is awaited, each good node has told
pub has-told : (count good : ℕ) (place : Place) (told : List Told) (i : ℕ) → waiting_for count good (Stage place) told ≡ 0 → i < 16 → nat_lt i count ≡ true → has good i ≡ true
    → has_told (Stage place) (told_at told i) ≡ true
unfolding waiting_for
has-told count good place told i none h within e =
    let p : ℕ → Bool = λ i. nat_lt i count && (has good i && not (has_told (Stage place) (told_at told i))) in
    let out : p i ≡ false = sym (has-set_of i p h) ∙ ap (λ s. has s i) none ∙ has_none i in
    by (nat_lt i count) (has good i) (has_told (Stage place) (told_at told i)) within e out
  where
    by : (a b c : Bool) → a ≡ true → b ≡ true → (a && (b && not c)) ≡ false → c ≡ true
    by a b true ha hb o = refl
    by true true false ha hb o = absurd (cc)
    by true false false ha hb o = absurd (cc)
    by false b false ha hb o = absurd (cc)

-- A source, whether it is good to the end of the frame, and what its receivers saw.

-- what is kept of the good receivers of a source is what they told and saw
pub record HaveSeen (seen : ℕ → ℕ → See) (lasts : Bool) (place : Place) (sources count good : ℕ) (told : List Told) (j : ℕ) : Type 0 where
  pub there : (i : ℕ) → i < 16 → has good i ≡ true → nat_lt i count ≡ true
  pub told_it : (i : ℕ) → i < 16 → has good i ≡ true → has_told (Stage place) (told_at told i) ≡ true
  pub nobody : (i : ℕ) → sources ≤ j → get_or (told_at told i).sees j Nothing ≡ Nothing
  pub sights : (i : ℕ) → i < 16 → has good i ≡ true → lasts ≡ false → seen i j ≡ see_of (told_at told i) j

abbrev pub judged_sight : Bool → List (Option Row) → ℕ → ℕ → See
judged_sight lasts rows j i = elim lasts [ true ↦ Nothing | false ↦ see_in (get_or rows i None) j ]

unfoldable pub both_kept : (seen : ℕ → ℕ → See) (place : Place) (sources count good : ℕ) (told : List Told) (lasts : Bool) (eps j : ℕ) → Type 0
both_kept seen place sources count good told lasts eps j =
    (some_node (λ i. has good i && is_something (judged_sight lasts (map_from 0 (row_saw seen good place) (take count told)) j i))
    ≡ (nat_lt j sources && (not lasts && was_taken count good told j)))
    × (some_node (λ a. has good a && some_node (λ b. has good b && not (are_alike eps
    (judged_sight lasts (map_from 0 (row_saw seen good place) (take count told)) j a) (judged_sight lasts (map_from 0 (row_saw seen good place) (take count told)) j b))))
    ≡ (nat_lt j sources && (not lasts && was_unlike eps count good told j)))

and-out : (a b : Bool) → a ≡ false → false ≡ (a && b)
and-out a b e = rw e refl

and-none : (a : Bool) → false ≡ (a && false)
and-none true = refl
and-none false = refl

and-all : (a b : Bool) → a ≡ true → b ≡ (a && (true && b))
and-all a b e = rw e refl

pub kept : (saw_it : ℕ → ℕ → See) (place : Place) (sources count good : ℕ) (told : List Told) (lasts : Bool) (eps j : ℕ) → j < 16
    → HaveSeen saw_it lasts place sources count good told j → both_kept saw_it place sources count good told lasts eps j
unfolding both_kept
kept saw_it place sources count good told true eps j h seen =
    (saw-nothing good (λ i. Nothing) (λ i hi e. refl) ∙ and-none (nat_lt j sources), saw-nothing-unlike eps good (λ i. Nothing) (λ i hi e. refl) ∙ and-none (nat_lt j sources))
kept saw_it place sources count good told false eps j h seen = by (nat_lt j sources) refl
  where
    rows : List (Option Row)
    rows = map_from 0 (row_saw saw_it good place) (take count told)

    sight : ℕ → See
    sight i = see_in (get_or rows i None) j

    same : (i : ℕ) → i < 16 → has good i ≡ true → sight i ≡ see_of (told_at told i) j
    same i hi e = saw saw_it good count place told i j h (seen.there i hi e) e (seen.told_it i hi e) ∙ seen.sights i hi e refl

    none : (i : ℕ) → sources ≤ j → i < 16 → has good i ≡ true → sight i ≡ Nothing
    none i past hi e = same i hi e ∙ seen.nobody i past

    by : (b : Bool) → nat_lt j sources ≡ b
        → (some_node (λ i. has good i && is_something (sight i)) ≡ (nat_lt j sources && (not false && was_taken count good told j)))
        × (some_node (λ a. has good a && some_node (λ b. has good b && not (are_alike eps (sight a) (sight b)))) ≡ (nat_lt j sources && (not false && was_unlike eps count good told j)))
    by true e = (
      saw-same count good sight (λ i. see_of (told_at told i) j) seen.there same ∙ and-all (nat_lt j sources) (was_taken count good told j) e,
      saw-same-unlike eps count good sight (λ i. see_of (told_at told i) j) seen.there same ∙ and-all (nat_lt j sources) (was_unlike eps count good told j) e,
    )
    by false e =
        let past : sources ≤ j = grind (arith, nat_tests) in (
          saw-nothing good sight (λ i hi g. none i past hi g) ∙ and-out (nat_lt j sources) (not false && was_taken count good told j) e,
          saw-nothing-unlike eps good sight (λ i hi g. none i past hi g) ∙ and-out (nat_lt j sources) (not false && was_unlike eps count good told j) e,
        )
