-- For the law that events are rounds: if a milestone is not complete, some good node has not told
-- of it; and if nobody has closed a stage, it is not complete.
use Rattle.std.proofs.{Common.{◌≡◌, ℕ, zero, suc, ◌+◌, ◌*◌, ◌-◌, ◌<◌, ◌==◌, ◌&&◌, ◌||◌, ◌⊎◌, not, Bool, true, false, List, [], ◌∷◌, ◌++◌, refl, ap, sym, ◌∙◌, subst, arith, inl, inr, Option, Some, None, is_some, slice_get}, lemmas.Bool.{and_parts, cases_lt, eqb-true, true≢false}, lemmas.Bool.Decides.nat_tests}
use Rattle.std.specs.List.{list_all}
use Rattle.rb_base.specs.{Nodes.{Side, has}, Nodes.Side.{Biu, Rmu}, Sizes.{IsShape, Sizes}, declared.values.Place.Place}
use Rattle.rb_base.proofs.{Plain.option_map-back, Sets.{has-set_of, has_none, is_set_of}}
use Rattle.rb_rules.specs.{Book.{Each, Row, in_order, map_each, of_kind}, Goodness.{Scenario, good_at, is_good}, Rounds.windows_in, WorldStep.{Site, all_have_told, nobody_good, row_for, same_place}}
use Rattle.rb_rules.proofs.WindowNumbers.{get-each}
use Rattle.rb_laws_agreement.proofs.Goodnesses.{good_below_16}
use Rattle.rb_laws_events.proofs.ToldInOrder.{number_at}

-- Who is good.

-- some number passes, or none below `n` does
search_below : (p : ℕ → Bool) (n : ℕ) → ((i : ℕ) × (p i ≡ true)) ⊎ ((i : ℕ) → i < n → p i ≡ false)
search_below p zero = inr (λ i lt. absurd (omega (arith, lt)))
search_below p (suc n) = elim (search_below p n) [
  | inl found ↦ inl found
  | inr none ↦ by (p n) refl none
]
  where
    by : (b : Bool) → p n ≡ b → ((i : ℕ) → i < n → p i ≡ false) → ((i : ℕ) × (p i ≡ true)) ⊎ ((i : ℕ) → i < suc n → p i ≡ false)
    by true e none = inl (n, e)
    by false e none =
        inr (λ i lt. elim (cases_lt i n) [
          | inl less ↦ none i less
          | inr ge ↦ let same : n ≡ i = omega arith in subst (λ i. p i ≡ false) same e
        ])

zero-is : {n : ℕ} → n ≡ 0 → (n == 0) ≡ true
zero-is e = grind (arith, nat_tests)

kind-empty : (sc : Scenario) (me : Side) (frame slot : ℕ) → ((i : ℕ) → i < 16 → is_good sc me i frame slot ≡ false) → good_at sc me frame slot ≡ 0
kind-empty sc me frame slot none = sym (is_set_of 0 (λ i. is_good sc me i frame slot) (omega arith) (λ i lt. has_none i ∙ sym (none i lt)))

-- if it is not so that nobody is good, a good node can be named
pub somebody : (sc : Scenario) (frame slot : ℕ) → nobody_good sc frame slot ≡ false → (me : Side) × ((i : ℕ) × (is_good sc me i frame slot ≡ true))
somebody sc frame slot h =
    elim (search_below (λ i. is_good sc Biu i frame slot) 16) [
      | inl biu ↦ (Biu, biu)
      | inr no_biu ↦ elim (search_below (λ i. is_good sc Rmu i frame slot) 16) [
        | inl rmu ↦ (Rmu, rmu)
        | inr no_rmu ↦
            let a : (good_at sc Biu frame slot == 0) ≡ true = zero-is (kind-empty sc Biu frame slot no_biu) in
            let b : (good_at sc Rmu frame slot == 0) ≡ true = zero-is (kind-empty sc Rmu frame slot no_rmu) in
            absurd (true≢false (sym (both-true (good_at sc Biu frame slot == 0) (good_at sc Rmu frame slot == 0) a b) ∙ h))
      ]
    ]
  where
    both-true : (a b : Bool) → a ≡ true → b ≡ true → (a && b) ≡ true
    both-true a b h k = rw (h, k) refl

-- if nobody is good, no node is good
pub nobody : (sc : Scenario) → IsShape sc.sizes → (frame slot : ℕ) → nobody_good sc frame slot ≡ true → (me : Side) (i : ℕ) → is_good sc me i frame slot ≡ true → ⊥
nobody sc shape frame slot h me i good =
    let parts = and_parts (good_at sc Biu frame slot == 0) (good_at sc Rmu frame slot == 0) h in
    let none : good_at sc me frame slot ≡ 0 = of me parts.0 parts.1 in
    let below : i < 16 = good_below_16 sc shape me i frame slot good in
    let inside : has (good_at sc me frame slot) i ≡ is_good sc me i frame slot = has-set_of i (λ i. is_good sc me i frame slot) below in
    true≢false (sym good ∙ sym inside ∙ ap (λ s. has s i) none ∙ has_none i)
  where
    of : (me : Side) → (good_at sc Biu frame slot == 0) ≡ true → (good_at sc Rmu frame slot == 0) ≡ true → good_at sc me frame slot ≡ 0
    of Biu a b = eqb-true (good_at sc Biu frame slot) 0 a
    of Rmu a b = eqb-true (good_at sc Rmu frame slot) 0 b

-- Who has not told.

or-false : (a b : Bool) → (not a || b) ≡ false → (a ≡ true) × (b ≡ false)
or-false true b h = (refl, h)
or-false false b h = cc

false-at : (xs : List Bool) → list_all (λ b. b) xs ≡ false → (n : ℕ) × (slice_get xs n ≡ Some false)
false-at [] h = cc
false-at (true ∷ xs) h = let more = false-at xs h in (suc more.0, more.1)
false-at (false ∷ xs) h = (0, refl)

all-split : (xs ys : List Bool) → list_all (λ b. b) (xs ++ ys) ≡ false → (list_all (λ b. b) xs ≡ false) ⊎ (list_all (λ b. b) ys ≡ false)
all-split [] ys h = inr h
all-split (true ∷ xs) ys h = all-split xs ys h
all-split (false ∷ xs) ys h = inl refl

each-false : (a : Each Bool) → list_all (λ b. b) (in_order a) ≡ false → (me : Side) × ((i : ℕ) × (slice_get (of_kind me a) i ≡ Some false))
each-false a h = elim (all-split a.bius a.rmus h) [
  | inl biu ↦ (Biu, false-at a.bius biu)
  | inr rmu ↦ (Rmu, false-at a.rmus rmu)
]

-- some good node has not told
pub record HasNotTold {X : Type 0} (sc : Scenario) (frame slot : ℕ) (tells : Site → Option X) (sites : Each Site) : Type 0 where
  pub me : Side
  pub i : ℕ
  pub s : Site
  pub there : slice_get (of_kind me sites) i ≡ Some s
  pub good : is_good sc me i frame slot ≡ true
  pub untold : is_some (tells s) ≡ false

pub not-told : {X : Type 0} (sc : Scenario) (frame slot : ℕ) (tells : Site → Option X) (sites : Each Site) → all_have_told sc frame slot tells sites ≡ false
    → HasNotTold sc frame slot tells sites
not-told sc frame slot tells sites h =
    let has_told : Side → ℕ → Site → Bool = λ me i s. not (is_good sc me i frame slot) || is_some (tells s) in
    let found = each-false (map_each has_told sites) h in
    let me : Side = found.0 in
    let i : ℕ = found.1.0 in
    let was = option_map-back (has_told me i) (slice_get (of_kind me sites) i) false (sym (get-each has_told sites me i) ∙ found.1.1) in
    let parts = or-false (is_good sc me i frame slot) (is_some (tells was.0)) was.1.1 in
    record { me = me; i = i; s = was.0; there = was.1.0; good = parts.0; untold = parts.1 }

-- a row of another place tells nothing of a stage
places-same : (sizes : Sizes) (a b : Place) → same_place a b ≡ true → number_at sizes a ≡ number_at sizes b
places-same sizes a b h =
    let outer = and_parts ((a.frame == b.frame) && (a.slot == b.slot)) (a.stage == b.stage) h in
    let inner = and_parts (a.frame == b.frame) (a.slot == b.slot) outer.0 in
    let stage : a.stage ≡ b.stage = eqb-true a.stage b.stage outer.1 in
    let slot : a.slot ≡ b.slot = eqb-true a.slot b.slot inner.1 in
    ap (λ f. f * (windows_in sizes + 1) + (3 * a.slot + a.stage - 1)) (eqb-true a.frame b.frame inner.0) ∙ ap (λ s. b.frame * (windows_in sizes + 1) + (3 * s + a.stage - 1)) slot ∙ ap (λ g. b.frame * (windows_in sizes + 1) + (3 * b.slot + g - 1)) stage

pub no-row : (sizes : Sizes) (place : Place) (o : Option Row) → ((row : Row) → o ≡ Some row → number_at sizes row.place < number_at sizes place) → is_some (row_for place o) ≡ false
no-row sizes place None before = refl
no-row sizes place (Some row) before = by (same_place row.place place) refl
  where
    by : (b : Bool) → same_place row.place place ≡ b → is_some (elim b as (λ _. Option Row) [ true ↦ Some row | false ↦ None ]) ≡ false
    by true e =
        let same : number_at sizes row.place ≡ number_at sizes place = places-same sizes row.place place e in
        let lt : number_at sizes row.place < number_at sizes place = before row refl in
        absurd (omega (arith, same, lt))
    by false e = refl
