-- Changes of each node, and what they leave.
use Rattle.std.proofs.{Common.{◌≡◌, ℕ, ◌+◌, ◌≤◌, ◌⊎◌, nat_lt, Bool, true, false, List, [], ◌∷◌, refl, ap, sym, ◌∙◌, arith, inl, inr, Some, option_map, slice_get, if◌then◌else◌}, lemmas.Bool.{cases_lt, lt-ltb, le-ltb, ltb-true}}
use Rattle.rb_base.specs.{Nodes.Side, Nodes.Side.{Biu, Rmu}}
use Rattle.rb_base.proofs.Plain.{option_map-back}
use Rattle.rb_rules.specs.{Book.{Each, map_each, map_from, of_kind}, WorldStep.{Site, Timed, World}}
use Rattle.rb_rules.proofs.WindowNumbers.{get-each}
use Rattle.rb_laws_events.proofs.EachAlike.{each-is}
use Rattle.rb_laws_sweeps.specs.AheadOf.{IsFirstTick, is_behind, until_tick}

-- No change.

from-itself : {X : Type 0} (i : ℕ) (xs : List X) → map_from i (λ n x. x) xs ≡ xs
from-itself i [] = refl
from-itself i (x ∷ xs) = ap (λ l. x ∷ l) (from-itself (i + 1) xs)

pub each-itself : {X : Type 0} (xs : Each X) → map_each (λ side n x. x) xs ≡ xs
each-itself xs = each-is (map_each (λ side n x. x) xs) xs (from-itself 0 xs.bius) (from-itself 0 xs.rmus)

-- The first tick.

-- the change leaves the pending ticks
abbrev pub KeepsAhead : (Side → ℕ → Site → Site) → Type 0
KeepsAhead g = (side : Side) (j : ℕ) (s : Site) → (g side j s).ahead ≡ s.ahead

pub first-changed : (g : Side → ℕ → Site → Site) {w : World} (x : World) {me : Side} {i : ℕ} {a : Timed} → x.sites ≡ map_each g w.sites → KeepsAhead g → IsFirstTick w me i a → IsFirstTick x me i a
first-changed g {w} x {me} {i} is keeps h = record {
  node = g me i h.node;
  there = ap (λ sites. slice_get (of_kind me sites) i) is ∙ get-each g w.sites me i ∙ ap (option_map (g me i)) h.there;
  pends = keeps me i h.node ∙ h.pends;
  least = λ side j s b there pends. let z = was side j s there in h.least side j z.0 b z.1.0 (sym (keeps side j z.0) ∙ ap (λ (s : Site). s.ahead) z.1.1 ∙ pends);
  first = λ side j s b there pends behind.
      let z = was side j s there in h.first side j z.0 b z.1.0 (sym (keeps side j z.0) ∙ ap (λ (s : Site). s.ahead) z.1.1 ∙ pends) behind;
}
  where
    was : (side : Side) (j : ℕ) (s : Site) → slice_get (of_kind side x.sites) j ≡ Some s → (z : Site) × ((slice_get (of_kind side w.sites) j ≡ Some z) × (g side j z ≡ s))
    was side j s there =
        option_map-back (g side j) (slice_get (of_kind side w.sites) j) s (sym (get-each g w.sites side j) ∙ ap (λ sites. slice_get (of_kind side sites) j) (sym is) ∙ there)

pub first-back : (g : Side → ℕ → Site → Site) (w : World) {x : World} {me : Side} {i : ℕ} {a : Timed} → x.sites ≡ map_each g w.sites → KeepsAhead g → IsFirstTick x me i a → IsFirstTick w me i a
first-back g w {x} {me} {i} is keeps h =
    let node = was me i h.node h.there in
    record {
      node = node.0;
      there = node.1.0;
      pends = sym (keeps me i node.0) ∙ ap (λ (s : Site). s.ahead) node.1.1 ∙ h.pends;
      least = λ side j s b there pends. h.least side j (g side j s) b (now side j s there) (keeps side j s ∙ pends);
      first = λ side j s b there pends behind. h.first side j (g side j s) b (now side j s there) (keeps side j s ∙ pends) behind;
    }
  where
    was : (side : Side) (j : ℕ) (s : Site) → slice_get (of_kind side x.sites) j ≡ Some s → (z : Site) × ((slice_get (of_kind side w.sites) j ≡ Some z) × (g side j z ≡ s))
    was side j s there =
        option_map-back (g side j) (slice_get (of_kind side w.sites) j) s (sym (get-each g w.sites side j) ∙ ap (λ sites. slice_get (of_kind side sites) j) (sym is) ∙ there)

    now : (side : Side) (j : ℕ) (s : Site) → slice_get (of_kind side w.sites) j ≡ Some s → slice_get (of_kind side x.sites) j ≡ Some (g side j s)
    now side j s there = ap (λ sites. slice_get (of_kind side sites) j) is ∙ get-each g w.sites side j ∙ ap (option_map (g side j)) there

-- The order of nodes.

pub nodes-order : (me you : Side) (i j : ℕ) → (is_behind me i you j ≡ true) ⊎ ((is_behind you j me i ≡ true) ⊎ ((me ≡ you) × (i ≡ j)))
nodes-order Biu Biu i j = numbers-order i j
  where
    numbers-order : (i j : ℕ) → (nat_lt i j ≡ true) ⊎ ((nat_lt j i ≡ true) ⊎ ((Biu ≡ Biu) × (i ≡ j)))
    numbers-order i j = elim (cases_lt i j) [
      | inl lt ↦ inl (lt-ltb i j lt)
      | inr ge ↦ inr (elim (cases_lt j i) [ inl lt ↦ inl (lt-ltb j i lt) | inr le ↦ inr (refl, omega (arith, ge, le)) ])
    ]
nodes-order Biu Rmu i j = inl refl
nodes-order Rmu Biu i j = inr (inl refl)
nodes-order Rmu Rmu i j = numbers-order i j
  where
    numbers-order : (i j : ℕ) → (nat_lt i j ≡ true) ⊎ ((nat_lt j i ≡ true) ⊎ ((Rmu ≡ Rmu) × (i ≡ j)))
    numbers-order i j = elim (cases_lt i j) [
      | inl lt ↦ inl (lt-ltb i j lt)
      | inr ge ↦ inr (elim (cases_lt j i) [ inl lt ↦ inl (lt-ltb j i lt) | inr le ↦ inr (refl, omega (arith, ge, le)) ])
    ]

pub not-behind-itself : (me : Side) (i : ℕ) → is_behind me i me i ≡ false
not-behind-itself Biu i = le-ltb i i (omega arith)
not-behind-itself Rmu i = le-ltb i i (omega arith)

-- the time up to which a node is swept, by where it stands
pub until-behind : (me you : Side) (i j t : ℕ) → is_behind me i you j ≡ true → until_tick me i t you j ≡ t
until-behind me you i j t e = ap (λ b. if b then t else t + 1) e

pub until-not : (me you : Side) (i j t : ℕ) → is_behind me i you j ≡ false → until_tick me i t you j ≡ t + 1
until-not me you i j t e = ap (λ b. if b then t else t + 1) e

pub until-most : (me you : Side) (i j t : ℕ) → until_tick me i t you j ≤ t + 1
until-most me you i j t = by (is_behind me i you j)
  where
    by : (b : Bool) → (if b then t else t + 1) ≤ t + 1
    by true = omega arith
    by false = omega arith

pub until-least : (me you : Side) (i j t : ℕ) → t ≤ until_tick me i t you j
until-least me you i j t = by (is_behind me i you j)
  where
    by : (b : Bool) → t ≤ (if b then t else t + 1)
    by true = omega arith
    by false = omega arith

pub until-own : (me : Side) (i t : ℕ) → until_tick me i t me i ≡ t + 1
until-own me i t = until-not me me i i t (not-behind-itself me i)

behind-so-on-numbers : (i j k : ℕ) → nat_lt i j ≡ true → nat_lt j k ≡ true → nat_lt i k ≡ true
behind-so-on-numbers i j k e f = let a = ltb-true i j e in let b = ltb-true j k f in lt-ltb i k (omega (arith, a, b))

pub behind-so-on : (me you they : Side) (i j k : ℕ) → is_behind me i you j ≡ true → is_behind you j they k ≡ true → is_behind me i they k ≡ true
behind-so-on Biu Biu Biu i j k e f = behind-so-on-numbers i j k e f
behind-so-on Biu Biu Rmu i j k e f = refl
behind-so-on Biu Rmu Biu i j k e f = cc
behind-so-on Biu Rmu Rmu i j k e f = refl
behind-so-on Rmu Biu Biu i j k e f = cc
behind-so-on Rmu Biu Rmu i j k e f = cc
behind-so-on Rmu Rmu Biu i j k e f = cc
behind-so-on Rmu Rmu Rmu i j k e f = behind-so-on-numbers i j k e f
