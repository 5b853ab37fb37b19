-- For the law that events are rounds: moments in their order: who is good in an earlier one, and
-- what lies between a window and the next stage.
use Rattle.std.proofs.{Common.{◌≡◌, ℕ, zero, suc, ◌+◌, ◌-◌, ◌/◌, ◌<◌, ◌≤◌, true, List, length, ap, sym, ◌∙◌, subst, arith, inl, inr, Some, slice_get, if◌then◌else◌}, lemmas.Bool.{cases_lt, lt-ltb, le-ltb}}
use Rattle.rb_base.specs.{Nodes.Side, Sizes.Sizes}
use Rattle.rb_rules.specs.{Book.of_kind, Goodness.{Scenario, is_good}, NodeState.NodeState, Ports.HandIn, Rounds.{Moment, moment, windows_in}, Slots.count_of}
use Rattle.rb_rules.proofs.RoundStates.{HasTicks}
use Rattle.rb_laws_agreement.proofs.Goodnesses.{good_before, good_counts, good_earlier}
use Rattle.rb_laws_events.specs.Closing.{stages_in}
use Rattle.rb_laws_events.proofs.{CloseOrder.{IsFrameLater, IsWindowLater, frame-later, window-later}, Invariant.{is_good_at, next_stage}, RoundNodes.{AllStand, item-at, moments-stand, slot_numbered}}

-- Who is good.

slots-rise : (sizes : Sizes) (a b : ℕ) → a ≤ b → slot_numbered sizes a ≤ slot_numbered sizes b
slots-rise sizes a b h = let d : a / 3 ≤ b / 3 = omega arith in omega arith

-- a node that is good in a moment was good in the one before
good-before : (sc : Scenario) (hands : List HandIn) (p : ℕ) (me : Side) (i : ℕ) → is_good_at sc (moment sc hands (suc p)) me i ≡ true
    → is_good_at sc (moment sc hands p) me i ≡ true
good-before sc hands p me i good =
    let m : Moment = moment sc hands p in
    elim (cases_lt m.window (windows_in sc.sizes)) [
      | inl lt ↦
          let next : IsWindowLater sc m (moment sc hands (suc p)) = window-later sc hands m lt in
          let a : is_good sc me i m.frame (slot_numbered sc.sizes (m.window + 1)) ≡ true =
          ap (λ w. is_good sc me i m.frame (slot_numbered sc.sizes w)) (sym next.window)
          ∙ ap (λ f. is_good sc me i f (slot_numbered sc.sizes (moment sc hands (suc p)).window)) (sym next.frame) ∙ good in
          good_earlier sc me i m.frame (slot_numbered sc.sizes m.window) (slot_numbered sc.sizes (m.window + 1)) (slots-rise sc.sizes m.window (m.window + 1) (omega arith)) a
      | inr ge ↦
          let next : IsFrameLater sc hands m (moment sc hands (suc p)) = frame-later sc hands m ge in
          let a : is_good sc me i (m.frame + 1) (slot_numbered sc.sizes (moment sc hands (suc p)).window) ≡ true =
          ap (λ f. is_good sc me i f (slot_numbered sc.sizes (moment sc hands (suc p)).window)) (sym next.frame) ∙ good in
          good_before sc me i m.frame (m.frame + 1) (slot_numbered sc.sizes m.window) (slot_numbered sc.sizes (moment sc hands (suc p)).window) (omega arith) a
    ]

good-some-before : (sc : Scenario) (hands : List HandIn) (p n : ℕ) (me : Side) (i : ℕ) → is_good_at sc (moment sc hands (n + p)) me i ≡ true
    → is_good_at sc (moment sc hands p) me i ≡ true
good-some-before sc hands p zero me i good = let e : 0 + p ≡ p = omega arith in ap (λ k. is_good_at sc (moment sc hands k) me i) (sym e) ∙ good
good-some-before sc hands p (suc n) me i good =
    let e : suc n + p ≡ suc (n + p) = omega arith in
    good-some-before sc hands p n me i (good-before sc hands (n + p) me i (ap (λ k. is_good_at sc (moment sc hands k) me i) (sym e) ∙ good))

-- a node that is good in a moment was good in each earlier one
pub good-back : (sc : Scenario) (hands : List HandIn) (p q : ℕ) (me : Side) (i : ℕ) → p ≤ q → is_good_at sc (moment sc hands q) me i ≡ true
    → is_good_at sc (moment sc hands p) me i ≡ true
good-back sc hands p q me i le good =
    let e : q - p + p ≡ q = omega arith in
    good-some-before sc hands p (q - p) me i (ap (λ k. is_good_at sc (moment sc hands k) me i) e ∙ good)

pub good-state : (sc : Scenario) (hands : List HandIn) (p : ℕ) (me : Side) (i : ℕ) → HasTicks sc.plan → is_good_at sc (moment sc hands p) me i ≡ true
    → (st : NodeState) × (slice_get (of_kind me (moment sc hands p).nodes) i ≡ Some st)
good-state sc hands p me i ticks good =
    let m : Moment = moment sc hands p in
    let stand : AllStand sc m = moments-stand sc hands p ticks in
    let long : length (of_kind me m.nodes) ≡ count_of me sc.sizes = stand.counts me in
    let counted : i < count_of me sc.sizes = good_counts sc me i m.frame (slot_numbered sc.sizes m.window) good in
    item-at (of_kind me m.nodes) i (omega arith)

-- The next stage.

pub next-inner : (sizes : Sizes) (m : Moment) (p : ℕ) → m.window + 1 < stages_in sizes → next_stage sizes m p ≡ suc p
next-inner sizes m p h =
    let e : p + 1 ≡ suc p = omega arith in
    ap (λ b. p + (if b then 1 else windows_in sizes + 1 - m.window)) (lt-ltb (m.window + 1) (stages_in sizes) h) ∙ e

pub next-outer : (sizes : Sizes) (m : Moment) (p : ℕ) → stages_in sizes ≤ m.window + 1 → next_stage sizes m p ≡ p + (windows_in sizes + 1 - m.window)
next-outer sizes m p h = ap (λ b. p + (if b then 1 else windows_in sizes + 1 - m.window)) (le-ltb (m.window + 1) (stages_in sizes) h)

-- the next milestone's moment is a stage, and the moments before it are the tail or the end of the
-- frame
pub record NextIsStage (sc : Scenario) (hands : List HandIn) (p : ℕ) : Type 0 where
  pub window : (moment sc hands (next_stage sc.sizes (moment sc hands p) p)).window < stages_in sc.sizes
  pub later : p < next_stage sc.sizes (moment sc hands p) p
  pub between : (q : ℕ) → p < q → q < next_stage sc.sizes (moment sc hands p) p
      → (stages_in sc.sizes ≤ (moment sc hands q).window) × ((moment sc hands q).window ≤ windows_in sc.sizes)

from-inner : (sc : Scenario) (hands : List HandIn) (p : ℕ) → (moment sc hands p).window + 1 < stages_in sc.sizes → NextIsStage sc hands p
from-inner sc hands p h =
    let m : Moment = moment sc hands p in
    let is : next_stage sc.sizes m p ≡ suc p = next-inner sc.sizes m p h in
    let next : IsWindowLater sc m (moment sc hands (suc p)) = window-later sc hands m (omega arith) in
    let w : (moment sc hands (suc p)).window ≡ m.window + 1 = next.window in
    record {
      window = subst (λ z. (moment sc hands z).window < stages_in sc.sizes) (sym is) (omega arith);
      later = omega arith;
      between = λ q a b. absurd (omega (arith, a, b, is));
    }

from-tail : (sc : Scenario) (hands : List HandIn) (p : ℕ) → (moment sc hands p).window ≡ stages_in sc.sizes → NextIsStage sc hands p
from-tail sc hands p h =
    let m : Moment = moment sc hands p in
    let is : next_stage sc.sizes m p ≡ suc (suc p) = next-outer sc.sizes m p (omega arith) ∙ omega arith in
    let end : IsWindowLater sc m (moment sc hands (suc p)) = window-later sc hands m (omega arith) in
    let w : (moment sc hands (suc p)).window ≡ m.window + 1 = end.window in
    let next : IsFrameLater sc hands (moment sc hands (suc p)) (moment sc hands (suc (suc p))) = frame-later sc hands (moment sc hands (suc p)) (omega arith) in
    let w2 : (moment sc hands (suc (suc p))).window ≡ 0 = next.window in
    record {
      window = subst (λ z. (moment sc hands z).window < stages_in sc.sizes) (sym is) (omega arith);
      later = omega arith;
      between = λ q a b.
          let same : suc p ≡ q = omega (arith, a, b, is) in
          subst (λ q. (stages_in sc.sizes ≤ (moment sc hands q).window) × ((moment sc hands q).window ≤ windows_in sc.sizes)) same (omega arith, omega arith);
    }

from-last : (sc : Scenario) (hands : List HandIn) (p : ℕ) → (moment sc hands p).window + 1 ≡ stages_in sc.sizes → NextIsStage sc hands p
from-last sc hands p h =
    let m : Moment = moment sc hands p in
    let is : next_stage sc.sizes m p ≡ suc (suc (suc p)) = next-outer sc.sizes m p (omega arith) ∙ omega arith in
    let tail : IsWindowLater sc m (moment sc hands (suc p)) = window-later sc hands m (omega arith) in
    let w : (moment sc hands (suc p)).window ≡ m.window + 1 = tail.window in
    let end : IsWindowLater sc (moment sc hands (suc p)) (moment sc hands (suc (suc p))) = window-later sc hands (moment sc hands (suc p)) (omega arith) in
    let w2 : (moment sc hands (suc (suc p))).window ≡ (moment sc hands (suc p)).window + 1 = end.window in
    let next : IsFrameLater sc hands (moment sc hands (suc (suc p))) (moment sc hands (suc (suc (suc p)))) = frame-later sc hands (moment sc hands (suc (suc p))) (omega arith) in
    let w3 : (moment sc hands (suc (suc (suc p)))).window ≡ 0 = next.window in
    record {
      window = subst (λ z. (moment sc hands z).window < stages_in sc.sizes) (sym is) (omega arith);
      later = omega arith;
      between = λ q a b. elim (cases_lt q (suc (suc p))) [
        | inl lt ↦
            let same : suc p ≡ q = omega arith in
            subst (λ q. (stages_in sc.sizes ≤ (moment sc hands q).window) × ((moment sc hands q).window ≤ windows_in sc.sizes)) same (omega arith, omega arith)
        | inr ge ↦
            let same : suc (suc p) ≡ q = omega (arith, ge, b, is) in
            subst (λ q. (stages_in sc.sizes ≤ (moment sc hands q).window) × ((moment sc hands q).window ≤ windows_in sc.sizes)) same (omega arith, omega arith)
      ];
    }

pub next-is-stage : (sc : Scenario) (hands : List HandIn) (p : ℕ) → (moment sc hands p).window ≤ stages_in sc.sizes → NextIsStage sc hands p
next-is-stage sc hands p h =
    elim (cases_lt ((moment sc hands p).window + 1) (stages_in sc.sizes)) [
      | inl lt ↦ from-inner sc hands p lt
      | inr ge ↦ elim (cases_lt (moment sc hands p).window (stages_in sc.sizes)) [
        | inl below ↦ from-last sc hands p (omega arith)
        | inr over ↦ from-tail sc hands p (omega arith)
      ]
    ]
