-- Up to which tick the window of a tick goes on.
use Rattle.std.proofs.{Common.{◌≡◌, ℕ, ◌+◌, ◌-◌, ◌*◌, ◌/◌, ◌<◌, ◌≤◌, ◌⊎◌, refl, ap, sym, ◌∙◌, subst, arith, inl, inr, Some, None, unwrap_or}, lemmas.Bool.cases_lt, lemmas.Nat.mul-le, Math.Nat.{add-mul, div-mul-le_self, lt-div-mul-add, mul-le-mul_right}}
use Rattle.rb_base.specs.{Nodes.Side, Sizes.{Sizes, sync_slot_of}}
use Rattle.rb_rules.specs.{declared.plan.Plan.Plan, declared.plan.Window.Window, Core.window_here, Hearing.tail_at, NodeState.NodeState, Plan.{IsPlan, f0_of, tail_start_of}, Windows.{exact_window, window_at}}
use Rattle.rb_rules.proofs.RoundStates.{HasTicks}
use Rattle.rb_plan.proofs.Offsets.{number_below, found_below, found_stage_1, found_stage_2, found_stage_3, found_none}

pub has-ticks : (plan : Plan) → IsPlan plan → HasTicks plan
has-ticks plan is = record { l = is.l.0; v = is.v.0; z = is.z.0 }

-- `w` is the window of each offset from this one up to its last
pub record GoesOn (sizes : Sizes) (plan : Plan) (offset : ℕ) (w : Window) : Type 0 where
  pub found : window_at sizes plan offset ≡ Some w
  pub before_tail : w.last < tail_start_of sizes plan
  pub inside : offset ≤ w.last
  pub same : (p : ℕ) → offset ≤ p → p ≤ w.last → window_at sizes plan p ≡ Some w

abbrev HasWindow : Sizes → Plan → ℕ → Type 0
HasWindow sizes plan offset = (w : Window) × GoesOn sizes plan offset w

below-sync : (sizes : Sizes) (plan : Plan) (offset : ℕ) → HasTicks plan → offset < f0_of sizes plan → HasWindow sizes plan offset
below-sync sizes plan offset ticks below =
    let n : ℕ = offset / plan.l in
    let number : n < 3 * sync_slot_of sizes = number_below sizes plan offset plan.l refl ticks.l below in
    let low : n * plan.l ≤ offset = div-mul-le_self offset plan.l in
    let high : offset < n * plan.l + plan.l = lt-div-mul-add ticks.l in
    let times : (n + 1) * plan.l ≤ 3 * sync_slot_of sizes * plan.l = mul-le-mul_right plan.l (omega arith) in
    let next : (n + 1) * plan.l ≡ n * plan.l + 1 * plan.l = add-mul n 1 plan.l in (
      exact_window plan n,
      record {
        found = found_below sizes plan offset n ticks.l number low high;
        before_tail = omega (arith, low, high, times, next);
        inside = omega (arith, low, high);
        same = λ p from to. found_below sizes plan p n ticks.l number (omega (arith, low)) (omega (arith, high, low));
      },
    )

in-sync : (sizes : Sizes) (plan : Plan) (offset : ℕ) → HasTicks plan → f0_of sizes plan ≤ offset → offset < tail_start_of sizes plan
    → HasWindow sizes plan offset
in-sync sizes plan offset ticks from to =
    let l : 1 ≤ plan.l = ticks.l in
    let v : 1 ≤ plan.v = ticks.v in
    let z : 1 ≤ plan.z = ticks.z in
    elim (cases_lt offset (f0_of sizes plan + plan.l)) [
      | inl first ↦ (
        _,
        record {
          found = found_stage_1 sizes plan offset l from first;
          before_tail = omega arith;
          inside = omega arith;
          same = λ p lo hi. found_stage_1 sizes plan p l (omega arith) (omega arith);
        },
      )
      | inr later ↦ elim (cases_lt offset (f0_of sizes plan + plan.l + plan.v)) [
        | inl second ↦ (
          _,
          record {
            found = found_stage_2 sizes plan offset l later second;
            before_tail = omega arith;
            inside = omega arith;
            same = λ p lo hi. found_stage_2 sizes plan p l (omega arith) (omega arith);
          },
        )
        | inr last ↦ (
          _,
          record {
            found = found_stage_3 sizes plan offset l v last to;
            before_tail = omega arith;
            inside = omega arith;
            same = λ p lo hi. found_stage_3 sizes plan p l v (omega arith) (omega arith);
          },
        )
      ]
    ]

-- an offset has a window, or no offset from it on has one
pub window-or-tail : (sizes : Sizes) (plan : Plan) (offset : ℕ) → HasTicks plan
    → HasWindow sizes plan offset ⊎ ((p : ℕ) → offset ≤ p → window_at sizes plan p ≡ None)
window-or-tail sizes plan offset ticks =
    elim (cases_lt offset (f0_of sizes plan)) [
      | inl below ↦ inl (below-sync sizes plan offset ticks below)
      | inr sync ↦ elim (cases_lt offset (tail_start_of sizes plan)) [
        | inl before ↦ inl (in-sync sizes plan offset ticks sync before)
        | inr tail ↦ inr (λ p from. found_none sizes plan p ticks.l ticks.v ticks.z (omega arith))
      ]
    ]

-- a tick has the window of an earlier one if that window has not ended
pub goes-on : (sizes : Sizes) (plan : Plan) (me : Side) (st : NodeState) (had k : ℕ) → HasTicks plan → st.epoch ≤ had → had ≤ k
    → (had ≤ st.epoch + (window_here sizes plan me st had).last → k ≤ st.epoch + (window_here sizes plan me st had).last)
    → window_here sizes plan me st k ≡ window_here sizes plan me st had
goes-on sizes plan me st had k ticks epoch later ends =
    elim (window-or-tail sizes plan (had - st.epoch) ticks) [
      | inl (w, on) ↦
          let here : window_here sizes plan me st had ≡ w = ap (λ o. unwrap_or o (tail_at sizes plan me st)) on.found in
          let inside : had - st.epoch ≤ w.last = on.inside in
          let last : had ≤ st.epoch + w.last → k ≤ st.epoch + w.last =
          subst (λ (x : Window). had ≤ st.epoch + x.last → k ≤ st.epoch + x.last) here ends in
          let to : k ≤ st.epoch + w.last = last (omega arith) in
          ap (λ o. unwrap_or o (tail_at sizes plan me st)) (on.same (k - st.epoch) (omega arith) (omega arith)) ∙ sym here
      | inr none ↦
          ap (λ o. unwrap_or o (tail_at sizes plan me st)) (none (k - st.epoch) (omega arith) ∙ sym (none (had - st.epoch) (omega arith)))
    ]

-- a window ends before tick 400,000 of its frame
pub ends-soon : (sizes : Sizes) (plan : Plan) (offset : ℕ) (w : Window) → sync_slot_of sizes ≤ 112 → IsPlan plan → window_at sizes plan offset ≡ Some w
    → w.last ≤ 400000
ends-soon sizes plan offset w few is found =
    let l : plan.l ≤ 1000 = is.l.1 in
    let v : plan.v ≤ 1000 = is.v.1 in
    let z : plan.z ≤ 1000 = is.z.1 in
    let f0 : 3 * sync_slot_of sizes * plan.l ≤ 336 * 1000 = mul-le (3 * sync_slot_of sizes) plan.l 336 1000 (omega arith) l in
    elim (window-or-tail sizes plan offset (has-ticks plan is)) [
      | inl (x, on) ↦
          let same : x ≡ w = some-is x w (sym on.found ∙ found) in
          let before : w.last < tail_start_of sizes plan = subst (λ (y : Window). y.last < tail_start_of sizes plan) same on.before_tail in
          omega (arith, before, f0)
      | inr none ↦ absurd (not-some w (sym (none offset (omega arith)) ∙ found))
    ]
  where
    some-is : (a b : Window) → Some a ≡ Some b → a ≡ b
    some-is a b e = cc

    not-some : (a : Window) → None ≡ Some a → ⊥
    not-some a e = cc

-- a frame begins with its first slot
pub first-is : (sizes : Sizes) (plan : Plan) → HasTicks plan → 1 ≤ sync_slot_of sizes → window_at sizes plan 0 ≡ Some (exact_window plan 0)
first-is sizes plan ticks some =
    let none : 0 * plan.l ≡ 0 = omega arith in
    let l : 1 ≤ plan.l = ticks.l in
    found_below sizes plan 0 0 l (omega arith) (omega arith) (omega arith)
