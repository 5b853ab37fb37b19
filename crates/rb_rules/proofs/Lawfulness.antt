-- When an entry's offset lies in each of its windows.
use Rattle.std.proofs.{Common.{◌≡◌, ◌⊎◌, ℕ, zero, suc, ◌+◌, ◌*◌, ◌-◌, ◌<◌, ◌≤◌, ◌&&◌, ◌==◌, nat_le, nat_lt, Bool, true, false, cond, refl, ap, ◌∙◌, subst, inl, inr, arith}, Math.IntN.negsuc-*ℤ-pos, lemmas.Bool.{and_parts, cases_lt, cond_both, leb-true, ltb-false, ltb-true}, lemmas.Int.ints}
use Rattle.std.specs.Prelude.{pos, negsuc, neg_ℤ, ◌-ℤ◌, ◌*ℤ◌, ◌≤ℤ◌}
use Rattle.rb_base.specs.{Sizes.{Sizes, sync_slot_of}, declared.values.Place.Place}
use Rattle.rb_rules.specs.{declared.plan.Plan.Plan, Lawful.{IsRangeIn, ticks_at, ticks_in_sync}, Links.{covers, is_in_range}, Plan.{IsFeasible, IsPlan, Sides, drift_in, longest_of, shortest_of, skew_of}}

-- a number of a range lies between its ends
within_bounds : (range : ℕ × ℕ) (n : ℕ) → is_in_range range n ≡ true → (range.0 ≤ n) × (n ≤ range.1)
within_bounds range n h =
    let parts = and_parts (nat_le range.0 n) (nat_le n range.1) h in
    (leb-true range.0 n parts.0, leb-true n range.1 parts.1)

-- `P` holds at each stage of a range if it holds at each of the stages 1 to 4 that the range has
pub at_each_stage : (P : ℕ → Type 0) (stages : ℕ × ℕ) → IsRangeIn 1 4 stages
    → (is_in_range stages 1 ≡ true → P 1) → (is_in_range stages 2 ≡ true → P 2)
    → (is_in_range stages 3 ≡ true → P 3) → (is_in_range stages 4 ≡ true → P 4)
    → (stage : ℕ) → is_in_range stages stage ≡ true → P stage
at_each_stage P stages is one two three four zero h =
    let at = within_bounds stages zero h in absurd (omega (arith, at.0, is.least))
at_each_stage P stages is one two three four (suc zero) h = one h
at_each_stage P stages is one two three four (suc (suc zero)) h = two h
at_each_stage P stages is one two three four (suc (suc (suc zero))) h = three h
at_each_stage P stages is one two three four (suc (suc (suc (suc zero)))) h = four h
at_each_stage P stages is one two three four (suc (suc (suc (suc (suc n))))) h =
    let at = within_bounds stages (suc (suc (suc (suc (suc n))))) h in absurd (omega (arith, at.1, is.greatest))

-- a window by whether its slot is below the sync slot
ticks_by : (below : Bool) (l in_sync offset : ℕ) → (below ≡ true → offset < l) → (below ≡ false → offset < in_sync)
    → offset < cond below l in_sync
ticks_by true l in_sync offset h k = h refl
ticks_by false l in_sync offset h k = k refl

-- the offset is in each covered window, if it is in a window of `l` ticks or the slots begin at the
-- sync slot, and if it is in each covered stage of the sync slot or the slots end before it
pub lies_in_each : (sizes : Sizes) (plan : Plan) (frames slots stages : ℕ × ℕ) (offset : ℕ)
    → (sync_slot_of sizes ≤ slots.0) ⊎ (offset < plan.l)
    → (slots.1 < sync_slot_of sizes) ⊎ ((stage : ℕ) → is_in_range stages stage ≡ true → offset < ticks_in_sync plan stage)
    → (place : Place) → covers frames slots stages place ≡ true → offset < ticks_at sizes plan place
lies_in_each sizes plan frames slots stages offset below in_sync place h =
    let first = and_parts (is_in_range frames place.frame && is_in_range slots place.slot) (is_in_range stages place.stage) h in
    let second = and_parts (is_in_range frames place.frame) (is_in_range slots place.slot) first.0 in
    let slot = within_bounds slots place.slot second.1 in
    ticks_by (nat_lt place.slot (sync_slot_of sizes)) plan.l (ticks_in_sync plan place.stage) offset
    (λ e. elim below [
      | inl past ↦ let lt = ltb-true place.slot (sync_slot_of sizes) e in absurd (omega (arith, past, lt, slot.0))
      | inr lt ↦ lt
    ])
    (λ e. elim in_sync [
      | inl before ↦ let ge = ltb-false place.slot (sync_slot_of sizes) e in absurd (omega (arith, before, ge, slot.1))
      | inr lies ↦ lies place.stage first.1
    ])

-- The offset at which good nodes send.

never_negative : (m n : ℕ) → 1 ≤ n → pos n ≤ℤ neg_ℤ (pos m) → ⊥
never_negative m n h k = omega (arith, ints)

-- if the ticks after the sending tick take some time, the window has a tick after the sending tick
sends_inside : (ticks h shortest n : ℕ) → 1 ≤ n → pos n ≤ℤ ((pos ticks -ℤ pos (1 + h)) *ℤ pos shortest) → h < ticks
sends_inside ticks h shortest n some le = elim (cases_lt h ticks) [
  | inl lt ↦ lt
  | inr ge ↦
      let less : pos ticks -ℤ pos (1 + h) ≡ negsuc (h - ticks) = omega (arith, ints) in
      let product : (pos ticks -ℤ pos (1 + h)) *ℤ pos shortest ≡ neg_ℤ (pos (suc (h - ticks) * shortest)) =
      ap (λ x. x *ℤ pos shortest) less ∙ negsuc-*ℤ-pos (h - ticks) shortest in
      absurd (never_negative (suc (h - ticks) * shortest) n some (subst (λ x. pos n ≤ℤ x) product le))
]

some_and : (a b : ℕ) → 1 ≤ b → 1 ≤ a + b
some_and a b h = omega arith

some_before : (a b c d : ℕ) → 1 ≤ b → 1 ≤ a + b + c + d
some_before a b c d h = omega arith

-- each window of the plan has the sending tick
pub record SendsInside (plan : Plan) : Type 0 where
  pub in_l : plan.h < plan.l
  pub in_v : plan.h < plan.v
  pub in_z : plan.h < plan.z

pub sends_inside_all : (sizes : Sizes) (plan : Plan) → IsPlan plan → IsFeasible sizes plan → SendsInside plan
sends_inside_all sizes plan is feasible =
    let none : Sides = record { left = pos 0; right = pos 0 } in
    let some : 1 ≤ plan.dmax = omega (arith, is.dmin) in
    record {
      in_l = sends_inside plan.l plan.h (shortest_of plan) (skew_of sizes plan + plan.dmax) (some_and _ plan.dmax some) (feasible 1 none (omega arith));
      in_v = sends_inside plan.v plan.h (shortest_of plan) (skew_of sizes plan + 2 * plan.dmax + longest_of plan + drift_in plan plan.l) (some_before _ (2 * plan.dmax) _ _ (omega arith)) (feasible 3 none (omega arith));
      in_z = sends_inside plan.z plan.h (shortest_of plan) (skew_of sizes plan + 3 * plan.dmax + 2 * longest_of plan + drift_in plan (plan.l + plan.v)) (some_before _ (3 * plan.dmax) _ _ (omega arith)) (feasible 5 none (omega arith));
    }

-- the offset at which good nodes send lies in every window
pub sent_in_each : (sizes : Sizes) (plan : Plan) → SendsInside plan → (place : Place) → plan.h < ticks_at sizes plan place
sent_in_each sizes plan inside place =
    let IsAfter : ℕ → Type 0 = λ ticks. plan.h < ticks in
    cond_both (nat_lt place.slot (sync_slot_of sizes)) plan.l (ticks_in_sync plan place.stage) IsAfter (λ e. inside.in_l)
    (λ e. cond_both (place.stage == 1) plan.l _ IsAfter (λ e. inside.in_l)
    (λ e. cond_both (place.stage == 2) plan.v _ IsAfter (λ e. inside.in_v)
    (λ e. cond_both (place.stage == 3) plan.z (plan.v + plan.z + plan.c) IsAfter (λ e. inside.in_z)
    (λ e. let v = inside.in_v in omega arith))))
