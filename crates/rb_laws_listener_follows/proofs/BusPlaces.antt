-- After n steps the abstract bus is before the slot of that number.
use Rattle.std.proofs.{Common.{◌≡◌, ℕ, zero, suc, ◌+◌, ◌*◌, ◌<◌, ◌≤◌, nat_lt, Bool, true, false, refl, sym, ◌∙◌, ap, arith, inl, inr}, lemmas.Bool.{cases_lt, cases_order, lt-ltb, ltb-true}, Math.Nat.mul-le-mul_right}
use Rattle.rb_base.specs.{Sizes.sync_slot_of, declared.values.Heard.Heard}
use Rattle.rb_rules.specs.{AbstractBus.{AbstractBus, FrameStep, IsRun, IsStep, SlotStep}, Goodness.Scenario, StandsFor.steps_to}

-- the place of the bus after n steps
record IsAfter (sc : Scenario) (n : ℕ) (bus : AbstractBus) : Type 0 where
  pub place : n ≡ bus.frame * (sync_slot_of sc.sizes + 1) + bus.slot
  pub in_frame : bus.slot ≤ sync_slot_of sc.sizes

one_more : {sc : _} (offered : ℕ → ℕ → ℕ → ℕ) {n before after : _} → IsStep sc offered before after → IsAfter sc n before → IsAfter sc (suc n) after
one_more {sc} offered {n} {before} {after} step at = go (nat_lt before.slot (sync_slot_of sc.sizes)) refl step
  where
    go : (b : Bool) → nat_lt before.slot (sync_slot_of sc.sizes) ≡ b
        → elim b as (λ _. Type 0) [ true ↦ (value : Heard) × SlotStep sc (offered before.frame before.slot) value before after | false ↦ FrameStep sc before after ]
        → IsAfter sc (suc n) after
    go true less s =
        let frame : after.frame ≡ before.frame = ap (λ b. b.frame) s.1.after_is in
        let slot : after.slot ≡ before.slot + 1 = ap (λ b. b.slot) s.1.after_is in
        let same : after.frame * (sync_slot_of sc.sizes + 1) ≡ before.frame * (sync_slot_of sc.sizes + 1) = ap (λ f. f * (sync_slot_of sc.sizes + 1)) frame in
        record { place = omega (arith, at.place, same, slot); in_frame = omega (arith, slot, ltb-true before.slot (sync_slot_of sc.sizes) less) }
    go false more s =
        let frame : after.frame ≡ before.frame + 1 = ap (λ b. b.frame) s.after_is in
        let slot : after.slot ≡ 0 = ap (λ b. b.slot) s.after_is in
        let last : sync_slot_of sc.sizes ≤ before.slot = not_less more in
        let same : after.frame * (sync_slot_of sc.sizes + 1) ≡ (before.frame + 1) * (sync_slot_of sc.sizes + 1) = ap (λ f. f * (sync_slot_of sc.sizes + 1)) frame in
        let more : (before.frame + 1) * (sync_slot_of sc.sizes + 1) ≡ before.frame * (sync_slot_of sc.sizes + 1) + (sync_slot_of sc.sizes + 1) = omega arith in
        record { place = omega (arith, at.place, at.in_frame, same, more, slot, last); in_frame = omega (arith, slot) }
      where
        not_less : nat_lt before.slot (sync_slot_of sc.sizes) ≡ false → sync_slot_of sc.sizes ≤ before.slot
        not_less e = elim (cases_lt before.slot (sync_slot_of sc.sizes)) [
          | inl lt ↦ let both : true ≡ false = sym (lt-ltb before.slot (sync_slot_of sc.sizes) lt) ∙ e in cc
          | inr ge ↦ ge
        ]

after_steps : {sc offered steps bus : _} → IsRun sc offered steps bus → (n : ℕ) → n ≤ steps → IsAfter sc n (bus n)
after_steps {sc} {bus} run zero le =
    let frame : (bus 0).frame ≡ 0 = ap (λ b. b.frame) run.first in
    let slot : (bus 0).slot ≡ 0 = ap (λ b. b.slot) run.first in
    let none : (bus 0).frame * (sync_slot_of sc.sizes + 1) ≡ 0 * (sync_slot_of sc.sizes + 1) = ap (λ f. f * (sync_slot_of sc.sizes + 1)) frame in
    record { place = omega (arith, none, slot); in_frame = omega (arith, slot) }
after_steps {offered} run (suc n) le =
    one_more offered (run.each_step n (omega (arith, le))) (after_steps run n (omega (arith, le)))

apart : (size f w g v : ℕ) → f < g → w < size → f * size + w ≡ g * size + v → ⊥
apart size f w g v less small e =
    let more : (f + 1) * size ≤ g * size = mul-le-mul_right size (omega (arith, less)) in
    let one : (f + 1) * size ≡ f * size + size = omega arith in
    omega (arith, more, one, small, e)

same_slot : (size f w g v : ℕ) → f * size + w ≡ g * size + v → w < size → v < size → w ≡ v
same_slot size f w g v e small_w small_v =
    elim (cases_order f g) [
      | inl same ↦ let rows : f * size ≡ g * size = ap (λ x. x * size) same in omega (arith, e, rows)
      | inr order ↦ elim order [ inl less ↦ absurd (apart size f w g v less small_w e) | inr more ↦ absurd (apart size g v f w more small_v (sym e)) ]
    ]

pub slot_there : {sc offered steps bus : _} → IsRun sc offered steps bus → (frame slot : ℕ) → slot ≤ sync_slot_of sc.sizes
    → steps_to sc.sizes frame slot ≤ steps → (bus (steps_to sc.sizes frame slot)).slot ≡ slot
slot_there {sc} {bus} run frame slot small le =
    let at : IsAfter sc (steps_to sc.sizes frame slot) (bus (steps_to sc.sizes frame slot)) = after_steps run (steps_to sc.sizes frame slot) le in
    same_slot (sync_slot_of sc.sizes + 1) (bus (steps_to sc.sizes frame slot)).frame (bus (steps_to sc.sizes frame slot)).slot frame slot (sym at.place) (omega (arith, at.in_frame)) (omega (arith, small))
