-- The moments of a run by their places.
use Rattle.std.proofs.{Common.{◌≡◌, ℕ, ◌+◌, ◌-◌, ◌*◌, ◌<◌, ◌≤◌, true, false, List, inl, inr, sym, ◌∙◌, ap, arith}, lemmas.Bool.{cases_order, false_from_ne_true}, Math.Nat.{mul-le-mul_right, add-sub_of_le}}
use Rattle.rb_base.specs.{Nodes.Side, Sizes.sync_slot_of}
use Rattle.rb_rules.specs.{Goodness.{Scenario, is_good}, Lawful.IsLawful, Moments.{before_stage, before_slot, IsRunning, IsComplete, IsGoodBefore}, NodeState.NodeState, Ports.HandIn, Rounds.{moment, windows_in}}
use Rattle.rb_rules.proofs.Books.{moments-on}
use Rattle.rb_laws_agreement.proofs.{Invariant.{Shared, IsGoodNode, slot_numbered, Agree}, Agreement.{IsAgreed, agreement}}

-- A number of steps is one place.

less-apart : (size f w g v : ℕ) → f < g → w < size → f * size + w < g * size + v
less-apart size f w g v h small =
    let le : (f + 1) * size ≤ g * size = mul-le-mul_right size (omega arith) in
    omega arith

same_place : (size f w g v : ℕ) → f * size + w ≡ g * size + v → w < size → v < size → (f ≡ g) × (w ≡ v)
same_place size f w g v e small_w small_v =
    elim (cases_order f g) [
      | inl same ↦ (same, rest same)
      | inr order ↦ elim order [
        | inl less ↦ absurd (omega (arith, e, less-apart size f w g v less small_w))
        | inr more ↦ absurd (omega (arith, e, less-apart size g v f w more small_v))
      ]
    ]
  where
    rest : f ≡ g → w ≡ v
    rest same = let p : f * size ≡ g * size = ap (λ x. x * size) same in omega (arith, e, p)

-- Running.

-- a run that goes on at a moment went on before
pub running_earlier : (sc : Scenario) (hands : List HandIn) (n k : ℕ) → n ≤ k → IsRunning (moment sc hands k) → IsRunning (moment sc hands n)
running_earlier sc hands n k le running =
    let e : n + (k - n) ≡ k = add-sub_of_le le in
    false_from_ne_true (moment sc hands n).book.ended (λ ended.
    let same : (moment sc hands (n + (k - n))).book ≡ (moment sc hands n).book = (moments-on sc hands n (k - n)).over ended in
    let both : true ≡ false = sym ended ∙ ap (λ b. b.ended) (sym same) ∙ ap (λ x. (moment sc hands x).book.ended) e ∙ running in cc)

-- the moment before a stage of a slot, at which all good nodes agree
pub record IsPlaced (sc : Scenario) (hands : List HandIn) (frame slot stage : ℕ) : Type 0 where
  pub shared : Shared
  pub steps : ℕ
  pub agree : Agree sc hands steps (before_stage sc hands frame slot stage) shared
  pub frame_is : (before_stage sc hands frame slot stage).frame ≡ frame
  pub window_is : (before_stage sc hands frame slot stage).window ≡ 3 * slot + (stage - 1)

pub placed : {sc : _} (hands : List HandIn) → IsLawful sc → (frame slot stage : ℕ) → slot ≤ sync_slot_of sc.sizes → 1 ≤ stage → stage ≤ 4
    → IsRunning (before_stage sc hands frame slot stage) → IsPlaced sc hands frame slot stage
placed {sc} hands law frame slot stage le some most running =
    let n : ℕ = frame * (windows_in sc.sizes + 1) + 3 * slot + stage - 1 in
    let a : IsAgreed sc hands n = agreement hands law n running in
    let bound : (moment sc hands n).window ≤ windows_in sc.sizes = a.agree.window in
    let place : n ≡ (moment sc hands n).frame * (windows_in sc.sizes + 1) + (moment sc hands n).window = a.agree.place in
    let e : (moment sc hands n).frame * (windows_in sc.sizes + 1) + (moment sc hands n).window ≡ frame * (windows_in sc.sizes + 1) + (3 * slot + (stage - 1)) =
    sym place ∙ shuffle (frame * (windows_in sc.sizes + 1)) slot stage some in
    let both = same_place (windows_in sc.sizes + 1) (moment sc hands n).frame (moment sc hands n).window frame (3 * slot + (stage - 1)) e (omega arith) (omega arith) in
    record { shared = a.shared; steps = n; agree = a.agree; frame_is = both.0; window_is = both.1 }
  where
    shuffle : (a slot stage : ℕ) → 1 ≤ stage → a + 3 * slot + stage - 1 ≡ a + (3 * slot + (stage - 1))
    shuffle a slot stage some = omega arith

-- a complete slot was begun
pub complete_before : (sc : Scenario) (hands : List HandIn) (frame slot stage : ℕ) → stage ≤ 4 → IsComplete sc hands frame slot → IsRunning (before_stage sc hands frame slot stage)
complete_before sc hands frame slot stage most complete =
    running_earlier sc hands (frame * (windows_in sc.sizes + 1) + 3 * slot + stage - 1) (frame * (windows_in sc.sizes + 1) + 3 * slot + 4 - 1)
    (le (frame * (windows_in sc.sizes + 1) + 3 * slot) stage most) complete
  where
    le : (a stage : ℕ) → stage ≤ 4 → a + stage - 1 ≤ a + 4 - 1
    le a stage h = omega arith

-- Good nodes by their places.

-- a good node before a slot, or after one, is a good node of the moment
pub good_before_slot : {sc : Scenario} {hands : List HandIn} {frame slot : ℕ} → slot ≤ sync_slot_of sc.sizes → IsPlaced sc hands frame slot 1
    → {me : Side} {i : ℕ} {st : NodeState} → IsGoodBefore sc hands frame slot me i st → IsGoodNode sc (before_slot sc hands frame slot) me i st
good_before_slot {sc} {hands} {frame} {slot} le p {me} {i} h = record {
  there = h.state;
  good = ap (λ f. is_good sc me i f (slot_numbered sc.sizes (before_slot sc hands frame slot).window)) p.frame_is
      ∙ ap (is_good sc me i frame) (here (before_slot sc hands frame slot).window p.window_is) ∙ h.good;
}
  where
    here : (window : ℕ) → window ≡ 3 * slot + (1 - 1) → slot_numbered sc.sizes window ≡ slot
    here window e = omega arith
