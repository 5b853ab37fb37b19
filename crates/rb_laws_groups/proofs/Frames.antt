-- What a port has delivered of each BIU in a frame whose data slots are served.
use Rattle.std.proofs.{Common.{◌≡◌, ℕ, zero, suc, ◌+◌, ◌-◌, ◌*◌, ◌<◌, ◌≤◌, ◌==◌, nat_lt, true, false, inl, inr, Option, Some, None, slice_get, List, [], ◌∷◌, refl, sym, ◌∙◌, ap, subst, arith}, lemmas.Bool.{cases_lt, cases_order}, Math.Nat.{add-sub_of_le, mul-le-mul_right}}
use Rattle.std.specs.List.{range_with_len}
use Rattle.rb_base.specs.{Nodes.Side.Biu, Sizes.sync_slot_of}
use Rattle.rb_base.proofs.Plain.{eq_self, range-more}
use Rattle.rb_rules.specs.{declared.role.Role.Role, declared.role.Role.TheVariants.{Schedule, Data, DiagBiu, DiagRmu, Sync}, Book.of_kind, Goodness.Scenario, Lawful.IsLawful, Moments.{before_slot, IsComplete, IsRunning}, NodeState.NodeState, NodeSteps.{owner_at, owner_for}, Ports.HandIn, Rounds.{Moment, moment, records_of, step, steps_of, windows_in}, Slots.role_of}
use Rattle.rb_rules.proofs.Books.{records-are, stepped}
use Rattle.rb_laws_agreement.proofs.{Agreement.{IsAgreed, agreement, ended-end, running_before}, Goodnesses.good_earlier, Places.running_earlier, SlotLaws.one-schedule}
use Rattle.rb_group.specs.{Groups.first_of, Portions.port_deliveries}
use Rattle.rb_laws_groups.specs.Laws.{AreServed, FramesHaveASchedule, IsGoodPort, IsSchedule, first_among, first_slot, last_data_slot}
use Rattle.rb_laws_groups.proofs.{Added.{first-told, told_in}, Owned.{HasState, IsDeliveredOf, SlotAdds, delivered-more, first_among-append, first_of-append, has-state, or_else, quiet-steps, slot-adds}}

-- The data slots are complete.

-- the slots before a complete one are complete
pub slot-earlier : (sc : Scenario) (hands : List HandIn) (frame slot : ℕ) {last : ℕ} → slot ≤ last → IsComplete sc hands frame last → IsComplete sc hands frame slot
slot-earlier sc hands frame slot {last} within complete =
    running_earlier sc hands (frame * (windows_in sc.sizes + 1) + 3 * slot + 4 - 1) (frame * (windows_in sc.sizes + 1) + 3 * last + 4 - 1)
    (le (frame * (windows_in sc.sizes + 1)) slot last within) complete
  where
    le : (a slot last : ℕ) → slot ≤ last → a + 3 * slot + 4 - 1 ≤ a + 3 * last + 4 - 1
    le a slot last h = omega (arith, h)

-- Numbers.

less-apart : (size f w g : ℕ) → f < g → w < size → f * size + w < g * size
less-apart size f w g h small =
    let le : (f + 1) * size ≤ g * size = mul-le-mul_right size (omega arith) in
    omega arith

-- a number of steps is the start of one frame alone
same-frame : (size f w g : ℕ) → f * size + w ≡ g * size → w < size → f ≡ g
same-frame size f w g e small =
    elim (cases_order f g) [
      | inl same ↦ same
      | inr order ↦ elim order [
        | inl less ↦ absurd (omega (arith, e, less-apart size f w g less small))
        | inr more ↦ absurd (omega (arith, e, less-apart size g 0 f more (omega (arith, small))))
      ]
    ]

-- The moments.

-- the number of the moment before a slot
abbrev pub number_of : Scenario → ℕ → ℕ → ℕ
number_of sc frame slot = frame * (windows_in sc.sizes + 1) + 3 * slot + 1 - 1

-- before the data slots nothing is delivered
none-early : {sc : _} (hands : List HandIn) → IsLawful sc → (frame port : ℕ) → told_in frame port (before_slot sc hands frame sc.sizes.bius).book ≡ []
none-early {sc} hands law frame port =
    ap (λ n. told_in frame port (moment sc hands n).book) (sym (from_zero (number_of sc frame sc.sizes.bius)))
    ∙ quiet-steps hands law frame port 0 (number_of sc frame sc.sizes.bius) (λ q low high slot at.
    inl (early (frame * (windows_in sc.sizes + 1)) q slot sc.sizes.bius high at))
    ∙ first-told sc hands frame port
  where
    from_zero : (n : ℕ) → 0 + n ≡ n
    from_zero n = omega arith

    early : (a q slot bius : ℕ) → q < 0 + (a + 3 * bius + 1 - 1) → suc q ≡ a + 3 * slot + 3 → slot < bius
    early a q slot bius high at = omega (arith, high, at)

-- after `n` data slots a port has from each BIU what the first slot of that BIU among them
-- delivered
abbrev pub AreDelivered : Scenario → List HandIn → ℕ → ℕ → (ℕ → Option ℕ) → ℕ → Type 0
AreDelivered sc hands frame port owner n =
    (i : ℕ) → IsDeliveredOf sc hands frame i (first_among owner i (range_with_len sc.sizes.bius n)) (first_of i (told_in frame port (before_slot sc hands frame (sc.sizes.bius + n)).book))

data-slots : {sc hands : _} → IsLawful sc → {frame : ℕ} → AreServed sc hands frame → {owner : _} → IsSchedule sc hands frame owner
    → (port : ℕ) → IsGoodPort sc frame port → (n : ℕ) → n ≤ sc.sizes.data_slots → AreDelivered sc hands frame port owner n
data-slots {sc} {hands} law {frame} are schedule port good zero le i =
    ap (λ s. first_of i (told_in frame port (before_slot sc hands frame s).book)) (same sc.sizes.bius) ∙ ap (first_of i) (none-early hands law frame port)
  where
    same : (a : ℕ) → a + 0 ≡ a
    same a = omega arith
data-slots {sc} {hands} law {frame} are {owner} schedule port good (suc n) le i =
    let slot : ℕ = sc.sizes.bius + n in
    let within : slot ≤ last_data_slot sc.sizes = omega (arith, le) in
    let below : slot < sync_slot_of sc.sizes = omega (arith, le) in
    let adds : SlotAdds sc hands frame slot port owner =
    slot-adds law port below (slot-earlier sc hands frame slot within are) (good_earlier sc Biu port frame slot (last_data_slot sc.sizes) within good) owner
    (λ st before. schedule slot (omega arith) within Biu port st before) in
    let before : IsDeliveredOf sc hands frame i (first_among owner i (range_with_len sc.sizes.bius n)) (first_of i (told_in frame port (before_slot sc hands frame slot).book)) =
    data-slots law are schedule port good n (omega (arith, le)) i in
    let both : IsDeliveredOf sc hands frame i (or_else (first_among owner i (range_with_len sc.sizes.bius n)) (first_among owner i (slot ∷ [])))
    (or_else (first_of i (told_in frame port (before_slot sc hands frame slot).book)) (first_of i adds.more)) =
    delivered-more sc hands frame i (first_among owner i (range_with_len sc.sizes.bius n)) (first_among owner i (slot ∷ []))
    (first_of i (told_in frame port (before_slot sc hands frame slot).book)) (first_of i adds.more) before (adds.each i) in
    let slots : or_else (first_among owner i (range_with_len sc.sizes.bius n)) (first_among owner i (slot ∷ [])) ≡ first_among owner i (range_with_len sc.sizes.bius (suc n)) =
    sym (first_among-append owner i (range_with_len sc.sizes.bius n) (slot ∷ [])) ∙ ap (first_among owner i) (sym (range-more sc.sizes.bius n)) in
    let values : or_else (first_of i (told_in frame port (before_slot sc hands frame slot).book)) (first_of i adds.more)
    ≡ first_of i (told_in frame port (before_slot sc hands frame (sc.sizes.bius + suc n)).book) =
    sym (first_of-append i (told_in frame port (before_slot sc hands frame slot).book) adds.more) ∙ ap (first_of i) (sym adds.told)
    ∙ ap (λ k. first_of i (told_in frame port (moment sc hands k).book)) (next (frame * (windows_in sc.sizes + 1)) sc.sizes.bius n) in
    subst (λ o. IsDeliveredOf sc hands frame i (first_among owner i (range_with_len sc.sizes.bius (suc n))) o) values
    (subst (λ o. IsDeliveredOf sc hands frame i o (or_else (first_of i (told_in frame port (before_slot sc hands frame slot).book)) (first_of i adds.more))) slots both)
  where
    next : (a bius n : ℕ) → a + 3 * (bius + n) + 4 - 1 ≡ a + 3 * (bius + suc n) + 1 - 1
    next a bius n = omega arith

-- The end.

ended-at : (sc : Scenario) (hands : List HandIn) (m : Moment) → m.frame ≡ sc.frames → (step sc hands m).book.ended ≡ true
unfolding step
ended-at sc hands m e =
    ap (λ b. (stepped sc hands m b (nat_lt m.window (windows_in sc.sizes))).book.ended) (ap (λ f. f == sc.frames) e ∙ eq_self sc.frames) ∙ ended-end m.book

-- a run that goes on has not come to its last step
pub is-early : {sc : _} (hands : List HandIn) → IsLawful sc → (n : ℕ) → IsRunning (moment sc hands n) → n ≤ steps_of sc
is-early {sc} hands law n running =
    elim (cases_lt (steps_of sc) n) [
      | inr le ↦ le
      | inl past ↦
          let size : ℕ = windows_in sc.sizes + 1 in
          let last : ℕ = sc.frames * size in
          let run : IsRunning (moment sc hands (suc last)) = running_earlier sc hands (suc last) n (before last n past) running in
          let a : IsAgreed sc hands last = agreement hands law last (running_before sc hands (moment sc hands last) run) in
          let place : last ≡ (moment sc hands last).frame * size + (moment sc hands last).window = a.agree.place in
          let bound : (moment sc hands last).window ≤ windows_in sc.sizes = a.agree.window in
          let frame : (moment sc hands last).frame ≡ sc.frames =
          same-frame size (moment sc hands last).frame (moment sc hands last).window sc.frames (sym place) (omega (arith, bound)) in
          absurd (let two : true ≡ false = sym (ended-at sc hands (moment sc hands last) frame) ∙ run in cc)
    ]
  where
    before : (last n : ℕ) → last + 1 < n → suc last ≤ n
    before last n h = omega (arith, h)

-- what a good port has delivered of a BIU in all
pub delivered-of : {sc hands : _} → IsLawful sc → {frame : ℕ} → AreServed sc hands frame → {owner : _} → IsSchedule sc hands frame owner
    → (port : ℕ) → IsGoodPort sc frame port → (i : ℕ)
    → IsDeliveredOf sc hands frame i (first_slot sc.sizes owner i) (first_of i (port_deliveries frame port (records_of sc hands)))
delivered-of {sc} {hands} law {frame} are {owner} schedule port good i =
    let n : ℕ = number_of sc frame (sc.sizes.bius + sc.sizes.data_slots) in
    let size : ℕ = windows_in sc.sizes + 1 in
    let some : 1 ≤ sc.sizes.data_slots = law.sizes.some_slot in
    let running : IsRunning (moment sc hands n) =
    ap (λ k. (moment sc hands k).book.ended) (sym (same (frame * size) sc.sizes.bius sc.sizes.data_slots some)) ∙ are in
    let le : n ≤ steps_of sc = is-early hands law n running in
    let rest : told_in frame port (moment sc hands (n + (steps_of sc - n))).book ≡ told_in frame port (moment sc hands n).book =
    quiet-steps hands law frame port n (steps_of sc - n) (λ q low high slot at. inr (late (frame * size) q slot (sc.sizes.bius + sc.sizes.data_slots) low at)) in
    let all : told_in frame port (moment sc hands n).book ≡ port_deliveries frame port (records_of sc hands) =
    sym rest ∙ ap (λ k. told_in frame port (moment sc hands k).book) (add-sub_of_le le) ∙ ap (port_deliveries frame port) (sym (records-are sc hands)) in
    subst (λ ds. IsDeliveredOf sc hands frame i (first_slot sc.sizes owner i) (first_of i ds)) all
    (data-slots law are schedule port good sc.sizes.data_slots (omega arith) i)
  where
    same : (a bius slots : ℕ) → 1 ≤ slots → a + 3 * (bius + slots - 1) + 4 - 1 ≡ a + 3 * (bius + slots) + 1 - 1
    same a bius slots some = omega (arith, some)

    late : (a q slot past : ℕ) → a + 3 * past + 1 - 1 ≤ q → suc q ≡ a + 3 * slot + 3 → past ≤ slot
    late a q slot past low at = omega (arith, low, at)

-- The schedule.

same-owner : (role : Role) (mine yours : NodeState) → mine.owners ≡ yours.owners → owner_for mine role ≡ owner_for yours role
same-owner (Schedule n) mine yours e = refl
same-owner (Data n) mine yours e = ap (λ o. slice_get o n) e
same-owner (DiagBiu n) mine yours e = refl
same-owner (DiagRmu n) mine yours e = refl
same-owner Sync mine yours e = refl

-- the owner of a slot as a node in this state holds it
abbrev pub owner_held : Scenario → Option NodeState → ℕ → Option ℕ
owner_held sc None slot = None
owner_held sc (Some st) slot = owner_at sc.sizes st slot

pub frames-have-a-schedule : FramesHaveASchedule
frames-have-a-schedule sc hands law frame are port good = (owner, held)
  where
    owner : ℕ → Option ℕ
    owner slot = owner_held sc (slice_get (of_kind Biu (before_slot sc hands frame slot).nodes) port) slot

    held : IsSchedule sc hands frame owner
    held slot from within me i st before =
        let some : 1 ≤ sc.sizes.data_slots = law.sizes.some_slot in
        let below : slot < sync_slot_of sc.sizes = omega (arith, within, some) in
        let complete : IsComplete sc hands frame slot = slot-earlier sc hands frame slot within are in
        let state : HasState sc hands frame slot port =
        has-state law port below complete (good_earlier sc Biu port frame slot (last_data_slot sc.sizes) within good) in
        same-owner (role_of sc.sizes slot) st state.st (one-schedule hands law frame slot from (omega (arith, below)) complete me Biu i port st state.st before state.is)
        ∙ ap (λ o. owner_held sc o slot) (sym state.is.state)
