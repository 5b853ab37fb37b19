-- The slots of which a run gives a record: each is complete, and its lines are one value at all
-- good BIUs.
use Rattle.std.proofs.{Common.{◌≡◌, ℕ, zero, suc, ◌+◌, ◌-◌, ◌*◌, ◌<◌, ◌≤◌, ◌==◌, nat_lt, Bool, true, false, ◌⊎◌, inl, inr, cond, None, List, [], ◌∷◌, ◌++◌, filter, map, if◌then◌else◌, refl, sym, ◌∙◌, ap, arith}, lemmas.Bool.{cases_lt, le-ltb, lt-ltb}, lemmas.Bool.Decides.nat_tests}
use Rattle.std.specs.List.{range_with_len}
use Rattle.rb_base.specs.{Nodes.Side.{Biu, Rmu}, Sizes.{Sizes, sync_slot_of}, declared.values.Delivery.Delivery, declared.values.Heard.Heard}
use Rattle.rb_base.proofs.Plain.{eq_self}
use Rattle.rb_rules.specs.{declared.record.SlotLine.SlotLine, declared.role.Role.Role, declared.role.Role.TheVariants.{Schedule, Data, DiagBiu, DiagRmu, Sync}, Book.Record.Slot, Goodness.{Scenario, is_good}, Headline.lines_of, Lawful.IsLawful, Moments.{IsComplete, IsRunning}, Ports.HandIn, Rounds.{Moment, moment, windows_in}, Slots.{Sender, role_of, first_diagnosis_of}}
use Rattle.rb_laws_agreement.specs.Values.{lines_in}
use Rattle.rb_laws_agreement.proofs.{Agreement.{IsAgreed, agreement, running_before}, Deliveries.owner_sending, Goodnesses.good_counts, Invariant.sender_of, SlotRuns.{IsSlot, slot_runs}, SlotValues.{slot-lines, value_of_slot}}
use Rattle.rb_group.specs.Portions.{deliveries_in}
use Rattle.rb_laws_groups.proofs.Added.{AddsSlot}

-- The record.

-- with step p a slot is complete
pub record IsServed (sc : Scenario) (hands : List HandIn) (p : ℕ) : Type 0 where
  pub slot : ℕ
  pub below : slot < sync_slot_of sc.sizes
  pub number : suc p ≡ (moment sc hands p).frame * (windows_in sc.sizes + 1) + 3 * slot + 3
  pub complete : IsComplete sc hands (moment sc hands p).frame slot
  pub sender : Sender
  pub value : Heard
  pub given : (moment sc hands (suc p)).book.given
      ≡ (moment sc hands p).book.given
      ++ Slot (moment sc hands p).frame slot (lines_in sc (moment sc hands p).frame slot (owner_sending (role_of sc.sizes slot) sender) value) ∷ []

pub served : {sc : _} (hands : List HandIn) → IsLawful sc → (p : ℕ) → AddsSlot sc (moment sc hands p) (moment sc hands (suc p)).book → IsServed sc hands p
served {sc} hands law p x =
    let m : Moment = moment sc hands p in
    let size : ℕ = windows_in sc.sizes + 1 in
    let before : IsRunning m = running_before sc hands m x.running in
    let a : IsAgreed sc hands p = agreement hands law p before in
    let place : p ≡ m.frame * size + m.window = a.agree.place in
    let at : m.window ≡ 3 * x.slot + 2 = x.at in
    let complete : IsComplete sc hands m.frame x.slot =
    ap (λ n. (moment sc hands n).book.ended) (last (m.frame * size) x.slot m.window p at place) ∙ x.running in
    let r : IsSlot sc hands m.frame x.slot = slot_runs law x.below complete in
    let lines : m.book.lines ≡ lines_in sc m.frame x.slot (owner_sending (role_of sc.sizes x.slot) (sender_of sc.sizes r.shared x.slot)) (value_of_slot r) =
    ap (λ n. (moment sc hands n).book.lines) (third (m.frame * size) x.slot m.window p at place)
    ∙ ap (λ m. m.book.lines) (sym r.after_second) ∙ slot-lines r in
    record {
      slot = x.slot;
      below = x.below;
      number = omega (arith, place, at);
      complete = complete;
      sender = sender_of sc.sizes r.shared x.slot;
      value = value_of_slot r;
      given = x.given ∙ ap (λ l. m.book.given ++ Slot m.frame x.slot l ∷ []) lines;
    }
  where
    last : (a slot window p : ℕ) → window ≡ 3 * slot + 2 → p ≡ a + window → a + 3 * slot + 4 - 1 ≡ suc p
    last a slot window p e f = omega arith

    third : (a slot window p : ℕ) → window ≡ 3 * slot + 2 → p ≡ a + window → p ≡ a + 3 * slot + 3 - 1
    third a slot window p e f = omega arith

-- The lines of a slot.

-- a slot before the data slots or behind them has no owner
pub no-owner : (sizes : Sizes) (slot : ℕ) (sender : Sender) → (slot < sizes.bius) ⊎ (sizes.bius + sizes.data_slots ≤ slot) → owner_sending (role_of sizes slot) sender ≡ None
no-owner sizes slot sender (inl early) = by (nat_lt slot sizes.bius) _ (lt-ltb slot sizes.bius early)
  where
    by : (a : Bool) (rest : Role) → a ≡ true → owner_sending (if a then Schedule slot else rest) sender ≡ None
    by true rest e = refl
    by false rest e = cc
no-owner sizes slot sender (inr late) = by (nat_lt slot sizes.bius) (nat_lt slot (first_diagnosis_of Biu sizes)) (nat_lt slot (first_diagnosis_of Rmu sizes)) (nat_lt slot (sync_slot_of sizes))
    (le-ltb slot sizes.bius (omega arith)) (le-ltb slot (first_diagnosis_of Biu sizes) late)
  where
    by : (a b c d : Bool) → a ≡ false → b ≡ false → owner_sending (
        if a then Schedule slot
        else (if b then Data (slot - sizes.bius)
        else (if c then DiagBiu (slot - first_diagnosis_of Biu sizes)
        else (if d then DiagRmu (slot - first_diagnosis_of Rmu sizes) else Sync)))
        ) sender ≡ None
    by true b c d e f = cc
    by false true c d e f = cc
    by false false true d e f = refl
    by false false false true e f = refl
    by false false false false e f = refl

-- a good BIU delivers the value of a slot once
pub one-delivery : (sc : Scenario) (frame slot owner : ℕ) (value : Heard) (i : ℕ) → is_good sc Biu i frame slot ≡ true
    → deliveries_in frame slot i (lines_of sc frame slot owner value) ≡ record { frame = frame; slot = slot; sender = owner; value = value } ∷ []
one-delivery sc frame slot owner value i good =
    let counted : i < sc.sizes.bius = good_counts sc Biu i frame slot good in
    one 0 sc.sizes.bius (omega arith) (omega (arith, counted))
  where
    make : ℕ → SlotLine
    make k = record { receiver = k; sender = owner; value = value }

    passes : ℕ → Bool
    passes k = is_good sc Biu k frame slot

    told : List ℕ → List Delivery
    told ks = deliveries_in frame slot i (map make ks)

    this : Delivery
    this = record { frame = frame; slot = slot; sender = owner; value = value }

    other : (from : ℕ) → (from == i) ≡ false → (b : Bool) (rest : List ℕ) (x : List Delivery) → told rest ≡ x → told (cond b (from ∷ rest) rest) ≡ x
    other from e true rest x h = ap (λ c. (if c then this ∷ [] else []) ++ told rest) e ∙ h
    other from e false rest x h = h

    none : (from n : ℕ) → i < from → told (filter passes (range_with_len from n)) ≡ []
    none from zero past = refl
    none from (suc n) past =
        let e : (from == i) ≡ false = grind (arith, nat_tests) in
        other from e (passes from) (filter passes (range_with_len (from + 1) n)) [] (none (from + 1) n (omega arith))

    here : (from n : ℕ) → from ≡ i → told (cond (passes from) (from ∷ filter passes (range_with_len (from + 1) n)) (filter passes (range_with_len (from + 1) n))) ≡ this ∷ []
    here from n e =
        ap (λ b. told (cond b (from ∷ filter passes (range_with_len (from + 1) n)) (filter passes (range_with_len (from + 1) n)))) (ap passes e ∙ good)
        ∙ ap (λ c. (if c then this ∷ [] else []) ++ told (filter passes (range_with_len (from + 1) n))) (ap (λ k. k == i) e ∙ eq_self i)
        ∙ ap (λ l. this ∷ l) (none (from + 1) n (omega arith))

    one : (from n : ℕ) → from ≤ i → i < from + n → told (filter passes (range_with_len from n)) ≡ this ∷ []
    one from zero low high = absurd (omega arith)
    one from (suc n) low high =
        elim (cases_lt from i) [
          | inl less ↦
              let e : (from == i) ≡ false = grind (arith, nat_tests) in
              other from e (passes from) (filter passes (range_with_len (from + 1) n)) (this ∷ []) (one (from + 1) n (omega arith) (omega arith))
          | inr more ↦ here from n (omega arith)
        ]
