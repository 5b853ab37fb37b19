-- What a BIU delivers in a slot, by the records: what the bus does, if it is good there, and else
-- nothing.
use Rattle.std.proofs.{Common.{◌≡◌, ℕ, zero, suc, ◌+◌, ◌-◌, ◌*◌, ◌^◌, ◌<◌, ◌≤◌, ◌==◌, Bool, true, false, inl, inr, cond, Option, Some, None, List, [], ◌∷◌, ◌++◌, filter, map, if◌then◌else◌, refl, sym, ◌∙◌, ap, subst, arith}, Math.Nat.add-sub_of_le, lemmas.Bool.{cases_lt, eqb-true}}
use Rattle.std.specs.{List.range_with_len, Option.option_or}
use Rattle.rb_base.specs.{Counting.numbers, Nodes.Side.Biu, Sizes.sync_slot_of, declared.values.Delivery.Delivery, declared.values.Heard.Heard, declared.values.Heard.TheVariants.{Word, Fault}}
use Rattle.rb_base.proofs.Plain.{eq_self, option_or-if, option_or-none}
use Rattle.rb_rules.specs.{declared.record.SlotLine.SlotLine, Book.Record.Slot, Goodness.{Scenario, is_good}, Headline.lines_of, Lawful.IsLawful, Moments.{before_slot, before_stage, IsComplete}, Ports.HandIn, Rounds.{Moment, moment, steps_of, windows_in}, Slots.role_of}
use Rattle.rb_rules.proofs.{Books.records-are, Senses.IsCarried}
use Rattle.rb_laws_agreement.specs.{Histories.{delivered_in, value_in_lines}, Values.lines_in}
use Rattle.rb_laws_agreement.proofs.{Deliveries.{given_after, owner_sending}, Goodnesses.good_counts, Invariant.sender_of, NextMoments.next, SlotRuns.{IsSlot, slot_runs, third_frame}, SlotValues.{slot-lines, value_of_slot}, ThirdStages.voted}
use Rattle.rb_group.specs.Portions.{deliveries_in, line_told, port_deliveries, told_of}
use Rattle.rb_laws_groups.proofs.{Added.{first-told, step-tells, told-more, told_in}, Frames.is-early, Served.{IsServed, one-delivery, served}}
use Rattle.rb_rules_bridge.specs.Crossings.{value_in, word_of}
use Rattle.rb_laws_bridge.specs.Laws.{GoodBiusTellTheBus, OtherBiusTellNothing}

-- Deliveries of a slot.

pub value_in-append : (slot : ℕ) (ds es : List Delivery) → value_in slot (ds ++ es) ≡ option_or (value_in slot ds) (value_in slot es)
value_in-append slot [] es = refl
value_in-append slot (d ∷ ds) es =
    ap (λ o. if d.slot == slot then Some d.value else o) (value_in-append slot ds es) ∙ option_or-if (d.slot == slot) d.value (value_in slot ds) (value_in slot es)

-- what a slot delivers is no value of another one
other-slot : (frame s slot i : ℕ) → (s == slot) ≡ false → (lines : List SlotLine) → value_in slot (deliveries_in frame s i lines) ≡ None
other-slot frame s slot i other [] = refl
other-slot frame s slot i other (l ∷ ls) =
    value_in-append slot (line_told frame s i l) (deliveries_in frame s i ls)
    ∙ ap (option_or (value_in slot (line_told frame s i l))) (other-slot frame s slot i other ls)
    ∙ option_or-none (value_in slot (line_told frame s i l)) ∙ line (l.receiver == i)
  where
    line : (b : Bool) → value_in slot (if b then record { frame = frame; slot = s; sender = l.sender; value = l.value } ∷ [] else []) ≡ None
    line true = ap (λ b. if b then Some l.value else None) other
    line false = refl

-- the lines of a slot have none for a BIU that is not good there
no-line : (sc : Scenario) (frame slot owner : ℕ) (value : Heard) (i : ℕ) → is_good sc Biu i frame slot ≡ false → deliveries_in frame slot i (lines_of sc frame slot owner value) ≡ []
no-line sc frame slot owner value i faulty = none (numbers sc.sizes.bius)
  where
    make : ℕ → SlotLine
    make k = record { receiver = k; sender = owner; value = value }

    good : ℕ → Bool
    good k = is_good sc Biu k frame slot

    told : List ℕ → List Delivery
    told ks = deliveries_in frame slot i (map make ks)

    here : Delivery
    here = record { frame = frame; slot = slot; sender = owner; value = value }

    other : (k : ℕ) → good k ≡ true → (b : Bool) → (k == i) ≡ b → b ≡ false
    other k g true e = absurd (let both : true ≡ false = sym g ∙ ap good (eqb-true k i e) ∙ faulty in cc)
    other k g false e = refl

    step : (k : ℕ) (ks : List ℕ) (b : Bool) → good k ≡ b → told ks ≡ [] → told (cond b (k ∷ ks) ks) ≡ []
    step k ks true g rest = ap (λ b. (if b then here ∷ [] else []) ++ told ks) (other k g (k == i) refl) ∙ rest
    step k ks false g rest = rest

    none : (ks : List ℕ) → told (filter good ks) ≡ []
    none [] = refl
    none (k ∷ ks) = step k (filter good ks) (good k) refl (none ks)

no-line-in : (sc : Scenario) (frame slot : ℕ) (owner : Option ℕ) (value : Heard) (i : ℕ) → is_good sc Biu i frame slot ≡ false → deliveries_in frame slot i (lines_in sc frame slot owner value) ≡ []
no-line-in sc frame slot None value i faulty = refl
no-line-in sc frame slot (Some owner) value i faulty = no-line sc frame slot owner value i faulty

good-line : (sc : Scenario) (frame slot owner : ℕ) (value : Heard) (i : ℕ) → is_good sc Biu i frame slot ≡ true → value_in_lines (lines_of sc frame slot owner value) ≡ Some value
good-line sc frame slot owner value i here = from 0 sc.sizes.bius (omega arith) (omega (arith, good_counts sc Biu i frame slot here))
  where
    make : ℕ → SlotLine
    make k = record { receiver = k; sender = owner; value = value }

    good : ℕ → Bool
    good k = is_good sc Biu k frame slot

    step : (a n : ℕ) → a ≤ i → (b : Bool) → good a ≡ b → (a < i → value_in_lines (map make (filter good (range_with_len (a + 1) n))) ≡ Some value)
        → value_in_lines (map make (cond b (a ∷ filter good (range_with_len (a + 1) n)) (filter good (range_with_len (a + 1) n)))) ≡ Some value
    step a n low true g later = refl
    step a n low false g later =
        elim (cases_lt a i) [
          | inl less ↦ later less
          | inr more ↦ let same : a ≡ i = omega arith in absurd (let both : true ≡ false = sym here ∙ ap good (sym same) ∙ g in cc)
        ]

    from : (a n : ℕ) → a ≤ i → i < a + n → value_in_lines (map make (filter good (range_with_len a n))) ≡ Some value
    from a zero low high = absurd (omega arith)
    from a (suc n) low high = step a n low (good a) refl (λ less. from (a + 1) n (omega arith) (omega arith))

-- what a good BIU delivers in a slot is what the bus does
line-told : (sc : Scenario) (frame slot : ℕ) (owner : Option ℕ) (value : Heard) (i : ℕ) → is_good sc Biu i frame slot ≡ true
    → value_in slot (deliveries_in frame slot i (lines_in sc frame slot owner value)) ≡ value_in_lines (lines_in sc frame slot owner value)
line-told sc frame slot None value i good = refl
line-told sc frame slot (Some owner) value i good =
    ap (value_in slot) (one-delivery sc frame slot owner value i good) ∙ ap (λ b. if b then Some value else None) (eq_self slot) ∙ sym (good-line sc frame slot owner value i good)

-- Step by step.

-- the value that a BIU has delivered in a slot of a frame, as far as a moment tells
abbrev value_by : Scenario → List HandIn → ℕ → ℕ → ℕ → ℕ → Option Heard
value_by sc hands frame slot i n = value_in slot (told_in frame i (moment sc hands n).book)

-- the number of the moment with which a slot is complete
abbrev completed : Scenario → ℕ → ℕ → ℕ
completed sc frame slot = frame * (windows_in sc.sizes + 1) + 3 * slot + 3

-- the BIU is not good in the slot if the step completes the slot
abbrev pub AddsNoValue : Scenario → ℕ → ℕ → ℕ → ℕ → Type 0
AddsNoValue sc frame slot i p = suc p ≡ completed sc frame slot → is_good sc Biu i frame slot ≡ false

still-step : {sc : _} (hands : List HandIn) → IsLawful sc → (frame slot i : ℕ) {p : ℕ} → AddsNoValue sc frame slot i p
    → value_by sc hands frame slot i (suc p) ≡ value_by sc hands frame slot i p
still-step {sc} hands law frame slot i {p} adds_none =
    elim (step-tells sc hands (moment sc hands p) frame) [
      | inl none ↦ ap (value_in slot) (none i)
      | inr adds ↦
          let s : IsServed sc hands p = served hands law p adds in
          ap (λ given. value_in slot (port_deliveries frame i given)) s.given
          ∙ ap (value_in slot) (told-more frame i (moment sc hands p).book.given _)
          ∙ value_in-append slot (told_in frame i (moment sc hands p).book) _
          ∙ ap (option_or (value_by sc hands frame slot i p))
          (by (moment sc hands p).frame s.slot (owner_sending (role_of sc.sizes s.slot) s.sender) s.value
          (λ same_frame same_slot. adds_none (s.number ∙ ap (λ f. f * (windows_in sc.sizes + 1) + 3 * s.slot + 3) same_frame
          ∙ ap (λ k. frame * (windows_in sc.sizes + 1) + 3 * k + 3) same_slot))
          ((moment sc hands p).frame == frame) refl (s.slot == slot) refl)
          ∙ option_or-none (value_by sc hands frame slot i p)
    ]
  where
    by : (f s : ℕ) (owner : Option ℕ) (value : Heard) → (f ≡ frame → s ≡ slot → is_good sc Biu i frame slot ≡ false)
        → (b : Bool) → (f == frame) ≡ b → (c : Bool) → (s == slot) ≡ c
        → value_in slot (if b then deliveries_in frame s i (lines_in sc f s owner value) else []) ≡ None
    by f s owner value faulty false e c d = refl
    by f s owner value faulty true e false d = other-slot frame s slot i d (lines_in sc f s owner value)
    by f s owner value faulty true e true d =
        let same_frame : f ≡ frame = eqb-true f frame e in
        let same_slot : s ≡ slot = eqb-true s slot d in
        ap (λ f. value_in slot (deliveries_in frame s i (lines_in sc f s owner value))) same_frame
        ∙ ap (λ s. value_in slot (deliveries_in frame s i (lines_in sc frame s owner value))) same_slot
        ∙ ap (value_in slot) (no-line-in sc frame slot owner value i (faulty same_frame same_slot))

still-steps : {sc : _} (hands : List HandIn) → IsLawful sc → (frame slot i p k : ℕ) → ((q : ℕ) → p ≤ q → q < p + k → AddsNoValue sc frame slot i q)
    → value_by sc hands frame slot i (p + k) ≡ value_by sc hands frame slot i p
still-steps {sc} hands law frame slot i p zero adds_none = ap (value_by sc hands frame slot i) (same p)
  where
    same : (p : ℕ) → p + 0 ≡ p
    same p = omega arith
still-steps {sc} hands law frame slot i p (suc k) adds_none =
    ap (value_by sc hands frame slot i) (same p k)
    ∙ still-step hands law frame slot i (adds_none (p + k) (omega arith) (omega arith))
    ∙ still-steps hands law frame slot i p k (λ q low high. adds_none q low (omega (arith, high)))
  where
    same : (p k : ℕ) → p + suc k ≡ suc (p + k)
    same p k = omega arith

-- a slot has no value at a BIU as long as no moment adds one
none-before : {sc : _} (hands : List HandIn) → IsLawful sc → (frame slot i n : ℕ) → ((q : ℕ) → q < n → AddsNoValue sc frame slot i q)
    → value_by sc hands frame slot i n ≡ None
none-before {sc} hands law frame slot i n adds_none =
    ap (value_by sc hands frame slot i) (from_zero n) ∙ still-steps hands law frame slot i 0 n (λ q low high. adds_none q (omega (arith, high)))
    ∙ ap (value_in slot) (first-told sc hands frame i)
  where
    from_zero : (n : ℕ) → n ≡ 0 + n
    from_zero n = omega arith

pub others-tell-nothing : OtherBiusTellNothing
others-tell-nothing sc hands law frame slot i faulty =
    ap (λ given. value_in slot (port_deliveries frame i given)) (records-are sc hands)
    ∙ none-before hands law frame slot i (steps_of sc) (λ q early is. faulty)

-- The slot.

-- a slot has an owner or none and a value, and both are what the slot delivers
record IsTold (sc : Scenario) (hands : List HandIn) (frame slot : ℕ) : Type 0 where
  pub owner : Option ℕ
  pub value : Heard
  pub carried : IsCarried value
  pub delivered : delivered_in sc hands frame slot ≡ value_in_lines (lines_in sc frame slot owner value)
  pub adds : (i : ℕ) → told_in frame i (moment sc hands (completed sc frame slot)).book
      ≡ told_in frame i (before_stage sc hands frame slot 3).book ++ deliveries_in frame slot i (lines_in sc frame slot owner value)

is-told : {sc hands : _} → IsLawful sc → {frame slot : ℕ} → slot < sync_slot_of sc.sizes → IsComplete sc hands frame slot → IsTold sc hands frame slot
is-told {sc} {hands} law {frame} {slot} below complete =
    let r : IsSlot sc hands frame slot = slot_runs law below complete in
    let m3 : Moment = next sc (next sc (before_slot sc hands frame slot)) in
    let owner : Option ℕ = owner_sending (role_of sc.sizes slot) (sender_of sc.sizes r.shared slot) in
    let lines : m3.book.lines ≡ lines_in sc frame slot owner (value_of_slot r) = slot-lines r in
    record {
      owner = owner;
      value = value_of_slot r;
      carried = (voted sc hands (suc (suc r.steps)) m3 r.shared slot r.third).is_value.carried;
      delivered = ap (λ m. value_in_lines m.book.lines) (sym r.after_second) ∙ ap value_in_lines lines;
      adds = λ i.
          ap (λ n. told_in frame i (moment sc hands n).book) (last (frame * (windows_in sc.sizes + 1)) slot)
          ∙ ap (λ m. told_in frame i m.book) (sym r.after_third)
          ∙ ap (port_deliveries frame i) (given_after r.third)
          ∙ told-more frame i m3.book.given _
          ∙ ap (λ f. told_in frame i m3.book ++ told_of frame i (Slot f slot m3.book.lines)) (third_frame r)
          ∙ ap (λ b. told_in frame i m3.book ++ (if b then deliveries_in frame slot i m3.book.lines else [])) (eq_self frame)
          ∙ ap (λ l. told_in frame i m3.book ++ deliveries_in frame slot i l) lines
          ∙ ap (λ m. told_in frame i m.book ++ deliveries_in frame slot i (lines_in sc frame slot owner (value_of_slot r))) r.after_second;
    }
  where
    last : (a slot : ℕ) → a + 3 * slot + 3 ≡ a + 3 * slot + 4 - 1
    last a slot = omega arith

pub good-tell : GoodBiusTellTheBus
good-tell sc hands law frame slot below complete i good =
    let a : ℕ = frame * (windows_in sc.sizes + 1) in
    let t : IsTold sc hands frame slot = is-told law below complete in
    let early : completed sc frame slot ≤ steps_of sc =
    is-early hands law (completed sc frame slot) (ap (λ n. (moment sc hands n).book.ended) (last a slot) ∙ complete) in
    let is : completed sc frame slot + (steps_of sc - completed sc frame slot) ≡ steps_of sc = add-sub_of_le early in
    ap (λ given. value_in slot (port_deliveries frame i given)) (records-are sc hands)
    ∙ ap (value_by sc hands frame slot i) (sym is)
    ∙ still-steps hands law frame slot i (completed sc frame slot) (steps_of sc - completed sc frame slot)
    (λ q low high at. absurd (omega (arith, low, at)))
    ∙ ap (value_in slot) (t.adds i)
    ∙ value_in-append slot (told_in frame i (before_stage sc hands frame slot 3).book) (deliveries_in frame slot i (lines_in sc frame slot t.owner t.value))
    ∙ ap (λ o. option_or o (value_in slot (deliveries_in frame slot i (lines_in sc frame slot t.owner t.value))))
    (none-before hands law frame slot i (a + 3 * slot + 3 - 1) (λ q less at. absurd (omega (arith, less, at))))
    ∙ line-told sc frame slot t.owner t.value i good ∙ sym t.delivered
  where
    last : (a slot : ℕ) → a + 3 * slot + 3 ≡ a + 3 * slot + 4 - 1
    last a slot = omega arith

-- The word of a slot has four bytes.

fits-one : (value : Heard) → IsCarried value → word_of (Some value) < 2 ^ 32
fits-one (Word w) carried = carried
fits-one Fault carried = omega arith

fits-lines : (value : Heard) (owner : ℕ) → IsCarried value → (is : List ℕ) → word_of (value_in_lines (map (λ i. record { receiver = i; sender = owner; value = value }) is)) < 2 ^ 32
fits-lines value owner carried [] = omega arith
fits-lines value owner carried (i ∷ is) = fits-one value carried

fits-in : (sc : Scenario) (frame slot : ℕ) (owner : Option ℕ) (value : Heard) → IsCarried value → word_of (value_in_lines (lines_in sc frame slot owner value)) < 2 ^ 32
fits-in sc frame slot None value carried = omega arith
fits-in sc frame slot (Some owner) value carried = fits-lines value owner carried (filter (λ i. is_good sc Biu i frame slot) (numbers sc.sizes.bius))

pub word-fits : {sc : _} (hands : List HandIn) → IsLawful sc → (frame : ℕ) {slot : ℕ} → slot < sync_slot_of sc.sizes → IsComplete sc hands frame slot
    → word_of (delivered_in sc hands frame slot) < 2 ^ 32
word-fits {sc} hands law frame {slot} below complete =
    let t : IsTold sc hands frame slot = is-told law below complete in
    subst (λ o. word_of o < 2 ^ 32) (sym t.delivered) (fits-in sc frame slot t.owner t.value t.carried)
