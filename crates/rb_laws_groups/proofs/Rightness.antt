-- The lines of every record of a run are right.
use Rattle.std.proofs.{Common.{◌≡◌, ℕ, zero, suc, ◌+◌, ◌-◌, ◌*◌, ◌<◌, Bool, true, false, ◌⊎◌, inl, inr, cond, All, Option, Some, None, List, [], ◌∷◌, ◌++◌, filter, map, length, slice_get, refl, sym, ◌∙◌, ap, subst, arith}, lemmas.List.Elements.{All-nil, All-cons, All-append}}
use Rattle.std.specs.List.{last_or}
use Rattle.rb_base.specs.{Counting.numbers, Nodes.Side.Biu, Sizes.sync_slot_of, declared.values.Heard.Heard}
use Rattle.rb_base.proofs.Plain.{last_or-append}
use Rattle.rb_rules.specs.{declared.record.SlotLine.SlotLine, Book.{Record, of_kind}, Book.Record.{Frame, Slot, Ended, Breach}, Goodness.{Scenario, is_good}, Headline.{DeliversOneValue, HasRecord}, Lawful.IsLawful, Moments.{after_slot, before_slot, IsComplete, IsGoodBefore}, NodeState.NodeState, NodeSteps.owner_at, Ports.HandIn, Rounds.{moment, steps_of, windows_in}, Slots.role_of}
use Rattle.rb_rules.proofs.Books.{records-are}
use Rattle.rb_laws_agreement.specs.Values.{lines_in}
use Rattle.rb_laws_agreement.proofs.{Deliveries.owner_sending, Goodnesses.good_counts, Places.{IsPlaced, complete_before, placed}, Promises.deliveries_are_right, Settings.item_at, TablesHold.held-delivered, Tests.Present}
use Rattle.rb_laws_groups.specs.Lines.{AreOfSender, IsRight, RecordsAreRight}
use Rattle.rb_laws_groups.proofs.{Added.{AddsNoSlot, IsPlain, first-adds, step-adds}, Served.{IsServed, served}}

-- Lists.

last-same : (xs ys : List Record) (a b : Record) → xs ++ a ∷ [] ≡ ys ++ b ∷ [] → a ≡ b
last-same xs ys a b e =
    let both : Some a ≡ Some b = sym (last_or-append None xs a) ∙ ap (last_or None) e ∙ last_or-append None ys b in
    cc

same-lines : (frame slot : ℕ) (a b : List SlotLine) → Slot frame slot a ≡ Slot frame slot b → a ≡ b
same-lines frame slot a b e = cc

-- some number passes, or none of `xs` does
passing : (p : ℕ → Bool) (xs : List ℕ) → (filter p xs ≡ []) ⊎ ((i : ℕ) × (p i ≡ true))
passing p [] = inl refl
passing p (x ∷ xs) = by (p x) refl (passing p xs)
  where
    by : (b : Bool) → p x ≡ b → (filter p xs ≡ []) ⊎ ((i : ℕ) × (p i ≡ true)) → (cond b (x ∷ filter p xs) (filter p xs) ≡ []) ⊎ ((i : ℕ) × (p i ≡ true))
    by true e rest = inr (x, e)
    by false e rest = rest

-- A slot.

-- the slot is complete, and its record with these lines is the last one after it
record IsGiven (sc : Scenario) (hands : List HandIn) (frame slot : ℕ) (lines : List SlotLine) : Type 0 where
  below : slot < sync_slot_of sc.sizes
  complete : IsComplete sc hands frame slot
  owner : Option ℕ
  value : Heard
  are : lines ≡ lines_in sc frame slot owner value
  others : List Record
  given : (after_slot sc hands frame slot).book.given ≡ others ++ Slot frame slot lines ∷ []

record-is : {sc hands frame slot lines more : _} → IsGiven sc hands frame slot lines → HasRecord sc hands frame slot more → lines ≡ more
record-is {sc} {hands} {frame} {slot} {lines} {more} g has =
    same-lines frame slot lines more
    (last-same g.others (before_slot sc hands frame slot).book.given (Slot frame slot lines) (Slot frame slot more) (sym g.given ∙ has))

-- a slot in which no BIU is good has no lines
no-lines : (sc : Scenario) (frame slot : ℕ) (owner : Option ℕ) (value : Heard) → filter (λ i. is_good sc Biu i frame slot) (numbers sc.sizes.bius) ≡ [] → lines_in sc frame slot owner value ≡ []
no-lines sc frame slot None value none = refl
no-lines sc frame slot (Some owner) value none = ap (map (λ i. record { receiver = i; sender = owner; value = value })) none

right-slot : {sc hands : _} → IsLawful sc → {frame slot lines : _} → IsGiven sc hands frame slot lines
    → (lines ≡ []) ⊎ AreOfSender sc hands frame slot lines
right-slot {sc} {hands} law {frame} {slot} {lines} g =
    elim (passing (λ i. is_good sc Biu i frame slot) (numbers sc.sizes.bius)) [
      | inl none ↦ inl (g.are ∙ no-lines sc frame slot g.owner g.value none)
      | inr some ↦ there some.0 some.1
    ]
  where
    there : (i : ℕ) → is_good sc Biu i frame slot ≡ true → (lines ≡ []) ⊎ AreOfSender sc hands frame slot lines
    there i good =
        let p : IsPlaced sc hands frame slot 1 = placed hands law frame slot 1 (omega (arith, g.below)) (omega arith) (omega arith) (complete_before sc hands frame slot 1 (omega arith) g.complete) in
        let many : length (of_kind Biu (before_slot sc hands frame slot).nodes) ≡ sc.sizes.bius = p.agree.counts Biu in
        let counted : i < sc.sizes.bius = good_counts sc Biu i frame slot good in
        let st : Present (slice_get (of_kind Biu (before_slot sc hands frame slot).nodes) i) = item_at (of_kind Biu (before_slot sc hands frame slot).nodes) i (omega (arith, many, counted)) in
        with_state st.value (record { good = good; state = st.is })
      where
        with_state : (st : NodeState) → IsGoodBefore sc hands frame slot Biu i st → (lines ≡ []) ⊎ AreOfSender sc hands frame slot lines
        with_state st before =
            by (owner_at sc.sizes st slot) refl ((deliveries_are_right sc hands law).0 frame slot g.below g.complete Biu i st before)
          where
            by : (o : Option ℕ) → owner_at sc.sizes st slot ≡ o → DeliversOneValue sc hands frame slot o → (lines ≡ []) ⊎ AreOfSender sc hands frame slot lines
            by None e has = inl (record-is g has)
            by (Some owner) e has = inr (record {
              sender = owner;
              value = has.0;
              alike = record-is g has.1;
              held = λ sound table.
                  record-is g
                  (held-delivered law (deliveries_are_right sc hands law).1 frame slot g.below g.complete Biu i st before owner e sound table);
            })

-- All of them.

plain-right : (sc : Scenario) (hands : List HandIn) (r : Record) → IsPlain r → IsRight sc hands r
plain-right sc hands (Frame frame nodes ports) plain = tt
plain-right sc hands (Slot frame slot lines) plain = absurd plain
plain-right sc hands Ended plain = tt
plain-right sc hands (Breach place cause) plain = tt

more-right : (sc : Scenario) (hands : List HandIn) {xs ys : _} → AddsNoSlot xs ys → All (IsRight sc hands) xs → All (IsRight sc hands) ys
more-right sc hands (inl same) right = subst (All (IsRight sc hands)) (sym same) right
more-right sc hands {xs} (inr one) right =
    subst (All (IsRight sc hands)) (sym one.is)
    (All-append (IsRight sc hands) xs (one.added ∷ []) right
    (All-cons (IsRight sc hands) one.added [] (plain-right sc hands one.added one.plain) (All-nil (IsRight sc hands))))

slot-right : {sc hands : _} → IsLawful sc → {p : ℕ} → IsServed sc hands p → All (IsRight sc hands) (moment sc hands p).book.given
    → All (IsRight sc hands) (moment sc hands (suc p)).book.given
slot-right {sc} {hands} law {p} s right =
    subst (All (IsRight sc hands)) (sym s.given)
    (All-append (IsRight sc hands) (moment sc hands p).book.given (Slot frame s.slot lines ∷ []) right
    (All-cons (IsRight sc hands) (Slot frame s.slot lines) [] (right-slot law here) (All-nil (IsRight sc hands))))
  where
    frame : ℕ
    frame = (moment sc hands p).frame

    lines : List SlotLine
    lines = lines_in sc frame s.slot (owner_sending (role_of sc.sizes s.slot) s.sender) s.value

    number : (a slot p : ℕ) → suc p ≡ a + 3 * slot + 3 → a + 3 * slot + 4 - 1 ≡ suc p
    number a slot p e = omega (arith, e)

    here : IsGiven sc hands frame s.slot lines
    here = record {
      below = s.below;
      complete = s.complete;
      owner = owner_sending (role_of sc.sizes s.slot) s.sender;
      value = s.value;
      are = refl;
      others = (moment sc hands p).book.given;
      given = ap (λ n. (moment sc hands n).book.given) (number (frame * (windows_in sc.sizes + 1)) s.slot p s.number) ∙ s.given;
    }

all-right : {sc : _} (hands : List HandIn) → IsLawful sc → (n : ℕ) → All (IsRight sc hands) (moment sc hands n).book.given
all-right {sc} hands law zero = more-right sc hands (first-adds sc hands) (All-nil (IsRight sc hands))
all-right {sc} hands law (suc p) =
    elim (step-adds sc hands (moment sc hands p)) [
      | inl none ↦ more-right sc hands none (all-right hands law p)
      | inr adds ↦ slot-right law (served hands law p adds) (all-right hands law p)
    ]

pub records-right : RecordsAreRight
records-right sc hands law = subst (All (IsRight sc hands)) (sym (records-are sc hands)) (all-right hands law (steps_of sc))
