-- What the ports of good BIUs receive of a sender.
use Rattle.std.proofs.{Common.{◌≡◌, ℕ, zero, suc, ◌+◌, ◌<◌, ◌≤◌, ◌==◌, ◌&&◌, ◌⊎◌, All, Bool, true, false, cond, Option, Some, None, List, [], ◌∷◌, ◌++◌, filter, length, map, if◌then◌else◌, inl, inr, refl, sym, ap, ◌∙◌, subst, arith}, lemmas.Bool.{cases_lt, eq-eqb, eqb-true}, lemmas.List.append-nil, lemmas.List.Elements.{All-cons, All-head, All-nil, All-tail}, lemmas.Option.slice_get-get_or}
use Rattle.std.specs.List.{range_with_len}
use Rattle.rb_base.specs.{Nodes.Side.Biu, Sizes.sync_slot_of, declared.values.Heard.Heard, declared.values.Heard.TheVariants.Word}
use Rattle.rb_base.proofs.Plain.{less-differs, more-differs}
use Rattle.rb_rules.specs.{declared.record.SlotLine.SlotLine, Book.{Record, of_kind}, Book.Record.{Frame, Slot, Ended, Breach}, Goodness.{Scenario, is_good}, Headline.{DeliversOneValue, HasRecord, Headline, lines_of}, Lawful.IsLawful, Moments.{IsGoodBefore, before_slot, offered_in}, NodeState.{NodeState, first_state}, NodeSteps.owner_at, Ports.HandIn}
use Rattle.rb_laws_agreement.proofs.{Places.{complete_before, placed}, Goodnesses.good_counts}
use Rattle.rb_laws_promise.proofs.Promise.{promise}
use Rattle.rb_long.specs.{Delivered.{deliveries_in, is_from, lines_in, values_of}, Reading.{given_with, open_after}}
use Rattle.rb_laws_letters.specs.{Laws.{AreFirst, GoodPortsReceiveAlike, GoodSendersAreReceived}, Offers.{IsGoodThrough, is_good_in, is_owner, offered_by, offers, state_before}, Sent.{IsFirstPart, heard_words, without_zeros}}
use Rattle.rb_laws_letters.proofs.{Readings.{heard-append, words-give}, Recorded.{IsOfSlot, IsRecorded, all-recorded}}

-- One slot's lines.

value_in : SlotLine → Heard
value_in l = l.value

abbrev line_for : ℕ → Heard → ℕ → SlotLine
line_for owner value i = record { receiver = i; sender = owner; value = value }

-- the value in a line, if the line is that of receiver `i` and sender `k`
abbrev own_value : ℕ → ℕ → ℕ → Heard → Bool → ℕ → List Heard
own_value i k owner value good j = cond (good && ((j == i) && (owner == k))) (value ∷ []) []

first-value : (i k owner : ℕ) (value : Heard) (good : Bool) (j : ℕ) (js : List ℕ)
    → values_of i k (map (line_for owner value) (cond good (j ∷ js) js)) ≡ own_value i k owner value good j ++ values_of i k (map (line_for owner value) js)
first-value i k owner value false j js = refl
first-value i k owner value true j js = by ((j == i) && (owner == k)) (filter (is_from i k) (map (line_for owner value) js))
  where
    by : (c : Bool) (ls : List SlotLine) → map (λ (l : SlotLine). l.value) (cond c (line_for owner value j ∷ ls) ls) ≡ cond c (value ∷ []) [] ++ map (λ (l : SlotLine). l.value) ls
    by true ls = refl
    by false ls = refl

other-value : (i k owner : ℕ) (value : Heard) (good : Bool) (j : ℕ) → (j == i) ≡ false → own_value i k owner value good j ≡ []
other-value i k owner value false j e = refl
other-value i k owner value true j e = ap (λ b. cond (b && (owner == k)) (value ∷ []) []) e

none-past : (i k owner : ℕ) (value : Heard) (good : ℕ → Bool) (n from : ℕ) → i < from
    → values_of i k (map (line_for owner value) (filter good (range_with_len from n))) ≡ []
none-past i k owner value good zero from past = refl
none-past i k owner value good (suc n) from past =
    first-value i k owner value (good from) from (filter good (range_with_len (from + 1) n))
    ∙ ap (λ l. l ++ values_of i k (map (line_for owner value) (filter good (range_with_len (from + 1) n)))) (other-value i k owner value (good from) from (more-differs from i past))
    ∙ none-past i k owner value good n (from + 1) (omega (arith, past))

one-value : (i k owner : ℕ) (value : Heard) (good : ℕ → Bool) (n from : ℕ) → from ≤ i → i < from + n → good i ≡ true
    → values_of i k (map (line_for owner value) (filter good (range_with_len from n))) ≡ cond (owner == k) (value ∷ []) []
one-value i k owner value good zero from low high is = absurd (omega (arith, low, high))
one-value i k owner value good (suc n) from low high is =
    first-value i k owner value (good from) from (filter good (range_with_len (from + 1) n))
    ∙ elim (cases_lt from i) [
      | inl lt ↦
          ap (λ l. l ++ values_of i k (map (line_for owner value) (filter good (range_with_len (from + 1) n)))) (other-value i k owner value (good from) from (less-differs from i lt))
          ∙ one-value i k owner value good n (from + 1) (omega (arith, lt)) (omega (arith, high)) is
      | inr ge ↦
          let here : from ≡ i = omega (arith, ge, low) in
          ap (λ l. own_value i k owner value (good from) from ++ l) (none-past i k owner value good n (from + 1) (omega (arith, ge)))
          ∙ append-nil (own_value i k owner value (good from) from)
          ∙ ap (λ b. own_value i k owner value b from) (ap good here ∙ is)
          ∙ ap (λ b. cond (b && (owner == k)) (value ∷ []) []) (eq-eqb from i here)
    ]

-- a good receiver has one value in the lines of a slot, that of the owner
lines-value : (sc : Scenario) (frame slot owner : ℕ) (value : Heard) (i k : ℕ) → is_good sc Biu i frame slot ≡ true
    → values_of i k (lines_of sc frame slot owner value) ≡ cond (owner == k) (value ∷ []) []
lines-value sc frame slot owner value i k good =
    one-value i k owner value (λ j. is_good sc Biu j frame slot) sc.sizes.bius 0 (omega arith)
    (let within : i < sc.sizes.bius = good_counts sc Biu i frame slot good in omega (arith, within)) good

-- The lines of a record.

last_lines : List Record → List SlotLine
last_lines [] = []
last_lines (r ∷ []) = lines_in r
last_lines (r ∷ s ∷ rs) = last_lines (s ∷ rs)

last-is : (rs : List Record) (r : Record) → last_lines (rs ++ r ∷ []) ≡ lines_in r
unfolding last_lines
last-is [] r = refl
last-is (x ∷ []) r = refl
last-is (x ∷ y ∷ rs) r = last-is (y ∷ rs) r

lines-are : {sc hands frame slot lines others : _} → IsRecorded sc hands frame slot lines
    → HasRecord sc hands frame slot others → lines ≡ others
lines-are {sc} {hands} {frame} {slot} {lines} {others} r has =
    sym (last-is r.before (Slot frame slot lines)) ∙ ap last_lines (sym r.is ∙ has) ∙ last-is (before_slot sc hands frame slot).book.given (Slot frame slot others)

-- a good BIU has a state before the slot
has-state : {sc hands : _} → IsLawful sc → {frame slot lines : _} → IsRecorded sc hands frame slot lines
    → (i : ℕ) → is_good sc Biu i frame slot ≡ true → IsGoodBefore sc hands frame slot Biu i (state_before sc hands frame slot i)
has-state {sc} {hands} law {frame} {slot} r i good =
    let le : slot < sync_slot_of sc.sizes = r.below in
    let p = placed hands law frame slot 1 (omega (arith, le)) (omega arith) (omega arith) (complete_before sc hands frame slot 1 (omega arith) r.complete) in
    let long : length (of_kind Biu (before_slot sc hands frame slot).nodes) ≡ sc.sizes.bius = p.agree.counts Biu in
    let within : i < sc.sizes.bius = good_counts sc Biu i frame slot good in record {
      good = good;
      state = slice_get-get_or (of_kind Biu (before_slot sc hands frame slot).nodes) i (first_state sc.sizes Biu) (omega (arith, long, within));
    }

-- the lines are none, or one value's
record HasOne (sc : Scenario) (frame slot : ℕ) (lines : List SlotLine) : Type 0 where
  owner : ℕ
  value : Heard
  is : lines ≡ lines_of sc frame slot owner value

has-one : {sc hands frame slot lines : _} → IsRecorded sc hands frame slot lines
    → (o : Option ℕ) → DeliversOneValue sc hands frame slot o → (lines ≡ []) ⊎ HasOne sc frame slot lines
has-one r None has = inl (lines-are r has)
has-one r (Some owner) has =
    inr (record { owner = owner; value = has.0; is = lines-are r has.1 })

-- Records one after another.

values-append : (i k : ℕ) (xs ys : List SlotLine) → values_of i k (xs ++ ys) ≡ values_of i k xs ++ values_of i k ys
values-append i k [] ys = refl
values-append i k (x ∷ xs) ys = by (is_from i k x) (values-append i k xs ys)
  where
    by : (b : Bool) → values_of i k (xs ++ ys) ≡ values_of i k xs ++ values_of i k ys
        → map (λ (l : SlotLine). l.value) (cond b (x ∷ filter (is_from i k) (xs ++ ys)) (filter (is_from i k) (xs ++ ys)))
        ≡ map (λ (l : SlotLine). l.value) (cond b (x ∷ filter (is_from i k) xs) (filter (is_from i k) xs)) ++ values_of i k ys
    by true e = ap (λ l. x.value ∷ l) e
    by false e = e

first-all : (P : Record → Type 0) (xs ys : List Record) → All P (xs ++ ys) → All P xs
first-all P [] ys all = All-nil P
first-all P (x ∷ xs) ys all = All-cons P x xs (All-head P x (xs ++ ys) all) (first-all P xs ys (All-tail P x (xs ++ ys) all))

first-recorded : (sc : Scenario) (hands : List HandIn) (records : List Record) → AreFirst sc hands records → All (IsOfSlot sc hands) records
first-recorded sc hands records first =
    first-all (IsOfSlot sc hands) records first.0 (subst (All (IsOfSlot sc hands)) first.1 (all-recorded sc hands))

-- Good ports.

alike-slot : {sc hands : _} → IsLawful sc → (i j k : ℕ) {frame slot lines : _} → IsRecorded sc hands frame slot lines
    → is_good sc Biu i frame slot ≡ true → is_good sc Biu j frame slot ≡ true → values_of i k lines ≡ values_of j k lines
alike-slot {sc} {hands} law i j k {frame} {slot} {lines} r good_i good_j =
    let st : NodeState = state_before sc hands frame slot i in
    by (has-one r (owner_at sc.sizes st slot)
    ((promise sc hands law).deliveries frame slot r.below r.complete Biu i st (has-state law r i good_i)))
  where
    by : (lines ≡ []) ⊎ HasOne sc frame slot lines → values_of i k lines ≡ values_of j k lines
    by (inl none) = ap (values_of i k) none ∙ sym (ap (values_of j k) none)
    by (inr one) =
        ap (values_of i k) one.is ∙ lines-value sc frame slot one.owner one.value i k good_i
        ∙ sym (ap (values_of j k) one.is ∙ lines-value sc frame slot one.owner one.value j k good_j)

alike-record : {sc : _} (hands : List HandIn) → IsLawful sc → (i j k : ℕ) (r : Record) → IsOfSlot sc hands r
    → is_good_in sc i r ≡ true → is_good_in sc j r ≡ true → values_of i k (lines_in r) ≡ values_of j k (lines_in r)
alike-record hands law i j k (Frame frame nodes ports) is good_i good_j = refl
alike-record hands law i j k (Slot frame slot lines) is good_i good_j = alike-slot law i j k is good_i good_j
alike-record hands law i j k Ended is good_i good_j = refl
alike-record hands law i j k (Breach place cause) is good_i good_j = refl

alike : {sc : _} (hands : List HandIn) → IsLawful sc → (i j k : ℕ) (rs : List Record) → All (IsOfSlot sc hands) rs
    → IsGoodThrough sc i rs → IsGoodThrough sc j rs → values_of i k (deliveries_in rs) ≡ values_of j k (deliveries_in rs)
alike hands law i j k [] all good_i good_j = refl
alike {sc} hands law i j k (r ∷ rs) all good_i good_j =
    let here = alike-record hands law i j k r (All-head (IsOfSlot sc hands) r rs all) (All-head (λ x. is_good_in sc i x ≡ true) r rs good_i) (All-head (λ x. is_good_in sc j x ≡ true) r rs good_j) in
    let rest = alike hands law i j k rs (All-tail (IsOfSlot sc hands) r rs all) (All-tail (λ x. is_good_in sc i x ≡ true) r rs good_i) (All-tail (λ x. is_good_in sc j x ≡ true) r rs good_j) in
    values-append i k (lines_in r) (deliveries_in rs)
    ∙ ap (λ l. l ++ values_of i k (deliveries_in rs)) here
    ∙ ap (λ l. values_of j k (lines_in r) ++ l) rest
    ∙ sym (values-append j k (lines_in r) (deliveries_in rs))

pub receive-alike : GoodPortsReceiveAlike
receive-alike sc hands law records first i j good_i good_j sender =
    let values = alike hands law i j sender records (first-recorded sc hands records first) good_i good_j in
    record { values = values; letters = ap (given_with None) values; left_open = ap (open_after None) values }

-- Good senders.

sent-slot : {sc hands : _} → IsLawful sc → (i k : ℕ) {frame slot lines : _} → IsRecorded sc hands frame slot lines
    → is_good sc Biu i frame slot ≡ true → is_good sc Biu k frame slot ≡ true
    → values_of i k lines ≡ heard_words (offers sc hands k (Slot frame slot lines))
sent-slot {sc} {hands} law i k {frame} {slot} {lines} r good_i good_k = by (owner_at sc.sizes st slot) refl
  where
    st : NodeState
    st = state_before sc hands frame slot k

    there : IsGoodBefore sc hands frame slot Biu k st
    there = has-state law r k good_k

    kept : Headline sc hands
    kept = promise sc hands law

    delivered : DeliversOneValue sc hands frame slot (owner_at sc.sizes st slot)
    delivered = kept.deliveries frame slot r.below r.complete Biu k st there

    offer : Bool → List Heard
    offer b = heard_words (if b then offered_in sc hands frame slot k ∷ [] else [])

    owned : (owner : ℕ) (b : Bool) → owner_at sc.sizes st slot ≡ Some owner → (owner == k) ≡ b → values_of i k lines ≡ offer b
    owned owner true e f =
        let me : owner ≡ k = eqb-true owner k f in
        let has = kept.words frame slot r.below r.complete Biu k st there owner e (subst (λ x. is_good sc Biu x frame slot ≡ true) (sym me) good_k) in
        ap (values_of i k) (lines-are r has)
        ∙ lines-value sc frame slot owner (Word (offered_in sc hands frame slot owner)) i k good_i
        ∙ ap (λ c. cond c (Word (offered_in sc hands frame slot owner) ∷ []) []) f
        ∙ ap (λ x. Word (offered_in sc hands frame slot x) ∷ []) me
    owned owner false e f =
        let has : DeliversOneValue sc hands frame slot (Some owner) = subst (DeliversOneValue sc hands frame slot) e delivered in
        ap (values_of i k) (lines-are r has.1)
        ∙ lines-value sc frame slot owner has.0 i k good_i
        ∙ ap (λ c. cond c (has.0 ∷ []) []) f

    by : (o : Option ℕ) → owner_at sc.sizes st slot ≡ o → values_of i k lines ≡ heard_words (if is_owner k (owner_at sc.sizes st slot) then offered_in sc hands frame slot k ∷ [] else [])
    by None e =
        let has : DeliversOneValue sc hands frame slot None = subst (DeliversOneValue sc hands frame slot) e delivered in
        ap (values_of i k) (lines-are r has)
        ∙ sym (ap (λ o. heard_words (if is_owner k o then offered_in sc hands frame slot k ∷ [] else [])) e)
    by (Some owner) e =
        owned owner (owner == k) e refl
        ∙ sym (ap (λ o. heard_words (if is_owner k o then offered_in sc hands frame slot k ∷ [] else [])) e)

sent-record : {sc : _} (hands : List HandIn) → IsLawful sc → (i k : ℕ) (r : Record) → IsOfSlot sc hands r
    → is_good_in sc i r ≡ true → is_good_in sc k r ≡ true → values_of i k (lines_in r) ≡ heard_words (offers sc hands k r)
sent-record hands law i k (Frame frame nodes ports) is good_i good_k = refl
sent-record hands law i k (Slot frame slot lines) is good_i good_k = sent-slot law i k is good_i good_k
sent-record hands law i k Ended is good_i good_k = refl
sent-record hands law i k (Breach place cause) is good_i good_k = refl

sent-all : {sc : _} (hands : List HandIn) → IsLawful sc → (i k : ℕ) (rs : List Record) → All (IsOfSlot sc hands) rs
    → IsGoodThrough sc i rs → IsGoodThrough sc k rs → values_of i k (deliveries_in rs) ≡ heard_words (offered_by sc hands k rs)
sent-all hands law i k [] all good_i good_k = refl
sent-all {sc} hands law i k (r ∷ rs) all good_i good_k =
    let here = sent-record hands law i k r (All-head (IsOfSlot sc hands) r rs all) (All-head (λ x. is_good_in sc i x ≡ true) r rs good_i) (All-head (λ x. is_good_in sc k x ≡ true) r rs good_k) in
    let rest = sent-all hands law i k rs (All-tail (IsOfSlot sc hands) r rs all) (All-tail (λ x. is_good_in sc i x ≡ true) r rs good_i) (All-tail (λ x. is_good_in sc k x ≡ true) r rs good_k) in
    values-append i k (lines_in r) (deliveries_in rs)
    ∙ ap (λ l. l ++ values_of i k (deliveries_in rs)) here
    ∙ ap (λ l. heard_words (offers sc hands k r) ++ l) rest
    ∙ sym (heard-append (offers sc hands k r) (offered_by sc hands k rs))

pub senders-received : GoodSendersAreReceived
senders-received sc hands law records first receiver sender good_i good_k =
    let words : List ℕ = offered_by sc hands sender records in
    let values : values_of receiver sender (deliveries_in records) ≡ heard_words words =
    sent-all hands law receiver sender records (first-recorded sc hands records first) good_i good_k in
    record {
      values = values;
      first = λ letters all part. subst (λ vs. IsFirstPart (given_with None vs) letters) (sym values) (words-give letters words all part).first;
      all = λ letters all e. ap (given_with None) values ∙ (words-give letters words all ([], sym e ∙ sym (append-nil (without_zeros words)))).all e;
    }
