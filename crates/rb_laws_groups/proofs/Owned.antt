-- What a port delivers of each BIU: nothing of one that owns no data slot, something of one that
-- does, and of a good one its word.
use Rattle.std.proofs.{Common.{◌≡◌, ℕ, zero, suc, ◌+◌, ◌*◌, ◌<◌, ◌≤◌, ◌==◌, ◌⊎◌, Bool, true, false, inl, inr, Option, Some, None, is_some, slice_get, List, [], ◌∷◌, ◌++◌, if◌then◌else◌, refl, sym, ◌∙◌, ap, subst, arith}, lemmas.Bool.eqb-true, lemmas.List.append-nil}
use Rattle.rb_base.specs.{Nodes.Side.Biu, Sizes.sync_slot_of, declared.values.Delivery.Delivery, declared.values.Heard.Heard, declared.values.Heard.TheVariants.{Word, Fault}}
use Rattle.rb_base.proofs.Plain.{eq_self}
use Rattle.rb_rules.specs.{Book.of_kind, Goodness.{Scenario, is_good}, Headline.{DeliversOneValue, HasRecord, lines_of}, Lawful.IsLawful, Moments.{before_slot, after_slot, IsComplete, IsGoodBefore, offered_in}, NodeState.NodeState, NodeSteps.owner_at, Ports.HandIn, Rounds.{Moment, moment, windows_in}, Slots.role_of}
use Rattle.rb_laws_agreement.specs.Values.{lines_in}
use Rattle.rb_laws_agreement.proofs.{Deliveries.owner_sending, Invariant.is_good_now, Promises.{deliver-alike, deliver-word}, Settings.good_state, SlotRuns.{IsSlot, slot_runs, good_in_stage}, Tests.{Present, true_or_false}}
use Rattle.rb_group.specs.{Groups.first_of, Portions.{deliveries_in, port_deliveries}}
use Rattle.rb_laws_groups.specs.Laws.{first_among, is_number}
use Rattle.rb_laws_groups.proofs.{Added.{step-tells, told-more, told_in}, Alike.no-lines, Served.{IsServed, no-owner, one-delivery, served}}

-- A frame of which nothing is told.

-- step `p` completes no data slot of the frame
abbrev pub IsQuiet : Scenario → List HandIn → ℕ → ℕ → Type 0
IsQuiet sc hands frame p =
    (slot : ℕ) → suc p ≡ frame * (windows_in sc.sizes + 1) + 3 * slot + 3 → (slot < sc.sizes.bius) ⊎ (sc.sizes.bius + sc.sizes.data_slots ≤ slot)

quiet-step : {sc : _} (hands : List HandIn) → IsLawful sc → (frame i : ℕ) {p : ℕ} → IsQuiet sc hands frame p
    → told_in frame i (moment sc hands (suc p)).book ≡ told_in frame i (moment sc hands p).book
quiet-step {sc} hands law frame i {p} quiet =
    elim (step-tells sc hands (moment sc hands p) frame) [
      | inl none ↦ none i
      | inr adds ↦
          let s : IsServed sc hands p = served hands law p adds in
          ap (port_deliveries frame i) s.given ∙ told-more frame i (moment sc hands p).book.given _
          ∙ ap (λ l. told_in frame i (moment sc hands p).book ++ l)
          (by (moment sc hands p).frame s.slot (owner_sending (role_of sc.sizes s.slot) s.sender) s.value ((moment sc hands p).frame == frame) refl (λ same.
          no-owner sc.sizes s.slot s.sender (quiet s.slot (s.number ∙ ap (λ f. f * (windows_in sc.sizes + 1) + 3 * s.slot + 3) same))))
          ∙ append-nil (told_in frame i (moment sc hands p).book)
    ]
  where
    by : (f slot : ℕ) (owner : Option ℕ) (value : Heard) (b : Bool) → (f == frame) ≡ b → (f ≡ frame → owner ≡ None)
        → (if b then deliveries_in frame slot i (lines_in sc f slot owner value) else []) ≡ []
    by f slot None value true e idle = refl
    by f slot (Some owner) value true e idle = let none : Some owner ≡ None = idle (eqb-true f frame e) in cc
    by f slot owner value false e idle = refl

pub quiet-steps : {sc : _} (hands : List HandIn) → IsLawful sc → (frame i p k : ℕ) → ((q : ℕ) → p ≤ q → q < p + k → IsQuiet sc hands frame q)
    → told_in frame i (moment sc hands (p + k)).book ≡ told_in frame i (moment sc hands p).book
quiet-steps {sc} hands law frame i p zero quiet = ap (λ n. told_in frame i (moment sc hands n).book) (same p)
  where
    same : (p : ℕ) → p + 0 ≡ p
    same p = omega arith
quiet-steps {sc} hands law frame i p (suc k) quiet =
    ap (λ n. told_in frame i (moment sc hands n).book) (same p k)
    ∙ quiet-step hands law frame i (quiet (p + k) (omega arith) (omega arith))
    ∙ quiet-steps hands law frame i p k (λ q low high. quiet q low (omega (arith, high)))
  where
    same : (p k : ℕ) → p + suc k ≡ suc (p + k)
    same p k = omega arith

-- The first of two.

abbrev pub or_else : {X : Type 0} → Option X → Option X → Option X
or_else None other = other
or_else (Some x) other = Some x

one_before : {X : Type 0} (b : Bool) (v : X) (a other : Option X) → (if b then Some v else or_else a other) ≡ or_else (if b then Some v else a) other
one_before true v a other = refl
one_before false v a other = refl

pub first_of-append : (i : ℕ) (ds es : List Delivery) → first_of i (ds ++ es) ≡ or_else (first_of i ds) (first_of i es)
first_of-append i [] es = refl
first_of-append i (d ∷ ds) es = ap (λ o. if d.sender == i then Some d.value else o) (first_of-append i ds es) ∙ one_before (d.sender == i) d.value (first_of i ds) (first_of i es)

pub first_among-append : (owner : ℕ → Option ℕ) (i : ℕ) (xs ys : List ℕ) → first_among owner i (xs ++ ys) ≡ or_else (first_among owner i xs) (first_among owner i ys)
first_among-append owner i [] ys = refl
first_among-append owner i (x ∷ xs) ys =
    ap (λ o. if is_number i (owner x) then Some x else o) (first_among-append owner i xs ys)
    ∙ one_before (is_number i (owner x)) x (first_among owner i xs) (first_among owner i ys)

-- What is delivered of a BIU.

-- `o` is what a BIU's first slot in the frame delivers: nothing if it has none, else a value, which
-- is the word that it offers there if it is good
abbrev pub IsDeliveredOf : Scenario → List HandIn → ℕ → ℕ → Option ℕ → Option Heard → Type 0
IsDeliveredOf sc hands frame i None o = o ≡ None
IsDeliveredOf sc hands frame i (Some slot) o = (is_some o ≡ true) × (is_good sc Biu i frame slot ≡ true → o ≡ Some (Word (offered_in sc hands frame slot i)))

pub delivered-more : (sc : Scenario) (hands : List HandIn) (frame i : ℕ) (a b : Option ℕ) (x y : Option Heard)
    → IsDeliveredOf sc hands frame i a x → IsDeliveredOf sc hands frame i b y → IsDeliveredOf sc hands frame i (or_else a b) (or_else x y)
delivered-more sc hands frame i None b x y h k = subst (λ x. IsDeliveredOf sc hands frame i b (or_else x y)) (sym h) k
delivered-more sc hands frame i (Some slot) b None y h k = let none : false ≡ true = h.0 in cc
delivered-more sc hands frame i (Some slot) b (Some x) y h k = h

-- One slot.

-- BIU `port` is good before the data slot, in the state `st`
pub record HasState (sc : Scenario) (hands : List HandIn) (frame slot port : ℕ) : Type 0 where
  pub st : NodeState
  pub is : IsGoodBefore sc hands frame slot Biu port st

pub has-state : {sc hands : _} → IsLawful sc → {frame slot : ℕ} (port : ℕ) → slot < sync_slot_of sc.sizes → IsComplete sc hands frame slot
    → is_good sc Biu port frame slot ≡ true → HasState sc hands frame slot port
has-state {sc} {hands} law {frame} {slot} port below complete good =
    let r : IsSlot sc hands frame slot = slot_runs law below complete in
    let m : Moment = before_slot sc hands frame slot in
    let now : is_good_now sc m Biu port ≡ true = good_in_stage r.first r.frame_is Biu port good in
    let mine : Present (slice_get (of_kind Biu m.nodes) port) = good_state r.first.agree Biu port now in
    record { st = mine.value; is = record { good = good; state = mine.is } }

-- the data slot has an owner and a value, which is the offered word if the owner is good
record HasSlotValue (sc : Scenario) (hands : List HandIn) (frame slot owner : ℕ) : Type 0 where
  pub value : Heard
  pub given : HasRecord sc hands frame slot (lines_of sc frame slot owner value)
  pub word : is_good sc Biu owner frame slot ≡ true → value ≡ Word (offered_in sc hands frame slot owner)

slot-value : {sc hands : _} → IsLawful sc → {frame slot : ℕ} → slot < sync_slot_of sc.sizes → IsComplete sc hands frame slot
    → {port st : _} → IsGoodBefore sc hands frame slot Biu port st → {owner : ℕ} → owner_at sc.sizes st slot ≡ Some owner → HasSlotValue sc hands frame slot owner
slot-value {sc} {hands} law {frame} {slot} below complete {port} {st} before {owner} owns =
    elim (true_or_false (is_good sc Biu owner frame slot)) [
      | inl good ↦ record {
        value = Word (offered_in sc hands frame slot owner);
        given = deliver-word hands law frame slot below complete Biu port st before owner owns good;
        word = λ g. refl;
      }
      | inr faulty ↦
          let one : DeliversOneValue sc hands frame slot (Some owner) =
          subst (DeliversOneValue sc hands frame slot) owns (deliver-alike hands law frame slot below complete Biu port st before) in
          record { value = one.0; given = one.1; word = λ g. absurd (let both : true ≡ false = sym g ∙ faulty in cc) }
    ]

-- the record of a slot adds this delivery to what the port was told
told-by-record : (sc : Scenario) (hands : List HandIn) (frame slot port owner : ℕ) (value : Heard) → is_good sc Biu port frame slot ≡ true
    → HasRecord sc hands frame slot (lines_of sc frame slot owner value)
    → told_in frame port (after_slot sc hands frame slot).book
    ≡ told_in frame port (before_slot sc hands frame slot).book ++ record { frame = frame; slot = slot; sender = owner; value = value } ∷ []
told-by-record sc hands frame slot port owner value good given =
    ap (port_deliveries frame port) given ∙ told-more frame port (before_slot sc hands frame slot).book.given _
    ∙ ap (λ l. told_in frame port (before_slot sc hands frame slot).book ++ l)
    (ap (λ b. if b then deliveries_in frame slot port (lines_of sc frame slot owner value) else []) (eq_self frame) ∙ one-delivery sc frame slot owner value port good)

told-by-none : (sc : Scenario) (hands : List HandIn) (frame slot port : ℕ) → HasRecord sc hands frame slot []
    → told_in frame port (after_slot sc hands frame slot).book ≡ told_in frame port (before_slot sc hands frame slot).book ++ []
told-by-none sc hands frame slot port given =
    ap (port_deliveries frame port) given ∙ told-more frame port (before_slot sc hands frame slot).book.given _
    ∙ ap (λ l. told_in frame port (before_slot sc hands frame slot).book ++ l) (no-lines sc frame frame slot None Fault port refl)

-- `more` are the deliveries that a data slot adds at a port, and they are right for each BIU
pub record SlotAdds (sc : Scenario) (hands : List HandIn) (frame slot port : ℕ) (owner : ℕ → Option ℕ) : Type 0 where
  pub more : List Delivery
  pub told : told_in frame port (after_slot sc hands frame slot).book ≡ told_in frame port (before_slot sc hands frame slot).book ++ more
  pub each : (i : ℕ) → IsDeliveredOf sc hands frame i (first_among owner i (slot ∷ [])) (first_of i more)

pub slot-adds : {sc hands : _} → IsLawful sc → {frame slot : ℕ} (port : ℕ) → slot < sync_slot_of sc.sizes → IsComplete sc hands frame slot
    → is_good sc Biu port frame slot ≡ true → (owner : ℕ → Option ℕ)
    → ((st : NodeState) → IsGoodBefore sc hands frame slot Biu port st → owner_at sc.sizes st slot ≡ owner slot) → SlotAdds sc hands frame slot port owner
slot-adds {sc} {hands} law {frame} {slot} port below complete good owner held = by (owner slot) refl
  where
    state : HasState sc hands frame slot port
    state = has-state law port below complete good

    owned : owner_at sc.sizes state.st slot ≡ owner slot
    owned = held state.st state.is

    idle : (i : ℕ) (o : Option ℕ) → o ≡ None → IsDeliveredOf sc hands frame i (if is_number i o then Some slot else None) None
    idle i None e = refl
    idle i (Some p) e = cc

    one : (p : ℕ) (value : Heard) → (is_good sc Biu p frame slot ≡ true → value ≡ Word (offered_in sc hands frame slot p)) → (i : ℕ) (b : Bool) → (p == i) ≡ b
        → IsDeliveredOf sc hands frame i (if b then Some slot else None) (if b then Some value else None)
    one p value word i true e =
        let same : p ≡ i = eqb-true p i e in
        (refl, subst (λ k. is_good sc Biu k frame slot ≡ true → Some value ≡ Some (Word (offered_in sc hands frame slot k))) same (λ g. ap (λ v. Some v) (word g)))
    one p value word i false e = refl

    sent : (p : ℕ) (value : Heard) → (is_good sc Biu p frame slot ≡ true → value ≡ Word (offered_in sc hands frame slot p)) → (i : ℕ) (o : Option ℕ) → o ≡ Some p
        → IsDeliveredOf sc hands frame i (if is_number i o then Some slot else None) (if p == i then Some value else None)
    sent p value word i None e = cc
    sent p value word i (Some q) e =
        let same : q ≡ p = cc in
        subst (λ k. IsDeliveredOf sc hands frame i (if k == i then Some slot else None) (if p == i then Some value else None)) (sym same) (one p value word i (p == i) refl)

    by : (o : Option ℕ) → owner slot ≡ o → SlotAdds sc hands frame slot port owner
    by None e = record {
      more = [];
      told = told-by-none sc hands frame slot port (subst (DeliversOneValue sc hands frame slot) (owned ∙ e) (deliver-alike hands law frame slot below complete Biu port state.st state.is));
      each = λ i. idle i (owner slot) e;
    }
    by (Some p) e =
        let v : HasSlotValue sc hands frame slot p = slot-value law below complete state.is (owned ∙ e) in
        record {
          more = record { frame = frame; slot = slot; sender = p; value = v.value } ∷ [];
          told = told-by-record sc hands frame slot port p v.value good v.given;
          each = λ i. sent p v.value v.word i (owner slot) e;
        }
