-- What all good nodes hold in common is what the abstract bus holds.
use Rattle.std.proofs.{Common.{◌≡◌, ℕ, zero, suc, ◌+◌, ◌<◌, ◌==◌, nat_lt, Bool, true, false, List, [], ◌∷◌, ◌++◌, length, length-append, map, take, get_or, if◌then◌else◌, inl, inr, refl, sym, ◌∙◌, ap, subst, arith}, lemmas.Bool.{cases_lt, eqb-true}}
use Rattle.rb_base.specs.{Counting.numbers, Nodes.{Side, other, has, set_of}, Nodes.Side.{Biu, Rmu}, Sizes.{Sizes, sync_slot_of}, declared.values.Heard.Heard, declared.values.Heard.TheVariants.Fault}
use Rattle.rb_rules.specs.{AbstractBus.{AbstractBus, trusted_on, first_bus, sender_on, bus_after_slot, convicted_on, bus_after_frame}, Conviction.convicted_by, Goodness.Scenario, Owners.owners_of, Slots.{count_of, first_diagnosis_of, role_of, sender_in}, Standing.without}
use Rattle.rb_laws_agreement.proofs.{ExactAgrees.{with_value, same-trusted, owners-slot, value-at, value-before}, FrameAgrees.{first_shared, first-shared-trusted, first-shared-owners, shared_next, next-trusted, next-owners}, FrameTurns.convicted_all, Invariant.{Shared, sender_of}, Schedules.take-are, Vectors.{vector_slot, vector_slot-lt, convicted_same}}

-- the bus holds what all good nodes do before a slot
pub record IsBusOf (s : Shared) (frame slot : ℕ) (bus : AbstractBus) : Type 0 where
  pub frame_is : bus.frame ≡ frame
  pub slot_is : bus.slot ≡ slot
  pub trusted : (kind : Side) → s.trusted kind ≡ trusted_on kind bus
  pub owners : s.owners ≡ bus.owners
  pub long : length bus.values ≡ slot
  pub values : (t : ℕ) → t < slot → s.values t ≡ get_or bus.values t Fault

pub bus-sender : (sizes : Sizes) {s frame slot bus : _} → IsBusOf s frame slot bus → sender_of sizes s slot ≡ sender_on sizes bus
bus-sender sizes {s} {slot} {bus} b =
    ap (λ t. sender_in t (s.trusted Rmu) s.owners (role_of sizes slot)) (b.trusted Biu)
    ∙ ap (λ t. sender_in bus.bius t s.owners (role_of sizes slot)) (b.trusted Rmu)
    ∙ ap (λ o. sender_in bus.bius bus.rmus o (role_of sizes slot)) b.owners
    ∙ ap (λ k. sender_in bus.bius bus.rmus bus.owners (role_of sizes k)) (sym b.slot_is)

-- At first.

pub bus-first : (sc : Scenario) (low : ℕ) → IsBusOf (first_shared sc) 0 0 (first_bus sc.sizes low)
bus-first sc low = record {
  frame_is = refl;
  slot_is = refl;
  trusted = λ kind. first-shared-trusted sc kind ∙ elim kind as (λ kind. set_of (λ i. nat_lt i (count_of kind sc.sizes)) ≡ trusted_on kind (first_bus sc.sizes low)) [ Biu ↦ refl | Rmu ↦ refl ];
  owners = first-shared-owners sc;
  long = refl;
  values = λ t lt. absurd (omega arith);
}

-- After a slot.

get-front : (xs : List Heard) (v : Heard) (t : ℕ) → t < length xs → get_or (xs ++ v ∷ []) t Fault ≡ get_or xs t Fault
get-front [] v t h = absurd (omega arith)
get-front (x ∷ xs) v zero h = refl
get-front (x ∷ xs) v (suc t) h = get-front xs v t (omega arith)

pub get-last : (xs : List Heard) (v : Heard) (t : ℕ) → t ≡ length xs → get_or (xs ++ v ∷ []) t Fault ≡ v
get-last [] v zero h = refl
get-last [] v (suc t) h = absurd (omega arith)
get-last (x ∷ xs) v zero h = absurd (omega arith)
get-last (x ∷ xs) v (suc t) h = get-last xs v t (omega arith)

take-whole : (n : ℕ) (xs : List Heard) → length xs ≡ n → take n xs ≡ xs
take-whole zero [] h = refl
take-whole zero (x ∷ xs) h = absurd (omega arith)
take-whole (suc n) [] h = absurd (omega arith)
take-whole (suc n) (x ∷ xs) h = ap (λ l. x ∷ l) (take-whole n xs (omega arith))

-- with the value of `slot` the bus has the value of each slot up to it
slot-values : (sc : Scenario) {s frame slot bus : _} (value : Heard) → IsBusOf s frame slot bus
    → (t : ℕ) → t < slot + 1 → (with_value sc s slot value).values t ≡ get_or (bus.values ++ value ∷ []) t Fault
slot-values sc {s} {slot} {bus} value b t lt =
    let long : length bus.values ≡ slot = b.long in
    elim (cases_lt t slot) [
      | inl before ↦ value-before sc s slot value t before ∙ b.values t before ∙ sym (get-front bus.values value t (omega arith))
      | inr late ↦
          let same : slot ≡ t = omega arith in
          subst (λ t. (with_value sc s slot value).values t ≡ get_or (bus.values ++ value ∷ []) t Fault) same
          (value-at sc s slot value ∙ sym (get-last bus.values value slot (sym long)))
    ]

pub bus-slot : (sc : Scenario) {s frame slot bus : _} (value : Heard) → IsBusOf s frame slot bus
    → IsBusOf (with_value sc s slot value) frame (slot + 1) (bus_after_slot sc.sizes value bus)
bus-slot sc {s} {slot} {bus} value b = record {
  frame_is = b.frame_is;
  slot_is = ap (λ k. k + 1) b.slot_is;
  trusted = λ kind. sym (same-trusted sc s slot value kind) ∙ b.trusted kind ∙ same-kind kind;
  owners = owners-slot sc s slot value ∙ go (slot + 1 == sc.sizes.bius) refl ∙ ap (λ k. if k + 1 == sc.sizes.bius then owners_of sc.sizes bus.bius (bus.values ++ value ∷ []) else bus.owners) (sym b.slot_is);
  long = length-append bus.values (value ∷ []) ∙ ap (λ n. n + 1) b.long;
  values = slot-values sc value b;
}
  where
    same-kind : (kind : Side) → trusted_on kind bus ≡ trusted_on kind (bus_after_slot sc.sizes value bus)
    same-kind Biu = refl
    same-kind Rmu = refl

    go : (e : Bool) → (slot + 1 == sc.sizes.bius) ≡ e
        → (if e then owners_of sc.sizes (s.trusted Biu) (map (with_value sc s slot value).values (numbers sc.sizes.bius)) else s.owners)
        ≡ (if e then owners_of sc.sizes bus.bius (bus.values ++ value ∷ []) else bus.owners)
    go false h = b.owners
    go true h =
        let full : slot + 1 ≡ sc.sizes.bius = eqb-true (slot + 1) sc.sizes.bius h in
        let all : List Heard = bus.values ++ value ∷ [] in
        let long : length all ≡ sc.sizes.bius = length-append bus.values (value ∷ []) ∙ ap (λ n. n + 1) b.long ∙ full in
        let votes : map (with_value sc s slot value).values (numbers sc.sizes.bius) ≡ all =
        sym (take-are (with_value sc s slot value).values sc.sizes.bius all (omega arith) (λ t lt. sym (slot-values sc value b t (omega arith))))
        ∙ take-whole sc.sizes.bius all long in
        ap (λ t. owners_of sc.sizes t (map (with_value sc s slot value).values (numbers sc.sizes.bius))) (b.trusted Biu) ∙ ap (owners_of sc.sizes bus.bius) votes

-- After a frame.

pub bus-frame : (sc : Scenario) {s : Shared} {frame : ℕ} {bus : AbstractBus} (low : ℕ) → ((kind : Side) (j : ℕ) → has (s.trusted kind) j ≡ true → j < count_of kind sc.sizes)
    → IsBusOf s frame (sync_slot_of sc.sizes) bus → IsBusOf (shared_next sc.sizes s) (frame + 1) 0 (bus_after_frame sc.sizes low bus)
bus-frame sc {s} {bus} low inside b = record {
  frame_is = ap (λ f. f + 1) b.frame_is;
  slot_is = refl;
  trusted = λ kind. next-trusted sc.sizes s kind ∙ ap (λ t. without t (convicted_all sc.sizes s kind)) (b.trusted kind) ∙ ap (without (trusted_on kind bus)) (convicted kind) ∙ same-kind kind;
  owners = next-owners sc.sizes s;
  long = refl;
  values = λ t lt. absurd (omega arith);
}
  where
    same-kind : (kind : Side) → without (trusted_on kind bus) (convicted_on sc.sizes kind bus) ≡ trusted_on kind (bus_after_frame sc.sizes low bus)
    same-kind Biu = refl
    same-kind Rmu = refl

    convicted : (kind : Side) → convicted_all sc.sizes s kind ≡ convicted_on sc.sizes kind bus
    convicted kind =
        let from : Side = other kind in
        let count : ℕ = count_of kind sc.sizes in
        let vector : ℕ → Heard = λ i. s.values (vector_slot sc.sizes from i) in
        convicted_same count (s.trusted from) (s.trusted kind) vector (λ i. get_or bus.values (first_diagnosis_of from sc.sizes + i) Fault)
        (λ i below t. b.values (vector_slot sc.sizes from i) (vector_slot-lt sc.sizes from i (inside from i t)))
        ∙ ap (λ t. convicted_by count t (s.trusted kind) (λ i. get_or bus.values (first_diagnosis_of from sc.sizes + i) Fault)) (b.trusted from)
        ∙ ap (λ t. convicted_by count (trusted_on from bus) t (λ i. get_or bus.values (first_diagnosis_of from sc.sizes + i) Fault)) (b.trusted kind)
