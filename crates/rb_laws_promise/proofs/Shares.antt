-- Each good BIU gets its share: the schedule of the abstract bus gives it, and good nodes hold that
-- schedule.
use Rattle.std.proofs.{Common.{◌≡◌, ℕ, zero, suc, ◌+◌, ◌*◌, ◌<◌, ◌≤◌, ◌==◌, nat_lt, Bool, true, false, inl, inr, List, [], ◌∷◌, ◌++◌, length, get_or, if◌then◌else◌, refl, sym, ◌∙◌, ap, subst, arith}, lemmas.Bool.{cases_lt, cases_order, ltb-true}, lemmas.Bool.Decides.nat_tests, lemmas.List.length-append, Math.ListN.get_or-append, Math.Nat.mul-le-mul_right, Math.Seq.get_or-append_seam}
use Rattle.rb_base.specs.{Nodes.has, Nodes.Side.Biu, Sizes.sync_slot_of, declared.values.Heard.Heard, declared.values.Heard.TheVariants.{Word, Fault}}
use Rattle.rb_base.proofs.Plain.{eq_self, times-more}
use Rattle.rb_rules.specs.{declared.role.Role.TheVariants.Schedule, AbstractBus.{AbstractBus, FrameStep, IsRun, IsStep, MayHave, SlotStep}, Goodness.{Scenario, is_good}, Lawful.IsLawful, Moments.{IsComplete, offered_in}, Owners.{owners_of, request_in}, Slots.{role_of, sender_in}, Slots.Sender.{Nobody, Node}, StandsFor.{StandsFor, steps_to}}
use Rattle.rb_rules.proofs.Slots.{schedule_role}
use Rattle.rb_laws_agreement.proofs.Goodnesses.{good_counts, good_earlier}
use Rattle.rb_laws_events.proofs.NodesAreTheBus.{stands-for}
use Rattle.rb_laws_groups.proofs.Frames.{slot-earlier}
use Rattle.rb_laws_promise.specs.Shares.{GoodBiusGetTheirShare, share_of, slots_of}
use Rattle.rb_laws_promise.proofs.Passes.{owners-share}

-- Where the bus is.

-- after n steps the bus is in its frame before its slot, and it has a value for each slot of the
-- frame before that
record IsAt (sc : Scenario) (n : ℕ) (b : AbstractBus) : Type 0 where
  place : n ≡ steps_to sc.sizes b.frame b.slot
  within : b.slot ≤ sync_slot_of sc.sizes
  values : length b.values ≡ b.slot

at-next : {sc : _} (offered : ℕ → ℕ → ℕ → ℕ) {n b c : _} → IsAt sc n b → IsStep sc offered b c → IsAt sc (suc n) c
at-next {sc} offered {n} {b} {c} here step = by (nat_lt b.slot (sync_slot_of sc.sizes)) refl step
  where
    size : ℕ
    size = sync_slot_of sc.sizes + 1

    by : (t : Bool) → nat_lt b.slot (sync_slot_of sc.sizes) ≡ t
        → elim t as (λ _. Type 0) [ true ↦ (value : Heard) × SlotStep sc (offered b.frame b.slot) value b c | false ↦ FrameStep sc b c ] → IsAt sc (suc n) c
    by true e s =
        let place : n ≡ b.frame * size + b.slot = here.place in
        let less : b.slot < sync_slot_of sc.sizes = ltb-true b.slot (sync_slot_of sc.sizes) e in
        subst (IsAt sc (suc n)) (sym s.1.after_is) (record {
          place = let p : suc n ≡ b.frame * size + (b.slot + 1) = omega (arith, place) in p;
          within = omega (arith, less);
          values = length-append b.values (s.0 ∷ []) ∙ ap (λ k. k + 1) here.values;
        })
    by false e s =
        let place : n ≡ b.frame * size + b.slot = here.place in
        let least : b.slot ≤ sync_slot_of sc.sizes = here.within in
        let more : sync_slot_of sc.sizes ≤ b.slot = grind (arith, nat_tests) in
        let up : (b.frame + 1) * size ≡ b.frame * size + size = times-more b.frame size in
        subst (IsAt sc (suc n)) (sym s.after_is) (record {
          place = let p : suc n ≡ (b.frame + 1) * size + 0 = omega (arith, place, least, more, up) in p;
          within = omega arith;
          values = refl;
        })

at-each : {sc offered steps bus : _} → IsRun sc offered steps bus → (n : ℕ) → n ≤ steps → IsAt sc n (bus n)
at-each {sc} run zero le = subst (IsAt sc 0) (sym run.first) (record { place = start (sync_slot_of sc.sizes + 1); within = omega arith; values = refl })
  where
    start : (k : ℕ) → 0 ≡ 0 * k + 0
    start k = omega arith
at-each {offered} run (suc n) le =
    at-next offered (at-each run n (omega (arith, le))) (run.each_step n (omega (arith, le)))

-- two places with one number of steps are one place
apart : (size f g x y : ℕ) → f < g → x < size → f * size + x ≡ g * size + y → ⊥
apart size f g x y less small e =
    let le : (f + 1) * size ≤ g * size = mul-le-mul_right size (omega (arith, less)) in
    let up : (f + 1) * size ≡ f * size + size = times-more f size in
    absurd (omega (arith, e, le, up, small))

same-frame : (size f g x y : ℕ) → x < size → y < size → f * size + x ≡ g * size + y → f ≡ g
same-frame size f g x y small_x small_y e =
    elim (cases_order f g) [
      | inl same ↦ same
      | inr order ↦ elim order [
        | inl less ↦ absurd (apart size f g x y less small_x e)
        | inr more ↦ absurd (apart size g f y x more small_y (sym e))
      ]
    ]

record IsHere (frame slot : ℕ) (b : AbstractBus) : Type 0 where
  frame_is : b.frame ≡ frame
  slot_is : b.slot ≡ slot
  values : length b.values ≡ slot

here-at : {sc : Scenario} (frame slot : ℕ) {b : AbstractBus} → slot ≤ sync_slot_of sc.sizes → IsAt sc (steps_to sc.sizes frame slot) b → IsHere frame slot b
here-at {sc} frame slot {b} le at =
    let size : ℕ = sync_slot_of sc.sizes + 1 in
    let place : frame * size + slot ≡ b.frame * size + b.slot = at.place in
    let within : b.slot ≤ sync_slot_of sc.sizes = at.within in
    let f : frame ≡ b.frame = same-frame size frame b.frame slot b.slot (omega (arith, le)) (omega (arith, within)) place in
    let p : frame * size ≡ b.frame * size = ap (λ n. n * size) f in
    let s : b.slot ≡ slot = omega (arith, place, p) in
    record { frame_is = sym f; slot_is = s; values = at.values ∙ s }

-- A slot step.

-- the value of its own schedule slot is the request of a good BIU that is trusted
request-is : (sc : Scenario) (b : AbstractBus) (offered : ℕ → ℕ) {value i : _} → b.slot ≡ i → i < sc.sizes.bius → has b.bius i ≡ true
    → is_good sc Biu i b.frame b.slot ≡ true → MayHave sc b offered (role_of sc.sizes b.slot) (sender_in b.bius b.rmus b.owners (role_of sc.sizes b.slot)) value
    → value ≡ Word (get_or sc.requests i 0)
request-is sc b offered {value} {i} here inside trust good may =
    let role : role_of sc.sizes b.slot ≡ Schedule i = ap (role_of sc.sizes) here ∙ schedule_role sc.sizes i inside in
    by (has b.bius i) trust (subst (λ r. MayHave sc b offered r (sender_in b.bius b.rmus b.owners r) value) role may)
  where
    by : (t : Bool) → t ≡ true → MayHave sc b offered (Schedule i) (if t then Node i else Nobody) value → value ≡ Word (get_or sc.requests i 0)
    by true e may = may good
    by false e may = cc

-- Through a frame.

-- what the bus holds before a slot of a frame in which BIU i is good
record HasShare (sc : Scenario) (i slot : ℕ) (b : AbstractBus) : Type 0 where
  asked : i < slot → get_or b.values i Fault ≡ Word (get_or sc.requests i 0)
  owns : sc.sizes.bius ≤ slot → share_of sc i ≤ slots_of i b.owners

share-next : {sc : Scenario} {offered : ℕ → ℕ} {value : Heard} {i frame slot : ℕ} {b c : AbstractBus} → 1 ≤ sc.sizes.bius → i < sc.sizes.bius → IsHere frame slot b
    → has b.bius i ≡ true → is_good sc Biu i frame slot ≡ true → SlotStep sc offered value b c → HasShare sc i slot b → HasShare sc i (suc slot) c
share-next {sc} {offered} {value} {i} {frame} {slot} {b} some inside here trust good step has-share =
    subst (HasShare sc i (suc slot)) (sym step.after_is) (record { asked = asked; owns = owns })
  where
    values : List Heard
    values = b.values ++ value ∷ []

    asked : i < suc slot → get_or values i Fault ≡ Word (get_or sc.requests i 0)
    asked below =
        elim (cases_lt i slot) [
          | inl less ↦
              let length_is : length b.values ≡ slot = here.values in
              get_or-append b.values (value ∷ []) Fault i (omega (arith, less, length_is)) ∙ has-share.asked less
          | inr more ↦
              let same : i ≡ slot = omega (arith, below, more) in
              ap (λ k. get_or values k Fault) (same ∙ sym here.values)
              ∙ get_or-append_seam b.values value [] Fault
              ∙ request-is sc b offered (here.slot_is ∙ sym same) inside trust
              (ap (λ f. is_good sc Biu i f b.slot) here.frame_is ∙ ap (is_good sc Biu i frame) here.slot_is ∙ good) step.may_have
        ]

    owns : sc.sizes.bius ≤ suc slot → share_of sc i ≤ slots_of i (if b.slot + 1 == sc.sizes.bius then owners_of sc.sizes b.bius values else b.owners)
    owns late =
        elim (cases_lt slot sc.sizes.bius) [
          | inl last ↦
              let at : b.slot ≡ slot = here.slot_is in
              let e : b.slot + 1 ≡ sc.sizes.bius = omega (arith, late, last, at) in
              subst (λ t. share_of sc i ≤ slots_of i (if t then owners_of sc.sizes b.bius values else b.owners)) (sym (ap (λ k. k == sc.sizes.bius) e ∙ eq_self sc.sizes.bius))
              (owners-share sc.sizes b.bius values i some inside trust (ap request_in (asked (omega (arith, late, inside)))))
          | inr past ↦
              let at : b.slot ≡ slot = here.slot_is in
              let other : (b.slot + 1 == sc.sizes.bius) ≡ false = grind (arith, nat_tests) in
              subst (λ t. share_of sc i ≤ slots_of i (if t then owners_of sc.sizes b.bius values else b.owners)) (sym other) (has-share.owns past)
        ]

share-at : {sc hands : _} → IsLawful sc → (s : StandsFor sc hands) (frame : ℕ) {last : ℕ} → last ≤ sync_slot_of sc.sizes → IsComplete sc hands frame last
    → (i : ℕ) → is_good sc Biu i frame last ≡ true → (slot : ℕ) → slot ≤ last → HasShare sc i slot (s.bus (steps_to sc.sizes frame slot))
share-at {sc} law s frame le complete i good zero below =
    let some : 1 ≤ sc.sizes.bius = law.sizes.some_biu in
    record { asked = λ less. absurd (omega (arith, less)); owns = λ none. absurd (omega (arith, none, some)) }
share-at {sc} {hands} law s frame {last} le complete i good (suc slot) below =
    let start : ℕ = frame * (sync_slot_of sc.sizes + 1) in
    let n : ℕ = steps_to sc.sizes frame slot in
    let run : IsRun sc (offered_in sc hands) (steps_to sc.sizes frame last + 1) s.bus = s.run_to_slot frame last le complete in
    let here : IsHere frame slot (s.bus n) = here-at frame slot (omega (arith, below, le)) (at-each run n (fits start slot last below)) in
    let at : (s.bus n).slot ≡ slot = here.slot_is in
    let earlier : is_good sc Biu i frame slot ≡ true = good_earlier sc Biu i frame slot last (omega (arith, below)) good in
    let inside : i < sc.sizes.bius = good_counts sc Biu i frame slot earlier in
    let trust : has (s.bus n).bius i ≡ true =
    (s.slots frame slot (omega (arith, below, le)) (slot-earlier sc hands frame slot (omega (arith, below)) complete)).good_are_trusted Biu i earlier in
    subst (λ k. HasShare sc i (suc slot) (s.bus k)) (number start slot)
    (by (nat_lt (s.bus n).slot (sync_slot_of sc.sizes)) (omega (arith, at, below, le)) here trust earlier inside (share-at law s frame le complete i good slot (omega (arith, below)))
    refl (run.each_step n (within start slot last below)))
  where
    fits : (a slot last : ℕ) → suc slot ≤ last → a + slot ≤ a + last + 1
    fits a slot last h = omega (arith, h)

    within : (a slot last : ℕ) → suc slot ≤ last → a + slot < a + last + 1
    within a slot last h = omega (arith, h)

    number : (a slot : ℕ) → suc (a + slot) ≡ a + suc slot
    number a slot = omega arith

    by : (t : Bool) → (s.bus (steps_to sc.sizes frame slot)).slot < sync_slot_of sc.sizes → IsHere frame slot (s.bus (steps_to sc.sizes frame slot))
        → has (s.bus (steps_to sc.sizes frame slot)).bius i ≡ true → is_good sc Biu i frame slot ≡ true → i < sc.sizes.bius
        → HasShare sc i slot (s.bus (steps_to sc.sizes frame slot))
        → nat_lt (s.bus (steps_to sc.sizes frame slot)).slot (sync_slot_of sc.sizes) ≡ t
        → elim t as (λ _. Type 0) [
          | true ↦ (value : Heard) × SlotStep sc (offered_in sc hands (s.bus (steps_to sc.sizes frame slot)).frame (s.bus (steps_to sc.sizes frame slot)).slot) value
              (s.bus (steps_to sc.sizes frame slot)) (s.bus (suc (steps_to sc.sizes frame slot)))
          | false ↦ FrameStep sc (s.bus (steps_to sc.sizes frame slot)) (s.bus (suc (steps_to sc.sizes frame slot)))
        ] → HasShare sc i (suc slot) (s.bus (suc (steps_to sc.sizes frame slot)))
    by true less here trust good inside share e step =
        share-next law.sizes.some_biu inside here trust good step.1 share
    by false less here trust good inside share e step = absurd (grind (arith, nat_tests))

-- The law.

pub shares-kept : GoodBiusGetTheirShare
shares-kept sc hands law frame slot late le complete me j st before i good =
    let s : StandsFor sc hands = stands-for sc hands law in
    let n : ℕ = steps_to sc.sizes frame slot in
    let run : IsRun sc (offered_in sc hands) (n + 1) s.bus = s.run_to_slot frame slot le complete in
    let here : IsHere frame slot (s.bus n) = here-at frame slot le (at-each run n (omega arith)) in
    let at : (s.bus n).slot ≡ slot = here.slot_is in
    let owners : st.owners ≡ (s.bus n).owners = ((s.slots frame slot le complete).before me j st before).owners (omega (arith, late, at)) in
    subst (λ o. share_of sc i ≤ slots_of i o) (sym owners) ((share-at law s frame le complete i good slot (omega arith)).owns late)
