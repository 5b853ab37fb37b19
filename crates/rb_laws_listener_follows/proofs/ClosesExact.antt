-- A listener that keeps up with the good BIUs closes a window below the sync slot as the bus does.
use Rattle.std.proofs.{Common.{◌≡◌, ℕ, zero, suc, ◌+◌, ◌-◌, ◌<◌, ◌≤◌, ◌==◌, Bool, true, false, List, Option, Some, None, nat_lt, inl, inr, get_or, slice_get, if◌then◌else◌, refl, sym, ◌∙◌, ap, subst, arith}, lemmas.Bool.{cases_lt, lt-ltb}, lemmas.Bool.Decides.nat_tests}
use Rattle.rb_base.specs.{Nodes.Side.{Biu, Rmu}, Sizes.{Sizes, sync_slot_of}, declared.values.Delivery.Delivery, declared.values.Heard.Heard, declared.values.Heard.TheVariants.Fault, declared.values.Place.Place}
use Rattle.rb_base.proofs.Plain.{less-differs}
use Rattle.rb_rules.specs.{declared.role.Role.Role, declared.role.Role.TheVariants.{Data, DiagBiu, DiagRmu, Schedule, Sync}, declared.sense.Sense.Sense, AbstractBus.{AbstractBus, sender_on}, Book.of_kind, ExactStage.{Outcome, close_exact, delivery_of, outcome_of, votes_in}, Goodness.{Scenario, is_good}, Lawful.IsLawful, Moments.{IsComplete, IsGoodAfter, IsGoodBefore, after_slot, before_slot, before_stage}, NodeState.{NodeState, sender_at}, Ports.HandIn, Rounds.Moment, Slots.{Sender, first_diagnosis_of, has_third_stage, role_of, same_side, sender_in}, Slots.Sender.{EachTrusted, Node, Nobody}, StandsFor.{AgreesBefore, SlotAgrees, StandsFor, steps_to, value_on}, SyncStage.close_sync}
use Rattle.rb_rules.proofs.RoundStates.{state-after}
use Rattle.rb_laws_agreement.proofs.{Invariant.{Holds, IsGoodNode, Shared}, NextMoments.{CameFrom, came_from, next}, SecondStages.{GoodOne, some_good, vote-held}, Settings.{Setting, after, good_here}, SlotRuns.{IsSlot, next-frame, slot_runs}, ThirdStages.votes_kept}
use Rattle.rb_laws_listener_near.proofs.{Tracking.{Held, held, listener_vote}, WindowSteps.{IsWatched, closed_by, closes_parts, votes_as}}
use Rattle.rb_laws_listener_follows.specs.Following.{ClosesAsTheBus, delivery_by}
use Rattle.rb_laws_listener_follows.proofs.BusPlaces.{slot_there}

-- What it delivers.

-- a delivery of a BIU is that of the bus if in data slots its sender and in stage 2 its vote are
-- the bus's
delivers-by : (st : NodeState) (slot stage : ℕ) (role : Role) (mine bus : Sender) (vote value : Heard) → ((n : ℕ) → role ≡ Data n → mine ≡ bus) → ((n : ℕ) → role ≡ Data n → stage ≡ 2 → vote ≡ value)
    → delivery_of Biu st slot role mine stage vote ≡ delivery_by st.frame slot stage role bus value
delivers-by st slot stage (Schedule i) mine bus vote value sender votes = refl
delivers-by st slot stage (DiagBiu i) mine bus vote value sender votes = refl
delivers-by st slot stage (DiagRmu i) mine bus vote value sender votes = refl
delivers-by st slot stage Sync mine bus vote value sender votes = refl
delivers-by st slot stage (Data n) mine bus vote value sender votes =
    subst (λ x. delivery_of Biu st slot (Data n) x stage vote ≡ delivery_by st.frame slot stage (Data n) bus value) (sym (sender n refl)) (by bus)
  where
    by : (x : Sender) → delivery_of Biu st slot (Data n) x stage vote ≡ delivery_by st.frame slot stage (Data n) x value
    by Nobody = refl
    by EachTrusted = refl
    by (Node owner) = go (stage == 2) refl
      where
        said : Heard → Option Delivery
        said v = Some (record { frame = st.frame; slot = slot; sender = owner; value = v })

        none : Option Delivery
        none = None

        two : (stage == 2) ≡ true → stage ≡ 2
        two e = grind (arith, nat_tests, e)

        go : (b : Bool) → (stage == 2) ≡ b
            → (if b then said vote else none) ≡ (if b then said value else none)
        go true e = ap said (votes n refl (two e))
        go false e = refl

pub exact-place : (sizes : Sizes) (st : NodeState) (slot stage : ℕ) (sense : ℕ → Sense) → (close_exact sizes Biu 16 st slot stage sense).closed.place ≡ record { frame = st.frame; slot = slot; stage = stage }
unfolding close_exact outcome_of
exact-place sizes st slot stage sense = refl

place_is : (sc : Scenario) (slot stage first : ℕ) (st : NodeState) (sense : ℕ → Sense) → slot < sync_slot_of sc.sizes
    → (closed_by sc slot stage first st sense).closed.place ≡ record { frame = st.frame; slot = slot; stage = stage }
place_is sc slot stage first st sense below =
    ap (λ o. o.closed.place) (go (slot == sync_slot_of sc.sizes) (less-differs slot (sync_slot_of sc.sizes) below)) ∙ exact-place sc.sizes st slot stage sense
  where
    go : (b : Bool) → b ≡ false
        → (elim b as (λ _. Outcome) [ true ↦ close_sync sc.sizes Biu st stage (st.epoch + first) sense | false ↦ close_exact sc.sizes Biu 16 st slot stage sense ])
        ≡ close_exact sc.sizes Biu 16 st slot stage sense
    go true h = cc
    go false h = refl

-- Stages of a slot that is complete.

-- stage q + 1 of the slot has a setting
record InStage (sc : Scenario) (hands : List HandIn) (s : Shared) (frame slot q : ℕ) : Type 0 where
  pub steps : ℕ
  pub setting : Setting sc hands steps (before_stage sc hands frame slot (q + 1)) s slot q

in_stage : {sc hands frame slot : _} (q : ℕ) → (x : IsSlot sc hands frame slot) → q < 3 → InStage sc hands x.shared frame slot q
in_stage zero x small = record { steps = x.steps; setting = x.first }
in_stage {sc} {hands} {slot} (suc zero) x small = record { steps = suc x.steps; setting = subst (λ m. Setting sc hands (suc x.steps) m x.shared slot 1) x.after_first x.second }
in_stage {sc} {hands} {slot} (suc (suc zero)) x small = record { steps = suc (suc x.steps); setting = subst (λ m. Setting sc hands (suc (suc x.steps)) m x.shared slot 2) x.after_second x.third }
in_stage (suc (suc (suc q))) x small = absurd (omega (arith, small))

-- the abstract bus has what all good nodes share
pub record IsShared (bus : AbstractBus) (sc : Scenario) (s : Shared) : Type 0 where
  pub bius : s.trusted Biu ≡ bus.bius
  pub rmus : s.trusted Rmu ≡ bus.rmus
  pub owners : sc.sizes.bius ≤ bus.slot → s.owners ≡ bus.owners

shared_by : {sc hands : _} (stands : StandsFor sc hands) {frame slot : ℕ} → slot < sync_slot_of sc.sizes → IsComplete sc hands frame slot → (x : IsSlot sc hands frame slot)
    → IsShared (stands.bus (steps_to sc.sizes frame slot)) sc x.shared
shared_by {sc} {hands} stands {frame} {slot} below complete x =
    let agrees : SlotAgrees sc hands frame slot (stands.bus (steps_to sc.sizes frame slot)) (stands.bus (steps_to sc.sizes frame slot + 1)) = stands.slots frame slot (omega (arith, below)) complete in
    let g : GoodOne sc (before_slot sc hands frame slot) Biu = some_good x.first Biu in
    let holds : Holds sc (before_slot sc hands frame slot) x.shared Biu g.st = x.first.agree.nodes Biu g.index g.st g.here in
    let good : IsGoodBefore sc hands frame slot Biu g.index g.st = record {
      good = ap (λ f. is_good sc Biu g.index f slot) (sym x.frame_is) ∙ sym (good_here x.first Biu g.index) ∙ g.here.good;
      state = g.here.there;
    } in
    let b : AgreesBefore sc (stands.bus (steps_to sc.sizes frame slot)) Biu g.index g.st = agrees.before Biu g.index g.st good in
    record {
      bius = sym (holds.trusted Biu) ∙ b.trusted.bius;
      rmus = sym (holds.trusted Rmu) ∙ b.trusted.rmus;
      owners = λ le. sym holds.owners ∙ b.owners le;
    }

data-after : (sizes : Sizes) (slot n : ℕ) → role_of sizes slot ≡ Data n → sizes.bius ≤ slot
data-after sizes slot n e = go (nat_lt slot sizes.bius) refl e
  where
    go : (b : Bool) → nat_lt slot sizes.bius ≡ b
        → (if b then Schedule slot
        else (if nat_lt slot (first_diagnosis_of Biu sizes) then Data (slot - sizes.bius)
        else (if nat_lt slot (first_diagnosis_of Rmu sizes) then DiagBiu (slot - first_diagnosis_of Biu sizes)
        else (if nat_lt slot (sync_slot_of sizes) then DiagRmu (slot - first_diagnosis_of Rmu sizes) else Sync)))) ≡ Data n → sizes.bius ≤ slot
    go true less h = cc
    go false more h = elim (cases_lt slot sizes.bius) [
      | inl lt ↦ let both : true ≡ false = sym (lt-ltb slot sizes.bius lt) ∙ more in cc
      | inr ge ↦ ge
    ]

-- the listener's vote in stage 2 of a data slot is the value of the bus
votes_value : {sc hands : _} (stands : StandsFor sc hands) {frame slot : ℕ} (q : ℕ) → slot < sync_slot_of sc.sizes → (complete : IsComplete sc hands frame slot) → (x : IsSlot sc hands frame slot)
    → {st sense seen : _} → IsWatched sc (before_stage sc hands frame slot (q + 1)) slot q st sense seen
    → (n : ℕ) → role_of sc.sizes slot ≡ Data n → q + 1 ≡ 2 → listener_vote sc slot q st sense ≡ value_on (stands.bus (steps_to sc.sizes frame slot + 1)) slot
votes_value stands zero below complete x w n role two = absurd (omega (arith, two))
votes_value stands (suc (suc q)) below complete x w n role two = absurd (omega (arith, two))
votes_value {sc} {hands} stands {frame} {slot} (suc zero) below complete x w n role two =
    votes_as c2.setting w (ap (λ r. votes_in Biu r 2) role) from.was
    ∙ sym (vote-held c2.setting from.was from.is (ap (λ r. votes_in Biu r 2) role))
    ∙ sym (ap (λ v. get_or v slot Fault) (votes_kept c3.setting g.here refl (ap (λ r. votes_in Biu r 3) role)))
    ∙ (agrees.after Biu g.index (after sc m3 Biu g.index g.st) last).vote below (ap (λ r. if has_third_stage r then true else same_side Biu Biu) role)
  where
    m2 : Moment
    m2 = before_stage sc hands frame slot 2

    m3 : Moment
    m3 = before_stage sc hands frame slot 3

    c2 : InStage sc hands x.shared frame slot 1
    c2 = in_stage 1 x (omega arith)

    c3 : InStage sc hands x.shared frame slot 2
    c3 = in_stage 2 x (omega arith)

    second : next sc (before_stage sc hands frame slot 2) ≡ before_stage sc hands frame slot 3
    second = ap (next sc) (sym x.after_first) ∙ x.after_second

    third : next sc (before_stage sc hands frame slot 3) ≡ after_slot sc hands frame slot
    third = ap (next sc) (sym x.after_second) ∙ x.after_third

    g : GoodOne sc (before_stage sc hands frame slot 3) Biu
    g = some_good c3.setting Biu

    from : CameFrom sc (before_stage sc hands frame slot 2) Biu g.index g.st
    from = came_from c2.setting.agree (subst (λ m. IsGoodNode sc m Biu g.index g.st) (sym second) g.here)

    frame_third : (before_stage sc hands frame slot 3).frame ≡ frame
    frame_third =
        ap (λ m. m.frame) (sym second) ∙ next-frame sc (before_stage sc hands frame slot 2) ∙ ap (λ m. m.frame) (sym x.after_first) ∙ next-frame sc (before_slot sc hands frame slot) ∙ x.frame_is

    last : IsGoodAfter sc hands frame slot Biu g.index (after sc (before_stage sc hands frame slot 3) Biu g.index g.st)
    last = record {
      good = ap (λ f. is_good sc Biu g.index f slot) (sym frame_third) ∙ sym (good_here c3.setting Biu g.index) ∙ g.here.good;
      state = ap (λ m. slice_get (of_kind Biu m.nodes) g.index) (sym third) ∙ state-after sc m3 Biu g.index g.st g.here.there;
    }

    agrees : SlotAgrees sc hands frame slot (stands.bus (steps_to sc.sizes frame slot)) (stands.bus (steps_to sc.sizes frame slot + 1))
    agrees = stands.slots frame slot (omega (arith, below)) complete

-- The close.

pub closes_exact : {sc hands : _} → IsLawful sc → (stands : StandsFor sc hands) (frame : ℕ) {slot q : ℕ} → slot < sync_slot_of sc.sizes → q < 3 → IsComplete sc hands frame slot
    → (first : ℕ) {st sense seen : _} → IsWatched sc (before_stage sc hands frame slot (q + 1)) slot q st sense seen
    → ClosesAsTheBus sc (stands.bus (steps_to sc.sizes frame slot)) (stands.bus (steps_to sc.sizes frame slot + 1)) st (closed_by sc slot (q + 1) first st sense).closed
closes_exact {sc} {hands} law stands frame {slot} {q} below small complete first {st} {sense} w = record {
  trusted = record { bius = h.near ∙ s.bius; rmus = h.far ∙ s.rmus };
  owners = λ le. h.owners ∙ s.owners le;
  delivers =
      (closes_parts sc slot (q + 1) first st sense below).delivered
      ∙ delivers-by st slot (q + 1) (role_of sc.sizes slot) (sender_at sc.sizes Biu st slot) (sender_on sc.sizes bus) (listener_vote sc slot q st sense) (value_on after_bus slot)
      sender (votes_value stands q below complete x w)
      ∙ ap (λ (p : Place). delivery_by p.frame p.slot p.stage (role_of sc.sizes p.slot) (sender_on sc.sizes bus) (value_on after_bus p.slot)) (sym (place_is sc slot (q + 1) first st sense below));
}
  where
    bus : AbstractBus
    bus = stands.bus (steps_to sc.sizes frame slot)

    after_bus : AbstractBus
    after_bus = stands.bus (steps_to sc.sizes frame slot + 1)

    x : IsSlot sc hands frame slot
    x = slot_runs law below complete

    s : IsShared (stands.bus (steps_to sc.sizes frame slot)) sc x.shared
    s = shared_by stands below complete x

    here : InStage sc hands x.shared frame slot q
    here = in_stage q x small

    h : Held sc (before_stage sc hands frame slot (q + 1)) x.shared st
    h = held here.setting w.tracks

    slot_is : (stands.bus (steps_to sc.sizes frame slot)).slot ≡ slot
    slot_is = slot_there (stands.run_to_slot frame slot (omega (arith, below)) complete) frame slot (omega (arith, below)) (omega arith)

    sender : (n : ℕ) → role_of sc.sizes slot ≡ Data n → sender_at sc.sizes Biu st slot ≡ sender_on sc.sizes (stands.bus (steps_to sc.sizes frame slot))
    sender n role =
        ap (λ b. sender_in b st.far.trusted st.owners (role_of sc.sizes slot)) (h.near ∙ s.bius)
        ∙ ap (λ r. sender_in bus.bius r st.owners (role_of sc.sizes slot)) (h.far ∙ s.rmus)
        ∙ ap (λ o. sender_in bus.bius bus.rmus o (role_of sc.sizes slot)) (h.owners ∙ s.owners (omega (arith, slot_is, data-after sc.sizes slot n role)))
        ∙ ap (λ k. sender_in bus.bius bus.rmus bus.owners (role_of sc.sizes k)) (sym slot_is)
