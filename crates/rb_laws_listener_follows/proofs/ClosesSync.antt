-- A listener closes the windows of the sync slot of a frame that it follows as the bus does.
use Rattle.std.proofs.{Common.{◌≡◌, ℕ, zero, suc, ◌+◌, ◌-◌, ◌*◌, ◌≤◌, true, List, Some, None, slice_get, refl, sym, ◌∙◌, ap, subst, arith}, lemmas.Option.same_Some}
use Rattle.rb_base.specs.{Nodes.has, Nodes.Side.{Biu, Rmu}, Sizes.sync_slot_of}
use Rattle.rb_base.proofs.Plain.{and_second}
use Rattle.rb_rules.specs.{declared.sense.Sense.Sense, AbstractBus.{AbstractBus, sender_on}, Book.of_kind, Core.state_at, Goodness.{Scenario, is_good}, Lawful.IsLawful, Moments.{IsComplete, IsGoodBefore}, NodeState.NodeState, Plan.{f0_of, tail_start_of}, Ports.HandIn, Rounds.{Moment, moment, windows_in}, StandsFor.{AgreesBefore, StandsFor, steps_to, value_on}, SyncStage.{close_sync, sync_outcome_of}}
use Rattle.rb_rules.proofs.Slots.{sync_role}
use Rattle.rb_laws_agreement.proofs.{ExactAgrees.has_ticks, Goodnesses.slot_last, Invariant.{Holds, Shared, is_good_now}, Numbers.one_of_many, Premises.is_sound, Settings.good_state, Tests.{Passing, Present}}
use Rattle.rb_laws_synchrony.proofs.{SyncSteps.IsPassedStage, Times.{lawful_fits, plan_fits}}
use Rattle.rb_laws_events.proofs.TurnTicks.{no-next, not-yet}
use Rattle.rb_listen.specs.Following.{follow}
use Rattle.rb_laws_listener_near.proofs.Tracking.{Held}
use Rattle.rb_laws_listener_learns.proofs.SyncStages.{StageIs, stage_is}
use Rattle.rb_laws_listener_follows.specs.Following.{ClosesAsTheBus, ClosesAt, delivery_by}
use Rattle.rb_laws_listener_follows.proofs.{ClosesExact.IsShared, ExactPasses.{IsHeldTo, StandsAt}, FirstCalls.{IsSpan, first_span, sense_span, span_closing, span_window}, FollowerRuns.{ClosesWindow, IsWindow, Stands, closes_window, closing, state_before}, LatePasses.{StandsAtThird, next_epoch_of, third_span}, SecondSteps.second_span, SeenPremise.place_synced, SyncPasses.{IsInSync, PassesAtSecond, StandsAtSecond, in_sync, second_shared, sync_moment, to_second}, SyncRuns.{held_in_sync, held_like}, Tellings.tells_close}

-- What all good nodes hold in the sync slot is the bus's.

shared_at : {sc hands : _} (stands : StandsFor sc hands) {frame n s : _} → IsComplete sc hands frame (sync_slot_of sc.sizes)
    → n ≡ frame * (windows_in sc.sizes + 1) + 3 * sync_slot_of sc.sizes + 1 - 1 → (moment sc hands n).frame ≡ frame → IsPassedStage sc hands n (moment sc hands n) s 0
    → IsShared (stands.bus (steps_to sc.sizes frame (sync_slot_of sc.sizes))) sc s
shared_at {sc} {hands} stands {frame} {n} {s} complete place frame_is c =
    let m : Moment = moment sc hands n in
    let one : Passing (is_sound sc Biu m.frame (sync_slot_of sc.sizes) s.trusted) 0 16 = one_of_many (is_sound sc Biu m.frame (sync_slot_of sc.sizes) s.trusted) (omega (arith, c.premise.most Biu)) in
    let good : is_good sc Biu one.at m.frame (sync_slot_of sc.sizes) ≡ true = and_second (has (s.trusted Biu) one.at) (is_good sc Biu one.at m.frame (sync_slot_of sc.sizes)) one.passes in
    let now : is_good_now sc m Biu one.at ≡ true = ap (is_good sc Biu one.at m.frame) (slot_last sc.sizes 0 c.stage.at) ∙ good in
    let there : Present (slice_get (of_kind Biu m.nodes) one.at) = good_state c.stage.agree Biu one.at now in
    let holds : Holds sc m s Biu there.value = c.stage.agree.nodes Biu one.at there.value (record { there = there.is; good = now }) in
    let before : IsGoodBefore sc hands frame (sync_slot_of sc.sizes) Biu one.at there.value = record {
      good = ap (λ f. is_good sc Biu one.at f (sync_slot_of sc.sizes)) (sym frame_is) ∙ good;
      state = ap (λ k. slice_get (of_kind Biu (moment sc hands k).nodes) one.at) (sym place) ∙ there.is;
    } in
    let b : AgreesBefore sc (stands.bus (steps_to sc.sizes frame (sync_slot_of sc.sizes))) Biu one.at there.value =
    (stands.slots frame (sync_slot_of sc.sizes) (omega arith) complete).before Biu one.at there.value before in
    record { bius = sym (holds.trusted Biu) ∙ b.trusted.bius; rmus = sym (holds.trusted Rmu) ∙ b.trusted.rmus; owners = λ le. sym holds.owners ∙ b.owners le }

-- The close of a window.

as_the_bus : {sc bus : _} (next : AbstractBus) {m s st : _} (stage first : ℕ) (sense : ℕ → Sense) → Held sc m s st → IsShared bus sc s
    → ClosesAsTheBus sc bus next st (close_sync sc.sizes Biu st stage first sense).closed
unfolding close_sync sync_outcome_of
as_the_bus {sc} {bus} next {st} stage first sense h x = record {
  trusted = record { bius = h.near ∙ x.bius; rmus = h.far ∙ x.rmus };
  owners = λ le. h.owners ∙ x.owners le;
  delivers = sym (ap (λ r. delivery_by st.frame (sync_slot_of sc.sizes) stage r (sender_on sc.sizes bus) (value_on next (sync_slot_of sc.sizes))) (sync_role sc.sizes));
}

closes_sync : {sc : _} (bus : ℕ → AbstractBus) {ear frame : _} (stage a ticks epoch : ℕ) {before st : _} (sense : ℕ → Sense) → ClosesWindow sc ear before st (epoch + a) (ticks - 1)
    → closing sc ear st (epoch + a) (ticks - 1) ≡ close_sync sc.sizes Biu st stage (st.epoch + a) sense → st.frame ≡ frame
    → state_at sc.sizes sc.plan Biu (state_before before st (ticks - 1)) (epoch + a + (ticks - 1)) ≡ st
    → ClosesAsTheBus sc (bus (steps_to sc.sizes frame (sync_slot_of sc.sizes))) (bus (steps_to sc.sizes frame (sync_slot_of sc.sizes) + 1)) st (close_sync sc.sizes Biu st stage (st.epoch + a) sense).closed
    → ClosesAt sc bus ear frame (sync_slot_of sc.sizes) stage (epoch + a + (ticks - 1))
closes_sync {sc} bus {ear} {frame} stage a ticks epoch {st} sense c is frame_is turns as_bus = record {
  core = c.core;
  here = c.here;
  x = (close_sync sc.sizes Biu st stage (st.epoch + a) sense).closed;
  closed = closed;
  place = place_synced sc.sizes st stage (st.epoch + a) sense ∙ ap (λ f. record { frame = f; slot = sync_slot_of sc.sizes; stage = stage }) frame_is;
  as_bus = subst (λ y. ClosesAsTheBus sc (bus (steps_to sc.sizes frame (sync_slot_of sc.sizes))) (bus (steps_to sc.sizes frame (sync_slot_of sc.sizes) + 1)) y (close_sync sc.sizes Biu st stage (st.epoch + a) sense).closed)
      (sym (ap (λ y. state_at sc.sizes sc.plan Biu y (epoch + a + (ticks - 1))) c.state ∙ turns)) as_bus;
  told = tells_close sc ear (epoch + a + (ticks - 1)) c.core c.here closed;
}
  where
    closed : (follow sc.sizes sc.plan c.core).closed ≡ Some (close_sync sc.sizes Biu st stage (st.epoch + a) sense).closed
    closed = c.closed ∙ ap (λ o. Some o.closed) is

pub before-some : (before st : NodeState) (i : ℕ) → 1 ≤ i → state_before before st i ≡ st
before-some before st zero some = absurd (omega (arith, some))
before-some before st (suc i) some = refl

before-same : (st : NodeState) (i : ℕ) → state_before st st i ≡ st
before-same st zero = refl
before-same st (suc i) = refl

-- The stages.

-- the sync slot of a frame that is complete
record SyncOf (sc : Scenario) (hands : List HandIn) (bus : AbstractBus) (frame : ℕ) (s : Shared) : Type 0 where
  pub first : StageIs sc hands (sync_moment sc frame) s 0
  pub shared : IsShared bus sc s

sync_of : {sc hands : _} (stands : StandsFor sc hands) {ear learned records f last epoch low : _} → IsHeldTo sc hands ear learned records f last
    → (x : StandsAt sc hands ear (suc f) (3 * sync_slot_of sc.sizes) epoch low) → IsComplete sc hands (suc f) (sync_slot_of sc.sizes)
    → SyncOf sc hands (stands.bus (steps_to sc.sizes (suc f) (sync_slot_of sc.sizes))) (suc f) x.shared
sync_of {sc} {hands} stands {f} h x complete =
    let law : IsLawful sc = x.abides.beside.law in
    let n : ℕ = sync_moment sc (suc f) in
    let at : IsInSync sc hands (suc f) (sync_moment sc (suc f)) 0 = in_sync law h.complete complete 0 (omega arith) (omega arith) in
    let now : IsInSync sc hands (suc f) (suc (sync_moment sc (suc f))) 1 = in_sync law h.complete complete 1 (omega arith) (omega arith) in
    let stage : StageIs sc hands (sync_moment sc (suc f)) x.shared 0 = stage_is law 0 x.abides.beside.agree (omega arith) at.window now.running in
    record { first = stage; shared = shared_at stands complete (omega arith) at.frame_is stage.passes }

-- what is the bus's at the start of the sync slot is so before stage 2
pub sync_shared : {sc hands : _} (stands : StandsFor sc hands) {ear learned records f last epoch low : _} → (h : IsHeldTo sc hands ear learned records f last)
    → (x : StandsAt sc hands ear (suc f) (3 * sync_slot_of sc.sizes) epoch low) → (complete : IsComplete sc hands (suc f) (sync_slot_of sc.sizes)) → (in_time : epoch + (f0_of sc.sizes sc.plan + sc.plan.l) + sc.plan.v ≤ ear.ticks)
    → IsShared (stands.bus (steps_to sc.sizes (suc f) (sync_slot_of sc.sizes))) sc (to_second h x complete in_time).shared
sync_shared {sc} stands {f} h x complete in_time =
    subst (IsShared (stands.bus (steps_to sc.sizes (suc f) (sync_slot_of sc.sizes))) sc) (sym (second_shared h x complete in_time))
    (sync_of stands h x complete).shared

pub closes_first : {sc hands : _} (stands : StandsFor sc hands) {ear learned records f last epoch low : _} → IsHeldTo sc hands ear learned records f last
    → (x : StandsAt sc hands ear (suc f) (3 * sync_slot_of sc.sizes) epoch low) → IsComplete sc hands (suc f) (sync_slot_of sc.sizes) → epoch + f0_of sc.sizes sc.plan + sc.plan.l ≤ ear.ticks
    → ClosesAt sc stands.bus ear (suc f) (sync_slot_of sc.sizes) 1 (epoch + f0_of sc.sizes sc.plan + (sc.plan.l - 1))
closes_first {sc} {hands} stands {ear} {f} {epoch} h x complete in_time =
    closes_sync stands.bus 1 (f0_of sc.sizes sc.plan) sc.plan.l epoch
    (sense_span sc ear (epoch + f0_of sc.sizes sc.plan) sc.plan.l x.st (sync_slot_of sc.sizes) 1) closes
    (span_closing ear span (has_ticks law) x.abides.epoch_is) (held.frame ∙ at.frame_is)
    (ap (λ y. state_at sc.sizes sc.plan Biu y (epoch + f0_of sc.sizes sc.plan + (sc.plan.l - 1))) (before-some x.before x.st (sc.plan.l - 1) (omega (arith, two)))
    ∙ no-next sc.sizes sc.plan Biu x.st (epoch + f0_of sc.sizes sc.plan + (sc.plan.l - 1)) x.abides.unknown)
    (as_the_bus (stands.bus (steps_to sc.sizes (suc f) (sync_slot_of sc.sizes) + 1)) 1
    (x.st.epoch + f0_of sc.sizes sc.plan) (sense_span sc ear (epoch + f0_of sc.sizes sc.plan) sc.plan.l x.st (sync_slot_of sc.sizes) 1) held sync.shared)
  where
    law : IsLawful sc
    law = x.abides.beside.law

    fit : plan_fits sc
    fit = lawful_fits law

    two : 2 ≤ sc.plan.l
    two = omega (arith, fit.in_l, law.plan.h.0)

    at : IsInSync sc hands (suc f) (sync_moment sc (suc f)) 0
    at = in_sync law h.complete complete 0 (omega arith) (omega arith)

    sync : SyncOf sc hands (stands.bus (steps_to sc.sizes (suc f) (sync_slot_of sc.sizes))) (suc f) x.shared
    sync = sync_of stands h x complete

    held : Held sc (moment sc hands (sync_moment sc (suc f))) x.shared x.st
    held = held_in_sync sync.first.passes x.abides.tracks

    span : IsSpan sc x.st (3 * sync_slot_of sc.sizes) (sync_slot_of sc.sizes) (0 + 1) (f0_of sc.sizes sc.plan) sc.plan.l
    span = first_span sc x.st (omega arith) law.plan.l.0

    same : (moment sc hands (sync_moment sc (suc f))).window * sc.plan.l ≡ f0_of sc.sizes sc.plan
    same = ap (λ k. k * sc.plan.l) x.at.window_is

    here : IsWindow sc.sizes sc.plan x.before x.st (epoch + f0_of sc.sizes sc.plan) (sc.plan.l - 1)
    here =
        span_window x.before span (has_ticks law) x.abides.epoch_is
        (subst (λ k. state_at sc.sizes sc.plan Biu x.before (epoch + k) ≡ x.st) same x.abides.turns)
        (λ y known. let both : None ≡ Some y = sym x.abides.unknown ∙ known in cc) (omega (arith, in_time, x.abides.beside.is.ticks))

    closes : ClosesWindow sc ear x.before x.st (epoch + f0_of sc.sizes sc.plan) (sc.plan.l - 1)
    closes = closes_window here (subst (λ k. Stands sc ear x.before (epoch + k)) same x.abides.stands)

pub closes_second : {sc hands : _} (stands : StandsFor sc hands) {ear learned records f last epoch low : _} → IsHeldTo sc hands ear learned records f last
    → (x : StandsAtSecond sc hands ear (suc f) epoch low) → IsComplete sc hands (suc f) (sync_slot_of sc.sizes)
    → IsShared (stands.bus (steps_to sc.sizes (suc f) (sync_slot_of sc.sizes))) sc x.shared
    → ClosesAt sc stands.bus ear (suc f) (sync_slot_of sc.sizes) 2 (epoch + (f0_of sc.sizes sc.plan + sc.plan.l) + (sc.plan.v - 1))
closes_second {sc} {hands} stands {ear} {f} {epoch} h x complete shared =
    closes_sync stands.bus 2 a sc.plan.v epoch (sense_span sc ear (epoch + a) sc.plan.v x.st (sync_slot_of sc.sizes) 2) closes
    (span_closing ear span (has_ticks law) x.second.epoch_is) (x.second.held.frame ∙ at.frame_is)
    (ap (λ y. state_at sc.sizes sc.plan Biu y (epoch + a + (sc.plan.v - 1))) (before-same x.st (sc.plan.v - 1))
    ∙ no-next sc.sizes sc.plan Biu x.st (epoch + a + (sc.plan.v - 1)) x.second.unknown)
    (as_the_bus (stands.bus (steps_to sc.sizes (suc f) (sync_slot_of sc.sizes) + 1)) 2 (x.st.epoch + a) (sense_span sc ear (epoch + a) sc.plan.v x.st (sync_slot_of sc.sizes) 2) x.second.held shared)
  where
    law : IsLawful sc
    law = x.second.beside.law

    a : ℕ
    a = f0_of sc.sizes sc.plan + sc.plan.l

    at : IsInSync sc hands (suc f) (suc (sync_moment sc (suc f))) 1
    at = in_sync law h.complete complete 1 (omega arith) (omega arith)

    span : IsSpan sc x.st (suc (3 * sync_slot_of sc.sizes)) (sync_slot_of sc.sizes) (1 + 1) (f0_of sc.sizes sc.plan + sc.plan.l) sc.plan.v
    span = second_span sc x.st (omega arith) law.plan.v.0

    here : IsWindow sc.sizes sc.plan x.st x.st (epoch + (f0_of sc.sizes sc.plan + sc.plan.l)) (sc.plan.v - 1)
    here =
        span_window x.st span (has_ticks law) x.second.epoch_is x.second.turns
        (λ y known. let both : None ≡ Some y = sym x.second.unknown ∙ known in cc) (omega (arith, x.second.in_time, x.second.beside.is.ticks))

    closes : ClosesWindow sc ear x.st x.st (epoch + (f0_of sc.sizes sc.plan + sc.plan.l)) (sc.plan.v - 1)
    closes = closes_window here x.second.stands

pub closes_third : {sc hands : _} (stands : StandsFor sc hands) {ear learned records f last epoch low : _} → IsHeldTo sc hands ear learned records f last
    → {x : _} → (p : PassesAtSecond sc hands ear (suc f) epoch low x) → IsComplete sc hands (suc f) (sync_slot_of sc.sizes)
    → (third : StandsAtThird sc hands ear (suc f) epoch low (next_epoch_of p) x.shared p.through.now) → epoch + tail_start_of sc.sizes sc.plan ≤ ear.ticks
    → IsShared (stands.bus (steps_to sc.sizes (suc f) (sync_slot_of sc.sizes))) sc x.shared
    → ClosesAt sc stands.bus ear (suc f) (sync_slot_of sc.sizes) 3 (epoch + (f0_of sc.sizes sc.plan + sc.plan.l + sc.plan.v) + (sc.plan.z - 1))
closes_third {sc} {hands} stands {ear} {f} {epoch} h {x} p complete third in_time shared =
    closes_sync stands.bus 3 a sc.plan.z epoch (sense_span sc ear (epoch + a) sc.plan.z st (sync_slot_of sc.sizes) 3) closes
    (span_closing ear span (has_ticks law) p.through.epoch_is) (held.frame ∙ at.frame_is)
    (ap (λ y. state_at sc.sizes sc.plan Biu y (epoch + a + (sc.plan.z - 1))) (before-same st (sc.plan.z - 1))
    ∙ not-yet sc.sizes sc.plan Biu st (epoch + a + (sc.plan.z - 1)) p.through.known (omega (arith, p.through.least, law.plan.z.0)))
    (as_the_bus (stands.bus (steps_to sc.sizes (suc f) (sync_slot_of sc.sizes) + 1)) 3 (st.epoch + a) (sense_span sc ear (epoch + a) sc.plan.z st (sync_slot_of sc.sizes) 3) held shared)
  where
    n : ℕ
    n = suc (suc (sync_moment sc (suc f)))

    next_epoch : ℕ
    next_epoch = next_epoch_of p

    law : IsLawful sc
    law = x.second.beside.law

    a : ℕ
    a = f0_of sc.sizes sc.plan + sc.plan.l + sc.plan.v

    st : NodeState
    st = p.through.now

    at : IsInSync sc hands (suc f) (suc (suc (sync_moment sc (suc f)))) 2
    at = in_sync law h.complete complete 2 (omega arith) (omega arith)

    after : IsInSync sc hands (suc f) (suc (suc (suc (sync_moment sc (suc f))))) 3
    after = in_sync law h.complete complete 3 (omega arith) (omega arith)

    stage : StageIs sc hands (suc (suc (sync_moment sc (suc f)))) x.shared 2
    stage = stage_is law 2 third.late.beside.agree (omega arith) at.window after.running

    held : Held sc (moment sc hands (suc (suc (sync_moment sc (suc f))))) x.shared p.through.now
    held = held_like stage.passes third.late.like

    span : IsSpan sc p.through.now (suc (suc (3 * sync_slot_of sc.sizes))) (sync_slot_of sc.sizes) 3 (f0_of sc.sizes sc.plan + sc.plan.l + sc.plan.v) sc.plan.z
    span = third_span sc st (omega arith) law.plan.z.0

    here : IsWindow sc.sizes sc.plan p.through.now p.through.now (epoch + (f0_of sc.sizes sc.plan + sc.plan.l + sc.plan.v)) (sc.plan.z - 1)
    here =
        span_window st span (has_ticks law) p.through.epoch_is
        (not-yet sc.sizes sc.plan Biu st (epoch + a) p.through.known (omega (arith, p.through.least, law.plan.z.0)))
        (λ y known. let same : next_epoch ≡ y = same_Some next_epoch y (sym p.through.known ∙ known) in omega (arith, same, p.through.least)) (omega (arith, in_time, x.second.beside.is.ticks))

    closes : ClosesWindow sc ear p.through.now p.through.now (epoch + (f0_of sc.sizes sc.plan + sc.plan.l + sc.plan.v)) (sc.plan.z - 1)
    closes = closes_window here p.through.stands
