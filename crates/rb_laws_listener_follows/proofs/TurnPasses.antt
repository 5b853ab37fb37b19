-- From the end of the sync slot a listener comes through the tail, which may be empty, to the first
-- window of its next frame.
use Rattle.std.proofs.{Common.{◌≡◌, ℕ, suc, ◌+◌, ◌-◌, ◌*◌, ◌/◌, ◌%◌, ◌<◌, ◌≤◌, ◌==◌, ◌&&◌, true, false, List, Option, Some, None, unwrap_or, inl, inr, refl, sym, ◌∙◌, ap, subst, arith}, lemmas.Bool.{cases_lt, eqb-true, false_from_ne_true}, lemmas.Option.same_Some}
use Rattle.rb_base.specs.{Nodes.Side.Biu, Sizes.sync_slot_of}
use Rattle.rb_base.proofs.Plain.{and_second}
use Rattle.rb_rules.specs.{declared.closing.Closed.Closed, Conviction.turn, Goodness.Scenario, Hearing.window_numbered, Lawful.IsLawful, Moments.{IsComplete, IsRunning}, NodeState.NodeState, Plan.tail_start_of, Ports.HandIn, Rounds.{moment, next_frame, windows_in}, SyncStage.new_epoch_of, Windows.tail_of}
use Rattle.rb_rules.proofs.WindowNumbers.{sync-numbered}
use Rattle.rb_laws_agreement.proofs.{ExactAgrees.has_ticks, FrameAgrees.shared_next, FrameTurns.AtEnd, FrameBegins.{IsTurn, frame_turns}, Invariant.Agree, NextMoments.next, NodeWindows.tail_windows, Places.running_earlier, SlotRuns.{next-frame, next-window}, SyncAgrees.{SyncSetting, agree_sync, tail_setting}}
use Rattle.rb_laws_events.proofs.TurnTicks.{not-yet}
use Rattle.rb_laws_synchrony.proofs.{LastStage.near_tail, Synchronous.Synchronous}
use Rattle.rb_laws_listener_near.proofs.SyncTracks.{IsLike, like_next}
use Rattle.rb_laws_listener_learns.specs.{Ears.Ear, Receivers.{is_window, seen_by}}
use Rattle.rb_laws_listener_learns.proofs.FrameStages.{at-window, first_of_frame}
use Rattle.rb_laws_listener_follows.proofs.{ExactPasses.{IsHeldTo, StandsAt}, ExactSteps.Abides, FirstCalls.{IsSpan, sense_span, span_closing, span_window}, FollowerRuns.{IsWindow, Stands, closing}, HeardLast.NextBegins, LatePasses.{StandsAtTail, tail_keeps}, LateSteps.{IsDeaf, PassesLate, SparesNext, StandsLate, passes_late}, SeenPremise.place_synced, SeenWindows.{NoneSeen, closes_last, closes_nothing, none_later, seen_none, seen_quiet}, SyncPasses.{IsInSync, in_sync, sync_moment}, TurnSteps.turns_next, TurnSets.{HoldsSets, turned_sets}}

-- ---- the tail

-- the tail is no window of a number
no_number : (c : Closed) (g v : ℕ) → c.place.stage ≡ 4 → is_window g v (Some c) ≡ false
no_number c g v is =
    false_from_ne_true (is_window g v (Some c)) (λ h.
    let t : c.place.stage ≡ v % 3 + 1 = eqb-true c.place.stage (v % 3 + 1) (and_second ((c.place.frame == g) && (c.place.slot == v / 3)) (c.place.stage == v % 3 + 1) h) in
    absurd (omega (arith, t, is)))

tail_span : (sc : Scenario) (st : NodeState) {w epoch next_epoch : ℕ} (ticks : ℕ) → w ≡ 3 * sync_slot_of sc.sizes + 3 → st.epoch ≡ epoch → new_epoch_of sc.plan Biu st ≡ Some next_epoch
    → epoch + tail_start_of sc.sizes sc.plan + ticks ≡ next_epoch → 1 ≤ ticks → IsSpan sc st w (sync_slot_of sc.sizes) 4 (tail_start_of sc.sizes sc.plan) ticks
tail_span sc st {next_epoch} ticks at epoch_is known end some = record {
  window = ap (window_numbered sc.sizes sc.plan Biu st) at ∙ sync-numbered sc.sizes sc.plan Biu st 3
      ∙ ap (λ o. tail_of sc.sizes sc.plan (unwrap_or o 0 - st.epoch)) known
      ∙ ap (λ k. record { slot = sync_slot_of sc.sizes; stage = 4; first = tail_start_of sc.sizes sc.plan; last = k }) (last (tail_start_of sc.sizes sc.plan) st.epoch (omega (arith, epoch_is, end)));
  in_frame = omega (arith, at);
  some = some;
}
  where
    last : (a e : ℕ) → e + a + ticks ≡ next_epoch → next_epoch - e - 1 ≡ a + ticks - 1
    last a e h = omega (arith, h)

-- at the end of the tail the listener is in a state like those of the good BIUs
record AfterTail (sc : Scenario) (hands : List HandIn) (ear : Ear) (n epoch next_epoch frame : ℕ) : Type 0 where
  pub a : ℕ
  pub end : epoch + a ≡ next_epoch
  pub now : NodeState
  pub stands : Stands sc ear now (epoch + a)
  pub like : IsLike sc (next sc (moment sc hands n)) now
  pub spares : SparesNext sc (moment sc hands n).frame now
  pub epoch_is : now.epoch ≡ epoch
  pub known : new_epoch_of sc.plan Biu now ≡ Some next_epoch
  pub none : NoneSeen sc ear (frame + 1) 0 next_epoch

through_tail : {sc hands ear n epoch low next_epoch later frame w s st : _} → (at : (moment sc hands n).window ≡ 3 * sync_slot_of sc.sizes + 3)
    → StandsLate sc hands ear n epoch low s st (tail_start_of sc.sizes sc.plan) next_epoch later → NoneSeen sc ear frame w (epoch + tail_start_of sc.sizes sc.plan)
    → epoch + tail_start_of sc.sizes sc.plan ≤ next_epoch → next_epoch ≤ ear.ticks → AfterTail sc hands ear n epoch next_epoch frame
through_tail {sc} {hands} {ear} {n} {epoch} {next_epoch} {frame} {s} {st} at x none start in_time =
    elim (cases_lt (epoch + tail_start_of sc.sizes sc.plan) next_epoch) [ inl less ↦ some less | inr ge ↦ empty (omega (arith, ge, start)) ]
  where
    law : IsLawful sc
    law = x.beside.law

    first : ℕ
    first = tail_start_of sc.sizes sc.plan

    set : SyncSetting sc hands n (moment sc hands n) s 3 (tail_windows sc (moment sc hands n) at)
    set = tail_setting at law x.beside.agree

    empty : epoch + tail_start_of sc.sizes sc.plan ≡ next_epoch → AfterTail sc hands ear n epoch next_epoch frame
    empty same = record {
      a = first;
      end = same;
      now = st;
      stands = x.stands;
      like = like_next set x.like;
      spares = x.spares;
      epoch_is = x.epoch_is;
      known = x.known;
      none = subst (NoneSeen sc ear (frame + 1) 0) same (none_later sc ear (epoch + first) none);
    }

    some : epoch + tail_start_of sc.sizes sc.plan < next_epoch → AfterTail sc hands ear n epoch next_epoch frame
    some less = record {
      a = first + ticks;
      end = omega (arith, end);
      now = through.now;
      stands = subst (Stands sc ear through.now) (let e : epoch + first + ticks ≡ epoch + (first + ticks) = omega arith in e) through.stands;
      like = through.like;
      spares = through.spares;
      epoch_is = through.epoch_is;
      known = through.known;
      none = λ g v from. ap (seen_by sc ear g v) (sym last) ∙ unseen g v (none_later sc ear (epoch + first) none g v from);
    }
      where
        ticks : ℕ
        ticks = next_epoch - (epoch + tail_start_of sc.sizes sc.plan)

        end : epoch + tail_start_of sc.sizes sc.plan + (next_epoch - (epoch + tail_start_of sc.sizes sc.plan)) ≡ next_epoch
        end = omega (arith, start)

        last : suc (epoch + tail_start_of sc.sizes sc.plan + (next_epoch - (epoch + tail_start_of sc.sizes sc.plan) - 1)) ≡ next_epoch
        last = omega (arith, less)

        deaf : IsDeaf sc hands ear n epoch st (3 + 1) (tail_start_of sc.sizes sc.plan) (next_epoch - (epoch + tail_start_of sc.sizes sc.plan)) next_epoch
        deaf = record {
          window = omega (arith, at);
          span = tail_span sc st ticks at x.epoch_is x.known end (omega (arith, less));
          expects = λ j. refl;
          keeps = tail_keeps sc.sizes sc.plan st;
          after = omega arith;
          before = omega (arith, end);
          in_time = omega (arith, end, in_time);
        }

        through : PassesLate sc hands ear n epoch st (tail_start_of sc.sizes sc.plan) (next_epoch - (epoch + tail_start_of sc.sizes sc.plan)) next_epoch
        through = passes_late x set deaf

        here : IsWindow sc.sizes sc.plan st st (epoch + tail_start_of sc.sizes sc.plan) (next_epoch - (epoch + tail_start_of sc.sizes sc.plan) - 1)
        here =
            span_window st deaf.span (has_ticks law) x.epoch_is
            (not-yet sc.sizes sc.plan Biu st (epoch + first) x.known less)
            (λ y known. let same : next_epoch ≡ y = same_Some next_epoch y (sym x.known ∙ known) in omega (arith, same, end)) (omega (arith, end, in_time, x.beside.is.ticks))

        c : Closed
        c = (closing sc ear st (epoch + tail_start_of sc.sizes sc.plan) (next_epoch - (epoch + tail_start_of sc.sizes sc.plan) - 1)).closed

        stage : c.place.stage ≡ 4
        stage =
            ap (λ o. o.closed.place.stage) (span_closing ear deaf.span (has_ticks law) x.epoch_is)
            ∙ ap (λ p. p.stage) (place_synced sc.sizes st 4 (st.epoch + first) (sense_span sc ear (epoch + first) ticks st (sync_slot_of sc.sizes) 4))

        unseen : (g v : ℕ) → seen_by sc ear g v (epoch + tail_start_of sc.sizes sc.plan) ≡ None
            → seen_by sc ear g v (suc (epoch + tail_start_of sc.sizes sc.plan + (next_epoch - (epoch + tail_start_of sc.sizes sc.plan) - 1))) ≡ None
        unseen g v before =
            seen_none sc ear g v (epoch + first + (ticks - 1))
            (seen_quiet sc ear g v (epoch + first) before (ticks - 1) (closes_nothing here x.stands))
            (closes_last through.closes)
            (ap (λ b. elim b as (λ _. Option Closed) [ true ↦ Some c | false ↦ None ]) (no_number c g v stage))

-- ---- the next frame

pub to_next : {sc hands ear learned records f last epoch low next_epoch later : _} → IsHeldTo sc hands ear learned records f last
    → (x : StandsAtTail sc hands ear (suc f) epoch low next_epoch later) → IsComplete sc hands (suc f) (sync_slot_of sc.sizes) → next_epoch ≤ ear.ticks
    → StandsAt sc hands ear (suc (suc f)) 0 next_epoch later
to_next {sc} {hands} {ear} {f} {epoch} {low} {next_epoch} {later} h x complete in_time = record {
  shared = shared_next sc.sizes x.shared;
  before = after.now;
  st = turn sc.sizes sc.plan.probation Biu next_epoch after.now;
  abides = subst (λ k. Abides sc hands ear k next_epoch later (shared_next sc.sizes x.shared) after.now (turn sc.sizes sc.plan.probation Biu next_epoch after.now)) number turned;
  at = at-window law complete 0 (omega arith) (subst (λ k. IsRunning (moment sc hands k)) number running);
  none = subst (NoneSeen sc ear (suc (suc f)) 0) same_tick (subst (λ g. NoneSeen sc ear g 0 next_epoch) same_frame after.none);
  sets = λ none.
      let end : AtEnd sc hands (suc n) (moment sc hands (suc n)) x.shared = record { law = law; agree = late.beside.agree; at = window } in
      subst (λ g. HoldsSets (shared_next sc.sizes x.shared) g (turn sc.sizes sc.plan.probation Biu next_epoch after.now)) (ap (λ g. g + 1) (sym frames ∙ at.frame_is) ∙ same_frame)
      (turned_sets end late.like next_epoch);
}
  where
    law : IsLawful sc
    law = x.late.beside.law

    n : ℕ
    n = suc (suc (suc (sync_moment sc (suc f))))

    at : IsInSync sc hands (suc f) (suc (suc (suc (sync_moment sc (suc f))))) 3
    at = in_sync law h.complete complete 3 (omega arith) (omega arith)

    after : AfterTail sc hands ear (suc (suc (suc (sync_moment sc (suc f))))) epoch next_epoch (suc f)
    after = through_tail at.window x.late x.none x.start in_time

    t : IsTurn sc hands (suc f)
    t = frame_turns law complete

    more : suc (suc f) * (windows_in sc.sizes + 1) ≡ suc f * (windows_in sc.sizes + 1) + (windows_in sc.sizes + 1)
    more = omega arith

    n_is : suc f * (windows_in sc.sizes + 1) + 3 * sync_slot_of sc.sizes + 4 - 1 ≡ suc (suc (suc (sync_moment sc (suc f))))
    n_is = omega arith

    third_is : suc (suc f) * (windows_in sc.sizes + 1) + 3 * 0 + 1 - 1 ≡ suc (suc (suc (suc (suc (sync_moment sc (suc f))))))
    third_is = omega (arith, more)

    number : suc (suc (suc (suc (suc (sync_moment sc (suc f)))))) ≡ 0 + first_of_frame sc (suc (suc f))
    number = omega (arith, more)

    running : IsRunning (moment sc hands (suc (suc (suc (suc (suc (sync_moment sc (suc f))))))))
    running = subst (λ k. IsRunning (moment sc hands k)) third_is t.running

    tail_is : next sc (moment sc hands (suc (suc (suc (sync_moment sc (suc f)))))) ≡ moment sc hands (suc (suc (suc (suc (sync_moment sc (suc f))))))
    tail_is = ap (λ k. next sc (moment sc hands k)) (sym n_is) ∙ t.tail ∙ ap (λ k. moment sc hands (suc k)) n_is

    turn_is : next_frame sc hands (moment sc hands (suc (suc (suc (suc (sync_moment sc (suc f))))))) ≡ moment sc hands (suc (suc (suc (suc (suc (sync_moment sc (suc f)))))))
    turn_is = ap (next_frame sc hands) (sym tail_is) ∙ ap (λ k. next_frame sc hands (next sc (moment sc hands k))) (sym n_is) ∙ t.turn ∙ ap (moment sc hands) third_is

    frames : (moment sc hands (suc (suc (suc (sync_moment sc (suc f)))))).frame ≡ (moment sc hands (suc (suc (suc (suc (sync_moment sc (suc f))))))).frame
    frames = sym (next-frame sc (moment sc hands n)) ∙ ap (λ m. m.frame) tail_is

    late : StandsLate sc hands ear (suc (suc (suc (suc (sync_moment sc (suc f)))))) epoch low x.shared after.now after.a next_epoch later
    late = record {
      beside = record {
        law = law;
        is = x.late.beside.is;
        run = x.late.beside.run;
        running = running_earlier sc hands (suc n) (suc (suc n)) (omega arith) running;
        agree = subst (λ m. Agree sc hands (suc n) m x.shared) tail_is
            (agree_sync (tail_setting at.window law x.late.beside.agree) tail_is);
        near = subst (λ m. Synchronous sc m x.shared low) tail_is (near_tail x.late.beside.agree at.window x.late.beside.near);
        began = x.late.beside.began;
        past = x.late.beside.past;
      };
      next = subst (λ g. NextBegins sc hands ear g next_epoch later) frames x.late.next;
      over = λ j q y sent frame window k stamp. x.late.over j q y sent (frame ∙ sym frames) window k stamp;
      stands = after.stands;
      like = subst (λ m. IsLike sc m after.now) tail_is after.like;
      spares = subst (λ g. SparesNext sc g after.now) frames after.spares;
      epoch_is = after.epoch_is;
      known = after.known;
    }

    window : (moment sc hands (suc (suc (suc (suc (sync_moment sc (suc f))))))).window ≡ windows_in sc.sizes
    window = let e : (moment sc hands (suc n)).window ≡ (moment sc hands n).window + 1 = ap (λ m. m.window) (sym tail_is) ∙ next-window sc (moment sc hands n) in omega (arith, e, at.window)

    turned : Abides sc hands ear (suc (suc (suc (suc (suc (sync_moment sc (suc f))))))) next_epoch later (shared_next sc.sizes x.shared) after.now (turn sc.sizes sc.plan.probation Biu next_epoch after.now)
    turned = turns_next late after.end window turn_is running

    same_frame : suc f + 1 ≡ suc (suc f)
    same_frame = omega arith

    same_tick : next_epoch ≡ next_epoch + 0 * sc.plan.l
    same_tick = omega arith
