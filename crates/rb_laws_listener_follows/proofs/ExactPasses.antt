-- Below the sync slot a listener goes from window to window of a frame that it follows.
use Rattle.std.proofs.Common.{◌≡◌, ℕ, suc, ◌+◌, ◌-◌, ◌*◌, ◌/◌, ◌%◌, ◌<◌, ◌≤◌, List, Some, None, get_or, sym, ◌∙◌, ap, subst, arith}
use Rattle.rb_base.specs.{Sizes.sync_slot_of, declared.values.See.TheVariants.Nothing}
use Rattle.rb_rules.specs.{declared.sense.Sense.Sense, ExactStage.Outcome, Goodness.Scenario, Moments.{IsComplete, IsRunning}, NodeState.NodeState, Ports.HandIn, Rounds.moment}
use Rattle.rb_laws_agreement.proofs.{Invariant.Shared, Settings.{Setting, stages_with}}
use Rattle.rb_laws_listener_near.specs.Judged.{verdict_with}
use Rattle.rb_laws_listener_near.proofs.{Tracking.held, VotesAlike.SawTaken}
use Rattle.rb_laws_listener_learns.specs.{Ears.Ear, Receivers.{HoldsTo, seen_by, seen_closed, timed_see}}
use Rattle.rb_laws_listener_learns.proofs.FrameStages.{IsAtWindow, IsStepped, at-window, first_of_frame, stepped}
use Rattle.rb_laws_listener_follows.proofs.{ExactRuns.{StandsNext, setting_at, stands_next}, ExactSteps.{Abides, GoesThrough, IsPremise, closing_is, goes_through, outcome_at, sense_at, window_at}, FollowerRuns.{ClosesWindow, IsWindow, closes_window, closing}, SeenPremise.{holds_following, most_stay, place_closed, seen_following, sees_values}, SeenWindows.{IsPlaceOf, NoneSeen, SeesWindow, seen_stays, sees_window}, TurnSets.HoldsSets}

-- The listener stands before window w of the frame, and has closed neither this window nor a later
-- one. Before the first one it holds the trusted nodes of all
pub record StandsAt (sc : Scenario) (hands : List HandIn) (ear : Ear) (frame w epoch low : ℕ) : Type 0 where
  pub shared : Shared
  pub before : NodeState
  pub st : NodeState
  pub abides : Abides sc hands ear (w + first_of_frame sc frame) epoch low shared before st
  pub at : IsAtWindow sc hands frame w
  pub none : NoneSeen sc ear frame w (epoch + w * sc.plan.l)
  pub sets : w ≡ 0 → HoldsSets shared frame st

-- the premise with the listener holds up to moment `last`, and the frame is one after the learned
-- one
pub record IsHeldTo (sc : Scenario) (hands : List HandIn) (ear : Ear) (learned : ℕ) (records : List Sense) (f last : ℕ) : Type 0 where
  pub holds : HoldsTo sc hands ear learned records last
  pub later : learned < suc f
  pub complete : IsComplete sc hands f (sync_slot_of sc.sizes)

-- the listener goes through window `w` of the frame
pub record PassesExact (sc : Scenario) (hands : List HandIn) (ear : Ear) (frame w epoch low : ℕ) (x : StandsAt sc hands ear frame w epoch low) : Type 0 where
  pub set : Setting sc hands (w + first_of_frame sc frame) (moment sc hands (w + first_of_frame sc frame)) x.shared (w / 3) (w % 3)
  pub premise : IsPremise sc hands ear (w + first_of_frame sc frame) epoch x.st (w / 3) (w % 3) (seen_following sc ear frame)
  pub through : GoesThrough sc hands ear (w + first_of_frame sc frame) epoch x.before x.st (w / 3) (w % 3)
  pub next : StandsAt sc hands ear frame (suc w) epoch low

pub passes_exact : {sc hands ear learned records f last w epoch low : _} → IsHeldTo sc hands ear learned records f last
    → (x : StandsAt sc hands ear (suc f) w epoch low) → w < 3 * sync_slot_of sc.sizes → IsRunning (moment sc hands (suc (w + first_of_frame sc (suc f)))) → suc (w + first_of_frame sc (suc f)) ≤ last
    → epoch + w * sc.plan.l + sc.plan.l ≤ ear.ticks → PassesExact sc hands ear (suc f) w epoch low x
passes_exact {sc} {hands} {ear} {records} {f} {w} {epoch} {low} h x below running le in_time = record {
  set = set;
  premise = premise;
  through = through;
  next = record {
    shared = next.shared;
    before = o.state;
    st = o.state;
    abides = next.abides;
    at = next_at;
    none = subst (λ k. NoneSeen sc ear (suc f) k (epoch + suc w * sc.plan.l)) more (subst (λ k. NoneSeen sc ear (suc f) (w + 1) k) later_tick sees.later);
    sets = λ none. absurd (omega (arith, none));
  };
}
  where
    n : ℕ
    n = w + first_of_frame sc (suc f)

    window : (moment sc hands (w + first_of_frame sc (suc f))).window ≡ w
    window = x.at.window_is

    ticks : (moment sc hands (w + first_of_frame sc (suc f))).window * sc.plan.l ≡ w * sc.plan.l
    ticks = ap (λ k. k * sc.plan.l) x.at.window_is

    first : ℕ
    first = epoch + (moment sc hands (w + first_of_frame sc (suc f))).window * sc.plan.l

    time : epoch + (moment sc hands (w + first_of_frame sc (suc f))).window * sc.plan.l + sc.plan.l ≤ ear.ticks
    time = omega (arith, ticks, in_time)

    set : Setting sc hands (w + first_of_frame sc (suc f)) (moment sc hands (w + first_of_frame sc (suc f))) x.shared (w / 3) (w % 3)
    set = setting_at (w / 3) (w % 3) x.abides.beside (omega (arith, below)) (omega arith) (omega (arith, window)) running

    o : Outcome
    o = outcome_at sc hands ear (w + first_of_frame sc (suc f)) epoch x.st (w / 3) (w % 3)

    here : IsWindow sc.sizes sc.plan x.before x.st (epoch + (moment sc hands (w + first_of_frame sc (suc f))).window * sc.plan.l) (sc.plan.l - 1)
    here = window_at x.abides (omega (arith, window, below)) time

    closes : ClosesWindow sc ear x.before x.st (epoch + (moment sc hands (w + first_of_frame sc (suc f))).window * sc.plan.l) (sc.plan.l - 1)
    closes = closes_window here x.abides.stands

    is : closing sc ear x.st (epoch + (moment sc hands (w + first_of_frame sc (suc f))).window * sc.plan.l) (sc.plan.l - 1) ≡ o
    is = closing_is ear x.st set x.abides.epoch_is

    frame : x.st.frame ≡ suc f
    frame = (held set x.abides.tracks).frame ∙ x.at.frame_is

    place : IsPlaceOf (closing sc ear x.st (epoch + (moment sc hands (w + first_of_frame sc (suc f))).window * sc.plan.l) (sc.plan.l - 1)).closed (suc f) w
    place =
        ap (λ y. y.closed.place) is
        ∙ place_closed sc.sizes x.st (w / 3) (w % 3 + 1) ((moment sc hands n).window * sc.plan.l) (sense_at sc hands ear n epoch x.st (w / 3) (w % 3)) (omega (arith, below))
        ∙ ap (λ k. record { frame = k; slot = w / 3; stage = w % 3 + 1 }) frame

    none : NoneSeen sc ear (suc f) w (epoch + (moment sc hands (w + first_of_frame sc (suc f))).window * sc.plan.l)
    none = subst (λ k. NoneSeen sc ear (suc f) w (epoch + k)) (sym ticks) x.none

    sees : SeesWindow sc ear (suc f) w (closing sc ear x.st (epoch + (moment sc hands (w + first_of_frame sc (suc f))).window * sc.plan.l) (sc.plan.l - 1)).closed
        (epoch + (moment sc hands (w + first_of_frame sc (suc f))).window * sc.plan.l + (sc.plan.l - 1))
    sees = sees_window here x.abides.stands closes none place

    seen_end : seen_by sc ear (suc f) w ear.ticks ≡ Some o.closed
    seen_end =
        let k : ℕ = suc (first + (sc.plan.l - 1)) in
        let e : ear.ticks - k + k ≡ ear.ticks = omega (arith, time, set.law.plan.l.0) in
        ap (seen_by sc ear (suc f) w) (sym e) ∙ seen_stays sc ear (suc f) w k sees.here (ear.ticks - k) ∙ ap (λ y. Some y.closed) is

    saw : SawTaken sc (moment sc hands (w + first_of_frame sc (suc f))) (w / 3) (w % 3 + 1) x.st (sense_at sc hands ear (w + first_of_frame sc (suc f)) epoch x.st (w / 3) (w % 3)) (seen_following sc ear (suc f))
    saw = record {
      sight = λ j. timed_see sc ear (suc f) j (get_or o.closed.sees j Nothing);
      here = ap (λ k. seen_closed sc ear (suc f) (seen_by sc ear (suc f) k ear.ticks)) x.at.long ∙ ap (seen_closed sc ear (suc f)) seen_end;
      is = sees_values sc ear (suc f) (w / 3) (w % 3 + 1) ((moment sc hands n).window * sc.plan.l) x.st (sense_at sc hands ear n epoch x.st (w / 3) (w % 3)) (omega (arith, below));
    }

    step : IsStepped sc hands (w + first_of_frame sc (suc f))
    step = stepped sc hands n (omega (arith, window, below)) running

    e : suc (w + first_of_frame sc (suc f)) ≡ suc w + first_of_frame sc (suc f)
    e = omega arith

    next_at : IsAtWindow sc hands (suc f) (suc w)
    next_at = at-window set.law h.complete (suc w) (omega (arith, below)) (subst (λ k. IsRunning (moment sc hands k)) e running)

    stages : stages_with sc (moment sc hands (w + first_of_frame sc (suc f))) (w / 3) (w % 3 + 1) ≡ (moment sc hands (suc (w + first_of_frame sc (suc f)))).book.stages
    stages =
        sym (ap (λ m. m.book.stages) step.is ∙ step.judged.stages
        ∙ ap (λ k. stages_with sc (moment sc hands n) (k / 3) (k % 3 + 1)) window)

    judged : verdict_with (seen_following sc ear (suc f)) (stages_with sc (moment sc hands (w + first_of_frame sc (suc f))) (w / 3) (w % 3 + 1)) ≡ None
    judged =
        ap (verdict_with (seen_following sc ear (suc f))) stages
        ∙ holds_following sc hands ear records h.holds (suc n) le (ap (λ k. (moment sc hands k).frame) e ∙ next_at.frame_is) h.later
        (let v : (moment sc hands (suc n)).window ≡ suc w = ap (λ k. (moment sc hands k).window) e ∙ next_at.window_is in omega (arith, v))

    premise : IsPremise sc hands ear (w + first_of_frame sc (suc f)) epoch x.st (w / 3) (w % 3) (seen_following sc ear (suc f))
    premise = record { most = most_stay set.law x.abides.beside.run n (omega (arith, window, below)) running; none = judged; saw = λ votes. saw }

    through : GoesThrough sc hands ear (w + first_of_frame sc (suc f)) epoch x.before x.st (w / 3) (w % 3)
    through = goes_through x.abides set premise time

    next : StandsNext sc hands ear (suc w + first_of_frame sc (suc f)) epoch low o.state
    next =
        subst (λ k. StandsNext sc hands ear k epoch low o.state) e
        (stands_next x.abides (omega (arith, below)) (omega arith) (omega (arith, window)) running through)

    later_tick : suc (first + (sc.plan.l - 1)) ≡ epoch + suc w * sc.plan.l
    later_tick = let g : suc w * sc.plan.l ≡ w * sc.plan.l + sc.plan.l = omega arith in omega (arith, ticks, g, set.law.plan.l.0)

    more : w + 1 ≡ suc w
    more = omega arith
