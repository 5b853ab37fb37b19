-- If a listener stands before a window of a frame that it follows, it closes the window as the bus
-- does.
use Rattle.std.proofs.Common.{◌≡◌, ℕ, suc, ◌+◌, ◌-◌, ◌*◌, ◌/◌, ◌%◌, ◌<◌, ◌≤◌, sym, ◌∙◌, ap, subst, arith}
use Rattle.rb_base.specs.{Nodes.Side.Biu, Sizes.sync_slot_of}
use Rattle.rb_rules.specs.{Core.state_at, Lawful.IsLawful, Moments.{IsComplete, IsRunning, before_stage}, Rounds.{moment, windows_in}, StandsFor.{StandsFor, steps_to}}
use Rattle.rb_laws_agreement.proofs.Places.{running_earlier}
use Rattle.rb_laws_synchrony.proofs.Times.{lawful_fits, plan_fits}
use Rattle.rb_laws_events.proofs.TurnTicks.{no-next}
use Rattle.rb_laws_listener_near.proofs.{Tracking.held, WindowSteps.IsWatched}
use Rattle.rb_laws_listener_learns.specs.Ears.{listening_at}
use Rattle.rb_laws_listener_learns.proofs.FrameStages.{first_of_frame}
use Rattle.rb_laws_listener_follows.specs.Following.{ClosesAsTheBus, ClosesAt}
use Rattle.rb_laws_listener_follows.proofs.{ClosesExact.closes_exact, ClosesSync.before-some, ExactPasses.{IsHeldTo, PassesExact, StandsAt, passes_exact}, ExactSteps.{outcome_at, sense_at, watched}, SeenPremise.{place_closed, seen_following}, Tellings.tells_close}
use Rattle.rb_listen.specs.Listening as now

pub closes_there : {sc hands : _} (stands : StandsFor sc hands) {ear learned records f last w epoch low : _} → IsHeldTo sc hands ear learned records f last
    → StandsAt sc hands ear (suc f) w epoch low → w < 3 * sync_slot_of sc.sizes → IsComplete sc hands (suc f) (w / 3) → suc (w + first_of_frame sc (suc f)) ≤ last
    → epoch + w * sc.plan.l + sc.plan.l ≤ ear.ticks → ClosesAt sc stands.bus ear (suc f) (w / 3) (w % 3 + 1) (epoch + w * sc.plan.l + (sc.plan.l - 1))
closes_there {sc} {hands} stands {ear} {f} {w} {epoch} {low} h x below complete le in_time = record {
  core = p.through.core;
  here = here;
  x = (outcome_at sc hands ear (w + first_of_frame sc (suc f)) epoch x.st (w / 3) (w % 3)).closed;
  closed = p.through.closed;
  place = place_closed sc.sizes x.st (w / 3) (w % 3 + 1) ((moment sc hands n).window * sc.plan.l) (sense_at sc hands ear n epoch x.st (w / 3) (w % 3)) (omega (arith, below))
      ∙ ap (λ k. record { frame = k; slot = w / 3; stage = w % 3 + 1 }) frame;
  as_bus = subst (λ st. ClosesAsTheBus sc (stands.bus (steps_to sc.sizes (suc f) (w / 3))) (stands.bus (steps_to sc.sizes (suc f) (w / 3) + 1)) st (outcome_at sc hands ear (w + first_of_frame sc (suc f)) epoch x.st (w / 3) (w % 3)).closed)
      (sym state) as_bus;
  told = tells_close sc ear (epoch + w * sc.plan.l + (sc.plan.l - 1)) p.through.core here p.through.closed;
}
  where
    n : ℕ
    n = w + first_of_frame sc (suc f)

    law : IsLawful sc
    law = x.abides.beside.law

    fit : plan_fits sc
    fit = lawful_fits law

    two : 2 ≤ sc.plan.l
    two = omega (arith, fit.in_l, law.plan.h.0)

    window : (moment sc hands (w + first_of_frame sc (suc f))).window ≡ w
    window = x.at.window_is

    ticks : (moment sc hands (w + first_of_frame sc (suc f))).window * sc.plan.l ≡ w * sc.plan.l
    ticks = ap (λ k. k * sc.plan.l) x.at.window_is

    running : IsRunning (moment sc hands (suc (w + first_of_frame sc (suc f))))
    running =
        running_earlier sc hands (suc (w + first_of_frame sc (suc f))) (suc f * (windows_in sc.sizes + 1) + 3 * (w / 3) + 4 - 1) (omega arith) complete

    p : PassesExact sc hands ear (suc f) w epoch low x
    p = passes_exact h x below running le in_time

    tick : epoch + (moment sc hands (w + first_of_frame sc (suc f))).window * sc.plan.l + (sc.plan.l - 1) ≡ epoch + w * sc.plan.l + (sc.plan.l - 1)
    tick = ap (λ k. epoch + k + (sc.plan.l - 1)) ticks

    frame : x.st.frame ≡ suc f
    frame = (held p.set x.abides.tracks).frame ∙ x.at.frame_is

    here : listening_at sc ear (epoch + w * sc.plan.l + (sc.plan.l - 1)) ≡ now.Following p.through.core
    here = subst (λ k. listening_at sc ear k ≡ now.Following p.through.core) tick p.through.here

    state : state_at sc.sizes sc.plan Biu p.through.core.state (epoch + w * sc.plan.l + (sc.plan.l - 1)) ≡ x.st
    state =
        ap (λ y. state_at sc.sizes sc.plan Biu y (epoch + w * sc.plan.l + (sc.plan.l - 1))) (p.through.state ∙ before-some x.before x.st (sc.plan.l - 1) (omega (arith, two)))
        ∙ no-next sc.sizes sc.plan Biu x.st (epoch + w * sc.plan.l + (sc.plan.l - 1)) x.abides.unknown

    place : w + first_of_frame sc (suc f) ≡ suc f * (windows_in sc.sizes + 1) + 3 * (w / 3) + (w % 3 + 1) - 1
    place = omega arith

    w_watched : IsWatched sc (before_stage sc hands (suc f) (w / 3) (w % 3 + 1)) (w / 3) (w % 3) x.st (sense_at sc hands ear (w + first_of_frame sc (suc f)) epoch x.st (w / 3) (w % 3)) (seen_following sc ear (suc f))
    w_watched =
        subst (λ k. IsWatched sc (moment sc hands k) (w / 3) (w % 3) x.st (sense_at sc hands ear (w + first_of_frame sc (suc f)) epoch x.st (w / 3) (w % 3)) (seen_following sc ear (suc f))) place
        (watched x.abides p.set p.premise (omega (arith, ticks, in_time)))

    as_bus : ClosesAsTheBus sc (stands.bus (steps_to sc.sizes (suc f) (w / 3))) (stands.bus (steps_to sc.sizes (suc f) (w / 3) + 1)) x.st (outcome_at sc hands ear (w + first_of_frame sc (suc f)) epoch x.st (w / 3) (w % 3)).closed
    as_bus =
        closes_exact law stands (suc f) (omega (arith, below)) (omega arith) complete ((moment sc hands n).window * sc.plan.l) w_watched
