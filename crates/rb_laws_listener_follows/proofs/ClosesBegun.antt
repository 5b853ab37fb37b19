-- A listener closes the first window of its first frame as the bus does.
use Rattle.std.proofs.Common.{◌≡◌, suc, ◌+◌, ◌-◌, ◌<◌, sym, ◌∙◌, ap, subst, arith}
use Rattle.rb_base.specs.{Nodes.Side.Biu, Sizes.sync_slot_of}
use Rattle.rb_rules.specs.{Core.state_at, Lawful.IsLawful, Moments.{IsComplete, before_stage}, NodeState.NodeState, Rounds.moment, StandsFor.{StandsFor, steps_to}}
use Rattle.rb_laws_events.proofs.TurnTicks.{no-next}
use Rattle.rb_laws_listener_near.proofs.WindowSteps.{IsWatched}
use Rattle.rb_laws_listener_follows.specs.{Following.{ClosesAsTheBus, ClosesAt}, InTime.moment_before}
use Rattle.rb_laws_listener_follows.proofs.{ClosesExact.closes_exact, FirstBegins.first_state, FirstStands.FirstStands, FirstWindow.{outcome_first, sense_first}, SeenPremise.{place_closed, seen_following}, Tellings.tells_close}

pub closes_begun : {sc hands : _} → IsLawful sc → (stands : StandsFor sc hands) {ear learned first b : _}
    → FirstStands sc hands ear learned first b → (first_state sc first).frame ≡ suc learned → IsComplete sc hands (suc learned) 0
    → ClosesAt sc stands.bus ear (suc learned) 0 1 (first.epoch + (sc.plan.l - 1))
closes_begun {sc} {hands} law stands {ear} {learned} {first} {b} x frame complete = record {
  core = x.window.core;
  here = x.window.here;
  x = (outcome_first sc ear first.epoch (first_state sc first)).closed;
  closed = x.window.closed;
  place = place_closed sc.sizes st 0 1 0 (sense_first sc ear first.epoch st) some_slot ∙ ap (λ f. record { frame = f; slot = 0; stage = 1 }) frame;
  as_bus = subst (λ y. ClosesAsTheBus sc (stands.bus (steps_to sc.sizes (suc learned) 0)) (stands.bus (steps_to sc.sizes (suc learned) 0 + 1)) y (outcome_first sc ear first.epoch (first_state sc first)).closed)
      (sym state)
      (closes_exact law stands (suc learned) some_slot (omega arith) complete 0 watched);
  told = tells_close sc ear (first.epoch + (sc.plan.l - 1)) x.window.core x.window.here x.window.closed;
}
  where
    st : NodeState
    st = first_state sc first

    some_slot : 0 < sync_slot_of sc.sizes
    some_slot = omega (arith, law.sizes.some_biu)

    state : state_at sc.sizes sc.plan Biu x.window.core.state (first.epoch + (sc.plan.l - 1)) ≡ first_state sc first
    state =
        ap (λ y. state_at sc.sizes sc.plan Biu y (first.epoch + (sc.plan.l - 1))) x.window.state
        ∙ no-next sc.sizes sc.plan Biu (first_state sc first) (first.epoch + (sc.plan.l - 1)) b.begins.unknown

    next : learned + 1 ≡ suc learned
    next = omega arith

    watched : IsWatched sc (before_stage sc hands (suc learned) 0 (0 + 1)) 0 0 (first_state sc first) (sense_first sc ear first.epoch (first_state sc first)) (seen_following sc ear (suc learned))
    watched =
        subst (λ f. IsWatched sc (moment sc hands (moment_before sc f 0 1)) 0 0 (first_state sc first) (sense_first sc ear first.epoch (first_state sc first)) (seen_following sc ear (suc learned))) next x.window.watched
