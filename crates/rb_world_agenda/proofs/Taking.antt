-- A due event is taken.
use Rattle.std.proofs.{Common.{◌≡◌, ℕ, ◌==◌, true, Option, Some, slice_get, refl, sym, ap, ◌∙◌, subst, arith}, lemmas.Bool.Decides.nat_tests, lemmas.Option.same_Some}
use Rattle.std.specs.Prelude.{option_map, unwrap_or}
use Rattle.rb_base.specs.{declared.event.Event.Event, declared.node.NodeName.NodeName}
use Rattle.rb_rules.specs.{Book.{Each, in_order, of_kind}, Goodness.Scenario, Links.name_of, WorldStep.{Pending as Waits, Site, Timed, World, at_node}}
use Rattle.rb_queue.specs.{Waiting.{HasLane, Held, Ready, event_with, kind_with, lane_of, ready_event, ready_of, with_lane, without_ready}, Waiting.Ready.{Comes, Ticks}}
use Rattle.rb_world_agenda.specs.{Agenda.{IsAtTime, StandsAt, TakesDue, first_time, key_of}, Holding.{HoldsSite, HoldsSites, Shows, due_with, waits_with, without_waiting}}
use Rattle.rb_world_agenda.proofs.{Changes.holds-at, Heads.AreTimes, Places.{IsAtHead, IsOf, holds-without, ready-at}, Which.is-due}

-- an event shows what waits
pub shows-own : (ahead : Option Timed) (r : Ready) → Shows (waits_with ahead r) (kind_with r)
shows-own ahead (Comes place c) = (refl, refl)
shows-own ahead Ticks = tt

at-time : (lane : Held) (ahead : Option Timed) (t : ℕ) (r : Ready) → IsOf t lane r → IsAtTime t (waits_with ahead r)
at-time lane ahead t (Comes place c) is = is.0
at-time lane ahead t Ticks is = tt

-- what is ready is of the least time
ready-first : (lanes : Each Held) (l : Held) (place : ℕ) (r : Ready) → slice_get (ready_of l) place ≡ Some r → (key_of l == first_time lanes) ≡ true
    → IsOf (first_time lanes) l r
ready-first lanes l place r e first =
    let at : IsAtHead l r = ready-at l place r e in
    let key : key_of l ≡ at.time = ap (λ o. unwrap_or o 18446744073709551615) at.head in
    let time : key_of l ≡ first_time lanes = grind (arith, nat_tests, first) in
    subst (λ t. IsOf t l r) (sym key ∙ time) at.is

pub takes-due : (sc : Scenario) (w : World) (lanes new : Each Held) (i : ℕ) (event : Event) (name : NodeName) (place : ℕ) → HoldsSites sc.sizes lanes w.sites
    → AreTimes (in_order lanes) → StandsAt lanes (first_time lanes) i name place → ready_event name place (lane_of lanes name) ≡ Some event
    → new ≡ with_lane name (without_ready place (lane_of lanes name)) lanes → TakesDue sc w i (first_time lanes) name event new
takes-due sc w lanes new i event name place holds times at shown after =
    let d = is-due sc w lanes i name place holds times at in
    let l : Held = lane_of lanes name in
    let waits : Waits = waits_with d.site.ahead d.event in
    let its : event_with name d.event ≡ event = same_Some (event_with name d.event) event (sym (ap (option_map (event_with name)) d.ready) ∙ shown) in
    let lane : lane_of lanes (name_of d.side d.number) ≡ l = ap (lane_of lanes) (sym d.named) in
    let change : Site → Site = without_waiting waits in
    let step : (s : Site) → slice_get (of_kind d.side w.sites) d.number ≡ Some s → HoldsSite sc.sizes d.side (lane_of lanes (name_of d.side d.number)) s
    → HoldsSite sc.sizes d.side (without_ready place l) (change s) =
    λ s e h.
    let same : d.site ≡ s = same_Some d.site s (sym d.there ∙ e) in
    subst (λ x. HoldsSite sc.sizes d.side (without_ready place l) (change x)) same
    (holds-without sc.sizes d.side l d.site place d.event
    (subst (HoldsSite sc.sizes d.side l) (sym same) (subst (λ x. HoldsSite sc.sizes d.side x s) lane h)) d.ready) in
    record {
      due = due_with d.side d.number d.site d.event;
      site = d.site;
      named = d.named;
      time_is = at-time l d.site.ahead (first_time lanes) d.event (ready-first lanes l place d.event d.ready at.first);
      found = d.due;
      there = d.there;
      shows = subst (λ e. Shows waits e.kind) its (shows-own d.site.ahead d.event);
      left = subst (λ x. HoldsSites sc.sizes x (at_node d.side d.number change w.sites)) (sym (after ∙ ap (λ n. with_lane n (without_ready place l) lanes) d.named))
          (holds-at sc.sizes lanes w.sites d.side d.number (without_ready place l) change holds (subst (HasLane lanes) d.named at.lane) step);
    }
