-- What is due may be shown.
use Rattle.std.proofs.{Common.{◌≡◌, ◌<◌, ◌≤◌, ◌^◌, ◌==◌, ℕ, Bool, true, List, Option, Some, length, slice_get, refl, sym, ap, ◌∙◌, subst, arith}, lemmas.Bool.Decides.nat_tests, lemmas.Option.same_Some}
use Rattle.std.specs.Prelude.{option_and_then, option_map, unwrap_or}
use Rattle.arrayvec.specs.ArrayVec.{ArrayVec}
use Rattle.rb_base.specs.{Nodes.Side, declared.event.Event.Event, declared.event.EventKind.EventKind, declared.node.NodeName.NodeName}
use Rattle.rb_rules.specs.{Book.{Each, of_kind}, Clock.ComesBy, Goodness.{Scenario, clock_of}, Hearing.Coming, Links.name_of, Ports.PortState, WorldStep.{Due, Pending, Site, Timed, World, at_node, due_of, event_at, event_of}, WorldStep.Pending.{Tick, Arrival}}
use Rattle.rb_queue.specs.{Waiting.{HasLane, Held as Lane, Ready, event_with, lane_of, ready_event, ready_of, with_lane, without_ready}, Waiting.Ready.{Comes, Ticks}}
use Rattle.rb_world_agenda.specs.{Agenda.{IsAtTime, IsDue, StandsAt, Takes, TakesDue, first_time, key_of}, Holding.{HoldsSite, HoldsSites, Shows, coming_with, due_with, waits_with, without_waiting}}
use Rattle.rb_world_agenda.proofs.{Changes.holds-at, Places.{IsAtHead, IsOf, holds-without, ready-at}, Taking.shows-own, Which.has-item}
use Rattle.rb_node.specs.Cores.{passing_end}
use Rattle.rb_laws_events.proofs.DueEvents.{IsDue as IsPending}
use Rattle.rb_port.specs.Keeping.{KeptPort}
use Rattle.rb_world.specs.{Sites.{KeptSite, number_of}, Showing.{IsInTime, IsShownAt, MayShow, MayShowArrival, MayShowTick}, Steps.MayHappen, Worlds.{KeptWorld, Stands, due_in}}
use Rattle.rb_world.proofs.{Standing.passing-most, Arrivals.{arrival-ready, in-time}, Chosen.may-happen, Ready.{due-reached, next-due, node-there, tick-of}}
use Rattle.rb_base.specs.declared.event.EventKind.TheVariants as kind

pub event-same : (a b : NodeName) (m n : ℕ) (x y : EventKind) → a ≡ b → m ≡ n → x ≡ y
    → ◌≡◌ {A = Event} (record { node = a; quiet = m; kind = x }) (record { node = b; quiet = n; kind = y })
event-same a b m n x y ea em ex =
    ap (λ a. let e : Event = record { node = a; quiet = m; kind = x } in e) ea
    ∙ ap (λ m. let e : Event = record { node = b; quiet = m; kind = x } in e) em
    ∙ ap (λ x. let e : Event = record { node = b; quiet = n; kind = x } in e) ex

shown-as : (sc : Scenario) (me : Side) (i : ℕ) (site : KeptSite) (name : NodeName) (s : Site) → name ≡ name_of me i → IsShownAt sc me i site (name_of me i) s → IsShownAt sc me i site name s
shown-as sc me i site name s named at = subst (λ n. IsShownAt sc me i site n s) (sym named) at

-- the event that waits is a tick that may be shown
pub record ShowsTick (sc : Scenario) (me : Side) (i : ℕ) (waits : Pending) (site : KeptSite) (kept : List KeptPort) (name : NodeName) (states : List PortState) (s : Site) : Type 0 where
  pub tick : ℕ
  pub is : waits ≡ Tick tick
  pub may : MayShowTick sc me i tick site kept name states s

pub tick-shows : (sc : Scenario) (me : Side) (i : ℕ) (waits : Pending) (site : KeptSite) (kept : List KeptPort) (time : ℕ) (name : NodeName) (event : Event) (states : List PortState) (s : Site)
    (word : ℕ) (wanted : Bool) → name ≡ name_of me i → MayShow sc me i waits site kept time event states s → event.kind ≡ kind.Tick word wanted → ShowsTick sc me i waits site kept name states s
tick-shows sc me i waits site kept time name event states s word wanted named may is = by waits (subst (Shows waits) is may.shows) may.in_time
  where
    by : (p : Pending) → Shows p (kind.Tick word wanted) → IsInTime sc me i s.core p → ShowsTick sc me i p site kept name states s
    by (Tick k) shows next = record { tick = k; is = refl; may = record { at = shown-as sc me i site name s named may.at; next = next; holds = may.holds } }
    by (Arrival place c) shows next = absurd shows

-- the event that waits is an arrival that may be shown
pub record ShowsArrival (sc : Scenario) (me : Side) (i : ℕ) (waits : Pending) (site : KeptSite) (time : ℕ) (name : NodeName) (from : ℕ) (bytes : List ℕ) (s : Site) : Type 0 where
  pub place : ℕ
  pub is : waits ≡ Arrival place (record { time = time; from = from; bytes = bytes })
  pub may : MayShowArrival sc me i site time name s

pub arrival-shows : (sc : Scenario) (me : Side) (i : ℕ) (waits : Pending) (site : KeptSite) (kept : List KeptPort) (time : ℕ) (name : NodeName) (event : Event) (states : List PortState) (s : Site)
    (from : ℕ) (bytes : ArrayVec ℕ) → name ≡ name_of me i → MayShow sc me i waits site kept time event states s → event.kind ≡ kind.Arrive from bytes
    → ShowsArrival sc me i waits site time name from bytes.items s
arrival-shows sc me i waits site kept time name event states s from bytes named may is = by waits (subst (Shows waits) is may.shows) may.time_is may.in_time
  where
    by : (p : Pending) → Shows p (kind.Arrive from bytes) → IsAtTime time p → IsInTime sc me i s.core p → ShowsArrival sc me i p site time name from bytes.items s
    by (Tick k) shows at next = absurd shows
    by (Arrival place c) shows at next =
        let same : c ≡ record { time = time; from = from; bytes = bytes.items } = ap (λ t. let z : Coming = record { time = t; from = c.from; bytes = c.bytes } in z) at
        ∙ ap (λ f. let z : Coming = record { time = time; from = f; bytes = c.bytes } in z) (sym shows.0)
        ∙ ap (λ b. let z : Coming = record { time = time; from = from; bytes = b } in z) (sym shows.1) in
        record {
          place = place;
          is = ap (Arrival place) same;
          may = record { at = shown-as sc me i site name s named may.at; in_time = subst (ComesBy (2 ^ 31) (clock_of sc me i)) at next };
        }

-- An event that would be taken.

at-time : (lane : Lane) (ahead : Option Timed) (t : ℕ) (r : Ready) → IsOf t lane r → IsAtTime t (waits_with ahead r)
at-time lane ahead t (Comes place c) is = is.0
at-time lane ahead t Ticks is = tt

ready-first : (lanes : Each Lane) (l : Lane) (place : ℕ) (r : Ready) → slice_get (ready_of l) place ≡ Some r → (key_of l == first_time lanes) ≡ true → IsOf (first_time lanes) l r
ready-first lanes l place r e first =
    let at : IsAtHead l r = ready-at l place r e in
    let key : key_of l ≡ at.time = ap (λ o. unwrap_or o 18446744073709551615) at.head in
    let time : key_of l ≡ first_time lanes = grind (arith, nat_tests, first) in
    subst (λ t. IsOf t l r) (sym key ∙ time) at.is

-- an event that would be taken is due, and the lanes without it are left
takes-due : (sc : Scenario) (w : World) (lanes : Each Lane) (i : ℕ) (event : Event) (name : NodeName) (place : ℕ) → HoldsSites sc.sizes lanes w.sites
    → StandsAt lanes (first_time lanes) i name place → IsDue sc w lanes i name place → ready_event name place (lane_of lanes name) ≡ Some event
    → TakesDue sc w i (first_time lanes) name event (with_lane name (without_ready place (lane_of lanes name)) lanes)
takes-due sc w lanes i event name place holds at d shown =
    let l : Lane = lane_of lanes name in
    let waits : Pending = waits_with d.site.ahead d.event in
    let its : event_with name d.event ≡ event = same_Some (event_with name d.event) event (sym (ap (option_map (event_with name)) d.ready) ∙ shown) in
    let lane : lane_of lanes (name_of d.side d.number) ≡ l = ap (lane_of lanes) (sym d.named) in
    let change : Site → Site = without_waiting waits in
    let step : (s : Site) → slice_get (of_kind d.side w.sites) d.number ≡ Some s → HoldsSite sc.sizes d.side (lane_of lanes (name_of d.side d.number)) s
    → HoldsSite sc.sizes d.side (without_ready place l) (change s) =
    λ s e h.
    let same : d.site ≡ s = same_Some d.site s (sym d.there ∙ e) in
    subst (λ x. HoldsSite sc.sizes d.side (without_ready place l) (change x)) same
    (holds-without sc.sizes d.side l d.site place d.event
    (subst (HoldsSite sc.sizes d.side l) (sym same) (subst (λ x. HoldsSite sc.sizes d.side x s) lane h)) d.ready) in
    record {
      due = due_with d.side d.number d.site d.event;
      site = d.site;
      named = d.named;
      time_is = at-time l d.site.ahead (first_time lanes) d.event (ready-first lanes l place d.event d.ready at.first);
      found = d.due;
      there = d.there;
      shows = subst (λ e. Shows waits e.kind) its (shows-own d.site.ahead d.event);
      left = subst (λ x. HoldsSites sc.sizes x (at_node d.side d.number change w.sites)) (sym (ap (λ n. with_lane n (without_ready place l) lanes) d.named))
          (holds-at sc.sizes lanes w.sites d.side d.number (without_ready place l) change holds (subst (HasLane lanes) d.named at.lane) step);
    }

-- All that is needed to show it.

pub record ShowReady (k : KeptWorld) (w : World) (i : ℕ) (me : Side) (j time : ℕ) (event : Event) : Type 0 where
  pub waits : Pending
  pub s : Site
  pub site : KeptSite
  pub kept_there : slice_get (of_kind me k.nodes) j ≡ Some site
  pub inside : j < length (of_kind me k.nodes)
  pub number : number_of site ≡ j
  pub may : MayShow k.bus me j waits site k.scene.ports.items time event w.ports s
  pub is : event_at k.bus w i ≡ Some (event_of k.bus w.ports me j s.core waits)

event-is : (sc : Scenario) (w : World) (i : ℕ) (d : Due) (me : Side) (j : ℕ) (p : Pending) (s : Site) → slice_get (due_of sc w) i ≡ Some d → d ≡ record { side = me; node = j; pending = p }
    → slice_get (of_kind me w.sites) j ≡ Some s → event_at sc w i ≡ Some (event_of sc w.ports me j s.core p)
unfolding event_at
event-is sc w i d me j p s found is there =
    ap (option_and_then (λ (d : Due). option_map (λ (s : Site). event_of sc w.ports d.side d.node s.core d.pending) (slice_get (of_kind d.side w.sites) d.node))) (found ∙ ap (λ (x : Due). Some x) is)
    ∙ ap (option_map (λ (s : Site). event_of sc w.ports me j s.core p)) there

show-happening : (k : KeptWorld) (w : World) (i : ℕ) (d : Due) (me : Side) (j time : ℕ) (name : NodeName) (event : Event) (lanes : Each Lane) → Stands k w
    → MayHappen k.bus k.nodes (record k.scene { agenda = lanes }) time name event w i d → name ≡ name_of me j → (e : EventKind) → event.kind ≡ e → ShowReady k w i me j time event
show-happening k w i d me j time name event lanes is may named (kind.Tick word wanted) shown =
    let t = tick-of k.bus k.nodes (record k.scene { agenda = lanes }) time name event w i d me j word wanted may shown named in
    let due : IsPending w (record { side = me; node = j; pending = Tick t.tick }) = subst (IsPending w) t.is (due-reached k.bus w i d may.reached may.found) in
    let there = node-there k.bus k.nodes (record k.scene { agenda = lanes }) time name event w i d me j may named in
    let found = has-item (of_kind me k.nodes) j there.1 in
    let node = (is.nodes me).each j found.item due.s found.is due.there in
    record {
      waits = Tick t.tick;
      s = due.s;
      site = found.item;
      kept_there = found.is;
      inside = there.1;
      number = node.number;
      may = record {
        at = record { within = there.0; named = refl; number = node.number; stands = node.site };
        holds = is.scene.ports;
        shows = subst (λ (d : Due). Shows d.pending event.kind) t.is may.shows;
        time_is = tt;
        in_time = (next-due k.bus me j t.tick due.s due.ready.0 node.awaits due.ready.1.0 due.ready.1.1.0).1;
      };
      is = event-is k.bus w i d me j (Tick t.tick) due.s may.found t.is due.there;
    }
show-happening k w i d me j time name event lanes is may named (kind.Arrive from bytes) shown =
    let x : Coming = record { time = time; from = from; bytes = bytes.items } in
    let r = arrival-ready k.bus k.nodes (record k.scene { agenda = lanes }) time name event w i d me j x may (ap (coming_with time) shown) named in
    let by = in-time k.bus k.nodes w d me j x r in
    let early : by.tick ≤ passing_end me r.site.node = by.in_time in
    let most : passing_end me r.site.node ≤ 2 ^ 31 = passing-most me r.site.node in
    record {
      waits = Arrival r.place x;
      s = r.s;
      site = r.site;
      kept_there = r.kept_there;
      inside = (node-there k.bus k.nodes (record k.scene { agenda = lanes }) time name event w i d me j may named).1;
      number = r.node.number;
      may = record {
        at = record { within = r.within; named = refl; number = r.node.number; stands = r.node.site };
        holds = is.scene.ports;
        shows = subst (λ (d : Due). Shows d.pending event.kind) r.is may.shows;
        time_is = refl;
        in_time = record { tick = by.tick; in_time = omega (arith, early, most); come = by.come };
      };
      is = event-is k.bus w i d me j (Arrival r.place x) r.s may.found r.is r.there;
    }

pub show-ready : (k : KeptWorld) (w : World) (i place : ℕ) (me : Side) (j : ℕ) (name : NodeName) (event : Event) → Stands k w → i < due_in k
    → StandsAt k.scene.agenda (first_time k.scene.agenda) i name place → IsDue k.bus w k.scene.agenda i name place → ready_event name place (lane_of k.scene.agenda name) ≡ Some event
    → name ≡ name_of me j → ShowReady k w i me j (first_time k.scene.agenda) event
show-ready k w i place me j name event is below at due shown named =
    let lanes : Each Lane = with_lane name (without_ready place (lane_of k.scene.agenda name)) k.scene.agenda in
    let takes : Takes k.scene.agenda i name event lanes = record { place = place; stands = at; taken = shown; left = refl } in
    let both = may-happen k w i name event lanes is below takes (takes-due k.bus w k.scene.agenda i event name place is.scene.lanes at due shown) in
    show-happening k w i both.0 me j (first_time k.scene.agenda) name event lanes is both.1 named event.kind refl

-- With what is at hand: this site, these ports, this time, the node by its name.

pub may-show : (k : KeptWorld) (w : World) (i : ℕ) (me : Side) (j time : ℕ) (event : Event) (site : KeptSite) (ports : List KeptPort)
    → (r : ShowReady k w i me j (first_time k.scene.agenda) event) → r.site ≡ site → ports ≡ k.scene.ports.items → time ≡ first_time k.scene.agenda
    → MayShow k.bus me (number_of site) r.waits site ports time event w.ports r.s
may-show k w i me j time event site ports r site_is ports_are time_is =
    subst (λ z. MayShow k.bus me (number_of z) r.waits z ports time event w.ports r.s) site_is
    (subst (λ n. MayShow k.bus me n r.waits r.site ports time event w.ports r.s) (sym r.number)
    (subst (λ t. MayShow k.bus me j r.waits r.site ports t event w.ports r.s) (sym time_is)
    (subst (λ ps. MayShow k.bus me j r.waits r.site ps (first_time k.scene.agenda) event w.ports r.s) (sym ports_are) r.may)))

pub event-shown : (k : KeptWorld) (w : World) (i : ℕ) (me : Side) (j : ℕ) (event shown : Event) (site : KeptSite)
    → (r : ShowReady k w i me j (first_time k.scene.agenda) event) → r.site ≡ site → shown ≡ event_of k.bus w.ports me (number_of site) r.s.core r.waits → event_at k.bus w i ≡ Some shown
event-shown k w i me j event shown site r site_is e =
    r.is ∙ ap (λ (x : Event). Some x) (sym (e ∙ ap (λ n. event_of k.bus w.ports me n r.s.core r.waits) (sym (ap number_of site_is) ∙ r.number)))
