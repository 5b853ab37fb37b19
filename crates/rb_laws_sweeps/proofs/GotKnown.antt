-- In every world what came to a node came from nodes that there are.
use Rattle.std.proofs.{Common.{◌≡◌, ℕ, ◌<◌, ◌&&◌, Bool, true, false, List, [], ◌∷◌, ◌++◌, fold, length, refl, ap, sym, ◌∙◌, subst, arith, Option, Some, None, slice_get}, lemmas.Option.{same_Some, slice_get_within}}
use Rattle.rb_base.specs.Nodes.{Side, other}
use Rattle.rb_base.proofs.Plain.{option_map-back}
use Rattle.rb_rules.specs.{declared.closing.Closed.Closed, declared.message.Message.Message, declared.record.Epoch.Epoch, Book.{Each, each_of, map_each, of_kind}, Core.Act, Goodness.{Scenario, is_good}, Hearing.{Sending, Span, coming_of}, Ports.PortState, Slots.{count_of, same_side}, WorldStep.{Choice, Due, Pending, Site, World, after_act, after_arrival, at_node, await, choose, due_of, enter, first_world, fresh_site, go_on, happens, pass_and_tick, proceed, says_in, sent_to, settle, span_from, stop, take, take_if_due, with_act, with_close, with_epoch, with_message, with_pending, world_after}, WorldStep.Choice.{GoOn, Hand, Take}, WorldStep.Pending.{Arrival, Tick}, WorldStep.Way.{ByAnEvent, ByItself}}
use Rattle.rb_rules.proofs.WindowNumbers.{get-each, get-made}
use Rattle.rb_laws_events.proofs.{DueEvents.{IsDue, IsReady, due-is}, OneEvent.happens-is, Receiving.every-stands, WorldNodes.{Known, NodesKnown, choose-known, first-counts, first-known, known-append, settle-sites}, WorldStands.{is_node, node-is}, WorldBooks.hand-leaves}

abbrev pub GotKnown : Scenario → Each Site → Type 0
GotKnown sc sites = (me : Side) (i : ℕ) (s : Site) → slice_get (of_kind me sites) i ≡ Some s → Known sc.sizes me s.got

each-got : (sc : Scenario) (f : Side → ℕ → Site → Site) {sites : _}
    → ((me : Side) (i : ℕ) (s : Site) → slice_get (of_kind me sites) i ≡ Some s → Known sc.sizes me s.got → Known sc.sizes me (f me i s).got)
    → GotKnown sc sites → GotKnown sc (map_each f sites)
each-got sc f {sites} go h me i s e =
    let was = option_map-back (f me i) (slice_get (of_kind me sites) i) s (sym (get-each f sites me i) ∙ e) in
    subst (λ (x : Site). Known sc.sizes me x.got) was.1.1 (go me i was.0 was.1.0 (h me i was.0 was.1.0))

-- A tick.

pub enter-got : (sc : Scenario) (me : Side) (i : ℕ) (o : Option Span) (s : Site) → (enter sc me i o s).got ≡ s.got
enter-got sc me i None s = refl
enter-got sc me i (Some span) s = by (is_good sc me i span.place.frame span.place.slot)
  where
    by : (b : Bool) → (elim b as (λ _. Site) [ true ↦ await sc me i (says_in sc me i span) s | false ↦ stop s ]).got ≡ s.got
    by true = refl
    by false = refl

pub epoch-got : (sc : Scenario) (ports : List PortState) (me : Side) (i : ℕ) (e : Option Epoch) (s : Site) → (with_epoch sc ports me i e s).got ≡ s.got
epoch-got sc ports me i None s = refl
epoch-got sc ports me i (Some e) s = refl

act-got : (sc : Scenario) (ports : List PortState) (me : Side) (i : ℕ) (x : Act) (s : Site) → Known sc.sizes me s.got → Known sc.sizes me (after_act sc ports me i x s).got
unfolding after_act proceed
act-got sc ports me i x s h =
    let closed : Site = with_close me i x.core.state x.closed (record s { core = x.core }) in
    let begun : Site = with_epoch sc ports me i x.epoch closed in
    let same = enter-got sc me i (span_from sc.sizes sc.plan me begun.core.state begun.core.had) begun ∙ epoch-got sc ports me i x.epoch closed in
    subst (Known sc.sizes me) (sym same) (by x.closed)
  where
    by : (c : Option Closed) → Known sc.sizes me (with_close me i x.core.state c (record s { core = x.core })).got
    by None = h
    by (Some c) = tt

sent-got : (sc : Scenario) (me : Side) (j frame : ℕ) (x : Sending) (side : Side) (i : ℕ) (s : Site) → (sent_to sc me j frame x side i s).got ≡ s.got
sent-got sc me j frame x side i s = by (same_side side (other me) && s.runs)
  where
    by : (b : Bool) → (elim b as (λ _. Site) [ true ↦ record s { coming = s.coming ++ coming_of sc side i j frame x ∷ [] } | false ↦ s ]).got ≡ s.got
    by true = refl
    by false = refl

message-got : (sc : Scenario) (me : Side) (j frame k : ℕ) (m : Option Message) {sites : _} → GotKnown sc sites → GotKnown sc (with_message sc me j frame k m sites)
message-got sc me j frame k None h = h
message-got sc me j frame k (Some m) h =
    each-got sc (sent_to sc me j frame (record { tick = k; message = m }))
    (λ side i s there known. subst (Known sc.sizes side) (sym (sent-got sc me j frame (record { tick = k; message = m }) side i s)) known) h

-- a change of one node that keeps `Known` for what it got keeps `GotKnown`
node-got : (sc : Scenario) (me : Side) (i : ℕ) (change : Site → Site) {sites : _}
    → ((s : Site) → slice_get (of_kind me sites) i ≡ Some s → Known sc.sizes me s.got → Known sc.sizes me (change s).got) → GotKnown sc sites → GotKnown sc (at_node me i change sites)
node-got sc me i change {sites} go h =
    each-got sc (λ side n s. elim (is_node me i side n) as (λ _. Site) [ true ↦ change s | false ↦ s ]) (λ side n s there known. by side n s there known (is_node me i side n) refl) h
  where
    by : (side : Side) (n : ℕ) (s : Site) → slice_get (of_kind side sites) n ≡ Some s → Known sc.sizes side s.got → (b : Bool) → is_node me i side n ≡ b
        → Known sc.sizes side (elim b as (λ _. Site) [ true ↦ change s | false ↦ s ]).got
    by side n s there known false e = known
    by side n s there known true e =
        let is = node-is me side i n e in
        let its : slice_get (of_kind me sites) i ≡ Some s = sym (ap (λ k. slice_get (of_kind k sites) n) is.0 ∙ ap (slice_get (of_kind me sites)) is.1) ∙ there in
        subst (λ k. Known sc.sizes k (change s).got) (sym is.0) (go s its (subst (λ k. Known sc.sizes k s.got) is.0 known))

-- An event.

pending-got : {sc : _} (w : World) (me : Side) (i t : ℕ) {s : _} (p : Pending) → slice_get (of_kind me w.sites) i ≡ Some s → IsReady t s p → NodesKnown sc w.sites → GotKnown sc w.sites
    → GotKnown sc (with_pending sc w me i s p).sites
unfolding with_act after_arrival
pending-got {sc} w me i t {s} (Tick k) there ready known h =
    let x : Act = pass_and_tick sc w.ports me i k s.core in
    message-got sc me i x.core.state.frame k x.message
    (node-got sc me i (after_act sc w.ports me i x) (λ s here. act-got sc w.ports me i x s) h)
pending-got {sc} w me i t {s} (Arrival place c) there ready known h =
    let its : c.from < count_of (other me) sc.sizes = every-stands (λ c. c.from < count_of (other me) sc.sizes) place s.coming ready.0 (known.known me i s there) in
    node-got sc me i (after_arrival sc me i place c) (λ s here got. known-append sc.sizes me s.got (c ∷ []) got (its, tt)) h

due-got : {sc w d : _} → IsDue w d → NodesKnown sc w.sites → GotKnown sc w.sites → GotKnown sc (take_if_due sc w (Some d)).sites
due-got {sc} {w} {d} due known h =
    subst (GotKnown sc) (sym (settle-sites sc ByAnEvent 2 (happens sc w d) ∙ ap (λ (x : World). x.sites) (happens-is sc w d due.there)))
    (pending-got w d.side d.node due.t d.pending due.there due.ready known h)

-- A choice.

choose-got : {sc : _} (w : World) (c : Choice) → NodesKnown sc w.sites → GotKnown sc w.sites → GotKnown sc (choose sc w c).sites
unfolding take go_on
choose-got {sc} w (Take i) known h = by (slice_get (due_of sc w) i) refl
  where
    by : (o : Option Due) → slice_get (due_of sc w) i ≡ o → GotKnown sc (take_if_due sc w o).sites
    by None e = h
    by (Some d) e = due-got (due-is i (record { known = known.known }) e) known h
choose-got {sc} w GoOn known h = by w.book.ended
  where
    by : (b : Bool) → GotKnown sc (elim b as (λ _. World) [ true ↦ w | false ↦ settle sc ByItself 2 w ]).sites
    by true = h
    by false = subst (GotKnown sc) (sym (settle-sites sc ByItself 2 w)) h
choose-got {sc} w (Hand biu state) known h = hand-leaves (λ x. GotKnown sc x.sites) sc w biu state (λ ports hands. h) h

-- Worlds.

first-got : (sc : Scenario) → GotKnown sc (first_world sc).sites
unfolding first_world proceed
first-got sc me i s e =
    let make : Side → ℕ → Site = λ me i. proceed sc me i (fresh_site sc.sizes me) in
    let within : i < length (of_kind me (each_of sc.sizes make)) = slice_get_within (of_kind me (each_of sc.sizes make)) i s e in
    let long : length (of_kind me (each_of sc.sizes make)) ≡ count_of me sc.sizes = first-counts sc.sizes make me in
    let made : slice_get (of_kind me (each_of sc.sizes make)) i ≡ Some (make me i) = get-made sc.sizes make me i (omega arith) in
    let same : make me i ≡ s = same_Some (make me i) s (sym made ∙ e) in
    let fresh : Site = fresh_site sc.sizes me in
    let none : (make me i).got ≡ [] = enter-got sc me i (span_from sc.sizes sc.plan me fresh.core.state fresh.core.had) fresh in
    subst (λ (x : Site). Known sc.sizes me x.got) same (subst (Known sc.sizes me) (sym none) tt)

from-got : {sc : _} (choices : List Choice) (w : World) → NodesKnown sc w.sites → GotKnown sc w.sites → GotKnown sc (fold (choose sc) w choices).sites
from-got [] w known h = h
from-got {sc} (c ∷ cs) w known h = from-got cs (choose sc w c) (choose-known w c known) (choose-got w c known h)

pub worlds-got : (sc : Scenario) (choices : List Choice) → GotKnown sc (world_after sc choices).sites
worlds-got sc choices = from-got choices (first_world sc) (first-known sc) (first-got sc)
