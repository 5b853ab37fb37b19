-- At a node that has stopped nothing is pending.
use Rattle.std.proofs.{Common.{◌≡◌, ℕ, ◌+◌, ◌<◌, ◌≤◌, ◌&&◌, Bool, true, false, List, [], ◌∷◌, ◌++◌, fold, length, refl, ap, sym, ◌∙◌, subst, arith, Option, Some, None, option_map, slice_get}, lemmas.Option.{same_Some, slice_get_within}}
use Rattle.rb_base.specs.Nodes.{Side, other}
use Rattle.rb_base.proofs.Plain.{option_map-back, true-false}
use Rattle.rb_rules.specs.{declared.closing.Closed.Closed, declared.message.Message.Message, declared.record.Epoch.Epoch, Book.{Each, each_of, map_each, of_kind}, Core.Act, Goodness.{Scenario, is_good}, Hearing.{Coming, Sending, Span, coming_of}, Ports.PortState, Slots.{count_of, same_side}, WorldStep.{Choice, Due, Pending, Site, Timed, World, after_act, after_arrival, at_node, await, choose, due_of, enter, first_world, fresh_site, go_on, happens, pass_and_tick, proceed, says_in, sent_to, settle, span_from, stop, take, take_if_due, with_act, with_close, with_epoch, with_message, with_pending}, WorldStep.Choice.{GoOn, Hand, Take}, WorldStep.Pending.{Arrival, Tick}, WorldStep.Way.{ByAnEvent, ByItself}}
use Rattle.rb_rules.proofs.WindowNumbers.{get-each, get-made}
use Rattle.rb_laws_events.proofs.{DueEvents.{IsDue, IsReady, due-is}, OneEvent.happens-is, PendingLists.StandsAt, SameHeard.Every, WorldNodes.{NodesKnown, choose-known, first-counts, first-known, settle-sites}, WorldStands.{get-at, is_node, node-is, node-itself}, WorldBooks.hand-leaves}
use Rattle.rb_laws_sweeps.specs.{AheadOf.{IsFirstTick, tick_alone}, Room.{StoppedHaveNothing, StoppedStayEmptyInEach}, Sweeping.swept}
use Rattle.rb_laws_sweeps.proofs.Sweeps.{sweep-stays, sweeps-keep}

-- the node runs, or nothing is pending at it
abbrev pub RunsOrEmpty : Site → Type 0
RunsOrEmpty s = s.runs ≡ false → (s.ahead ≡ None) × (s.coming ≡ [])

abbrev pub AllRunOrEmpty : Each Site → Type 0
AllRunOrEmpty sites = (me : Side) (i : ℕ) (s : Site) → slice_get (of_kind me sites) i ≡ Some s → RunsOrEmpty s

each-empty : (f : Side → ℕ → Site → Site) {sites : _} → ((me : Side) (i : ℕ) (s : Site) → slice_get (of_kind me sites) i ≡ Some s → RunsOrEmpty s → RunsOrEmpty (f me i s))
    → AllRunOrEmpty sites → AllRunOrEmpty (map_each f sites)
each-empty f {sites} go h me i s e =
    let was = option_map-back (f me i) (slice_get (of_kind me sites) i) s (sym (get-each f sites me i) ∙ e) in
    subst RunsOrEmpty was.1.1 (go me i was.0 was.1.0 (h me i was.0 was.1.0))

node-empty : (me : Side) (i : ℕ) (change : Site → Site) {sites : _} → ((s : Site) → slice_get (of_kind me sites) i ≡ Some s → RunsOrEmpty (change s)) → AllRunOrEmpty sites
    → AllRunOrEmpty (at_node me i change sites)
node-empty me i change {sites} go h =
    each-empty (λ side n s. elim (is_node me i side n) as (λ _. Site) [ true ↦ change s | false ↦ s ]) (λ side n s there was. by side n s there was (is_node me i side n) refl) h
  where
    by : (side : Side) (n : ℕ) (s : Site) → slice_get (of_kind side sites) n ≡ Some s → RunsOrEmpty s → (b : Bool) → is_node me i side n ≡ b
        → RunsOrEmpty (elim b as (λ _. Site) [ true ↦ change s | false ↦ s ])
    by side n s there was false e = was
    by side n s there was true e =
        let is = node-is me side i n e in
        go s (sym (ap (λ k. slice_get (of_kind k sites) n) is.0 ∙ ap (slice_get (of_kind me sites)) is.1) ∙ there)

-- A tick.

enter-empty : (sc : Scenario) (me : Side) (i : ℕ) (o : Option Span) (s : Site) → s.runs ≡ true → RunsOrEmpty (enter sc me i o s)
enter-empty sc me i None s runs = λ e. true-false (sym runs ∙ e)
enter-empty sc me i (Some span) s runs = by (is_good sc me i span.place.frame span.place.slot)
  where
    by : (b : Bool) → RunsOrEmpty (elim b as (λ _. Site) [ true ↦ await sc me i (says_in sc me i span) s | false ↦ stop s ])
    by true = λ e. true-false (sym runs ∙ e)
    by false = λ e. (refl, refl)

act-empty : (sc : Scenario) (ports : List PortState) (me : Side) (i : ℕ) (x : Act) (s : Site) → s.runs ≡ true → RunsOrEmpty (after_act sc ports me i x s)
unfolding after_act proceed
act-empty sc ports me i x s runs =
    let closed : Site = with_close me i x.core.state x.closed (record s { core = x.core }) in
    let begun : Site = with_epoch sc ports me i x.epoch closed in
    enter-empty sc me i (span_from sc.sizes sc.plan me begun.core.state begun.core.had) begun (epoch-runs x.epoch closed ∙ close-runs x.closed ∙ runs)
  where
    epoch-runs : (e : Option Epoch) (z : Site) → (with_epoch sc ports me i e z).runs ≡ z.runs
    epoch-runs None z = refl
    epoch-runs (Some e) z = refl

    close-runs : (c : Option Closed) → (with_close me i x.core.state c (record s { core = x.core })).runs ≡ s.runs
    close-runs None = refl
    close-runs (Some c) = refl

sent-empty : (sc : Scenario) (me : Side) (j frame : ℕ) (x : Sending) (side : Side) (i : ℕ) (s : Site) → RunsOrEmpty s → RunsOrEmpty (sent_to sc me j frame x side i s)
sent-empty sc me j frame x side i s h = by (same_side side (other me)) s.runs refl
  where
    by : (kind r : Bool) → s.runs ≡ r → RunsOrEmpty (elim (kind && r) as (λ _. Site) [ true ↦ record s { coming = s.coming ++ coming_of sc side i j frame x ∷ [] } | false ↦ s ])
    by true true e = λ f. true-false (sym e ∙ f)
    by true false e = h
    by false r e = h

message-empty : (sc : Scenario) (me : Side) (j frame k : ℕ) (m : Option Message) {sites : _} → AllRunOrEmpty sites → AllRunOrEmpty (with_message sc me j frame k m sites)
message-empty sc me j frame k None h = h
message-empty sc me j frame k (Some m) h =
    each-empty (sent_to sc me j frame (record { tick = k; message = m })) (λ side i s there was. sent-empty sc me j frame (record { tick = k; message = m }) side i s was) h

-- An event: its node runs.

none-some : {P : Type 0} (o : Option Timed) {a : _} → o ≡ None → o ≡ Some a → P
none-some None {a} e f = absurd (no a f)
  where
    no : (a : Timed) → None ≡ Some a → ⊥
    no a e = cc
none-some (Some b) {a} e f = absurd (no b e)
  where
    no : (a : Timed) → Some a ≡ None → ⊥
    no a e = cc

none-stands : {P : Type 0} (cs : List Coming) → cs ≡ [] → (n : ℕ) (c : Coming) → StandsAt n c cs → P
none-stands [] e n c s = absurd s
none-stands (x ∷ xs) e n c s = absurd (no x xs e)
  where
    no : (x : Coming) (xs : List Coming) → x ∷ xs ≡ [] → ⊥
    no x xs e = cc

runs-ahead : (s : Site) {a : _} → RunsOrEmpty s → s.ahead ≡ Some a → s.runs ≡ true
runs-ahead s h pends = by s.runs refl
  where
    by : (b : Bool) → s.runs ≡ b → b ≡ true
    by true e = refl
    by false e = none-some s.ahead (h e).0 pends

pending-empty : (sc : Scenario) (w : World) (me : Side) (i t : ℕ) {s : _} (p : Pending) → slice_get (of_kind me w.sites) i ≡ Some s → IsReady t s p → AllRunOrEmpty w.sites
    → AllRunOrEmpty (with_pending sc w me i s p).sites
unfolding with_act after_arrival
pending-empty sc w me i t {s} (Tick k) there ready h =
    let x : Act = pass_and_tick sc w.ports me i k s.core in
    message-empty sc me i x.core.state.frame k x.message
    (node-empty me i (after_act sc w.ports me i x)
    (λ z here. act-empty sc w.ports me i x z (ap (λ (s : Site). s.runs) (same_Some z s (sym here ∙ there)) ∙ runs-ahead s (h me i s there) ready.1.0)) h)
pending-empty sc w me i t {s} (Arrival place c) there ready h =
    node-empty me i (after_arrival sc me i place c)
    (λ z here e. none-stands s.coming (h me i s there (ap (λ (s : Site). s.runs) (same_Some s z (sym there ∙ here)) ∙ e)).1 place c ready.0) h

due-empty : (sc : Scenario) {w d : _} → IsDue w d → AllRunOrEmpty w.sites → AllRunOrEmpty (take_if_due sc w (Some d)).sites
due-empty sc {w} {d} due h =
    subst AllRunOrEmpty (sym (settle-sites sc ByAnEvent 2 (happens sc w d) ∙ ap (λ (x : World). x.sites) (happens-is sc w d due.there)))
    (pending-empty sc w d.side d.node due.t d.pending due.there due.ready h)

choose-empty : {sc : _} (w : World) (c : Choice) → NodesKnown sc w.sites → AllRunOrEmpty w.sites → AllRunOrEmpty (choose sc w c).sites
unfolding take go_on
choose-empty {sc} w (Take i) known h = by (slice_get (due_of sc w) i) refl
  where
    by : (o : Option Due) → slice_get (due_of sc w) i ≡ o → AllRunOrEmpty (take_if_due sc w o).sites
    by None e = h
    by (Some d) e = due-empty sc (due-is i (record { known = known.known }) e) h
choose-empty {sc} w GoOn known h = by w.book.ended
  where
    by : (b : Bool) → AllRunOrEmpty (elim b as (λ _. World) [ true ↦ w | false ↦ settle sc ByItself 2 w ]).sites
    by true = h
    by false = subst AllRunOrEmpty (sym (settle-sites sc ByItself 2 w)) h
choose-empty {sc} w (Hand biu state) known h = hand-leaves (λ x. AllRunOrEmpty x.sites) sc w biu state (λ ports hands. h) h

first-empty : (sc : Scenario) → AllRunOrEmpty (first_world sc).sites
unfolding first_world proceed
first-empty sc me i s e =
    let make : Side → ℕ → Site = λ me i. proceed sc me i (fresh_site sc.sizes me) in
    let within : i < length (of_kind me (each_of sc.sizes make)) = slice_get_within (of_kind me (each_of sc.sizes make)) i s e in
    let long : length (of_kind me (each_of sc.sizes make)) ≡ count_of me sc.sizes = first-counts sc.sizes make me in
    let made : slice_get (of_kind me (each_of sc.sizes make)) i ≡ Some (make me i) = get-made sc.sizes make me i (omega arith) in
    let fresh : Site = fresh_site sc.sizes me in
    subst RunsOrEmpty (same_Some (make me i) s (sym made ∙ e)) (enter-empty sc me i (span_from sc.sizes sc.plan me fresh.core.state fresh.core.had) fresh refl)

from-empty : {sc : _} (choices : List Choice) (w : World) → NodesKnown sc w.sites → AllRunOrEmpty w.sites → AllRunOrEmpty (fold (choose sc) w choices).sites
from-empty [] w known h = h
from-empty {sc} (c ∷ cs) w known h = from-empty cs (choose sc w c) (choose-known w c known) (choose-empty w c known h)

-- A tick alone.

sweep-empty : (sc : Scenario) (me : Side) (i until : ℕ) (s : Site) → RunsOrEmpty s → RunsOrEmpty (swept sc me i until s)
sweep-empty sc me i until s h e =
    let z : Site = swept sc me i until s in
    let none = h (sym (ap (λ (s : Site). s.runs) (sweeps-keep sc me i until s).is) ∙ e) in
    let same : z ≡ s = sweep-stays sc me i until s (nothing s.coming none.1) in
    (ap (λ (s : Site). s.ahead) same ∙ none.0, ap (λ (s : Site). s.coming) same ∙ none.1)
  where
    nothing : (cs : List Coming) → cs ≡ [] → Every (λ c. until ≤ c.time) cs
    nothing [] e = tt
    nothing (c ∷ cs) e = none-stands (c ∷ cs) e 0 c refl

alone-empty : (sc : Scenario) (w : World) (me : Side) (i : ℕ) (a : Timed) → IsFirstTick w me i a → StoppedHaveNothing w → StoppedHaveNothing (tick_alone sc me i a w)
unfolding with_act
alone-empty sc w me i a first h = subst AllRunOrEmpty (sym sites) done
  where
    sweep : Site → Site
    sweep = swept sc me i (a.time + 1)

    alone : World
    alone = record w { sites = at_node me i sweep w.sites }

    d : Due
    d = record { side = me; node = i; pending = Tick a.tick }

    z : Site
    z = sweep first.node

    node-alone : slice_get (of_kind me alone.sites) i ≡ Some z
    node-alone =
        get-at me me i i sweep w.sites ∙ ap (option_map (λ s. elim (is_node me i me i) as (λ _. Site) [ true ↦ sweep s | false ↦ s ])) first.there
        ∙ ap (λ b. Some (elim b as (λ _. Site) [ true ↦ sweep first.node | false ↦ first.node ])) (node-itself me i)

    x : Act
    x = pass_and_tick sc w.ports me i a.tick z.core

    sites : (tick_alone sc me i a w).sites ≡ (with_act sc alone me i a.tick x).sites
    sites = settle-sites sc ByAnEvent 2 (happens sc alone d) ∙ ap (λ (y : World). y.sites) (happens-is sc alone d node-alone)

    swept-all : AllRunOrEmpty alone.sites
    swept-all = node-empty me i sweep (λ s there. sweep-empty sc me i (a.time + 1) s (h me i s there)) h

    runs : z.runs ≡ true
    runs = runs-ahead z (swept-all me i z node-alone) (ap (λ (s : Site). s.ahead) (sweeps-keep sc me i (a.time + 1) first.node).is ∙ first.pends)

    done : AllRunOrEmpty (with_act sc alone me i a.tick x).sites
    done =
        message-empty sc me i x.core.state.frame a.tick x.message
        (node-empty me i (after_act sc w.ports me i x)
        (λ y here. act-empty sc w.ports me i x y (ap (λ (s : Site). s.runs) (same_Some y z (sym here ∙ node-alone)) ∙ runs)) swept-all)

pub stopped-stay-empty : StoppedStayEmptyInEach
stopped-stay-empty sc = record {
  reached = λ choices. from-empty choices (first_world sc) (first-known sc) (first-empty sc);
  kept = alone-empty sc;
}
