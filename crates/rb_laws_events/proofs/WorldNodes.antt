-- For the law that events are rounds: in every world there are as many nodes as the bus has, and
-- what comes to a node comes from nodes that there are.
use Rattle.std.proofs.{Common.{◌≡◌, ℕ, zero, suc, ◌+◌, ◌<◌, ◌==◌, ◌&&◌, Bool, true, false, List, [], ◌∷◌, ◌++◌, length, remove, refl, sym, ◌∙◌, subst, arith, Option, Some, None, get_or, slice_get, fold}, lemmas.List.FromFn.length-map-range_with_len, lemmas.Option.{same_Some, slice_get_within}}
use Rattle.std.specs.{Prelude.flat_map, List.range_with_len}
use Rattle.rb_base.specs.{Nodes.{Side, other}, Nodes.Side.{Biu, Rmu}, Sizes.Sizes}
use Rattle.rb_base.proofs.Plain.{option_map-back}
use Rattle.rb_rules.specs.{declared.closing.Closed.Closed, declared.message.Message.Message, declared.record.Epoch.Epoch, Book.{Each, of_kind, each_of, map_each, Record}, Core.Act, Goodness.{Scenario, is_good}, Hearing.{Coming, Sending, Span, said_by, coming_of}, NodeState.NodeState, Ports.PortState, Slots.{count_of, same_side}, WorldStep.{Site, World, says_in, await, stop, enter, proceed, span_from, with_close, with_epoch, after_act, after_arrival, sent_to, with_message, at_node, with_act, pass_and_tick, Pending, with_pending, Due, happens, is_complete, book_with, Way, comes_so, settle_next, record_since, settle, take_if_due, due_of, take, go_on, fresh_site, first_world, Choice, choose, world_after}, WorldStep.Choice.{Take, GoOn, Hand}, WorldStep.Pending.{Tick, Arrival}, WorldStep.Way.{ByAnEvent, ByItself}}
use Rattle.rb_rules.proofs.WindowNumbers.{get-each, length-each, get-made}
use Rattle.rb_laws_agreement.proofs.SaidWindows.{IsSaid, all-said}
use Rattle.rb_laws_events.proofs.{DueEvents.{IsDue, due-is}, SameHeard.{Every, all-every}, WorldBooks.hand-leaves}

-- what comes to a node of kind `me` is from nodes of the bus
abbrev pub Known : Sizes → Side → List Coming → Type 0
Known sizes me cs = Every (λ c. c.from < count_of (other me) sizes) cs

pub known-append : (sizes : Sizes) (me : Side) (xs ys : List Coming) → Known sizes me xs → Known sizes me ys → Known sizes me (xs ++ ys)
known-append sizes me [] ys a b = b
known-append sizes me (x ∷ xs) ys a b = (a.0, known-append sizes me xs ys a.1 b)

known-remove : (sizes : Sizes) (me : Side) (n : ℕ) (xs : List Coming) → Known sizes me xs → Known sizes me (remove xs n)
known-remove sizes me n [] a = none n
  where
    none : (n : ℕ) → Known sizes me (remove [] n)
    none zero = tt
    none (suc n) = tt
known-remove sizes me zero (x ∷ xs) a = a.1
known-remove sizes me (suc n) (x ∷ xs) a = (a.0, known-remove sizes me n xs a.1)

flat-known : (sizes : Sizes) (me : Side) (f : ℕ → List Coming) (a n : ℕ) → ((k : ℕ) → k < n → Known sizes me (f (a + k))) → Known sizes me (flat_map f (range_with_len a n))
flat-known sizes me f a zero all = tt
flat-known sizes me f a (suc n) all =
    let z : a + 0 ≡ a = omega arith in
    known-append sizes me (f a) (flat_map f (range_with_len (a + 1) n)) (subst (λ k. Known sizes me (f k)) z (all 0 (omega arith)))
    (flat-known sizes me f (a + 1) n (λ k h. let s : a + suc k ≡ a + 1 + k = omega arith in subst (λ m. Known sizes me (f m)) s (all (suc k) (omega arith))))

said-known : (sc : Scenario) (me : Side) (i : ℕ) (span : Span) (j : ℕ) → Known sc.sizes me (said_by sc me i span j)
said-known sc me i span j =
    all-every (λ c. c.from < count_of (other me) sc.sizes) (said_by sc me i span j)
    (λ k d lt. let is : IsSaid sc me i span j (get_or (said_by sc me i span j) k d) = all-said sc me i span j k d lt in omega (arith, is.from, is.known))

pub says-known : (sc : Scenario) (me : Side) (i : ℕ) (span : Span) → Known sc.sizes me (says_in sc me i span)
unfolding says_in
says-known sc me i span =
    flat-known sc.sizes me (λ j. elim (is_good sc (other me) j span.place.frame span.place.slot) [ true ↦ [] | false ↦ said_by sc me i span j ]) 0
    (count_of (other me) sc.sizes)
    (λ k h. by (0 + k) (is_good sc (other me) (0 + k) span.place.frame span.place.slot) (said-known sc me i span (0 + k)))
  where
    by : (j : ℕ) (b : Bool) → Known sc.sizes me (said_by sc me i span j)
        → Known sc.sizes me (elim b as (λ _. List Coming) [ true ↦ [] | false ↦ said_by sc me i span j ])
    by j true h = tt
    by j false h = h

-- a node that goes on, enters a window or stops
enter-known : (sc : Scenario) (me : Side) (i : ℕ) (o : Option Span) (s : Site) → Known sc.sizes me s.coming → Known sc.sizes me (enter sc me i o s).coming
enter-known sc me i None s h = known-append sc.sizes me s.coming [] h tt
enter-known sc me i (Some span) s h = by (is_good sc me i span.place.frame span.place.slot)
  where
    by : (b : Bool) → Known sc.sizes me (elim b as (λ _. Site) [ true ↦ await sc me i (says_in sc me i span) s | false ↦ stop s ]).coming
    by true = known-append sc.sizes me s.coming (says_in sc me i span) h (says-known sc me i span)
    by false = tt

proceed-known : (sc : Scenario) (me : Side) (i : ℕ) (s : Site) → Known sc.sizes me s.coming → Known sc.sizes me (proceed sc me i s).coming
unfolding proceed
proceed-known sc me i s h = enter-known sc me i (span_from sc.sizes sc.plan me s.core.state s.core.had) s h

pub close-coming : (me : Side) (i : ℕ) (st : NodeState) (c : Option Closed) (s : Site) → (with_close me i st c s).coming ≡ s.coming
close-coming me i st None s = refl
close-coming me i st (Some c) s = refl

pub epoch-coming : (sc : Scenario) (ports : List PortState) (me : Side) (i : ℕ) (e : Option Epoch) (s : Site) → (with_epoch sc ports me i e s).coming ≡ s.coming
epoch-coming sc ports me i None s = refl
epoch-coming sc ports me i (Some e) s = refl

act-known : (sc : Scenario) (ports : List PortState) (me : Side) (i : ℕ) (x : Act) (s : Site) → Known sc.sizes me s.coming
    → Known sc.sizes me (after_act sc ports me i x s).coming
unfolding after_act
act-known sc ports me i x s h =
    let closed : Site = with_close me i x.core.state x.closed (record s { core = x.core }) in
    let same : (with_epoch sc ports me i x.epoch closed).coming ≡ s.coming =
    epoch-coming sc ports me i x.epoch closed ∙ close-coming me i x.core.state x.closed (record s { core = x.core }) in
    proceed-known sc me i (with_epoch sc ports me i x.epoch closed) (subst (Known sc.sizes me) (sym same) h)

arrival-known : (sc : Scenario) (me : Side) (i place : ℕ) (c : Coming) (s : Site) → Known sc.sizes me s.coming
    → Known sc.sizes me (after_arrival sc me i place c s).coming
unfolding after_arrival
arrival-known sc me i place c s h = known-remove sc.sizes me place s.coming h

-- `Known` holds for what comes to each node of the world
pub record NodesKnown (sc : Scenario) (sites : Each Site) : Type 0 where
  pub counts : (me : Side) → length (of_kind me sites) ≡ count_of me sc.sizes
  pub known : (me : Side) (i : ℕ) (s : Site) → slice_get (of_kind me sites) i ≡ Some s → Known sc.sizes me s.coming

-- a change that keeps `Known` at each node keeps `NodesKnown`
each-known : {sc : Scenario} (f : Side → ℕ → Site → Site) {sites : Each Site}
    → ((me : Side) (i : ℕ) (s : Site) → slice_get (of_kind me sites) i ≡ Some s → Known sc.sizes me s.coming → Known sc.sizes me (f me i s).coming)
    → NodesKnown sc sites → NodesKnown sc (map_each f sites)
each-known {sc} f {sites} go h = record {
  counts = λ me. length-each f sites me ∙ h.counts me;
  known = λ me i s e.
      let was = option_map-back (f me i) (slice_get (of_kind me sites) i) s (sym (get-each f sites me i) ∙ e) in
      subst (λ x. Known sc.sizes me x.coming) was.1.1 (go me i was.0 was.1.0 (h.known me i was.0 was.1.0));
}

changed : (sizes : Sizes) (me : Side) (change : Site → Site) (s : Site) (b : Bool) → (Known sizes me s.coming → Known sizes me (change s).coming)
    → Known sizes me s.coming → Known sizes me (elim b as (λ _. Site) [ true ↦ change s | false ↦ s ]).coming
changed sizes me change s true go k = go k
changed sizes me change s false go k = k

changed-at : (sizes : Sizes) (me side : Side) (change : Site → Site) (s : Site) (b : Bool) → (Known sizes me s.coming → Known sizes me (change s).coming)
    → Known sizes side s.coming → Known sizes side (elim (same_side side me && b) as (λ _. Site) [ true ↦ change s | false ↦ s ]).coming
changed-at sizes Biu Biu change s b go k = changed sizes Biu change s b go k
changed-at sizes Biu Rmu change s b go k = k
changed-at sizes Rmu Biu change s b go k = k
changed-at sizes Rmu Rmu change s b go k = changed sizes Rmu change s b go k

-- a change of one node that keeps `Known` there keeps `NodesKnown`
at-known : {sc : Scenario} (me : Side) (i : ℕ) (change : Site → Site) {sites : Each Site}
    → ((s : Site) → Known sc.sizes me s.coming → Known sc.sizes me (change s).coming) → NodesKnown sc sites → NodesKnown sc (at_node me i change sites)
at-known {sc} me i change go h =
    each-known (λ side n s. elim (same_side side me && (n == i)) as (λ _. Site) [ true ↦ change s | false ↦ s ]) (λ side n s e k. changed-at sc.sizes me side change s (n == i) (go s) k) h

-- a message goes out from a node of the bus
sent-at : (sc : Scenario) (me side : Side) (j frame : ℕ) (x : Sending) (i : ℕ) (s : Site) → j < count_of me sc.sizes → Known sc.sizes side s.coming
    → Known sc.sizes side (sent_to sc me j frame x side i s).coming
sent-at sc Biu Biu j frame x i s h k = k
sent-at sc Biu Rmu j frame x i s h k =
    changed sc.sizes Rmu (λ s. record s { coming = s.coming ++ coming_of sc Rmu i j frame x ∷ [] }) s s.runs
    (λ k. known-append sc.sizes Rmu s.coming (coming_of sc Rmu i j frame x ∷ []) k (h, tt)) k
sent-at sc Rmu Biu j frame x i s h k =
    changed sc.sizes Biu (λ s. record s { coming = s.coming ++ coming_of sc Biu i j frame x ∷ [] }) s s.runs
    (λ k. known-append sc.sizes Biu s.coming (coming_of sc Biu i j frame x ∷ []) k (h, tt)) k
sent-at sc Rmu Rmu j frame x i s h k = k

message-known : {sc : Scenario} (me : Side) (j frame tick : ℕ) (m : Option Message) {sites : Each Site} → j < count_of me sc.sizes → NodesKnown sc sites
    → NodesKnown sc (with_message sc me j frame tick m sites)
message-known me j frame tick None h k = k
message-known {sc} me j frame tick (Some m) h k =
    each-known (sent_to sc me j frame (record { tick = tick; message = m })) (λ side i s e known. sent-at sc me side j frame (record { tick = tick; message = m }) i s h known) k

-- an event keeps `NodesKnown`
pending-known : {sc : Scenario} (w : World) (me : Side) (i : ℕ) (s : Site) (p : Pending) → i < count_of me sc.sizes → NodesKnown sc w.sites
    → NodesKnown sc (with_pending sc w me i s p).sites
unfolding with_act
pending-known {sc} w me i s (Tick k) h known =
    let x : Act = pass_and_tick sc w.ports me i k s.core in
    message-known me i x.core.state.frame k x.message h
    (at-known me i (after_act sc w.ports me i x) (act-known sc w.ports me i x) known)
pending-known {sc} w me i s (Arrival place c) h known = at-known me i (after_arrival sc me i place c) (arrival-known sc me i place c) known

happens-by : {sc : _} (w : World) (d : Due) (o : Option Site) → slice_get (of_kind d.side w.sites) d.node ≡ o → NodesKnown sc w.sites
    → NodesKnown sc (elim o as (λ _. World) [ None ↦ w | Some s ↦ with_pending sc w d.side d.node s d.pending ]).sites
happens-by w d None e known = known
happens-by {sc} w d (Some s) e known =
    let long : length (of_kind d.side w.sites) ≡ count_of d.side sc.sizes = known.counts d.side in
    let within : d.node < length (of_kind d.side w.sites) = slice_get_within (of_kind d.side w.sites) d.node s e in
    pending-known w d.side d.node s d.pending (omega arith) known

pub happens-known : {sc : _} (w : World) (d : Due) → NodesKnown sc w.sites → NodesKnown sc (happens sc w d).sites
unfolding happens
happens-known w d known = happens-by w d (slice_get (of_kind d.side w.sites) d.node) refl known

-- settling leaves the nodes alone
pub next-sites : (sc : Scenario) (way : Way) (w : World) → (settle_next sc way w).sites ≡ w.sites
next-sites sc way w = by (comes_so sc way w.book.upcoming && is_complete sc w.sites w.book.upcoming)
  where
    by : (b : Bool) → (elim b as (λ _. World) [ true ↦ record w { book = book_with sc w.sites w.book w.book.upcoming } | false ↦ w ]).sites ≡ w.sites
    by true = refl
    by false = refl

rest-sites : (sc : Scenario) (way : Way) (n : ℕ) (w next : World) → next.sites ≡ w.sites → (settle sc way n next).sites ≡ next.sites
    → (r : Option Record) → (elim r as (λ _. World) [ None ↦ settle sc way n next | Some r ↦ record next { turn = Some r } ]).sites ≡ w.sites
rest-sites sc way n w next one rest None = rest ∙ one
rest-sites sc way n w next one rest (Some r) = one

pub settle-sites : (sc : Scenario) (way : Way) (n : ℕ) (w : World) → (settle sc way n w).sites ≡ w.sites
settle-sites sc way zero w = refl
settle-sites sc way (suc n) w =
    rest-sites sc way n w (settle_next sc way w) (next-sites sc way w) (settle-sites sc way n (settle_next sc way w))
    (record_since w (settle_next sc way w))

due-known : {sc : _} (w : World) (o : Option Due) → NodesKnown sc w.sites → NodesKnown sc (take_if_due sc w o).sites
due-known w None known = known
due-known {sc} w (Some d) known =
    subst (NodesKnown sc) (sym (settle-sites sc ByAnEvent 2 (happens sc w d))) (happens-known w d known)

go-sites : (sc : Scenario) (w : World) (b : Bool)
    → (elim b as (λ _. World) [ true ↦ w | false ↦ settle sc ByItself 2 w ]).sites ≡ w.sites
go-sites sc w true = refl
go-sites sc w false = settle-sites sc ByItself 2 w

-- each choice keeps `NodesKnown`
pub choose-known : {sc : _} (w : World) (c : Choice) → NodesKnown sc w.sites → NodesKnown sc (choose sc w c).sites
unfolding take go_on
choose-known {sc} w (Take place) known = due-known w (slice_get (due_of sc w) place) known
choose-known {sc} w GoOn known = subst (NodesKnown sc) (sym (go-sites sc w w.book.ended)) known
choose-known {sc} w (Hand biu state) known = hand-leaves (λ x. NodesKnown sc x.sites) sc w biu state (λ ports hands. known) known

pub first-counts : {X : Type 0} (sizes : Sizes) (make : Side → ℕ → X) (me : Side) → length (of_kind me (each_of sizes make)) ≡ count_of me sizes
first-counts sizes make Biu = length-map-range_with_len (make Biu) 0 sizes.bius
first-counts sizes make Rmu = length-map-range_with_len (make Rmu) 0 sizes.rmus

-- `NodesKnown` holds for the first world
pub first-known : (sc : Scenario) → NodesKnown sc (first_world sc).sites
unfolding first_world
first-known sc = record {
  counts = first-counts sc.sizes (λ me i. proceed sc me i (fresh_site sc.sizes me));
  known = λ me i s e.
      let make : Side → ℕ → Site = λ me i. proceed sc me i (fresh_site sc.sizes me) in
      let within : i < length (of_kind me (each_of sc.sizes make)) = slice_get_within (of_kind me (each_of sc.sizes make)) i s e in
      let long : length (of_kind me (each_of sc.sizes make)) ≡ count_of me sc.sizes = first-counts sc.sizes make me in
      let made : slice_get (of_kind me (each_of sc.sizes make)) i ≡ Some (make me i) = get-made sc.sizes make me i (omega arith) in
      let same : make me i ≡ s = same_Some (make me i) s (sym made ∙ e) in
      subst (λ x. Known sc.sizes me x.coming) same (proceed-known sc me i (fresh_site sc.sizes me) tt);
}

from-known : {sc : _} (choices : List Choice) (w : World) → NodesKnown sc w.sites → NodesKnown sc (fold (choose sc) w choices).sites
from-known [] w known = known
from-known {sc} (c ∷ cs) w known = from-known cs (choose sc w c) (choose-known w c known)

-- `NodesKnown` holds in every world that choices lead to
pub worlds-known : (sc : Scenario) (choices : List Choice) → NodesKnown sc (world_after sc choices).sites
worlds-known sc choices = from-known choices (first_world sc) (first-known sc)

-- each event that may be taken in a world that choices lead to is due
pub events-due : (sc : Scenario) (choices : List Choice) (i : ℕ) {d : _} → slice_get (due_of sc (world_after sc choices)) i ≡ Some d
    → IsDue (world_after sc choices) d
events-due sc choices i e = due-is i (record { known = (worlds-known sc choices).known }) e
