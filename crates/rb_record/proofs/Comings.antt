-- In each world of a run what comes to a node has 1 to 32 bytes, and at a node that has stopped
-- nothing is pending.
use Rattle.std.proofs.{Common.{◌≡◌, ℕ, zero, suc, ◌<◌, ◌==◌, ◌&&◌, Bool, true, false, List, [], ◌∷◌, ◌++◌, length, refl, sym, ◌∙◌, ap, subst, arith, Option, Some, None, slice_get}, lemmas.Option.{same_Some, slice_get_within}}
use Rattle.rb_base.specs.{Nodes.{Side, other}}
use Rattle.rb_base.proofs.Plain.{option_map-back, true-false}
use Rattle.rb_rules.specs.{declared.closing.Closed.Closed, declared.message.Message.Message, declared.record.Epoch.Epoch, Book.{Each, of_kind, each_of, map_each}, Core.Act, Entries.IsListed, Goodness.{Scenario, is_good}, Hearing.{Coming, Sending, Span, coming_of}, Lawful.{IsLawful}, NodeState.NodeState, Ports.PortState, Slots.{count_of, same_side}, WorldStep.{Due, Pending, Site, World, after_act, after_arrival, at_node, await, due_of, enter, first_world, fresh_site, go_on, happens, pass_and_tick, proceed, says_in, sent_to, settle, span_from, stop, take, take_if_due, with_act, with_close, with_epoch, with_message, with_pending}, WorldStep.Pending.{Tick, Arrival}, WorldStep.Way.{ByAnEvent, ByItself}}
use Rattle.rb_rules.proofs.WindowNumbers.{get-each, get-made}
use Rattle.rb_laws_logs.specs.Given.{first_run}
use Rattle.rb_laws_logs.proofs.Sized.{AreSized, run-sized}
use Rattle.rb_laws_events.proofs.{DueEvents.{IsDue, IsReady}, PendingLists.StandsAt, WorldNodes.{first-counts, settle-sites}, WorldStands.{is_node, node-is}}
use Rattle.rb_world.specs.Worlds.{IsReached}
use Rattle.rb_world.proofs.Ready.{due-reached}
use Rattle.rb_record.proofs.Runs.{run-busy, run-idle, run-reached}

-- One node.

-- nothing is pending at a node that has stopped
pub record IsIdle (s : Site) : Type 0 where
  pub ahead : s.runs ≡ false → s.ahead ≡ None
  pub coming : s.runs ≡ false → s.coming ≡ []

await-idle : (sc : Scenario) (me : Side) (i : ℕ) (more : List Coming) (s : Site) → s.runs ≡ true → IsIdle (await sc me i more s)
await-idle sc me i more s runs = record { ahead = λ off. true-false (sym runs ∙ off); coming = λ off. true-false (sym runs ∙ off) }

enter-idle : (sc : Scenario) (me : Side) (i : ℕ) (o : Option Span) (s : Site) → s.runs ≡ true → IsIdle (enter sc me i o s)
enter-idle sc me i None s runs = await-idle sc me i [] s runs
enter-idle sc me i (Some span) s runs = by (is_good sc me i span.place.frame span.place.slot)
  where
    by : (b : Bool) → IsIdle (elim b as (λ _. Site) [ true ↦ await sc me i (says_in sc me i span) s | false ↦ stop s ])
    by true = await-idle sc me i (says_in sc me i span) s runs
    by false = record { ahead = λ off. refl; coming = λ off. refl }

proceed-idle : (sc : Scenario) (me : Side) (i : ℕ) (s : Site) → s.runs ≡ true → IsIdle (proceed sc me i s)
unfolding proceed
proceed-idle sc me i s = enter-idle sc me i (span_from sc.sizes sc.plan me s.core.state s.core.had) s

close-runs : (me : Side) (i : ℕ) (st : NodeState) (c : Option Closed) (s : Site) → (with_close me i st c s).runs ≡ s.runs
close-runs me i st None s = refl
close-runs me i st (Some c) s = refl

epoch-runs : (sc : Scenario) (ports : List PortState) (me : Side) (i : ℕ) (e : Option Epoch) (s : Site) → (with_epoch sc ports me i e s).runs ≡ s.runs
epoch-runs sc ports me i None s = refl
epoch-runs sc ports me i (Some e) s = refl

act-idle : (sc : Scenario) (ports : List PortState) (me : Side) (i : ℕ) (x : Act) (s : Site) → s.runs ≡ true → IsIdle (after_act sc ports me i x s)
unfolding after_act
act-idle sc ports me i x s runs =
    let closed : Site = with_close me i x.core.state x.closed (record s { core = x.core }) in
    proceed-idle sc me i (with_epoch sc ports me i x.epoch closed)
    (epoch-runs sc ports me i x.epoch closed ∙ close-runs me i x.core.state x.closed (record s { core = x.core }) ∙ runs)

arrival-idle : (sc : Scenario) (me : Side) (i place : ℕ) (c : Coming) (s : Site) → s.runs ≡ true → IsIdle (after_arrival sc me i place c s)
unfolding after_arrival
arrival-idle sc me i place c s runs = record { ahead = λ off. true-false (sym runs ∙ off); coming = λ off. true-false (sym runs ∙ off) }

sent-idle : (sc : Scenario) (me side : Side) (j frame : ℕ) (x : Sending) (i : ℕ) (s : Site) → IsIdle s → IsIdle (sent_to sc me j frame x side i s)
sent-idle sc me side j frame x i s is = by (same_side side (other me)) s.runs refl
  where
    by : (a b : Bool) → s.runs ≡ b → IsIdle (elim (a && b) as (λ _. Site) [ true ↦ record s { coming = s.coming ++ coming_of sc side i j frame x ∷ [] } | false ↦ s ])
    by true true e = record { ahead = λ off. true-false (sym e ∙ off); coming = λ off. true-false (sym e ∙ off) }
    by true false e = is
    by false b e = is

-- All nodes.

abbrev pub AreIdle : Each Site → Type 0
AreIdle sites = (me : Side) (i : ℕ) (s : Site) → slice_get (of_kind me sites) i ≡ Some s → IsIdle s

each-idle : (f : Side → ℕ → Site → Site) (sites : Each Site) → ((me : Side) (i : ℕ) (s : Site) → slice_get (of_kind me sites) i ≡ Some s → IsIdle s → IsIdle (f me i s))
    → AreIdle sites → AreIdle (map_each f sites)
each-idle f sites go h me i s e =
    let was = option_map-back (f me i) (slice_get (of_kind me sites) i) s (sym (get-each f sites me i) ∙ e) in
    subst IsIdle was.1.1 (go me i was.0 was.1.0 (h me i was.0 was.1.0))

at-idle : (me : Side) (i : ℕ) (change : Site → Site) (sites : Each Site) → ((s : Site) → slice_get (of_kind me sites) i ≡ Some s → IsIdle s → IsIdle (change s))
    → AreIdle sites → AreIdle (at_node me i change sites)
at-idle me i change sites go =
    each-idle (λ side n s. elim (same_side side me && (n == i)) as (λ _. Site) [ true ↦ change s | false ↦ s ]) sites (λ side n s there is. by side n s there is (is_node me i side n) refl)
  where
    by : (side : Side) (n : ℕ) (s : Site) → slice_get (of_kind side sites) n ≡ Some s → IsIdle s → (b : Bool) → is_node me i side n ≡ b
        → IsIdle (elim b as (λ _. Site) [ true ↦ change s | false ↦ s ])
    by side n s there is true e =
        let same = node-is me side i n e in
        go s (ap (λ n. slice_get (of_kind me sites) n) (sym same.1) ∙ ap (λ k. slice_get (of_kind k sites) n) (sym same.0) ∙ there) is
    by side n s there is false e = is

message-idle : (sc : Scenario) (me : Side) (j frame tick : ℕ) (m : Option Message) (sites : Each Site) → AreIdle sites → AreIdle (with_message sc me j frame tick m sites)
message-idle sc me j frame tick None sites is = is
message-idle sc me j frame tick (Some m) sites is =
    each-idle (sent_to sc me j frame (record { tick = tick; message = m })) sites (λ side i s there k. sent-idle sc me side j frame (record { tick = tick; message = m }) i s k) is

-- An event.

-- a node at which something is due runs
pub due-runs : (t : ℕ) (s : Site) (p : Pending) → IsReady t s p → IsIdle s → s.runs ≡ true
due-runs t s p ready is = by s.runs refl p ready
  where
    not-there : (n : ℕ) (c : Coming) (cs : List Coming) → cs ≡ [] → StandsAt n c cs → false ≡ true
    not-there n c cs none at = absurd (subst (StandsAt n c) none at)

    by : (b : Bool) → s.runs ≡ b → (p : Pending) → IsReady t s p → b ≡ true
    by true e p ready = refl
    by false e (Tick k) ready = let never : ◌≡◌ {A = Option _} None (Some ready.0) = sym (is.ahead e) ∙ ready.1.0 in absurd (cc)
    by false e (Arrival n c) ready = not-there n c s.coming (is.coming e) ready.0

pending-idle : (sc : Scenario) (w : World) (me : Side) (i : ℕ) (s : Site) (p : Pending) → slice_get (of_kind me w.sites) i ≡ Some s → s.runs ≡ true
    → AreIdle w.sites → AreIdle (with_pending sc w me i s p).sites
unfolding with_act
pending-idle sc w me i s (Tick k) there runs is =
    let x : Act = pass_and_tick sc w.ports me i k s.core in
    message-idle sc me i x.core.state.frame k x.message (at_node me i (after_act sc w.ports me i x) w.sites)
    (at-idle me i (after_act sc w.ports me i x) w.sites
    (λ z at k. act-idle sc w.ports me i x z (subst (λ (z : Site). z.runs ≡ true) (same_Some s z (sym there ∙ at)) runs)) is)
pending-idle sc w me i s (Arrival place c) there runs is =
    at-idle me i (after_arrival sc me i place c) w.sites
    (λ z at k. arrival-idle sc me i place c z (subst (λ (z : Site). z.runs ≡ true) (same_Some s z (sym there ∙ at)) runs)) is

happens-idle : (sc : Scenario) (w : World) (d : Due) → IsDue w d → AreIdle w.sites → AreIdle (happens sc w d).sites
unfolding happens
happens-idle sc w d due is =
    let runs = due-runs due.t due.s d.pending due.ready (is d.side d.node due.s due.there) in
    subst (λ o. AreIdle (elim o as (λ _. World) [ None ↦ w | Some s ↦ with_pending sc w d.side d.node s d.pending ]).sites) (sym due.there)
    (pending-idle sc w d.side d.node due.s d.pending due.there runs is)

take-idle : (sc : Scenario) (w : World) (i : ℕ) → IsReached sc w → AreIdle w.sites → AreIdle (take sc w i).sites
unfolding take
take-idle sc w i reached is = by (slice_get (due_of sc w) i) refl
  where
    by : (o : Option Due) → slice_get (due_of sc w) i ≡ o → AreIdle (take_if_due sc w o).sites
    by None e = is
    by (Some d) e = subst AreIdle (sym (settle-sites sc ByAnEvent 2 (happens sc w d))) (happens-idle sc w d (due-reached sc w i d reached e) is)

go-idle : (sc : Scenario) (w : World) → AreIdle w.sites → AreIdle (go_on sc w).sites
unfolding go_on
go-idle sc w is = by w.book.ended
  where
    by : (b : Bool) → AreIdle (elim b as (λ _. World) [ true ↦ w | false ↦ settle sc ByItself 2 w ]).sites
    by true = is
    by false = subst AreIdle (sym (settle-sites sc ByItself 2 w)) is

-- The run.

first-idle : (sc : Scenario) → AreIdle (first_world sc).sites
unfolding first_world
first-idle sc me i s e =
    let make : Side → ℕ → Site = λ me i. proceed sc me i (fresh_site sc.sizes me) in
    let within : i < length (of_kind me (each_of sc.sizes make)) = slice_get_within (of_kind me (each_of sc.sizes make)) i s e in
    let long : length (of_kind me (each_of sc.sizes make)) ≡ count_of me sc.sizes = first-counts sc.sizes make me in
    let made : slice_get (of_kind me (each_of sc.sizes make)) i ≡ Some (make me i) = get-made sc.sizes make me i (omega (arith, within, long)) in
    subst IsIdle (same_Some (make me i) s (sym made ∙ e)) (proceed-idle sc me i (fresh_site sc.sizes me) refl)

rests : (sc : Scenario) (n : ℕ) → AreIdle (first_run sc n).sites
rests sc zero = first-idle sc
rests sc (suc n) = by (rests sc n) (length (due_of sc (first_run sc n))) refl
  where
    by : AreIdle (first_run sc n).sites → (k : ℕ) → length (due_of sc (first_run sc n)) ≡ k → AreIdle (first_run sc (suc n)).sites
    by before zero e = subst (λ (w : World). AreIdle w.sites) (sym (run-idle sc (first_run sc n) e)) (go-idle sc (first_run sc n) before)
    by before (suc k) e =
        subst (λ (w : World). AreIdle w.sites) (sym (run-busy sc (first_run sc n) (omega (arith, e))))
        (take-idle sc (first_run sc n) 0 (run-reached sc n) before)

pub record IsSound (s : Site) : Type 0 where
  pub sized : AreSized s.coming
  pub idle : IsIdle s

abbrev pub AreSound : Each Site → Type 0
AreSound sites = (me : Side) (i : ℕ) (s : Site) → slice_get (of_kind me sites) i ≡ Some s → IsSound s

pub run-sound : (sc : Scenario) (n : ℕ) → IsLawful sc → IsListed sc → AreSound (first_run sc n).sites
run-sound sc n lawful listed me i s there = record { sized = run-sized n listed me i s there; idle = rests sc n me i s there }
