-- For the law of record and replay: step by step, the events that a node is given make of a core
-- what the node's own is, and their lines are all that the node has told where it stands.
use Rattle.std.proofs.{Common.{◌≡◌, ℕ, suc, ◌+◌, ◌-◌, ◌<◌, ◌≤◌, ◌&&◌, ◌⊎◌, Bool, true, false, List, [], ◌∷◌, ◌++◌, refl, ap, sym, ◌∙◌, subst, arith, Some, None, slice_get, option_and_then, option_map, if◌then◌else◌}, lemmas.Bool.{lt-ltb, le-ltb}, lemmas.Grind.flat_map-append, lemmas.List.append-nil}
use Rattle.std.specs.Prelude.{flat_map}
use Rattle.rb_base.specs.{Nodes.Side, declared.event.Event.Event, declared.node.NodeName.NodeName}
use Rattle.rb_rules.specs.{Book.of_kind, Core.{Act, Core, CoreEvent, acts_of, arrive, epoch_at, first_core, pass_to, tick}, Goodness.Scenario, Lawful.kind_of, Links.{name_of, same_node}, NodeState.NodeState, Rounds.moment, WorldStep.{Due, Pending, Site, Timed, World, due_of, event_at, event_of, go_on, happens, pass_and_tick, settle, take, take_if_due, word_of, wants_in}, WorldStep.Pending.{Tick, Arrival}, WorldStep.Way.{ByAnEvent, ByItself}}
use Rattle.rb_log.specs.Writing.{given}
use Rattle.rb_laws_events.proofs.{WorldNodes.settle-sites, WorldStands.is_node}
use Rattle.rb_laws_logs.specs.{Given.{first_run, first_step, given_in, given_next, if_given, index_of, is_before_end, site_of, step_with}, Replays.{act_lines, epoch_lines, frames_in, frames_with}}
use Rattle.rb_laws_logs.proofs.{CoreEvents.{Makes, makes-both, makes-passed, makes-tick}, NoBreach.last_moment, NodeLines.{named, told_up_to}, NodeSites.Unmoved, Positions.StandsAt}

-- What a node is given.

event-name : (sc : Scenario) (w : World) (me : Side) (i : ℕ) (c : Core) (p : Pending) → (event_of sc w.ports me i c p).node ≡ name_of me i
event-name sc w me i c (Tick k) = refl
event-name sc w me i c (Arrival place a) = refl

given-at : (sc : Scenario) (name : NodeName) (w : World) {d s : _} → slice_get (due_of sc w) 0 ≡ Some d → slice_get (of_kind d.side w.sites) d.node ≡ Some s
    → given_next sc name w ≡ if_given sc name w (Some (event_of sc w.ports d.side d.node s.core d.pending))
unfolding given_next event_at
given-at sc name w {d} {s} first there =
    ap (λ o. if_given sc name w (option_and_then (λ (d : Due). option_map (λ (s : Site). event_of sc w.ports d.side d.node s.core d.pending) (slice_get (of_kind d.side w.sites) d.node)) o)) first
    ∙ ap (λ o. if_given sc name w (option_map (λ (s : Site). event_of sc w.ports d.side d.node s.core d.pending) o)) there

pub given-none : (sc : Scenario) (name : NodeName) (w : World) → slice_get (due_of sc w) 0 ≡ None → given_next sc name w ≡ []
unfolding given_next event_at
given-none sc name w none =
    ap (λ o. if_given sc name w (option_and_then (λ (d : Due). option_map (λ (s : Site). event_of sc w.ports d.side d.node s.core d.pending) (slice_get (of_kind d.side w.sites) d.node)) o)) none

-- an event is given to the node if it is the node's own and the node goes on
pub given-by : (sc : Scenario) (name : NodeName) (w : World) {d s own before : _} → slice_get (due_of sc w) 0 ≡ Some d → slice_get (of_kind d.side w.sites) d.node ≡ Some s
    → is_node (kind_of name) (index_of name) d.side d.node ≡ own → is_before_end sc (site_of name w) ≡ before
    → given_next sc name w ≡ (if own && before then event_of sc w.ports d.side d.node s.core d.pending ∷ [] else [])
given-by sc name w {d} {s} {own} first there is on =
    let e : Event = event_of sc w.ports d.side d.node s.core d.pending in
    let same : same_node e.node name ≡ own = ap (λ n. same_node n name) (event-name sc w d.side d.node s.core d.pending) ∙ named name d.side d.node ∙ is in
    given-at sc name w first there ∙ ap (λ b. if b && is_before_end sc (site_of name w) then e ∷ [] else []) same ∙ ap (λ b. if own && b then e ∷ [] else []) on

-- Steps.

take-sites : (sc : Scenario) (w : World) {d : _} → slice_get (due_of sc w) 0 ≡ Some d → (take sc w 0).sites ≡ (happens sc w d).sites
unfolding take
take-sites sc w {d} first = ap (λ o. (take_if_due sc w o).sites) first ∙ settle-sites sc ByAnEvent 2 (happens sc w d)

pub go-on-sites : (sc : Scenario) (w : World) → (go_on sc w).sites ≡ w.sites
unfolding go_on
go-on-sites sc w = by w.book.ended
  where
    by : (b : Bool) → (elim b as (λ _. World) [ true ↦ w | false ↦ settle sc ByItself 2 w ]).sites ≡ w.sites
    by true = refl
    by false = settle-sites sc ByItself 2 w

-- a step leaves the sites, or they are those after the first due event
pub data StepSites (sc : Scenario) (n : ℕ) : Type 0 where
  Still : (none : slice_get (due_of sc (first_run sc n)) 0 ≡ None) (same : (first_run sc (suc n)).sites ≡ (first_run sc n).sites) → StepSites sc n
  Taken : (d : Due) (first : slice_get (due_of sc (first_run sc n)) 0 ≡ Some d) (is : (first_run sc (suc n)).sites ≡ (happens sc (first_run sc n) d).sites) → StepSites sc n

pub step-sites : (sc : Scenario) (n : ℕ) → StepSites sc n
unfolding first_step
step-sites sc n = by (due_of sc (first_run sc n)) refl
  where
    by : (ds : List Due) → due_of sc (first_run sc n) ≡ ds → StepSites sc n
    by [] e =
        Still (ap (λ ds. slice_get ds 0) e)
        (ap (λ ds. (step_with sc (first_run sc n) ds).sites) e ∙ go-on-sites sc (first_run sc n))
    by (d ∷ ds) e =
        let first : slice_get (due_of sc (first_run sc n)) 0 ≡ Some d = ap (λ ds. slice_get ds 0) e in
        Taken d first (ap (λ ds. (step_with sc (first_run sc n) ds).sites) e ∙ take-sites sc (first_run sc n) first)

-- One node.

abbrev pub given_so_far : Scenario → NodeName → ℕ → List CoreEvent
given_so_far sc name n = flat_map given (given_in sc name n)

-- a node that has not begun the frame after the last: its core is what its events make of one
pub record Underway (sc : Scenario) (name : NodeName) (n : ℕ) (s : Site) : Type 0 where
  pub p : ℕ
  pub st : NodeState
  pub a : Timed
  pub stands : StandsAt sc (kind_of name) (index_of name) p s.core st a
  pub ahead : s.ahead ≡ Some a
  pub lines : List ℕ
  pub frames : ℕ
  pub makes : Makes sc.sizes sc.plan name (kind_of name) (index_of name) (first_core sc.sizes (kind_of name)) (given_so_far sc name n) s.core lines frames
  pub told : lines ++ epoch_lines name (epoch_at sc.sizes (kind_of name) st a.tick) ≡ told_up_to sc name p
  pub count : frames + frames_with (epoch_at sc.sizes (kind_of name) st a.tick) ≡ (moment sc [] p).frame
  pub before : s.core.state.frame < sc.frames

abbrev pub acts_so_far : Scenario → NodeName → ℕ → List Act
acts_so_far sc name n = acts_of sc.sizes sc.plan (kind_of name) (index_of name) (first_core sc.sizes (kind_of name)) (given_so_far sc name n)

pub record IsDone (sc : Scenario) (name : NodeName) (n : ℕ) (s : Site) : Type 0 where
  pub told : flat_map (act_lines name) (acts_so_far sc name n) ≡ told_up_to sc name (last_moment sc)
  pub count : frames_in (acts_so_far sc name n) ≡ sc.frames
  pub after : sc.frames ≤ s.core.state.frame

pub record NodeAt (sc : Scenario) (name : NodeName) (n : ℕ) : Type 0 where
  pub s : Site
  pub there : site_of name (first_run sc n) ≡ Some s
  pub how : Underway sc name n s ⊎ IsDone sc name n s

pub before-end : (sc : Scenario) (name : NodeName) (w : World) {s : _} → site_of name w ≡ Some s → s.core.state.frame < sc.frames → is_before_end sc (site_of name w) ≡ true
before-end sc name w {s} there h = ap (is_before_end sc) there ∙ lt-ltb s.core.state.frame sc.frames h

pub after-end : (sc : Scenario) (name : NodeName) (w : World) {s : _} → site_of name w ≡ Some s → sc.frames ≤ s.core.state.frame → is_before_end sc (site_of name w) ≡ false
after-end sc name w {s} there h = ap (is_before_end sc) there ∙ le-ltb s.core.state.frame sc.frames h

-- if nothing is given, the log stays the same
same-given : (sc : Scenario) (name : NodeName) (n : ℕ) → given_next sc name (first_run sc n) ≡ [] → given_in sc name (suc n) ≡ given_in sc name n
same-given sc name n none = ap (λ l. given_in sc name n ++ l) none ∙ append-nil (given_in sc name n)

pub underway-same : {sc name n s z : _} → given_next sc name (first_run sc n) ≡ [] → Unmoved s z → Underway sc name n s → Underway sc name (suc n) z
underway-same {sc} {name} {n} {s} none same u = record {
  p = u.p;
  st = u.st;
  a = u.a;
  stands = subst (λ c. StandsAt sc (kind_of name) (index_of name) u.p c u.st u.a) (sym same.core) u.stands;
  ahead = same.ahead ∙ u.ahead;
  lines = u.lines;
  frames = u.frames;
  makes = subst (λ c. Makes sc.sizes sc.plan name (kind_of name) (index_of name) (first_core sc.sizes (kind_of name)) (given_so_far sc name (suc n)) c u.lines u.frames) (sym same.core)
      (subst (λ events. Makes sc.sizes sc.plan name (kind_of name) (index_of name) (first_core sc.sizes (kind_of name)) (flat_map given events) s.core u.lines u.frames)
      (sym (same-given sc name n none)) u.makes);
  told = u.told;
  count = u.count;
  before = subst (λ (c : Core). c.state.frame < sc.frames) (sym same.core) u.before;
}

pub done-same : {sc : Scenario} {name : NodeName} {n : ℕ} {s : Site} (z : Site) → given_next sc name (first_run sc n) ≡ [] → s.core.state.frame ≤ z.core.state.frame → IsDone sc name n s → IsDone sc name (suc n) z
done-same {sc} {name} {n} {s} z none le d =
    let same : given_in sc name (suc n) ≡ given_in sc name n = same-given sc name n none in
    let Acts : List Event → List Act = λ events. acts_of sc.sizes sc.plan (kind_of name) (index_of name) (first_core sc.sizes (kind_of name)) (flat_map given events) in
    let after : sc.frames ≤ s.core.state.frame = d.after in
    record {
      told = ap (λ events. flat_map (act_lines name) (Acts events)) same ∙ d.told;
      count = ap (λ events. frames_in (Acts events)) same ∙ d.count;
      after = omega (arith, after, le);
    }

-- if one event is given, the log has that event more
one-given : (sc : Scenario) (name : NodeName) (n : ℕ) (e : Event) → given_next sc name (first_run sc n) ≡ e ∷ [] → given_so_far sc name (suc n) ≡ given_so_far sc name n ++ given e
one-given sc name n e is =
    ap (λ l. flat_map given (given_in sc name n ++ l)) is ∙ flat_map-append given (given_in sc name n) (e ∷ []) ∙ ap (λ l. given_so_far sc name n ++ l) (append-nil (given e))

pub more-made : (sc : Scenario) {name : _} (n : ℕ) (e : Event) {between after lines more frames others : _} → given_next sc name (first_run sc n) ≡ e ∷ []
    → Makes sc.sizes sc.plan name (kind_of name) (index_of name) (first_core sc.sizes (kind_of name)) (given_so_far sc name n) between lines frames
    → Makes sc.sizes sc.plan name (kind_of name) (index_of name) between (given e) after more others
    → Makes sc.sizes sc.plan name (kind_of name) (index_of name) (first_core sc.sizes (kind_of name)) (given_so_far sc name (suc n)) after (lines ++ more) (frames + others)
more-made sc {name} n e {after} {lines} {more} {frames} {others} is a b =
    subst (λ events. Makes sc.sizes sc.plan name (kind_of name) (index_of name) (first_core sc.sizes (kind_of name)) events after (lines ++ more) (frames + others)) (sym (one-given sc name n e is))
    (makes-both a b)

-- A tick of its own.

none-more : (n : ℕ) → 0 + n ≡ n
none-more n = omega arith

-- the event of a tick makes of the core what the world makes of it
pub tick-made : {sc : _} (name : NodeName) (w : World) (s : Site) {p st a : _} → StandsAt sc (kind_of name) (index_of name) p s.core st a
    → Makes sc.sizes sc.plan name (kind_of name) (index_of name) s.core (given (event_of sc w.ports (kind_of name) (index_of name) s.core (Tick a.tick)))
    (pass_and_tick sc w.ports (kind_of name) (index_of name) a.tick s.core).core (act_lines name (pass_and_tick sc w.ports (kind_of name) (index_of name) a.tick s.core))
    (frames_with (pass_and_tick sc w.ports (kind_of name) (index_of name) a.tick s.core).epoch)
unfolding pass_and_tick
tick-made {sc} name w s {a} h =
    let me : Side = kind_of name in
    let i : ℕ = index_of name in
    let c : Core = s.core in
    let x : Act = pass_and_tick sc w.ports me i a.tick c in
    let ready : Core = pass_to a.tick c in
    let later : c.had ≤ a.tick = h.next.later in
    let made = makes-both
    (makes-passed name a.tick c h.next (omega (arith, later))) (makes-tick sc.sizes sc.plan name me i (word_of sc w.ports i (wants_in sc me i ready)) ready refl) in
    subst (λ k. Makes sc.sizes sc.plan name me i c (given (event_of sc w.ports me i c (Tick a.tick))) x.core (act_lines name x) k) (none-more (frames_with x.epoch)) made
