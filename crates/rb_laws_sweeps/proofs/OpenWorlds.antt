-- What comes next in a world that was reached, and needs an event, still waits for a node. So an
-- arrival settles nothing.
use Rattle.std.proofs.{Common.{◌≡◌, ℕ, ◌+◌, ◌<◌, ◌==◌, Bool, true, false, List, refl, ap, sym, ◌∙◌, arith, inl, inr, Some, None, slice_get, if◌then◌else◌}, lemmas.Bool.{and_right, lt-ltb}}
use Rattle.rb_base.specs.Nodes.{Side}
use Rattle.rb_base.proofs.Plain.{true-false}
use Rattle.rb_rules.specs.{Book.Book, Book.Milestone.{Begin, End, Stage}, Goodness.Scenario, Hearing.Coming, Lawful.IsLawful, Rounds.{Moment, moment}, WorldStep.{Choice, Due, Site, World, after_arrival, at_node, comes_so, due_of, is_complete, needs_no_event, settle, settle_next, take, take_if_due, world_after}, WorldStep.Pending.Arrival, WorldStep.Way.ByAnEvent}
use Rattle.rb_laws_events.specs.Closing.{stages_in}
use Rattle.rb_laws_events.proofs.{Behind.settled-next, BreakNodes.BreaksAt, BreakOff.BreakStands, DueEvents.{IsDue, due-is}, EventsHold.{any, nodes_at}, EveryWorld.{AnyWorld, due-going}, MomentBooks.place_at, OneEvent.happens-is, OneTake.{StandsInRounds, is-paced}, SettledOnce.{settle-still, waits-still}, WorldNodes.{NodesKnown, worlds-known}, WorldStands.is_node}
use Rattle.rb_laws_sweeps.specs.Laws.{ArrivalsSettleNothing, NeedsEvent}
use Rattle.rb_laws_sweeps.proofs.Settles.{KeepsTold, changed, settle-changed}

-- if the run breaks off, the book waits for the stage of the break
waits-for : {sc hands b q book : _} → BreaksAt sc hands b q → book ≡ (moment sc hands b).book → needs_no_event sc book.upcoming ≡ false
    → book.upcoming ≡ Stage (place_at sc.sizes (moment sc hands b))
waits-for {sc} {hands} {b} {book} off is needs = by (m.frame == sc.frames) refl
  where
    m : Moment
    m = moment sc hands b

    stage : m.window < stages_in sc.sizes
    stage = let small = off.small in let window = off.window in omega (arith, small, window)

    up : book.upcoming ≡ (if m.frame == sc.frames then End else Stage (place_at sc.sizes m))
    up = ap (λ (b : Book). b.upcoming) is ∙ settled-next sc hands b off.running
        ∙ ap (λ t. if t then (if m.frame == sc.frames then End else Stage (place_at sc.sizes m)) else Begin (m.frame + 1)) (lt-ltb m.window (stages_in sc.sizes) stage)

    by : (t : Bool) → (m.frame == sc.frames) ≡ t → book.upcoming ≡ Stage (place_at sc.sizes m)
    by true e =
        let end : book.upcoming ≡ End = up ∙ ap (λ t. if t then End else Stage (place_at sc.sizes m)) e in
        true-false (ap (needs_no_event sc) (sym end) ∙ needs)
    by false e = up ∙ ap (λ t. if t then End else Stage (place_at sc.sizes m)) e

-- what comes next is not complete
pub still-open : {sc w : _} → AnyWorld sc (nodes_at sc) w → NeedsEvent sc w → is_complete sc w.sites w.book.upcoming ≡ false
still-open {sc} {w} (inl run) h =
    let stands : StandsInRounds sc w = run.stands in
    (is-paced stands.stands).waits h.going h.needs
still-open {sc} {w} (inr (inl off)) h =
    let k : BreakStands sc (nodes_at sc) w.hands w.sites w.book = off.stands in
    ap (is_complete sc w.sites) (waits-for k.off k.is h.needs) ∙ k.open_still
still-open (inr (inr over)) h = true-false (sym over.ended ∙ h.going)

-- a world in which the next record needs an event and still waits for one
pub record Goes (sc : Scenario) (w : World) : Type 0 where
  pub event : NeedsEvent sc w
  pub open_still : is_complete sc w.sites w.book.upcoming ≡ false
  pub known : NodesKnown sc w.sites

pub goes-reached : {sc : _} → IsLawful sc → (choices : List Choice) → NeedsEvent sc (world_after sc choices) → Goes sc (world_after sc choices)
goes-reached {sc} lawful choices event =
    record { event = event; open_still = still-open (any lawful choices) event; known = worlds-known sc choices }

-- An arrival.

pub arrival-told : (sc : Scenario) (me : Side) (i place : ℕ) (c : Coming) → KeepsTold (λ side n s. elim (is_node me i side n) as (λ _. Site) [ true ↦ after_arrival sc me i place c s | false ↦ s ])
unfolding after_arrival
arrival-told sc me i place c = record {
  row = λ side j s. by-row s (is_node me i side j);
  begun = λ side j s. by-begun s (is_node me i side j);
}
  where
    by-row : (s : Site) (b : Bool) → (elim b as (λ _. Site) [ true ↦ after_arrival sc me i place c s | false ↦ s ]).row ≡ s.row
    by-row s true = refl
    by-row s false = refl

    by-begun : (s : Site) (b : Bool) → (elim b as (λ _. Site) [ true ↦ after_arrival sc me i place c s | false ↦ s ]).begun ≡ s.begun
    by-begun s true = refl
    by-begun s false = refl

-- the world after one arrival is taken
abbrev pub after_one : Scenario → Side → ℕ → ℕ → Coming → World → World
after_one sc me i place c w = record w { sites = at_node me i (after_arrival sc me i place c) w.sites; turn = None }

pub arrival-still : {sc w : _} → Goes sc w → (n : ℕ) (me : Side) (i place : ℕ) (c : Coming)
    → slice_get (due_of sc w) n ≡ Some (record { side = me; node = i; pending = Arrival place c }) → take sc w n ≡ after_one sc me i place c w
unfolding take
arrival-still {sc} {w} h n me i place c e =
    let d : Due = record { side = me; node = i; pending = Arrival place c } in
    let due : IsDue w d = due-is n (record { known = h.known.known }) e in
    let g : Side → ℕ → Site → Site = λ side n s. elim (is_node me i side n) as (λ _. Site) [ true ↦ after_arrival sc me i place c s | false ↦ s ] in
    let still : settle_next sc ByAnEvent w ≡ w =
    waits-still sc (λ going. and_right (comes_so sc ByAnEvent w.book.upcoming) (is_complete sc w.sites w.book.upcoming) h.open_still) in
    ap (take_if_due sc w) e ∙ ap (settle sc ByAnEvent 2) (happens-is sc w d due.there)
    ∙ settle-changed sc ByAnEvent 2 w (arrival-told sc me i place c) ∙ ap (changed g) (settle-still sc ByAnEvent 2 still)

pub arrivals-settle-nothing : ArrivalsSettleNothing
arrivals-settle-nothing sc lawful choices n me i place c e =
    let w : World = world_after sc choices in
    let event = due-going sc w n e in
    arrival-still (goes-reached lawful choices (record { going = event.0; needs = event.1 })) n me i place c e
