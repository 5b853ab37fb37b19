-- For the law that events are rounds: worlds in which the run breaks off in a sync slot. The book
-- stays until all that are good have told of the stage, and then it is the rounds', and has ended.
use Rattle.std.proofs.{Common.{◌≡◌, ℕ, suc, ◌+◌, ◌^◌, ◌<◌, ◌≤◌, ◌==◌, ◌&&◌, ◌⊎◌, Bool, true, false, List, length, refl, ap, sym, ◌∙◌, subst, arith, inl, inr, Option, Some, None, slice_get, if◌then◌else◌}, lemmas.Bool.{and_from, and_right, cases_lt, lt-ltb, not_from_false}}
use Rattle.rb_base.specs.{Nodes.{Side, other}, Nodes.Side.Biu, declared.values.Place.Place}
use Rattle.rb_base.proofs.Plain.{true-false}
use Rattle.rb_rules.specs.{Book.{Book, Each, of_kind}, Book.Milestone.{Begin, End, Stage}, Clock.time_of, Goodness.{Scenario, clock_of}, Hearing.port_at, Lawful.IsLawful, NodeState.NodeState, Ports.HandIn, Rounds.{Moment, moment}, Slots.count_of, WorldStep.{Due, Site, Timed, World, book_with, comes_so, frame_in, happens, is_complete, needs_no_event, record_since, settle, settle_next, take_if_due, with_pending}, WorldStep.Pending.Tick, WorldStep.Way.ByAnEvent}
use Rattle.rb_laws_events.specs.Closing.{stages_in}
use Rattle.rb_laws_events.proofs.{Behind.{closes-before, runs-there, settled-next}, BreakBegins.{FirstCloses, all-have-sent}, BreakNodes.{BreaksAt, FirstOf, KeepsNodes}, BreakPorts.{PortsBreak, PortsOff, ports-break, ports-off}, BreakRooms.{HasLater, has-later}, BreakRuns.{AllSent, NodesOff, WaitsYet, first-of, pending-off, waits-yet}, DueEvents.IsDue, Invariant.{is_good_at, last_tick}, MomentBooks.place_at, MomentSteps.good-back, NodeActs.HasRoom, OneEvent.{WorldInRounds, all-pend, happens-is}, RoundNodes.{item-at, slot_numbered}, SettledOnce.{ended-still, rest-still, settle-still, stage-silent, waits-still}, Settling.stage-settled, SettlingFrames.IsOfMoment, ToldInOrder.number_at, UpToThere.{UpTo, from-running}, WorldBooks.{happens-book, settle_rest}, WorldStands.{AllPend, IsUp, sent_by}}
use Rattle.rb_rules.proofs.Drift.{times_rise_to}
use Rattle.rb_laws_agreement.proofs.Goodnesses.{good_counts}

-- a world in which the run breaks off with stage q at moment b, and some good node has not told of
-- the stage
pub record BreakStands (sc : Scenario) (N : ℕ → List HandIn → ℕ → (Side → ℕ → ℕ → Bool) → Each Site → Type 0) (hands : List HandIn) (sites : Each Site) (book : Book) : Type 0 where
  pub b : ℕ
  pub q : ℕ
  pub off : BreaksAt sc hands b q
  pub sent : Side → ℕ → ℕ → Bool
  pub all_sent : AllSent sc hands b sent
  pub nodes : NodesOff sc N hands b q sent sites
  pub is : book ≡ (moment sc hands b).book
  pub needs : needs_no_event sc book.upcoming ≡ false
  pub open_still : is_complete sc sites (Stage (place_at sc.sizes (moment sc hands b))) ≡ false

-- no frame's record is the turn
pub record BreaksOff (sc : Scenario) (N : ℕ → List HandIn → ℕ → (Side → ℕ → ℕ → Bool) → Each Site → Type 0) (w : World) : Type 0 where
  pub stands : BreakStands sc N w.hands w.sites w.book
  pub silent : frame_in w.turn ≡ None
  pub ports : PortsBreak sc w

pub record IsOver (sc : Scenario) (N : ℕ → List HandIn → ℕ → (Side → ℕ → ℕ → Bool) → Each Site → Type 0) (w : World) : Type 0 where
  pub b : ℕ
  pub q : ℕ
  pub off : BreaksAt sc w.hands b q
  pub of : IsOfMoment sc w.hands w.book
  pub ended : w.book.ended ≡ true
  pub silent : frame_in w.turn ≡ None
  pub small : (me : Side) (i : ℕ) (s : Site) → slice_get (of_kind me w.sites) i ≡ Some s → s.runs ≡ true → s.core.had < 2 ^ 31
  pub sent : Side → ℕ → ℕ → Bool
  pub nodes : N q w.hands b sent w.sites
  pub ports : PortsBreak sc w

-- What the book waits for.

record WaitsForStage (sc : Scenario) (hands : List HandIn) (b : ℕ) (book : Book) : Type 0 where
  upcoming : book.upcoming ≡ Stage (place_at sc.sizes (moment sc hands b))
  not_last : ((moment sc hands b).frame == sc.frames) ≡ false

waits-for : {sc hands b q book : _} → BreaksAt sc hands b q → book ≡ (moment sc hands b).book → needs_no_event sc book.upcoming ≡ false
    → WaitsForStage sc hands b book
waits-for {sc} {hands} {b} {book} off is needs = by (m.frame == sc.frames) refl
  where
    m : Moment
    m = moment sc hands b

    stage : m.window < stages_in sc.sizes
    stage = let small = off.small in let window = off.window in omega (arith, small, window)

    up : book.upcoming ≡ (if m.frame == sc.frames then End else Stage (place_at sc.sizes m))
    up = ap (λ (b : Book). b.upcoming) is ∙ settled-next sc hands b off.running
        ∙ ap (λ t. if t then (if m.frame == sc.frames then End else Stage (place_at sc.sizes m)) else Begin (m.frame + 1)) (lt-ltb m.window (stages_in sc.sizes) stage)

    by : (t : Bool) → (m.frame == sc.frames) ≡ t → WaitsForStage sc hands b book
    by true e =
        let end : book.upcoming ≡ End = up ∙ ap (λ t. if t then End else Stage (place_at sc.sizes m)) e in
        true-false (ap (needs_no_event sc) (sym end) ∙ needs)
    by false e = record { upcoming = up ∙ ap (λ t. if t then End else Stage (place_at sc.sizes m)) e; not_last = e }

-- What is settled.

-- a node that runs was good, and has ticks left
pub runs-small : {sc : _} (N : ℕ → List HandIn → ℕ → (Side → ℕ → ℕ → Bool) → Each Site → Type 0) {hands b q sent sites : _} → KeepsNodes sc q (N q)
    → BreaksAt sc hands b q → NodesOff sc N hands b q sent sites → (me : Side) (i : ℕ) (s : Site) → slice_get (of_kind me sites) i ≡ Some s → s.runs ≡ true → s.core.had < 2 ^ 31
runs-small N {hands} {b} {sent} {sites} keeps off h me i s there runs = elim (keeps.goes hands b off sent sites h.nodes me i s there) [
  | inl stopped ↦ true-false (sym runs ∙ stopped.runs)
  | inr good ↦ h.small me i s there good
]

-- after an event that leaves the book as it was, the stage is not complete or the run is over
settles-off : {sc : Scenario} (N : ℕ → List HandIn → ℕ → (Side → ℕ → ℕ → Bool) → Each Site → Type 0) {hands : List HandIn} {b q : ℕ} {sent : Side → ℕ → ℕ → Bool} (x : World) → HasRoom sc.plan → x.hands ≡ hands
    → KeepsNodes sc q (N q) → BreaksAt sc hands b q → AllSent sc hands b sent → NodesOff sc N hands b q sent x.sites → x.book ≡ (moment sc hands b).book → needs_no_event sc x.book.upcoming ≡ false
    → PortsBreak sc x → BreaksOff sc N (settle sc ByAnEvent 2 x) ⊎ IsOver sc N (settle sc ByAnEvent 2 x)
settles-off {sc} N {hands} {b} {q} {sent} x room hands_are keeps off all_sent nodes is needs ports = by (is_complete sc x.sites (Stage place)) refl
  where
    place : Place
    place = place_at sc.sizes (moment sc hands b)

    it : WaitsForStage sc hands b x.book
    it = waits-for off is needs

    y : World
    y = settle sc ByAnEvent 2 x

    next : World
    next = record x { book = book_with sc x.sites x.book x.book.upcoming }

    comes : comes_so sc ByAnEvent x.book.upcoming ≡ true
    comes = not_from_false (needs_no_event sc x.book.upcoming) needs

    by : (t : Bool) → is_complete sc x.sites (Stage place) ≡ t → BreaksOff sc N y ⊎ IsOver sc N y
    by false e =
        let open_still : is_complete sc x.sites x.book.upcoming ≡ false = ap (is_complete sc x.sites) it.upcoming ∙ e in
        let still : settle_next sc ByAnEvent x ≡ x = waits-still sc (λ going. and_right (comes_so sc ByAnEvent x.book.upcoming) (is_complete sc x.sites x.book.upcoming) open_still) in
        let y_is : y ≡ record x { turn = None } = settle-still sc ByAnEvent 2 still in
        let stands : BreakStands sc N hands x.sites x.book = record {
          b = b;
          q = q;
          off = off;
          sent = sent;
          all_sent = all_sent;
          nodes = nodes;
          is = is;
          needs = needs;
          open_still = e;
        } in
        inl (subst (BreaksOff sc N) (sym y_is) (record { stands = subst (λ hands. BreakStands sc N hands x.sites x.book) (sym hands_are) stands; silent = refl; ports = ports }))
    by true e =
        let complete : is_complete sc x.sites x.book.upcoming ≡ true = ap (is_complete sc x.sites) it.upcoming ∙ e in
        let test : (comes_so sc ByAnEvent x.book.upcoming && is_complete sc x.sites x.book.upcoming) ≡ true =
        and_from (comes_so sc ByAnEvent x.book.upcoming) (is_complete sc x.sites x.book.upcoming) comes complete in
        let next_is : settle_next sc ByAnEvent x ≡ next = ap (λ b. elim b as (λ _. World) [ true ↦ next | false ↦ x ]) test in
        let stage : (moment sc hands b).window < stages_in sc.sizes = let small = off.small in let window = off.window in omega (arith, small, window) in
        let book : next.book ≡ (moment sc hands (suc b)).book =
        ap (book_with sc x.sites x.book) it.upcoming ∙ ap (λ b. book_with sc x.sites b (Stage place)) is
        ∙ stage-settled sc hands b x.sites room.ticks stage it.not_last nodes.counts nodes.rows e in
        let ended : next.book.ended ≡ true = ap (λ (b : Book). b.ended) book ∙ off.ends in
        let still : settle_next sc ByAnEvent next ≡ next = ended-still sc ByAnEvent next ended in
        let y_is : y ≡ record next { turn = record_since x next } =
        ap (λ n. settle_rest sc ByAnEvent 1 n (record_since x n)) next_is ∙ rest-still sc ByAnEvent 1 (record_since x next) still in
        let silent : frame_in (record_since x next) ≡ None = ap (λ m. frame_in (record_since x (record x { book = book_with sc x.sites x.book m }))) it.upcoming ∙ stage-silent sc place _ x.book in
        inr (subst (IsOver sc N) (sym y_is) (record {
          b = b;
          q = q;
          off = subst (λ hands. BreaksAt sc hands b q) (sym hands_are) off;
          of = inr (suc b, book ∙ ap (λ hands. (moment sc hands (suc b)).book) (sym hands_are));
          ended = ended;
          silent = silent;
          small = runs-small N keeps off nodes;
          sent = sent;
          nodes = subst (λ hands. N q hands b sent x.sites) (sym hands_are) nodes.nodes;
          ports = ports;
        }))

-- after the first due event the run still breaks off, or it is over
happens-off : {sc : Scenario} (N : ℕ → List HandIn → ℕ → (Side → ℕ → ℕ → Bool) → Each Site → Type 0) {b q : ℕ} {sent : Side → ℕ → ℕ → Bool} {w : World} {d : Due} → IsLawful sc → HasRoom sc.plan → KeepsNodes sc q (N q)
    → BreaksAt sc w.hands b q → AllSent sc w.hands b sent → NodesOff sc N w.hands b q sent w.sites → w.book ≡ (moment sc w.hands b).book → needs_no_event sc w.book.upcoming ≡ false
    → (due : IsDue w d) → FirstOf sc w.hands b due.t → PortsBreak sc w → BreaksOff sc N (take_if_due sc w (Some d)) ⊎ IsOver sc N (take_if_due sc w (Some d))
happens-off {sc} N {b} {q} {sent} {w} {d} lawful room keeps off all_sent nodes is needs due first ports =
    let x : World = happens sc w d in
    let x_is : x ≡ with_pending sc w d.side d.node due.s d.pending = happens-is sc w d due.there in
    let after = pending-off N w d.side d.node d.pending lawful room keeps off all_sent nodes due.there due.ready (all-pend w due.t due.first) first in
    let same : x.book ≡ w.book = happens-book sc w d in
    let then_ports : PortsOff sc w.hands b (with_pending sc w d.side d.node due.s d.pending).ports (with_pending sc w d.side d.node due.s d.pending).sites =
    ports-off N w d.side d.node d.pending lawful keeps off nodes due.there due.ready first (ports b q off) in
    settles-off N x room (ap (λ (w : World). w.hands) x_is ∙ after.1) keeps off all_sent
    (subst (λ (x : World). NodesOff sc N w.hands b q sent x.sites) (sym x_is) after.0) (same ∙ is) (ap (λ (b : Book). needs_no_event sc b.upcoming) same ∙ needs)
    (subst (PortsBreak sc) (sym x_is) (ports-break (with_pending sc w d.side d.node due.s d.pending) (subst (λ hands. BreaksAt sc hands b q) (sym after.1) off)
    (subst (λ hands. PortsOff sc hands b (with_pending sc w d.side d.node due.s d.pending).ports (with_pending sc w d.side d.node due.s d.pending).sites) (sym after.1) then_ports)))

pub take-off : {sc : _} (N : ℕ → List HandIn → ℕ → (Side → ℕ → ℕ → Bool) → Each Site → Type 0) {w d : _} → IsLawful sc → HasRoom sc.plan → ((q : ℕ) → q < 3 → KeepsNodes sc q (N q))
    → BreaksOff sc N w → IsDue w d → BreaksOff sc N (take_if_due sc w (Some d)) ⊎ IsOver sc N (take_if_due sc w (Some d))
take-off {sc} N {w} lawful room keeps h due =
    let k : BreakStands sc N w.hands w.sites w.book = h.stands in
    let yet : WaitsYet sc w.hands k.b w.sites = waits-yet N (keeps k.q k.off.small) k.off k.nodes k.open_still in
    happens-off N lawful room (keeps k.q k.off.small) k.off k.all_sent k.nodes k.is k.needs due (first-of due.t yet (all-pend w due.t due.first)) h.ports

-- The first close.

-- the run begins to break off when a node closes the stage while none is beyond it
pub begins-off : {sc : Scenario} (N : ℕ → List HandIn → ℕ → (Side → ℕ → ℕ → Bool) → Each Site → Type 0) {now : ℕ} {at : Side → ℕ → ℕ} {w : World} {b q : ℕ} {d : Due} {k : ℕ} {st : NodeState} → IsLawful sc → HasRoom sc.plan
    → KeepsNodes sc q (N q) → BreaksAt sc w.hands b q → WorldInRounds sc now at w → ((me : Side) (i : ℕ) (s : Site) → slice_get (of_kind me w.sites) i ≡ Some s → at me i ≤ b)
    → w.book ≡ (moment sc w.hands b).book → needs_no_event sc w.book.upcoming ≡ false → (due : IsDue w d) → d.pending ≡ Tick k → at d.side d.node ≡ b
    → slice_get (of_kind d.side (moment sc w.hands b).nodes) d.node ≡ Some st → is_good_at sc (moment sc w.hands b) d.side d.node ≡ true → k ≡ last_tick sc (moment sc w.hands b) d.side st
    → now ≤ due.t → due.t ≡ time_of (clock_of sc d.side d.node) k
    → BreaksOff sc N (take_if_due sc w (Some d)) ⊎ IsOver sc N (take_if_due sc w (Some d))
begins-off {sc} N {now} {at} {w} {b} {q} {d} {st} lawful room keeps off h bound is needs due tick here state good last later at_time =
    let hands : List HandIn = w.hands in
    let m : Moment = moment sc hands b in
    let stage : m.window < stages_in sc.sizes = let small = off.small in let window = off.window in omega (arith, small, window) in
    let up_to : UpTo sc hands b = from-running hands lawful b stage off.running in
    let pend : AllPend due.t w.sites = all-pend w due.t due.first in
    let time : due.t ≡ time_of (clock_of sc d.side d.node) (last_tick sc m d.side st) = at_time ∙ ap (time_of (clock_of sc d.side d.node)) last in
    let first : FirstCloses sc hands now at w.sites b due.t = record {
      stand = h.sites;
      together = λ side j z there runs.
          let le : at side j ≤ b = bound side j z there in
          elim (cases_lt (at side j) b) [
            | inr ge ↦ omega (arith, le, ge)
            | inl lt ↦
                let no : b < b =
                closes-before lawful later h.sites h.passed pend stage (record { me = side; i = j; s = z; there = there; runs = runs; place = inl lt })
                (λ q lt within. up_to.times q (omega arith) within) up_to.well (sym here) (record { st = st; state = state; good = good; time = time }) (omega arith) in
                absurd (omega (arith, no))
          ];
      me = d.side;
      i = d.node;
      st = st;
      there = state;
      good = good;
      time = time;
      pend = pend;
    } in
    let runs : (me : Side) (i : ℕ) (s : Site) → slice_get (of_kind me w.sites) i ≡ Some s → is_good_at sc m me i ≡ true → s.runs ≡ true =
    λ me i s there good. runs-there h.sites me i there (good-back sc hands (at me i) b me i (bound me i s there) good) in
    let sent : Side → ℕ → ℕ → Bool = sent_by sc hands at w.sites in
    let nodes : NodesOff sc N hands b q sent w.sites = record {
      nodes = keeps.begins hands b off now at w.sites due.t first;
      counts = h.sites.counts;
      rows = h.tell.rows;
      live = λ me i s there good. inl (runs me i s there good);
      small = λ me i s there good.
          let up : IsUp sc hands (sent_by sc hands at w.sites) now me i (at me i) s = h.sites.up me i s there (runs me i s there good) in
          let had = up.stands.receives.is_next.later in
          let below = up.stands.receives.is_next.below in
          omega (arith, had, below);
    } in
    let all_sent : AllSent sc hands b sent = λ me n good i.
    let counted : n < count_of (other me) sc.sizes = good_counts sc (other me) n m.frame (slot_numbered sc.sizes m.window) good in
    let long : length (of_kind (other me) w.sites) ≡ count_of (other me) sc.sizes = h.sites.counts (other me) in
    let z = item-at (of_kind (other me) w.sites) n (omega (arith, counted, long)) in
    all-have-sent lawful q off.running off.small off.window first me i n z.1 (runs (other me) n z.0 z.1 good) in
    happens-off N lawful room keeps off all_sent nodes is needs due
    (record { you = d.side; j = d.node; yours = st; there = state; good = good; first = omega (arith, time) })
    (ports-break w off (λ i s there good.
    let up : s.runs ≡ true = runs Biu i s there good in
    let here : at Biu i ≡ b = first.together Biu i s there up in
    inl (record {
      port = h.ports i s there up ∙ ap (λ p. port_at sc (moment sc hands p).ports i) here;
      untold = λ row told. let less : number_at sc.sizes row.place < at Biu i = (h.told Biu i s there).row row told in omega (arith, less, here);
    })))

-- a node whose tick may come next has ticks left
pub left-off : {sc : _} (N : ℕ → List HandIn → ℕ → (Side → ℕ → ℕ → Bool) → Each Site → Type 0) {w : _} → IsLawful sc → ((q : ℕ) → q < 3 → KeepsNodes sc q (N q)) → BreaksOff sc N w
    → (me : Side) (i : ℕ) (s : Site) (a : Timed) → slice_get (of_kind me w.sites) i ≡ Some s → s.ahead ≡ Some a → AllPend a.time w.sites → (s.core.had ≤ a.tick) × (a.tick < 2 ^ 31)
left-off {sc} N {w} lawful keeps h me i s a there pend first =
    let k : BreakStands sc N w.hands w.sites w.book = h.stands in
    let its : KeepsNodes sc k.q (N k.q) = keeps k.q k.off.small in
    let yet : WaitsYet sc w.hands k.b w.sites = waits-yet N its k.off k.nodes k.open_still in
    let ahead = its.ahead w.hands k.b k.off k.sent w.sites k.nodes.nodes me i s there a pend in
    let good : is_good_at sc (moment sc w.hands k.b) me i ≡ true = elim (its.goes w.hands k.b k.off k.sent w.sites k.nodes.nodes me i s there) [ inl stopped ↦ none-some a s.ahead stopped.ahead pend | inr good ↦ good ] in
    let later : HasLater sc a.time me i = has-later lawful k.off (first-of a.time yet first) me i good in
    let small = later.small in
    let after = later.later in
    elim (cases_lt a.tick later.k) [
      | inl lt ↦ (ahead.0, omega (arith, lt, small))
      | inr ge ↦
          let up : time_of (clock_of sc me i) later.k ≤ time_of (clock_of sc me i) a.tick = times_rise_to (clock_of sc me i) later.k a.tick ge in
          absurd (omega (arith, up, after, ahead.1))
    ]
  where
    none-some : {P : Type 0} (a : Timed) (o : Option Timed) → o ≡ None → o ≡ Some a → P
    none-some a None e f = cc
    none-some a (Some b) e f = cc
