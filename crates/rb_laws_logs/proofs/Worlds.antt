-- For the law of record and replay: the worlds of a run in which the first due event is taken, if
-- it has no breach: all nodes stand in the rounds, and so does one that takes a tick.
use Rattle.std.proofs.{Common.{◌≡◌, ℕ, zero, suc, ◌<◌, ◌≤◌, ◌⊎◌, Bool, true, false, List, [], ◌∷◌, refl, ap, sym, ◌∙◌, subst, inl, inr, Some, None, slice_get}, lemmas.Option.same_Some}
use Rattle.rb_base.specs.{Nodes.Side, Nodes.Side.Biu}
use Rattle.rb_rules.specs.{Book.of_kind, Goodness.Scenario, Hearing.port_at, Lawful.IsLawful, Moments.IsRunning, NodeState.NodeState, Ports.HandIn, Rounds.moment, WorldStep.{Due, Timed, World, due_of, first_world, go_on, needs_no_event, pass_and_tick, settle}, WorldStep.Pending.Tick, WorldStep.Way.ByItself}
use Rattle.rb_laws_events.proofs.{BreakNodes.BreaksAt, Behind.WaitsAt, DueEvents.IsDue, EventsHold.{any, nodes_at}, EveryWorld.{AnyWorld, InRun, due-going}, Invariant.{last_tick, next_stage}, NodeActs.HasRoom, OneEvent.{ClosesEarlier, MayHappen, WorldInRounds}, OneTake.{StandsInRounds, are-in-time, closes-earlier, settle-hands, take-hands, world-waits}, PortMoments.has-word, SameHeard.Every, TickRooms.has-room, UpToThere.{Reaches, next-up-to, reach, reaches-first}, WorldEvents.{AfterTick, tick-event}, WorldNodes.events-due, WorldStands.{AllPend, IsUp, IsDown, sent_by}}
use Rattle.rb_laws_logs.specs.{Given.{first_run, first_step, step_with}, Laws.EndsWithoutBreach}
use Rattle.rb_laws_logs.proofs.NoBreach.{breaks-not, choices_in, run-is}

-- Nothing is handed in.

pub go-on-hands : (sc : Scenario) (w : World) → (go_on sc w).hands ≡ w.hands
unfolding go_on
go-on-hands sc w = by w.book.ended
  where
    by : (b : Bool) → (elim b as (λ _. World) [ true ↦ w | false ↦ settle sc ByItself 2 w ]).hands ≡ w.hands
    by true = refl
    by false = settle-hands sc ByItself 2 w

pub no-hands : (sc : Scenario) (n : ℕ) → (first_run sc n).hands ≡ []
unfolding first_world first_step
no-hands sc zero = refl
no-hands sc (suc n) = by (due_of sc (first_run sc n)) ∙ no-hands sc n
  where
    by : (ds : List Due) → (step_with sc (first_run sc n) ds).hands ≡ (first_run sc n).hands
    by [] = go-on-hands sc (first_run sc n)
    by (d ∷ ds) = take-hands sc (first_run sc n) 0

-- In the run.

in-run : {sc : Scenario} {w : World} → IsLawful sc → EndsWithoutBreach sc → w.hands ≡ [] → AnyWorld sc (nodes_at sc) w → InRun sc w
in-run lawful none empty (inl run) = run
in-run {sc} lawful none empty (inr (inl off)) = absurd (breaks-not lawful none (subst (λ hs. BreaksAt sc hs off.stands.b off.stands.q) empty off.stands.off))
in-run {sc} lawful none empty (inr (inr over)) = absurd (breaks-not lawful none (subst (λ hs. BreaksAt sc hs over.b over.q) empty over.off))

pub worlds-in-run : {sc : _} → IsLawful sc → EndsWithoutBreach sc → (n : ℕ) → InRun sc (first_run sc n)
worlds-in-run {sc} lawful none n =
    in-run lawful none (no-hands sc n) (subst (AnyWorld sc (nodes_at sc)) (sym (run-is sc n)) (any lawful (choices_in sc n)))

-- A due event.

pub first-due : (sc : Scenario) (n : ℕ) {d : _} → slice_get (due_of sc (first_run sc n)) 0 ≡ Some d → IsDue (first_run sc n) d
first-due sc n {d} e =
    subst (λ w. IsDue w d) (sym (run-is sc n)) (events-due sc (choices_in sc n) 0 (ap (λ w. slice_get (due_of sc w) 0) (sym (run-is sc n)) ∙ e))

-- event `d` may happen, and closes no window in which other nodes are not in time
pub record MayTake (sc : Scenario) (w : World) (h : StandsInRounds sc w) (d : Due) : Type 0 where
  pub n : ℕ
  pub may : MayHappen sc h.at w n
  pub early : ClosesEarlier sc w.hands h.at n d.side d.node d.pending

pub may-take : {sc w : _} (h : StandsInRounds sc w) {d : _} → IsLawful sc → EndsWithoutBreach sc → w.hands ≡ [] → slice_get (due_of sc w) 0 ≡ Some d → IsDue w d
    → MayTake sc w h d
may-take {sc} {w} h {d} lawful none empty first due = from-where waits.1.from
  where
    open_still : (w.book.ended ≡ false) × (needs_no_event sc w.book.upcoming ≡ false)
    open_still = due-going sc w 0 first

    waits : (n : ℕ) × WaitsAt sc w.hands h.at w.sites w.book n
    waits = world-waits h.stands open_still.0 open_still.1

    n : ℕ
    n = waits.0

    reached : Reaches sc w.hands n → MayTake sc w h d
    reached r = record {
      n = n;
      may = record { stage = waits.1.stage; bound = waits.1.bound; within = waits.1.within; up_to = r.up_to };
      early = closes-earlier lawful h.stands waits.1 r.up_to due;
    }

    from-where : (n ≡ 0) ⊎ ((g : ℕ) × (IsRunning (moment sc w.hands g) × ((n ≡ next_stage sc.sizes (moment sc w.hands g) g) × (w.book ≡ (moment sc w.hands g).book)))) → MayTake sc w h d
    from-where (inl at_first) = reached (reaches-first w.hands lawful waits.1.stage at_first)
    from-where (inr from) = elim (reach w.hands lawful waits.1.stage from.0 from.1.0 from.1.1.0) [
      | inl r ↦ reached r
      | inr b ↦ absurd (breaks-not lawful none (subst (λ hs. BreaksAt sc hs from.0 b.0) empty b.1))
    ]

-- after a tick the node stands in the rounds
pub tick-done : {sc w : _} (h : StandsInRounds sc w) {n me i k t s a : _} → IsLawful sc → MayHappen sc h.at w n
    → ClosesEarlier sc w.hands h.at n me i (Tick k) → slice_get (of_kind me w.sites) i ≡ Some s → s.ahead ≡ Some a → a.tick ≡ k → a.time ≡ t
    → Every (λ c. t < c.time) s.coming → AllPend t w.sites → AfterTick sc w.hands h.at w.sites w.ports me i s a (pass_and_tick sc w.ports me i a.tick s.core)
tick-done {sc} {w} h {n} {me} {i} {t} {s} {a} lawful may early there pend tick time alone first =
    let hands : List HandIn = w.hands in
    let at : Side → ℕ → ℕ = h.at in
    let now : ℕ = h.now in
    let room : HasRoom sc.plan = has-room lawful in
    let world : WorldInRounds sc now at w = h.stands in
    let runs : s.runs ≡ true = is-up s.runs refl in
    let up : IsUp sc hands (sent_by sc hands at w.sites) now me i (at me i) s = world.sites.up me i s there runs in
    let same : up.a ≡ a = same_Some up.a a (sym up.stands.receives.pends ∙ pend) in
    let later : now ≤ a.time = subst (λ (b : Timed). now ≤ b.time) same up.stands.receives.tick_after in
    let closes_early : (st : NodeState) → slice_get (of_kind me (moment sc hands (at me i)).nodes) i ≡ Some st → a.tick ≡ last_tick sc (moment sc hands (at me i)) me st → at me i < n =
    λ st e last. early st e (sym tick ∙ last) in
    let port : me ≡ Biu → port_at sc w.ports i ≡ port_at sc (moment sc hands (at me i)).ports i =
    λ e. world.ports i s (ap (λ y. slice_get (of_kind y w.sites) i) (sym e) ∙ there) runs ∙ ap (λ y. port_at sc (moment sc hands (at y i)).ports i) (sym e) in
    tick-event lawful room (are-in-time world may) world.passed world.sites (record {
      there = there;
      runs = runs;
      pend = pend;
      alone = subst (λ t. Every (λ c. t < c.time) s.coming) (sym time) alone;
      first = subst (λ t. AllPend t w.sites) (sym time) first;
      later = later;
      word = λ st e. has-word sc w.ports (moment sc hands (at me i)) me i st port;
      next = λ st e last. next-up-to (at me i) may.up_to may.stage (closes_early st e last) up.stands.stands.window;
    })
  where
    some-none : None ≡ Some a → ⊥
    some-none e = cc

    is-up : (b : Bool) → s.runs ≡ b → s.runs ≡ true
    is-up true e = e
    is-up false e = let down : IsDown sc w.hands me i (h.at me i) s = h.stands.sites.down me i s there e in absurd (some-none (sym down.ahead ∙ pend))
