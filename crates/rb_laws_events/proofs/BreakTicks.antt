-- For the law that events are rounds if the premise on faults is broken in a sync slot: as long as
-- a node waits for the last tick of the stage with which the run breaks off, those that have closed
-- it do not close the next one, and those of them that are of the kind heard in it say nothing.
use Rattle.std.proofs.{Common.{◌≡◌, ℕ, suc, ◌+◌, ◌*◌, ◌<◌, ◌≤◌, true, false, List, refl, ap, sym, ◌∙◌, subst, arith, inl, inr, Option, Some, None, slice_get}, lemmas.Bool.cases_lt}
use Rattle.rb_base.specs.{Nodes.{Side, other}, Sizes.{Sizes, sync_slot_of}}
use Rattle.rb_rules.specs.{declared.message.Message.Message, declared.plan.Plan.Plan, declared.role.Role.TheVariants.Sync, Core.{Core, pass_to, said_at, state_at, state_kept, tick}, Book.of_kind, Clock.time_of, Goodness.{Scenario, clock_of}, Lawful.IsLawful, Moments.IsRunning, NodeState.NodeState, Ports.{HandIn, PortState}, Rounds.{Moment, moment, window_in}, Slots.listens, WorldStep.{Site, Timed, after_act, pass_and_tick, wants_in, word_of}}
use Rattle.rb_rules.proofs.{Drift.times_rise_to, RoundStates.Stays}
use Rattle.rb_laws_events.specs.Closing.{stages_in}
use Rattle.rb_laws_events.proofs.{ActCases.{act-by, tick-by}, BreachWindows.in-reached, BreakSites.{HasClosed, closed-ticks}, CloseOrder.{IsWindowLater, window-later}, Invariant.{InTime, is_good_at, last_tick, next_stage}, MomentSteps.next-inner, NodeActs.HasRoom, NodeClosing.good-in-sync, NodeMoves.{after-stays, first-alike, get-later, state_after}, PastTicks.turns-later, SilentThere.silent-there, StageOrder.last_of, TickWindows.{IsTickIn, first_of}}

-- up to the last tick of a stage at any good node, no good node has the last tick of the next stage
pub before-next : {sc hands : _} → IsLawful sc → HasRoom sc.plan → {p : ℕ} (q : ℕ) → IsRunning (moment sc hands p) → q < 2 → (moment sc hands p).window ≡ 3 * sync_slot_of sc.sizes + q
    → {me i s : _} → HasClosed sc hands me i p s
    → (you : Side) (j : ℕ) {yours : _} → slice_get (of_kind you (moment sc hands p).nodes) j ≡ Some yours → is_good_at sc (moment sc hands p) you j ≡ true
    → (a : Timed) → a.time ≡ time_of (clock_of sc me i) a.tick → a.time ≤ time_of (clock_of sc you j) (last_tick sc (moment sc hands p) you yours)
    → a.tick < s.core.state.epoch + last_of sc.sizes sc.plan me s.core.state ((moment sc hands p).window + 1)
before-next {sc} {hands} lawful room {p} q running small at {me} {i} {s} h you j {yours} there2 good2 a at_time le =
    let m : Moment = moment sc hands p in
    let m2 : Moment = moment sc hands (suc p) in
    let end : NodeState = state_after sc m me i h.st in
    let next : IsWindowLater sc m m2 = window-later sc hands m (omega (arith, at, small)) in
    let inner : m.window + 1 < stages_in sc.sizes = omega (arith, at, small) in
    let is : next_stage sc.sizes m p ≡ suc p = next-inner sc.sizes m p inner in
    let times : InTime sc m m2 = subst (λ q. InTime sc m (moment sc hands q)) is (in-reached hands lawful p running (omega arith)) in
    let there : slice_get (of_kind me m2.nodes) i ≡ Some end = get-later sc hands p me i (omega arith) h.state in
    let good_then : is_good_at sc m2 me i ≡ true = good-in-sync sc hands me i p (omega arith) (omega (arith, at)) h.good in
    let order : time_of (clock_of sc you j) (last_tick sc m you yours) < time_of (clock_of sc me i) (last_tick sc m2 me end) =
    times.order you me j i yours end there2 good2 there good_then in
    let stays : Stays h.st end = after-stays sc m me i h.st in
    let epoch : end.epoch ≡ s.core.state.epoch = stays.epoch ∙ sym h.course.past.epoch in
    let mine : first_of sc.sizes sc.plan me end (m.window + 1 + 1) ≡ last_of sc.sizes sc.plan me s.core.state (m.window + 1) + 1 =
    first-alike sc.sizes me s.core.state end (m.window + 1) room.ticks inner in
    let its : first_of sc.sizes sc.plan me end (m.window + 1 + 1) ≡ last_of sc.sizes sc.plan me end (m.window + 1) + 1 = first-alike sc.sizes me end end (m.window + 1) room.ticks inner in
    let window : last_of sc.sizes sc.plan me end m2.window ≡ last_of sc.sizes sc.plan me end (m.window + 1) = ap (last_of sc.sizes sc.plan me end) next.window in
    let last : ℕ = s.core.state.epoch + last_of sc.sizes sc.plan me s.core.state (m.window + 1) in
    let last_is : last_tick sc m2 me end ≡ last = omega (arith, epoch, mine, its, window) in
    let last_time : time_of (clock_of sc me i) (last_tick sc m2 me end) ≡ time_of (clock_of sc me i) last = ap (time_of (clock_of sc me i)) last_is in
    elim (cases_lt a.tick last) [
      | inl lt ↦ lt
      | inr ge ↦
          let up : time_of (clock_of sc me i) last ≤ time_of (clock_of sc me i) a.tick = times_rise_to (clock_of sc me i) last a.tick ge in
          absurd (omega (arith, order, last_time, up, at_time, le))
    ]

-- a tick of a node that has closed its stage tells nothing
pub closed-goes-on : {sc hands : _} → IsLawful sc → HasRoom sc.plan → (ports : List PortState) {p : ℕ} (q : ℕ) → IsRunning (moment sc hands p) → q < 2
    → (moment sc hands p).window ≡ 3 * sync_slot_of sc.sizes + q
    → {me i s : _} → HasClosed sc hands me i p s
    → (you : Side) (j : ℕ) {yours : _} → slice_get (of_kind you (moment sc hands p).nodes) j ≡ Some yours → is_good_at sc (moment sc hands p) you j ≡ true
    → {a : _} → s.ahead ≡ Some a → a.time ≤ time_of (clock_of sc you j) (last_tick sc (moment sc hands p) you yours)
    → HasClosed sc hands me i p (after_act sc ports me i (pass_and_tick sc ports me i a.tick s.core) s)
closed-goes-on lawful room ports q running small at h you j there2 good2 {a} pend le =
    let is = h.course.ahead a pend in
    closed-ticks ports a.tick room.ticks (omega (arith, at, small)) h is.0
    (before-next lawful room q running small at h you j there2 good2 a is.1 le)

-- Who says nothing.

-- a core that says nothing at a tick sends nothing with it
pub says-none : (sizes : Sizes) (plan : Plan) (me : Side) (i : ℕ) (c : Core) (word : ℕ) → said_at sizes plan me i (state_at sizes plan me c.state c.had) word c.had ≡ None
    → (tick sizes plan me i c word).message ≡ None
says-none sizes plan me i c word none =
    let st : NodeState = state_at sizes plan me c.state c.had in
    let m : Option Message = said_at sizes plan me i st word c.had in
    tick-by (λ x. x.message ≡ None) sizes plan me i c word (λ _. refl) (λ _. act-by (λ x. x.message ≡ None) sizes plan me i c st m (state_kept sizes me i st word m) (λ _. none) (λ _. none))

-- a node of the kind that is heard in the stage says nothing from its row of that stage up to the
-- last tick of the next window
pub closed-silent : {sc : Scenario} {hands : List HandIn} (ports : List PortState) {p : ℕ} (q k : ℕ) → HasRoom sc.plan → q < 3 → (moment sc hands p).window ≡ 3 * sync_slot_of sc.sizes + q
    → {me : Side} {i : ℕ} {s : Site} → (h : HasClosed sc hands me i p s) → listens me Sync (window_in sc (moment sc hands p) me h.st).stage ≡ false → listens (other me) Sync (q + 2) ≡ false
    → s.core.had ≤ k → k ≤ s.core.state.epoch + last_of sc.sizes sc.plan me s.core.state (3 * sync_slot_of sc.sizes + (q + 1))
    → (pass_and_tick sc ports me i k s.core).message ≡ None
unfolding pass_and_tick
closed-silent {sc} {hands} ports {p} q k room small at {me} {i} {s} h deaf unheard had before =
    let n : ℕ = 3 * sync_slot_of sc.sizes + (q + 1) in
    let c : Core = pass_to k s.core in
    let c_had : c.had ≡ k = omega arith in
    let n_is : (moment sc hands p).window + 1 ≡ n = omega (arith, at) in
    let from : s.core.state.epoch + first_of sc.sizes sc.plan me s.core.state n ≤ s.core.had =
    subst (λ n. s.core.state.epoch + first_of sc.sizes sc.plan me s.core.state n ≤ s.core.had) n_is h.course.past.from in
    let in_it : IsTickIn sc.sizes sc.plan me s.core.state n c.had = record { from = omega (arith, from, c_had, had); to = omega (arith, before, c_had) } in
    let now : state_at sc.sizes sc.plan me s.core.state c.had ≡ s.core.state = turns-later room.ticks h.course.past.next (omega arith) in_it in
    let stage : q + 2 ≡ q + 1 + 1 = omega arith in
    let word : ℕ = word_of sc ports i (wants_in sc me i c) in
    says-none sc.sizes sc.plan me i c word
    (ap (λ z. said_at sc.sizes sc.plan me i z word c.had) now
    ∙ silent-there i (q + 1) word room (omega arith) (h.course.keeps deaf) in_it (ap (listens (other me) Sync) (sym stage) ∙ unheard))
