-- For the law that cores follow the rounds: if the run breaks off, a core that has closed the
-- breaking stage stands in a moment by which the run has ended, and each other one still holds the
-- state of the rounds.
use Rattle.std.proofs.{Common.{◌≡◌, ℕ, zero, suc, ◌+◌, ◌*◌, ◌-◌, ◌<◌, ◌≤◌, ◌⊎◌, Bool, true, false, refl, ap, sym, ◌∙◌, subst, arith, inl, inr, List, Option, Some, None, slice_get}, lemmas.Bool.cases_lt, lemmas.Nat.mul-le}
use Rattle.rb_base.specs.{Nodes.Side, Nodes.Side.Biu, Sizes.{Sizes, sync_slot_of}}
use Rattle.rb_base.proofs.Plain.{true-false}
use Rattle.rb_rules.specs.{declared.plan.Plan.Plan, declared.plan.Window.Window, Book.of_kind, Conviction.turn, Core.{Core, is_tick, state_at, window_here}, Goodness.Scenario, Hearing.port_at, Lawful.IsLawful, Moments.IsRunning, NodeState.NodeState, Ports.HandIn, Rounds.{Moment, moment, windows_in}, SyncStage.new_epoch_of, WorldStep.{Site, Timed, World}}
use Rattle.rb_rules.proofs.RoundStates.{HasTicks}
use Rattle.rb_laws_agreement.proofs.ExactAgrees.{has_ticks}
use Rattle.rb_laws_events.specs.{Closing.stages_in, OwnMoments.{CoresFollowTheRounds, FollowsTheRounds, HoldsTheRounds, HoldsTheState, RunningNode, open_window, own_moment, ready_state}}
use Rattle.rb_laws_events.proofs.{BreakNodes.BreaksAt, BreakPorts.PortsBreak, BreakSites.{HasClosed, HasTold, SiteBreaks, WaitsDeaf, WaitsHearing}, CoreStates.{IsThere, StandsIn, is-there, window-place}, CoresHold.run-holds, EventsHold.{any, course_of, keeps, nodes_at}, EveryWorld.AnyWorld, Invariant.{is_good_at, last_tick}, LastSites.{AwaitsNext, HasToldLast}, MomentBooks.number-of, NodeTicks.tail-first, RoundNodes.moments-stand, StageOrder.last_of, TickWindows.{Tiles, first_of, here-is, tail-here, tiles}, UpToThere.breaks-later}

-- The window of a late tick.

at-or-later : (sizes : Sizes) {plan : _} (me : Side) (st : NodeState) (k d n : ℕ) → HasTicks plan → n + d ≡ stages_in sizes → st.epoch + first_of sizes plan me st n ≤ k
    → n + 1 ≤ 3 * (window_here sizes plan me st k).slot + (window_here sizes plan me st k).stage
at-or-later sizes {plan} me st k zero n ticks is from =
    let same : n ≡ stages_in sizes = omega (arith, is) in
    let here = tail-here sizes me st k ticks (subst (λ n. st.epoch + first_of sizes plan me st n ≤ k) same from) in
    let place : 3 * (window_here sizes plan me st k).slot + (window_here sizes plan me st k).stage ≡ stages_in sizes + 1 =
    ap (λ (w : Window). 3 * w.slot + w.stage) here ∙ window-place sizes plan me st (stages_in sizes) (omega arith) in
    omega (arith, place, same)
at-or-later sizes {plan} me st k (suc d) n ticks is from =
    elim (cases_lt (st.epoch + last_of sizes plan me st n) k) [
      | inr within ↦
          let here = here-is me st ticks (omega (arith, is)) (record { from = from; to = within }) in
          let place : 3 * (window_here sizes plan me st k).slot + (window_here sizes plan me st k).stage ≡ n + 1 =
          ap (λ (w : Window). 3 * w.slot + w.stage) here ∙ window-place sizes plan me st n (omega (arith, is)) in
          omega (arith, place)
      | inl past ↦
          let t : Tiles sizes plan me st n = tiles sizes me st n ticks (omega (arith, is)) in
          let next : first_of sizes plan me st (n + 1) ≡ last_of sizes plan me st n + 1 = t.next in
          let rest : n + 1 + 1 ≤ 3 * (window_here sizes plan me st k).slot + (window_here sizes plan me st k).stage =
          at-or-later sizes me st k d (n + 1) ticks (omega (arith, is)) (omega (arith, next, past)) in
          omega (arith, rest)
    ]

-- Turning.

turning : Sizes → Plan → Side → NodeState → Bool → Option ℕ → NodeState
turning sizes plan me st b next = elim b [ true ↦ elim next [ None ↦ st | Some epoch ↦ turn sizes plan.probation me epoch st ] | false ↦ st ]

turns-or-not : (sizes : Sizes) (plan : Plan) (me : Side) (st : NodeState) (k : ℕ) → (state_at sizes plan me st k ≡ st) ⊎ ((state_at sizes plan me st k).frame ≡ st.frame + 1)
unfolding state_at turn turning
turns-or-not sizes plan me st k = by (is_tick (new_epoch_of plan me st) k) (new_epoch_of plan me st)
  where
    by : (b : Bool) (next : Option ℕ) → (turning sizes plan me st b next ≡ st) ⊎ ((turning sizes plan me st b next).frame ≡ st.frame + 1)
    by false next = inl refl
    by true None = inl refl
    by true (Some epoch) = inr refl

-- Past the breaking stage.

later-frame : (f g : ℕ) {w : ℕ} (s slot stage q : ℕ) {b : ℕ} → b ≡ f * w + (3 * s + q) → q < 3 → w ≡ 3 * s + 5 → f + 1 ≤ g → suc b ≤ g * w + 3 * slot + stage - 1
later-frame f g {w} s slot stage q is small long more =
    let up : (f + 1) * w ≤ g * w = mul-le (f + 1) w g w more (omega arith) in
    let one : (f + 1) * w ≡ f * w + w = omega arith in
    omega (arith, is, small, long, up, one)

same-frame : (f w s slot stage q : ℕ) {b : ℕ} → b ≡ f * w + (3 * s + q) → 3 * s + q + 1 + 1 ≤ 3 * slot + stage → suc b ≤ f * w + 3 * slot + stage - 1
same-frame f w s slot stage q is late = omega (arith, is, late)

-- a core of the breaking frame that is past the stage, or of a later frame, stands in a moment by
-- which the run has ended
record IsLate (sc : Scenario) (hands : List HandIn) (me : Side) (b q : ℕ) (c : Core) : Type 0 where
  place : ((c.state.frame ≡ (moment sc hands b).frame) × (c.state.epoch + first_of sc.sizes sc.plan me c.state (3 * sync_slot_of sc.sizes + q + 1) ≤ c.had))
      ⊎ ((moment sc hands b).frame + 1 ≤ c.state.frame)

late-ended : {P : Type 0} {sc : Scenario} {hands : List HandIn} {me : Side} {b q : ℕ} {c : Core} → HasTicks sc.plan → BreaksAt sc hands b q → IsLate sc hands me b q c
    → IsRunning (own_moment sc hands me c) → P
late-ended {P} {sc} {hands} {me} {b} {q} {c} ticks off late running = absurd (no (turns-or-not sc.sizes sc.plan me c.state c.had) late.place)
  where
    s : ℕ
    s = sync_slot_of sc.sizes

    m : Moment
    m = moment sc hands b

    w : ℕ
    w = windows_in sc.sizes + 1

    y : NodeState
    y = ready_state sc me c

    small : q < 3
    small = off.small

    is : b ≡ m.frame * w + (3 * s + q)
    is = (number-of sc hands b).0 ∙ ap (λ n. m.frame * w + n) off.window

    ended : suc b ≤ y.frame * w + 3 * (open_window sc me c).slot + (open_window sc me c).stage - 1 → ⊥
    ended le =
        let not_past : y.frame * w + 3 * (open_window sc me c).slot + (open_window sc me c).stage - 1 ≤ b = breaks-later _ off running in
        absurd (omega (arith, le, not_past))

    beyond : m.frame + 1 ≤ y.frame → ⊥
    beyond more = ended (later-frame m.frame y.frame s (open_window sc me c).slot (open_window sc me c).stage q is small (omega arith) more)

    no : (y ≡ c.state) ⊎ (y.frame ≡ c.state.frame + 1)
        → ((c.state.frame ≡ m.frame) × (c.state.epoch + first_of sc.sizes sc.plan me c.state (3 * s + q + 1) ≤ c.had)) ⊎ (m.frame + 1 ≤ c.state.frame) → ⊥
    no (inr turned) (inl here) = let f = here.0 in beyond (omega (arith, turned, f))
    no (inr turned) (inr more) = beyond (omega (arith, turned, more))
    no (inl stays) (inr more) = beyond (subst (λ (z : NodeState). m.frame + 1 ≤ z.frame) (sym stays) more)
    no (inl stays) (inl here) =
        let f : y.frame ≡ m.frame = ap (λ (z : NodeState). z.frame) stays ∙ here.0 in
        let window : open_window sc me c ≡ window_here sc.sizes sc.plan me c.state c.had = ap (λ z. window_here sc.sizes sc.plan me z c.had) stays in
        let far : 3 * s + q + 1 + 1 ≤ 3 * (window_here sc.sizes sc.plan me c.state c.had).slot + (window_here sc.sizes sc.plan me c.state c.had).stage =
        at-or-later sc.sizes me c.state c.had (2 - q) (3 * s + q + 1) ticks (omega (arith, small)) here.1 in
        let late : 3 * s + q + 1 + 1 ≤ 3 * (open_window sc me c).slot + (open_window sc me c).stage =
        subst (λ (z : Window). 3 * s + q + 1 + 1 ≤ 3 * z.slot + z.stage) (sym window) far in
        let is_here : b ≡ y.frame * w + (3 * s + q) = is ∙ ap (λ f. f * w + (3 * s + q)) (sym f) in
        ended (same-frame y.frame w s (open_window sc me c).slot (open_window sc me c).stage q is_here late)

-- Nodes.

-- the node is in moment `b`, and has not had the last tick of its window
record IsStill (sc : Scenario) (hands : List HandIn) (me : Side) (i b : ℕ) (c : Core) : Type 0 where
  there : IsThere sc hands me i b c
  st : NodeState
  state : slice_get (of_kind me (moment sc hands b).nodes) i ≡ Some st
  had : c.had ≤ last_tick sc (moment sc hands b) me st

of-hearing : {sc : Scenario} {hands : List HandIn} {sent : Side → ℕ → ℕ → Bool} {now : ℕ} {me : Side} {i p : ℕ} {s : Site} → HasTicks sc.plan → WaitsHearing sc hands sent now me i p s
    → IsStill sc hands me i p s.core
of-hearing {sc} {hands} {me} {i} {p} {s} ticks h =
    let stands : StandsIn sc hands me i p s.core h.st h.a.tick = record {
      state = h.stands.state;
      good = h.stands.good;
      stands = h.stands.stands;
      from = h.stands.from;
      later = h.stands.receives.is_next.later;
    } in
    record {
      there = is-there ticks stands;
      st = h.st;
      state = h.stands.state;
      had = let later = h.stands.receives.is_next.later in let to = h.stands.stands.at.to in omega (arith, later, to);
    }

of-deaf : {sc : Scenario} {hands : List HandIn} {me : Side} {i p : ℕ} {s : Site} → HasTicks sc.plan → WaitsDeaf sc hands me i p s → IsStill sc hands me i p s.core
of-deaf {sc} {hands} {me} {i} {p} {s} ticks h =
    let stands : StandsIn sc hands me i p s.core h.st h.a.tick = record { state = h.state; good = h.good; stands = h.stands; from = h.from; later = h.had } in
    record {
      there = is-there ticks stands;
      st = h.st;
      state = h.state;
      had = let later = h.had in let to = h.stands.at.to in omega (arith, later, to);
    }

closed-late : {sc : Scenario} {hands : List HandIn} {me : Side} {i b q : ℕ} {s : Site} → HasTicks sc.plan → BreaksAt sc hands b q → HasClosed sc hands me i b s → IsLate sc hands me b q s.core
closed-late {sc} {hands} {me} {i} {b} {s} ticks off h =
    let frame : h.st.frame ≡ (moment sc hands b).frame = ((moments-stand sc hands b ticks).stands me i h.st h.state h.good).frame in
    record {
      place = inl (h.course.past.in_frame ∙ frame, subst (λ n. s.core.state.epoch + first_of sc.sizes sc.plan me s.core.state (n + 1) ≤ s.core.had) off.window h.course.past.from);
    }

told-late : {sc : Scenario} {hands : List HandIn} {me : Side} {i b : ℕ} {s : Site} {a : Timed} → HasTicks sc.plan → BreaksAt sc hands b 2 → HasToldLast sc hands me i b s → s.ahead ≡ Some a
    → IsLate sc hands me b 2 s.core
told-late {sc} {hands} {me} {i} {b} {s} {a} ticks off h pends =
    let frame : h.st.frame ≡ (moment sc hands b).frame = ((moments-stand sc hands b ticks).stands me i h.st h.state h.good).frame in
    let next : AwaitsNext sc me i h.st h.course.x s.core a = h.course.ahead a pends in
    elim next.after [
      | inl tail ↦
          let t = tail.0 in
          let epoch = t.epoch in
          let from = t.from in
          let first = tail-first sc.sizes sc.plan me s.core.state in
          let same : 3 * sync_slot_of sc.sizes + 2 + 1 ≡ stages_in sc.sizes = omega arith in
          let le : s.core.state.epoch + first_of sc.sizes sc.plan me s.core.state (stages_in sc.sizes) ≤ s.core.had = omega (arith, epoch, from, first) in
          record { place = inl (t.in_frame ∙ frame, subst (λ n. s.core.state.epoch + first_of sc.sizes sc.plan me s.core.state n ≤ s.core.had) (sym same) le) }
      | inr turned ↦ let f = turned.in_frame in record { place = inr (omega (arith, f, frame)) }
    ]

-- a node that goes on by the course of stage q has left the stage
course-late : {sc : Scenario} {hands : List HandIn} {b : ℕ} (q : ℕ) {me : Side} {i : ℕ} {s : Site} {a : Timed} → HasTicks sc.plan → BreaksAt sc hands b q → s.ahead ≡ Some a → HasTold sc hands (course_of sc q) me i b s
    → IsLate sc hands me b q s.core
course-late zero ticks off pends told = closed-late ticks off told
course-late (suc zero) ticks off pends told = closed-late ticks off told
course-late (suc (suc zero)) ticks off pends told = told-late ticks off told pends
course-late (suc (suc (suc q))) ticks off pends told = absurd (let small = off.small in omega (arith, small))

-- `IsStill` holds for a node in a moment of the run
any-node : {sc : Scenario} {hands : List HandIn} {sent : Side → ℕ → ℕ → Bool} {b q : ℕ} {me : Side} {i : ℕ} {s : Site} {a : Timed} → HasTicks sc.plan → BreaksAt sc hands b q → s.runs ≡ true
    → s.ahead ≡ Some a → SiteBreaks sc hands (course_of sc q) sent b me i s → IsRunning (own_moment sc hands me s.core) → IsStill sc hands me i b s.core
any-node ticks off runs pends (inl stopped) running = true-false (sym runs ∙ stopped.runs)
any-node ticks off runs pends (inr (inl ahead)) running = of-hearing ticks ahead.waits
any-node ticks off runs pends (inr (inr (inl deaf))) running = of-deaf ticks deaf
any-node {q} ticks off runs pends (inr (inr (inr told))) running = late-ended ticks off (course-late q ticks off pends told) running

-- Worlds.

-- a node that runs was good there
good-there : {sc : Scenario} → IsLawful sc → {q : ℕ} {w : World} {b : ℕ} (sent : Side → ℕ → ℕ → Bool) → BreaksAt sc w.hands b q → nodes_at sc q w.hands b sent w.sites
    → {me : Side} (node : RunningNode w me) → is_good_at sc (moment sc w.hands b) me node.index ≡ true
good-there lawful {q} {w} {b} sent off h {me} node = elim ((keeps lawful q off.small).goes w.hands b off sent w.sites h me node.index node.site node.there) [
  | inl stopped ↦ true-false (sym node.runs ∙ stopped.runs)
  | inr good ↦ good
]

past : (sc : Scenario) → IsLawful sc → (q : ℕ) (w : World) (b : ℕ) (sent : Side → ℕ → ℕ → Bool) → BreaksAt sc w.hands b q → nodes_at sc q w.hands b sent w.sites → PortsBreak sc w
    → FollowsTheRounds sc w
past sc lawful q w b sent off h ports = record {
  cores = λ me node running.
      let still : IsStill sc w.hands me node.index b node.site.core = any-node (has_ticks lawful) off node.runs node.pends (h me node.index node.site node.there) running in
      subst (λ (m : Moment). HoldsTheState sc m me node.index node.site.core) (sym still.there.moment_is) still.there.holds;
  ports = λ node running.
      let still : IsStill sc w.hands Biu node.index b node.site.core = any-node (has_ticks lawful) off node.runs node.pends (h Biu node.index node.site node.there) running in
      elim (ports b q off node.index node.site node.there (good-there lawful sent off h node)) [
        | inl waits ↦ waits.port ∙ ap (λ (m : Moment). port_at sc m.ports node.index) (sym still.there.moment_is)
        | inr last ↦
            let had : last_tick sc (moment sc w.hands b) Biu still.st < node.site.core.had = last still.st still.state in
            let le = still.had in
            absurd (omega (arith, had, le))
      ];
}

follows : {sc : _} → IsLawful sc → {w : _} → AnyWorld sc (nodes_at sc) w → FollowsTheRounds sc w
follows {sc} lawful {w} (inl run) =
    let h : HoldsTheRounds sc w = run-holds lawful run.stands in
    record { cores = λ me node running. h.cores me node; ports = λ node running. h.ports node }
follows {sc} lawful {w} (inr (inl off)) = let k = off.stands in past sc lawful k.q w k.b k.sent k.off k.nodes.nodes off.ports
follows {sc} lawful {w} (inr (inr over)) = past sc lawful over.q w over.b over.sent over.off over.nodes over.ports

pub cores-follow : CoresFollowTheRounds
cores-follow sc lawful choices = follows lawful (any lawful choices)
