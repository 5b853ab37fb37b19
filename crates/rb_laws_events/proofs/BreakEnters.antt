-- For the law that events are rounds if the premise on faults is broken in a sync slot: once a good
-- node closes a stage of the sync slot, all others that stand in it wait for its last tick; and at
-- that tick they tell what the rounds tell.
use Rattle.std.proofs.{Common.{◌≡◌, ℕ, ◌+◌, ◌*◌, ◌<◌, ◌≤◌, ◌==◌, ◌⊎◌, Bool, true, false, List, [], refl, ap, sym, ◌∙◌, subst, arith, inl, inr, Some, slice_get}, lemmas.Bool.cases_lt, lemmas.Bool.Decides.nat_tests}
use Rattle.rb_base.specs.{Nodes.{Side, other}, Sizes.sync_slot_of}
use Rattle.rb_base.proofs.Plain.{true-false}
use Rattle.rb_rules.specs.{declared.role.Role.TheVariants.Sync, declared.plan.Window.Window, Book.of_kind, Clock.time_of, Core.{Act, Core}, Goodness.{Scenario, clock_of}, Lawful.IsLawful, Moments.IsRunning, NodeState.NodeState, Ports.{HandIn, PortState}, Rounds.{Moment, go_through, moment, sent_in, window_in}, Slots.listens, WorldStep.{Site, Timed, after_act, pass_and_tick}}
use Rattle.rb_rules.proofs.{Drift.times_rise_to, RoundStates.Stays}
use Rattle.rb_laws_agreement.proofs.NodeWindows.{sync_windows_are}
use Rattle.rb_laws_events.proofs.{BreachMiddles.next-after, BreachSends.sent-before, BreakSites.{HasClosed, WaitsDeaf, WaitsHearing, closes-told}, FrameTimes.good-node, Invariant.{NodeStands, entry_of, is_good_at, last_tick, sending_of, word_at}, LastCloses.shows-heard, NodeActs.{HasRoom, HasWord}, NodeMoves.{after-stays, first-alike}, PastTicks.IsPast, SameHeard.Every, SentAlready.waits-for-last, SentChanges.sending-of-is, StageOrder.last_of, TickWindows.{ends-before-later, first_of}}

-- the tick is due, and some good node has its last tick of the stage no earlier
pub record TickBreaks (sc : Scenario) (hands : List HandIn) (sent : Side → ℕ → ℕ → Bool) (ports : List PortState) (p : ℕ) (me : Side) (i : ℕ) (s : Site) (a : Timed) : Type 0 where
  pub pend : s.ahead ≡ Some a
  pub later : Every (λ c. a.time < c.time) s.coming
  pub you : Side
  pub j : ℕ
  pub yours : NodeState
  pub there : slice_get (of_kind you (moment sc hands p).nodes) j ≡ Some yours
  pub good : is_good_at sc (moment sc hands p) you j ≡ true
  pub first : a.time ≤ time_of (clock_of sc you j) (last_tick sc (moment sc hands p) you yours)
  pub frame : (st : NodeState) → slice_get (of_kind me (moment sc hands p).nodes) i ≡ Some st → is_good_at sc (moment sc hands p) me i ≡ true → st.frame ≡ (moment sc hands p).frame
  pub words : (st : NodeState) → slice_get (of_kind me (moment sc hands p).nodes) i ≡ Some st → HasWord sc ports me i st (moment sc hands p).window (word_at sc (moment sc hands p) me i st)
  pub all_sent : (n : ℕ) → is_good_at sc (moment sc hands p) (other me) n ≡ true → (sent (other me) n p ≡ true) ⊎ (entry_of sc (moment sc hands p) me i n ≡ [])

-- what a good node sends in the stage has gone out by the time of the last tick of another
pub sent-then : {sc : _} (hands : List HandIn) → IsLawful sc → (p q : ℕ) → IsRunning (moment sc hands p) → q < 3 → (moment sc hands p).window ≡ 3 * sync_slot_of sc.sizes + q
    → (me : Side) (i : ℕ) {st : _} → slice_get (of_kind me (moment sc hands p).nodes) i ≡ Some st → is_good_at sc (moment sc hands p) me i ≡ true
    → (you : Side) (j : ℕ) {yours : _} → slice_get (of_kind you (moment sc hands p).nodes) j ≡ Some yours → is_good_at sc (moment sc hands p) you j ≡ true
    → (a : Timed) → a.time ≡ time_of (clock_of sc me i) a.tick → time_of (clock_of sc you j) (last_tick sc (moment sc hands p) you yours) ≤ a.time
    → {s : _} → sending_of sc (moment sc hands p) me i ≡ Some s → s.tick < a.tick
sent-then {sc} hands lawful p q running small at me i there good you j {yours} there2 good2 a at_time le {s} e =
    let come : time_of (clock_of sc me i) s.tick + sc.plan.dmax ≤ time_of (clock_of sc you j) (last_tick sc (moment sc hands p) you yours) =
    sent-before hands lawful p q running small at you j there2 good2 me i there good s e in
    let some = lawful.plan.dmin in
    elim (cases_lt s.tick a.tick) [
      | inl lt ↦ lt
      | inr ge ↦
          let up : time_of (clock_of sc me i) a.tick ≤ time_of (clock_of sc me i) s.tick = times_rise_to (clock_of sc me i) a.tick s.tick ge in
          absurd (omega (arith, come, some.0, some.1, up, at_time, le))
    ]

-- a node that is in the stage waits for its last tick
pub waits-then : {sc hands : _} → IsLawful sc → HasRoom sc.plan → {sent now p : _} (q : ℕ) → IsRunning (moment sc hands p) → q < 3
    → (moment sc hands p).window ≡ 3 * sync_slot_of sc.sizes + q → {me i s st a : _} → NodeStands sc hands sent now me i p s st a
    → (you : Side) (j : ℕ) {yours : _} → slice_get (of_kind you (moment sc hands p).nodes) j ≡ Some yours → is_good_at sc (moment sc hands p) you j ≡ true
    → time_of (clock_of sc you j) (last_tick sc (moment sc hands p) you yours) ≤ a.time
    → WaitsHearing sc hands sent now me i p s ⊎ WaitsDeaf sc hands me i p s
waits-then {sc} {hands} lawful room {sent} {now} {p} q running small at {me} {i} {s} {st} {a} h you j there2 good2 le =
    by (listens me Sync (window_in sc m me st).stage) refl
  where
    m : Moment
    m = moment sc hands p

    begun : st.epoch < a.tick
    begun =
        let shape = lawful.sizes.some_biu in
        let first : last_of sc.sizes sc.plan me st 0 < first_of sc.sizes sc.plan me st m.window = ends-before-later sc.sizes me st 0 m.window room.ticks (omega (arith, at, shape)) (omega arith) in
        let from : st.epoch + first_of sc.sizes sc.plan me st m.window ≤ a.tick = h.stands.at.from in
        omega (arith, first, from)

    last : a.tick ≡ last_tick sc m me st
    last =
        waits-for-last room h.stands h.receives.is_next.busy begun
        (λ x e. sent-then hands lawful p q running small at me i h.state h.good you j there2 good2 a h.receives.at_time le (sending-of-is sc m me i h.state ∙ e))

    by : (b : Bool) → listens me Sync (window_in sc m me st).stage ≡ b → WaitsHearing sc hands sent now me i p s ⊎ WaitsDeaf sc hands me i p s
    by true e = inl (record { st = st; a = a; stands = h; hears = e; last = last })
    by false e = inr (record {
      st = st;
      a = a;
      state = h.state;
      good = h.good;
      slot = ap (λ (w : Window). w.slot) ((sync_windows_are sc m q small at).are me st);
      deaf = e;
      stands = h.stands;
      from = h.from;
      had = h.receives.is_next.later;
      small = h.receives.is_next.below;
      pends = h.receives.pends;
      at_time = h.receives.at_time;
      last = last;
    })

pub stage-four : (sc : Scenario) (m : Moment) (q : ℕ) → q < 3 → m.window ≡ 3 * sync_slot_of sc.sizes + q → (me : Side) (st : NodeState) → ((window_in sc m me st).stage == 4) ≡ false
stage-four sc m q small at me st = ap (λ (w : Window). w.stage == 4) ((sync_windows_are sc m q small at).are me st) ∙ differs (q + 1) (omega arith)
  where
    differs : (a : ℕ) → a < 4 → (a == 4) ≡ false
    differs a h = grind (arith, nat_tests)

-- a node that listens has told its row after that tick
pub hearing-closes : {sc hands : _} → IsLawful sc → HasRoom sc.plan → {sent now : _} (ports : List PortState) {p : ℕ} (q : ℕ) → IsRunning (moment sc hands p) → q < 3
    → (moment sc hands p).window ≡ 3 * sync_slot_of sc.sizes + q → {me i s : _} → (h : WaitsHearing sc hands sent now me i p s) → h.st.frame ≡ (moment sc hands p).frame
    → ((j : ℕ) → is_good_at sc (moment sc hands p) (other me) j ≡ true → (sent (other me) j p ≡ true) ⊎ (entry_of sc (moment sc hands p) me i j ≡ []))
    → HasWord sc ports me i h.st (moment sc hands p).window (word_at sc (moment sc hands p) me i h.st)
    → Every (λ c. h.a.time < c.time) s.coming
    → HasClosed sc hands me i p (after_act sc ports me i (pass_and_tick sc ports me i h.a.tick s.core) s)
hearing-closes {sc} {hands} lawful room ports {p} q running small at {me} {i} {s} h frame all_sent words later =
    let m : Moment = moment sc hands p in
    let st : NodeState = h.st in
    let x : Act = pass_and_tick sc ports me i h.a.tick s.core in
    let shows = shows-heard ports room frame all_sent words later h.last h.stands in
    let end : NodeState = (go_through sc m (sent_in sc m) me i st (window_in sc m me st)).state in
    let stays : Stays st end = after-stays sc m me i st in
    let epoch : end.epoch ≡ st.epoch = stays.epoch in
    let had : x.core.had ≡ h.a.tick + 1 = ap (λ (c : Core). c.had) shows.0.act.core in
    let first : first_of sc.sizes sc.plan me end (m.window + 1) ≡ last_of sc.sizes sc.plan me st m.window + 1 = first-alike sc.sizes me st end m.window room.ticks (omega (arith, at, small)) in
    closes-told hands ports p h.stands.state h.stands.good shows.0 (stage-four sc m q small at me st)
    (subst (λ z. IsPast sc.sizes sc.plan me st.frame st.epoch (m.window + 1) z x.core.had) (sym shows.1) (record {
      in_frame = stays.frame;
      epoch = stays.epoch;
      from = let last : h.a.tick ≡ last_tick sc m me st = h.last in omega (arith, first, epoch, had, last);
      next = λ k known.
          let low = next-after hands lawful p q running small at (good-node sc m me i h.stands.state h.stands.good) known in
          omega (arith, low, epoch);
    }))
    (λ deaf. absurd (true-false (sym h.hears ∙ deaf)))
