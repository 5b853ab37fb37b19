-- For the law that events are rounds if the premise on faults is broken in a sync slot: the last
-- tick of a window at a node, with nothing known of what comes after. If all that was sent to the
-- node has come, or if the node does not listen, it shows what the rounds tell of the window.
use Rattle.std.proofs.{Common.{◌≡◌, ℕ, ◌+◌, ◌^◌, ◌<◌, ◌≤◌, ◌==◌, ◌&&◌, ◌⊎◌, nat_le, Bool, true, false, List, [], map, ap, sym, ◌∙◌, subst, arith, Some, None}, lemmas.Bool.le-leb, lemmas.Bool.Decides.nat_tests}
use Rattle.rb_base.specs.{Nodes.{Side, other}, Sizes.{Sizes, sync_slot_of}}
use Rattle.rb_rules.specs.{declared.closing.Closed.Closed as Shown, declared.plan.Plan.Plan, declared.plan.Window.Window, declared.role.Role.TheVariants.Sync, declared.sense.Sense.Sense, Clock.{Timeline, time_of}, Core.{Act, Core, of_source, pass_to}, ExactStage.{Outcome, close_exact}, Goodness.{Scenario, clock_of, is_good}, Hearing.{Coming, arrival_of, close_window, row_of, span_of}, NodeState.NodeState, NodeSteps.expect_of, Ports.{HandIn, PortState}, Rounds.{Moment, Result, close_on, go_through, heard_at, moment, sent_in, window_in}, Sense.{Arrival, sense_of}, Slots.listens, SyncStage.close_sync, WorldStep.{Site, Timed, coming_from, pass_and_tick}}
use Rattle.rb_laws_events.proofs.{ClosingTicks.{HoldsHeard, closing_of, result-is, spoken}, DeafCloses.{deaf-row, silent_row}, Invariant.{NodeStands, ahead_so_far, entry_of, heard_so_far, is_good_at, last_tick, next_stage, word_at}, NodeActs.{ActsClose, HasRoom, HasWord, IsInWindow, acts-close}, NodeCloses.{all-here, heard-all}, Receiving.Receives, RoundNodes.slot-is, SameHeard.{AllOf, Every}, StageOrder.last_of, TickWindows.first_of}

-- what the tick shows is what the rounds tell of the window
pub record ShowsRounds (sc : Scenario) (m : Moment) (me : Side) (i : ℕ) (st : NodeState) (s : Site) (k : ℕ) (x : Act) : Type 0 where
  pub shown : Shown
  pub closed : x.closed ≡ Some shown
  pub row : (go_through sc m (sent_in sc m) me i st (window_in sc m me st)).row ≡ Some (row_of me i x.core.state (coming_from s.got) shown)
  pub act : ActsClose sc me i st m.window (word_at sc m me i st) k (pass_to k s.core) x

-- a node that listens shows what the rounds tell, once all has come
pub shows-heard : {sc : Scenario} {hands : List HandIn} {sent : Side → ℕ → ℕ → Bool} {now : ℕ} (ports : List PortState) {me : Side} {i p : ℕ} {s : Site} {st : NodeState} {a : Timed}
    → HasRoom sc.plan → st.frame ≡ (moment sc hands p).frame
    → ((j : ℕ) → is_good_at sc (moment sc hands p) (other me) j ≡ true → (sent (other me) j p ≡ true) ⊎ (entry_of sc (moment sc hands p) me i j ≡ []))
    → HasWord sc ports me i st (moment sc hands p).window (word_at sc (moment sc hands p) me i st)
    → Every (λ c. a.time < c.time) s.coming → a.tick ≡ last_tick sc (moment sc hands p) me st → NodeStands sc hands sent now me i p s st a
    → ShowsRounds sc (moment sc hands p) me i st s a.tick (pass_and_tick sc ports me i a.tick s.core)
    × ((pass_and_tick sc ports me i a.tick s.core).core.state ≡ (go_through sc (moment sc hands p) (sent_in sc (moment sc hands p)) me i st (window_in sc (moment sc hands p) me st)).state)
unfolding pass_and_tick
shows-heard {sc} {hands} {sent} {now} ports {me} {i} {p} {s} {st} {a} room frame all_sent words later last h =
    let m : Moment = moment sc hands p in
    let n : ℕ = m.window in
    let word : ℕ = word_at sc m me i st in
    let clock : Timeline = clock_of sc me i in
    let w : Window = window_in sc m me st in
    let t : ℕ = time_of clock (last_tick sc m me st) in
    let c : Core = pass_to a.tick s.core in
    let heard : ℕ → List Coming = heard_so_far sc m me i (span_of st w) (λ j. sent (other me) j p) in
    let ahead : ℕ → List Coming = ahead_so_far sc (moment sc hands (next_stage sc.sizes m p)) me i (λ j. sent (other me) j (next_stage sc.sizes m p)) in
    let r : Receives sc me i (last_tick sc m me st) heard ahead now s a = h.receives in
    let le : s.core.had ≤ a.tick = r.is_next.later in
    let had : c.had ≡ a.tick = omega arith in
    let small : a.tick < 2 ^ 31 = r.is_next.below in
    let stands : IsInWindow sc.sizes sc.plan me i st n word c.had c.state = subst (λ k. IsInWindow sc.sizes sc.plan me i st n word k s.core.state) (sym had) h.stands in
    let x : Act = pass_and_tick sc ports me i a.tick s.core in
    let acts : ActsClose sc me i st n word a.tick c x =
    subst (λ k. ActsClose sc me i st n word k c x) had (acts-close ports c room stands (omega arith) words (had ∙ last)) in
    let at_last : a.time ≡ t = r.at_time ∙ ap (time_of clock) last in
    let after : Every (λ c. t < c.time) s.coming = subst (λ u. Every (λ c. u < c.time) s.coming) at_last later in
    let from : st.epoch + first_of sc.sizes sc.plan me st n ≤ a.tick = h.stands.at.from in
    let some : first_of sc.sizes sc.plan me st n ≤ last_of sc.sizes sc.plan me st n = omega arith in
    let holds : HoldsHeard sc m (sent_in sc m) me i st w s.core.inbox s.got = record {
      good = ap (is_good sc me i m.frame) (slot-is sc.sizes sc.plan me st n) ∙ h.good;
      some_tick = le-leb w.first w.last some;
      stamped = r.inbox;
      all = λ j. subst (AllOf (coming_from s.got j)) (heard-all sc m me i j st (λ j. sent (other me) j p) frame (all_sent j))
          (all-here after (r.hears j));
    } in
    let outcome : Outcome = closing_of sc m me i st w s.core.inbox in
    let result : Result = record { state = outcome.state; row = Some (row_of me i outcome.state (coming_from s.got) outcome.closed) } in
    let is : go_through sc m (sent_in sc m) me i st w ≡ result = result-is holds in (
      record {
        shown = outcome.closed;
        closed = acts.closed;
        row = ap (λ (r : Result). r.row) is ∙ ap (λ z. Some (row_of me i z (coming_from s.got) outcome.closed)) (sym (ap (λ (c : Core). c.state) acts.core));
        act = acts;
      },
      ap (λ (c : Core). c.state) acts.core ∙ sym (ap (λ (r : Result). r.state) is),
    )

-- the row of a close in which a node does not listen
deaf-window : (sizes : Sizes) (plan : Plan) (me : Side) (i : ℕ) (st : NodeState) (w : Window) (arrivals : ℕ → List Arrival) (heard : ℕ → List Coming)
    → w.slot ≡ sync_slot_of sizes → listens me Sync w.stage ≡ false
    → row_of me i (close_window sizes plan me i st w arrivals).state heard (close_window sizes plan me i st w arrivals).closed ≡ silent_row sizes me st w.stage
deaf-window sizes plan me i st w arrivals heard slot deaf =
    ap (λ (x : Outcome). row_of me i x.state heard x.closed) (ap outcome (same-is w.slot (sync_slot_of sizes) slot))
    ∙ deaf-row sizes me i st w.stage (st.epoch + w.first) sense heard deaf
  where
    sense : ℕ → Sense
    sense j = sense_of (expect_of sizes plan.version st w.slot w.stage) (arrivals j)

    outcome : Bool → Outcome
    outcome b = elim b as (λ _. Outcome) [
      | true ↦ close_sync sizes me st w.stage (st.epoch + w.first) sense
      | false ↦ close_exact sizes me i st w.slot w.stage sense
    ]

    same-is : (a b : ℕ) → a ≡ b → (a == b) ≡ true
    same-is a b h = grind (arith, nat_tests)

deaf-through : (sc : Scenario) (m : Moment) (me : Side) (i : ℕ) (st : NodeState) → is_good sc me i m.frame (window_in sc m me st).slot ≡ true
    → nat_le (window_in sc m me st).first (window_in sc m me st).last ≡ true → (window_in sc m me st).slot ≡ sync_slot_of sc.sizes → listens me Sync (window_in sc m me st).stage ≡ false
    → (go_through sc m (sent_in sc m) me i st (window_in sc m me st)).row ≡ Some (silent_row sc.sizes me (spoken sc m me i st (window_in sc m me st)) (window_in sc m me st).stage)
unfolding go_through close_on
deaf-through sc m me i st good tick slot deaf =
    let w : Window = window_in sc m me st in
    let kept : NodeState = spoken sc m me i st w in
    let heard : ℕ → List Coming = heard_at sc me i st w (sent_in sc m) in
    let both : (is_good sc me i m.frame w.slot && nat_le w.first w.last) ≡ true = ap (λ b. b && nat_le w.first w.last) good ∙ tick in
    ap (λ b. (elim b as (λ _. Result) [ true ↦ close_on sc me i kept w heard | false ↦ record { state = st; row = None } ]).row) both
    ∙ ap (λ r. Some r) (deaf-window sc.sizes sc.plan me i kept w (λ j. map (arrival_of (clock_of sc me i)) (heard j)) heard slot deaf)

-- a node that does not listen shows what the rounds tell, whatever has come
pub shows-deaf : {sc : Scenario} (m : Moment) (ports : List PortState) {me : Side} {i : ℕ} (s : Site) {st : NodeState} {k : ℕ}
    → HasRoom sc.plan → is_good_at sc m me i ≡ true → IsInWindow sc.sizes sc.plan me i st m.window (word_at sc m me i st) k s.core.state → s.core.had ≤ k → k < 2 ^ 31
    → HasWord sc ports me i st m.window (word_at sc m me i st) → k ≡ last_tick sc m me st
    → (window_in sc m me st).slot ≡ sync_slot_of sc.sizes → listens me Sync (window_in sc m me st).stage ≡ false
    → ShowsRounds sc m me i st s k (pass_and_tick sc ports me i k s.core)
unfolding pass_and_tick
shows-deaf {sc} m ports {me} {i} s {st} {k} room good stood le small words last slot deaf =
    let n : ℕ = m.window in
    let word : ℕ = word_at sc m me i st in
    let w : Window = window_in sc m me st in
    let c : Core = pass_to k s.core in
    let had : c.had ≡ k = omega arith in
    let stands : IsInWindow sc.sizes sc.plan me i st n word c.had c.state = subst (λ k. IsInWindow sc.sizes sc.plan me i st n word k s.core.state) (sym had) stood in
    let x : Act = pass_and_tick sc ports me i k s.core in
    let acts : ActsClose sc me i st n word k c x =
    subst (λ k. ActsClose sc me i st n word k c x) had (acts-close ports c room stands (omega arith) words (had ∙ last)) in
    let from : st.epoch + first_of sc.sizes sc.plan me st n ≤ k = stood.at.from in
    let some : first_of sc.sizes sc.plan me st n ≤ last_of sc.sizes sc.plan me st n = omega arith in
    let outcome : Outcome = closing_of sc m me i st w s.core.inbox in
    let rounds : (go_through sc m (sent_in sc m) me i st w).row ≡ Some (silent_row sc.sizes me (spoken sc m me i st w) w.stage) =
    deaf-through sc m me i st (ap (is_good sc me i m.frame) (slot-is sc.sizes sc.plan me st n) ∙ good) (le-leb w.first w.last some) slot deaf in
    let shown : row_of me i outcome.state (coming_from s.got) outcome.closed ≡ silent_row sc.sizes me (spoken sc m me i st w) w.stage =
    deaf-window sc.sizes sc.plan me i (spoken sc m me i st w) w (of_source s.core.inbox) (coming_from s.got) slot deaf in
    record {
      shown = outcome.closed;
      closed = acts.closed;
      row = rounds ∙ ap (λ r. Some r) (sym shown) ∙ ap (λ z. Some (row_of me i z (coming_from s.got) outcome.closed)) (sym (ap (λ (c : Core). c.state) acts.core));
      act = acts;
    }
