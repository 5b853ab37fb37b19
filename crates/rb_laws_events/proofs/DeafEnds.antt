-- For the law that events are rounds if the premise on faults is broken in a sync slot: a node that
-- does not listen in a stage of the sync slot tells what the rounds tell at its last tick, whatever
-- came to it, and closes nothing before the last tick of the next window.
use Rattle.std.proofs.{Common.{◌≡◌, ℕ, ◌+◌, ◌*◌, ◌<◌, ◌==◌, Bool, true, false, List, ap, sym, ◌∙◌, subst, arith}, lemmas.Bool.Decides.nat_tests}
use Rattle.rb_base.specs.{Nodes.Side, Sizes.{Sizes, sync_slot_of}}
use Rattle.rb_rules.specs.{declared.plan.Plan.Plan, declared.plan.Window.Window, declared.role.Role.TheVariants.Sync, declared.sense.Sense.Sense, Core.{Act, Core, of_source}, ExactStage.{Outcome, close_exact}, Goodness.Scenario, Hearing.close_window, NodeState.NodeState, NodeSteps.expect_of, Ports.{HandIn, PortState}, Rounds.{Moment, moment, window_in, word_for_window}, Sense.{Arrival, sense_of}, Slots.listens, Standing.{has_evidence, with_evidence}, SyncStage.{close_sync, expects_call}, WorldStep.{Site, after_act, pass_and_tick}}
use Rattle.rb_rules.proofs.RoundStates.{Stays, keeping-stays}
use Rattle.rb_laws_agreement.proofs.NodeWindows.{sync_windows_are}
use Rattle.rb_laws_events.proofs.{BreakSites.{HasClosed, WaitsDeaf, closes-told}, ClosingTicks.{closing_of, spoken}, DeafCloses.deaf-state, Invariant.{last_tick, word_at}, LastCloses.{ShowsRounds, shows-deaf}, NodeActs.{HasRoom, HasWord}, NodeMoves.first-alike, NodeSends.KeepsTime, NodeTicks.{like-keeps, like-kept}, PastTicks.IsPast, SilentThere.deaf-keeps, StageOrder.last_of, TickWindows.first_of}

-- the close leaves the frame and the epoch, and the node still keeps time
pub record LeavesTimes (sizes : Sizes) (plan : Plan) (me : Side) (st now : NodeState) : Type 0 where
  pub frame : now.frame ≡ st.frame
  pub epoch : now.epoch ≡ st.epoch
  pub keeps : KeepsTime sizes plan me now

deaf-leaves : {sizes plan me : _} (i : ℕ) {st : _} (w : Window) (arrivals : ℕ → List Arrival) → w.slot ≡ sync_slot_of sizes → listens me Sync w.stage ≡ false
    → KeepsTime sizes plan me st → LeavesTimes sizes plan me st (close_window sizes plan me i st w arrivals).state
deaf-leaves {sizes} {plan} {me} i {st} w arrivals slot deaf keeps =
    subst (λ b. LeavesTimes sizes plan me st (outcome b).state) (sym (same-is w.slot (sync_slot_of sizes) slot)) (record {
      frame = ap (λ (s : NodeState). s.frame) state;
      epoch = ap (λ (s : NodeState). s.epoch) state;
      keeps = deaf-keeps w.stage (st.epoch + w.first) sense deaf keeps;
    })
  where
    sense : ℕ → Sense
    sense j = sense_of (expect_of sizes plan.version st w.slot w.stage) (arrivals j)

    outcome : Bool → Outcome
    outcome b = elim b as (λ _. Outcome) [
      | true ↦ close_sync sizes me st w.stage (st.epoch + w.first) sense
      | false ↦ close_exact sizes me i st w.slot w.stage sense
    ]

    state : (close_sync sizes me st w.stage (st.epoch + w.first) sense).state ≡ record st { far = with_evidence (has_evidence st.far (expects_call me st w.stage) sense) st.far }
    state = deaf-state sizes me st w.stage (st.epoch + w.first) sense deaf

    same-is : (a b : ℕ) → a ≡ b → (a == b) ≡ true
    same-is a b h = grind (arith, nat_tests)

-- the node has told its row after its last tick, and its next frame, as far as it knows when,
-- begins after all stages of this one
pub deaf-closes : {sc : Scenario} {hands : List HandIn} → HasRoom sc.plan → (ports : List PortState) {p : ℕ} (q : ℕ) → q < 3
    → (moment sc hands p).window ≡ 3 * sync_slot_of sc.sizes + q → {me : Side} {i : ℕ} {s : Site} → (h : WaitsDeaf sc hands me i p s)
    → HasWord sc ports me i h.st (moment sc hands p).window (word_at sc (moment sc hands p) me i h.st)
    → HasClosed sc hands me i p (after_act sc ports me i (pass_and_tick sc ports me i h.a.tick s.core) s)
deaf-closes {sc} {hands} room ports {p} q small at {me} {i} {s} h words =
    let m : Moment = moment sc hands p in
    let st : NodeState = h.st in
    let w : Window = window_in sc m me st in
    let x : Act = pass_and_tick sc ports me i h.a.tick s.core in
    let shows : ShowsRounds sc m me i st s h.a.tick x = shows-deaf m ports s room h.good h.stands h.had h.small words h.last h.slot h.deaf in
    let kept : NodeState = spoken sc m me i st w in
    let keeps : KeepsTime sc.sizes sc.plan me kept = like-keeps (like-kept sc.sizes sc.plan me i st w.slot w.stage (word_for_window sc m i w)) h.stands.keeps in
    let end : NodeState = (closing_of sc m me i st w s.core.inbox).state in
    let leaves : LeavesTimes sc.sizes sc.plan me kept end = deaf-leaves i w (of_source s.core.inbox) h.slot h.deaf keeps in
    let said : Stays st kept = keeping-stays sc.sizes me i st w.slot w.stage (word_for_window sc m i w) in
    let state : x.core.state ≡ end = ap (λ (c : Core). c.state) shows.act.core in
    let had : x.core.had ≡ h.a.tick + 1 = ap (λ (c : Core). c.had) shows.act.core in
    let epoch : end.epoch ≡ st.epoch = leaves.epoch ∙ said.epoch in
    let first : first_of sc.sizes sc.plan me end (m.window + 1) ≡ last_of sc.sizes sc.plan me st m.window + 1 = first-alike sc.sizes me st end m.window room.ticks (omega (arith, at, small)) in
    let past : IsPast sc.sizes sc.plan me st.frame st.epoch (m.window + 1) end x.core.had = record {
      in_frame = leaves.frame ∙ said.frame;
      epoch = epoch;
      from = let last : h.a.tick ≡ last_tick sc m me st = h.last in omega (arith, first, epoch, had, last);
      next = leaves.keeps.next;
    } in
    (closes-told hands ports p h.state h.good shows (ap (λ (w : Window). w.stage == 4) ((sync_windows_are sc m q small at).are me st) ∙ differs (q + 1) (omega arith))
    (subst (λ z. IsPast sc.sizes sc.plan me st.frame st.epoch (m.window + 1) z x.core.had) (sym state) past)
    (λ deaf. subst (KeepsTime sc.sizes sc.plan me) (sym state) leaves.keeps))
  where
    differs : (a : ℕ) → a < 4 → (a == 4) ≡ false
    differs a h = grind (arith, nat_tests)
