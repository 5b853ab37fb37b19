-- For the law that events are rounds if the premise on faults is broken in a sync slot: a node that
-- waits for its last tick of the last stage has told its row of it after that tick, and knows when
-- its next frame begins.
use Rattle.std.proofs.{Common.{◌≡◌, ℕ, ◌+◌, ◌*◌, ◌<◌, ◌≤◌, ◌⊎◌, true, false, List, [], ap, sym, ◌∙◌, subst, arith, inl, Some, option_map, lit<}, lemmas.Bool.true≢false}
use Rattle.rb_base.specs.{Nodes.{Side, other}, Nodes.Side.{Biu, Rmu}, Sizes.sync_slot_of}
use Rattle.rb_rules.specs.{declared.plan.Window.Window, declared.role.Role.TheVariants.Sync, Core.{Act, Core, of_source}, Goodness.{Scenario}, Lawful.IsLawful, Moments.IsRunning, NodeState.NodeState, Plan.tail_start_of, Ports.{HandIn, PortState}, Rounds.{Moment, moment, window_in, word_for_window}, Slots.listens, SyncStage.new_epoch_of, WorldStep.{Site, Timed, after_act, pass_and_tick}}
use Rattle.rb_laws_agreement.proofs.{Invariant.IsGoodNode, NodeWindows.sync_windows_are, Settings.after}
use Rattle.rb_laws_synchrony.proofs.Synchrony.{IsSynchronous, synchrony}
use Rattle.rb_laws_events.specs.Closing.{stages_in}
use Rattle.rb_laws_events.proofs.{BreachEpochs.rmu-middle, BreachMiddles.next-after, BreakEnters.hearing-closes, BreakSites.{HasClosed, WaitsDeaf, WaitsHearing, acted}, ClosingTicks.{closing_of, spoken}, DeafEnds.deaf-closes, FrameTimes.good-node, Invariant.{entry_of, is_good_at, last_tick, word_at}, LastCloses.{ShowsRounds, shows-deaf, shows-heard}, LastSites.{HasToldLast}, LastTicks.waits-next, NodeActs.{HasRoom, HasWord}, NodeSends.KeepsTime, NodeTicks.{like-kept, tail-first}, PastTicks.IsPast, SameHeard.Every, StageOrder.{last_of, last-third-call}, TailTicks.{IsInTail, closed-same, same-epoch}, TickWindows.first_of}

pub third-stage : (sc : Scenario) (m : Moment) → m.window ≡ 3 * sync_slot_of sc.sizes + 2 → (me : Side) (st : NodeState) → (window_in sc m me st).stage ≡ 3
third-stage sc m at me st = ap (λ (w : Window). w.stage) ((sync_windows_are sc m 2 (lit< tt) at).are me st)

-- a node that has told its row with this act, and knows its next epoch
told-from : {sc hands : _} (ports : List PortState) {me i p x : _} (act : Act) (s : Site) → (moment sc hands p).window ≡ 3 * sync_slot_of sc.sizes + 2
    → (h : HasClosed sc hands me i p (after_act sc ports me i act s)) → new_epoch_of sc.plan me act.core.state ≡ Some x → act.core.had ≤ x
    → (listens me Sync 3 ≡ false → new_epoch_of sc.plan me h.st ≡ Some x) → HasToldLast sc hands me i p (after_act sc ports me i act s)
told-from {sc} {hands} ports {me} {i} {p} {x} act s at h known le calls =
    let m : Moment = moment sc hands p in
    let left = acted sc ports me i act s in
    let past : IsPast sc.sizes sc.plan me h.st.frame h.st.epoch (m.window + 1) act.core.state act.core.had =
    subst (λ (c : Core). IsPast sc.sizes sc.plan me h.st.frame h.st.epoch (m.window + 1) c.state c.had) left.core_is h.course.past in
    let tail : m.window + 1 ≡ stages_in sc.sizes = omega (arith, at) in
    let first : first_of sc.sizes sc.plan me act.core.state (m.window + 1) ≡ tail_start_of sc.sizes sc.plan =
    ap (first_of sc.sizes sc.plan me act.core.state) tail ∙ tail-first sc.sizes sc.plan me act.core.state in
    let epoch : act.core.state.epoch ≡ h.st.epoch = past.epoch in
    let from : act.core.state.epoch + first_of sc.sizes sc.plan me act.core.state (m.window + 1) ≤ act.core.had = past.from in
    let in_tail : IsInTail sc.sizes sc.plan me h.st.frame h.st.epoch x act.core.state act.core.had = record {
      in_frame = past.in_frame;
      epoch = past.epoch;
      known = known;
      from = omega (arith, first, epoch, from);
      keeps = λ deaf. subst (λ (c : Core). KeepsTime sc.sizes sc.plan me c.state) left.core_is (h.course.keeps (ap (listens me Sync) (third-stage sc m at me h.st) ∙ deaf));
    } in
    record {
      st = h.st;
      state = h.state;
      good = h.good;
      row = h.row;
      told = h.told;
      is = h.is;
      course = record { x = x; low = omega (arith, first, epoch, from, le); calls = calls; ahead = waits-next sc ports me i h.st x act s (inl (in_tail, le)) };
    }

-- A node that listens.

next-known : {sc : _} (hands : List HandIn) → IsLawful sc → (p : ℕ) → IsRunning (moment sc hands p) → (moment sc hands p).window ≡ 3 * sync_slot_of sc.sizes + 2
    → (me : Side) {i st : _} → IsGoodNode sc (moment sc hands p) me i st → listens me Sync 3 ≡ true
    → (x : ℕ) × (new_epoch_of sc.plan me (after sc (moment sc hands p) me i st) ≡ Some x)
next-known hands lawful p running at Biu h hears = cc
next-known {sc} hands lawful p running at Rmu h hears =
    let k = rmu-middle hands lawful p running at h in
    (k.0 + sc.plan.z, ap (option_map (λ k3. k3 + sc.plan.z)) k.1.0)

-- the window's last tick is followed by the tail
last-had : (sc : Scenario) (m : Moment) → 1 ≤ sc.plan.l → m.window ≡ 3 * sync_slot_of sc.sizes + 2 → (me : Side) (st : NodeState) {k : ℕ} → k ≡ last_tick sc m me st → k + 1 ≡ st.epoch + tail_start_of sc.sizes sc.plan
last-had sc m some at me st last =
    let is : last_of sc.sizes sc.plan me st m.window ≡ last_of sc.sizes sc.plan me st (3 * sync_slot_of sc.sizes + 2) = ap (last_of sc.sizes sc.plan me st) at in
    omega (arith, is, last-third-call sc.sizes sc.plan me st, last, some)

pub hearing-last : {sc hands : _} → IsLawful sc → HasRoom sc.plan → {sent now : _} (ports : List PortState) {p : ℕ} → IsRunning (moment sc hands p)
    → (moment sc hands p).window ≡ 3 * sync_slot_of sc.sizes + 2 → {me i s : _} → (h : WaitsHearing sc hands sent now me i p s) → h.st.frame ≡ (moment sc hands p).frame
    → ((j : ℕ) → is_good_at sc (moment sc hands p) (other me) j ≡ true → (sent (other me) j p ≡ true) ⊎ (entry_of sc (moment sc hands p) me i j ≡ []))
    → HasWord sc ports me i h.st (moment sc hands p).window (word_at sc (moment sc hands p) me i h.st)
    → Every (λ c. h.a.time < c.time) s.coming
    → HasToldLast sc hands me i p (after_act sc ports me i (pass_and_tick sc ports me i h.a.tick s.core) s)
hearing-last {sc} {hands} lawful room ports {p} running at {me} {i} {s} h frame all_sent words later =
    let m : Moment = moment sc hands p in
    let st : NodeState = h.st in
    let a : Timed = h.a in
    let x : Act = pass_and_tick sc ports me i a.tick s.core in
    let shows = shows-heard ports room frame all_sent words later h.last h.stands in
    let closed : HasClosed sc hands me i p (after_act sc ports me i x s) = hearing-closes lawful room ports 2 running (lit< tt) at h frame all_sent words later in
    let node : IsGoodNode sc m me i st = good-node sc m me i h.stands.state h.stands.good in
    let hears : listens me Sync 3 ≡ true = ap (listens me Sync) (sym (third-stage sc m at me st)) ∙ h.hears in
    let next = next-known hands lawful p running at me node hears in
    let low : st.epoch + tail_start_of sc.sizes sc.plan ≤ next.0 = next-after hands lawful p 2 running (lit< tt) at node next.1 in
    let had : x.core.had ≡ a.tick + 1 = ap (λ (c : Core). c.had) shows.0.act.core in
    let end : a.tick + 1 ≡ st.epoch + tail_start_of sc.sizes sc.plan = last-had sc m room.ticks.l at me st h.last in
    told-from ports x s at closed (ap (new_epoch_of sc.plan me) shows.1 ∙ next.1) (omega (arith, low, had, end)) (λ deaf. absurd (true≢false (sym hears ∙ deaf)))

-- A node that does not listen in the last stage.

epoch-before : {sc : _} (hands : List HandIn) → IsLawful sc → (p : ℕ) → IsRunning (moment sc hands p) → (moment sc hands p).window ≡ 3 * sync_slot_of sc.sizes + 2
    → (me : Side) {i st : _} → IsGoodNode sc (moment sc hands p) me i st → listens me Sync 3 ≡ false → (x : ℕ) × (new_epoch_of sc.plan me st ≡ Some x)
epoch-before {sc} hands lawful p running at Biu {i} {st} h deaf =
    let s : IsSynchronous sc hands p = synchrony hands lawful p running in
    let k = s.near.second at i st h in
    (k.tick + sc.plan.v + sc.plan.z + sc.plan.c, ap (option_map (λ k2. k2 + sc.plan.v + sc.plan.z + sc.plan.c)) k.is)
epoch-before hands lawful p running at Rmu h deaf = cc

pub deaf-last : {sc hands : _} → IsLawful sc → HasRoom sc.plan → (ports : List PortState) {p : ℕ} → IsRunning (moment sc hands p)
    → (moment sc hands p).window ≡ 3 * sync_slot_of sc.sizes + 2 → {me i s : _} → (h : WaitsDeaf sc hands me i p s)
    → HasWord sc ports me i h.st (moment sc hands p).window (word_at sc (moment sc hands p) me i h.st)
    → HasToldLast sc hands me i p (after_act sc ports me i (pass_and_tick sc ports me i h.a.tick s.core) s)
deaf-last {sc} {hands} lawful room ports {p} running at {me} {i} {s} h words =
    let m : Moment = moment sc hands p in
    let st : NodeState = h.st in
    let w : Window = window_in sc m me st in
    let x : Act = pass_and_tick sc ports me i h.a.tick s.core in
    let shows : ShowsRounds sc m me i st s h.a.tick x = shows-deaf m ports s room h.good h.stands h.had h.small words h.last h.slot h.deaf in
    let closed : HasClosed sc hands me i p (after_act sc ports me i x s) = deaf-closes room ports 2 (lit< tt) at h words in
    let node : IsGoodNode sc m me i st = good-node sc m me i h.state h.good in
    let deaf : listens me Sync 3 ≡ false = ap (listens me Sync) (sym (third-stage sc m at me st)) ∙ h.deaf in
    let next = epoch-before hands lawful p running at me node deaf in
    let low : st.epoch + tail_start_of sc.sizes sc.plan ≤ next.0 = h.stands.keeps.next next.0 next.1 in
    let kept : NodeState = spoken sc m me i st w in
    let said : new_epoch_of sc.plan me kept ≡ new_epoch_of sc.plan me st = (like-kept sc.sizes sc.plan me i st w.slot w.stage (word_for_window sc m i w)).next in
    let end : NodeState = (closing_of sc m me i st w s.core.inbox).state in
    let ends : new_epoch_of sc.plan me end ≡ new_epoch_of sc.plan me kept =
    same-epoch sc.plan me (closed-same sc.sizes sc.plan me i kept w (of_source s.core.inbox) h.slot h.deaf) in
    let state : x.core.state ≡ end = ap (λ (c : Core). c.state) shows.act.core in
    let had : x.core.had ≡ h.a.tick + 1 = ap (λ (c : Core). c.had) shows.act.core in
    let last : h.a.tick + 1 ≡ st.epoch + tail_start_of sc.sizes sc.plan = last-had sc m room.ticks.l at me st h.last in
    told-from ports x s at closed (ap (new_epoch_of sc.plan me) state ∙ ends ∙ said ∙ next.1) (omega (arith, low, had, last)) (λ _. ap (new_epoch_of sc.plan me) (some-same closed.st st (sym closed.state ∙ h.state)) ∙ next.1)
  where
    some-same : (a b : NodeState) → Some a ≡ Some b → a ≡ b
    some-same a b e = cc
