-- For the law that events are rounds if the premise on faults is broken in a sync slot: whatever
-- the verdict on a stage of the sync slot, each good node's next frame, as far as it knows when,
-- begins after all stages of this one.
use Rattle.std.proofs.{Common.{◌≡◌, ℕ, zero, suc, ◌+◌, ◌*◌, ◌<◌, ◌≤◌, true, List, ◌∷◌, [], ap, sym, ◌∙◌, arith, Option, Some, option_map, unwrap_or, lit<}, lemmas.Option.same_Some}
use Rattle.rb_base.specs.{Nodes.Side, Nodes.Side.{Biu, Rmu}, Sizes.sync_slot_of}
use Rattle.rb_rules.specs.{declared.plan.Window.Window, Clock.stamp_of, ExactStage.{each_node, present}, Goodness.{Scenario, clock_of, is_good}, Hearing.window_numbered, Lawful.IsLawful, Middle.middle_of, Moments.IsRunning, NodeState.NodeState, Plan.{f0_of, tail_start_of}, Ports.HandIn, Rounds.{Moment, heard_at, moment, sent_in, window_in}, SyncStage.new_epoch_of}
use Rattle.rb_rules.proofs.{RoundStates.keeping-stays, WindowNumbers.sync-numbered}
use Rattle.rb_laws_agreement.proofs.{Goodnesses.slot_last, Invariant.IsGoodNode, NodeWindows.{HasTick, Windows, kept_in, word_at, sync_tick, sync_windows_are}, Settings.after}
use Rattle.rb_laws_synchrony.proofs.{KeptMiddles.{Keeps, keeps}, TakenCalls.{IsTaken, taken_from, took}}
use Rattle.rb_laws_events.proofs.{BreachEpochs.{heard-from, middle-least, rmu-middle}, StageTimes.keeps-running}

same-first : (sc : Scenario) (m : Moment) (at : m.window ≡ 3 * sync_slot_of sc.sizes + 1) (me : Side) (st : NodeState)
    → (sync_windows_are sc m 1 (lit< tt) at).first me st ≡ (window_in sc m me st).first
same-first sc m at me st = sym (ap (λ (w : Window). w.first) ((sync_windows_are sc m 1 (lit< tt) at).are me st))

second-first : (sc : Scenario) (m : Moment) → m.window ≡ 3 * sync_slot_of sc.sizes + 1 → (me : Side) (st : NodeState)
    → (window_in sc m me st).first ≡ f0_of sc.sizes sc.plan + sc.plan.l
second-first sc m at me st = ap (λ n. (window_numbered sc.sizes sc.plan me st n).first) at ∙ ap (λ (w : Window). w.first) (sync-numbered sc.sizes sc.plan me st 1)

-- the middle that a BIU keeps of stage 2 comes in that stage, whatever the verdict
pub biu-middle : {sc : _} (hands : List HandIn) → IsLawful sc → (p : ℕ) → IsRunning (moment sc hands p) → (moment sc hands p).window ≡ 3 * sync_slot_of sc.sizes + 1 → {i st : _}
    → IsGoodNode sc (moment sc hands p) Biu i st
    → (k : ℕ) × (((after sc (moment sc hands p) Biu i st).k2 ≡ Some k) × (st.epoch + (f0_of sc.sizes sc.plan + sc.plan.l) ≤ k))
biu-middle {sc} hands lawful p running at {i} {st} h =
    let m : Moment = moment sc hands p in
    let slot : ℕ = sync_slot_of sc.sizes in
    let ws : Windows sc m slot 2 = sync_windows_are sc m 1 (lit< tt) at in
    let tick : HasTick sc m slot 2 ws = sync_tick sc m 1 (lit< tt) at lawful.plan.l.0 lawful.plan.v.0 lawful.plan.z.0 in
    let good : is_good sc Biu i m.frame slot ≡ true = ap (is_good sc Biu i m.frame) (sym (slot_last sc.sizes 1 at)) ∙ h.good in
    let first : ℕ = (kept_in sc m slot 2 Biu i st).epoch + ws.first Biu st in
    let epoch : (kept_in sc m slot 2 Biu i st).epoch ≡ st.epoch = (keeping-stays sc.sizes Biu i st slot 2 (word_at sc m slot i)).epoch in
    let bound : ℕ = st.epoch + ws.first Biu st in
    let its : ws.first Biu st ≡ (window_in sc m Biu st).first = same-first sc m at Biu st in
    let kept : Keeps Biu 2 (unwrap_or (middle_of (present (each_node (took 1 ws Biu i st)))) first) st (after sc m Biu i st) = keeps ws Biu i st good (tick.tick Biu st) in
    let least : bound ≤ unwrap_or (middle_of (present (each_node (took 1 ws Biu i st)))) first =
    middle-least bound first (took 1 ws Biu i st)
    (λ j k e.
    let taken : IsTaken sc m 1 ws Biu i st j k = taken_from 1 ws Biu i st j e in
    let heard : heard_at sc Biu i st (window_in sc m Biu st) (sent_in sc m) j ≡ taken.message ∷ [] =
    ap (λ w. heard_at sc Biu i st w (sent_in sc m) j) (ws.are Biu st) ∙ taken.heard in
    let from : st.epoch + (window_in sc m Biu st).first ≤ stamp_of (clock_of sc Biu i) taken.message.time = heard-from hands lawful p running (omega arith) j taken.message h heard in
    let stamp : stamp_of (clock_of sc Biu i) taken.message.time ≡ k = taken.stamp in
    omega (arith, from, stamp, its))
    (omega (arith, epoch)) in
    (_, (kept.k2, omega (arith, least, its, second-first sc m at Biu st)))

-- the next epoch that a good node knows after the stage, whatever the verdict on it
pub next-after : {sc : _} (hands : List HandIn) → IsLawful sc → (p q : ℕ) → IsRunning (moment sc hands p) → q < 3 → (moment sc hands p).window ≡ 3 * sync_slot_of sc.sizes + q
    → {me i st : _} → IsGoodNode sc (moment sc hands p) me i st
    → {x : ℕ} → new_epoch_of sc.plan me (after sc (moment sc hands p) me i st) ≡ Some x → st.epoch + tail_start_of sc.sizes sc.plan ≤ x
next-after {sc} hands lawful p q running small at {me} {i} {st} h {x} known = by me q small at h known
  where
    m : Moment
    m = moment sc hands p

    kept : (q : ℕ) (small : q < 3) (at : m.window ≡ 3 * sync_slot_of sc.sizes + q) (me : Side) → IsGoodNode sc m me i st → (k : ℕ) × Keeps me (q + 1) k st (after sc m me i st)
    kept q small at me h =
        let good : is_good sc me i m.frame (sync_slot_of sc.sizes) ≡ true = ap (is_good sc me i m.frame) (sym (slot_last sc.sizes q at)) ∙ h.good in
        let tick : HasTick sc m (sync_slot_of sc.sizes) (q + 1) (sync_windows_are sc m q small at) = sync_tick sc m q small at lawful.plan.l.0 lawful.plan.v.0 lawful.plan.z.0 in
        (_, keeps (sync_windows_are sc m q small at) me i st good (tick.tick me st))

    stays : (me : Side) → IsGoodNode sc m me i st → new_epoch_of sc.plan me (after sc m me i st) ≡ new_epoch_of sc.plan me st → new_epoch_of sc.plan me (after sc m me i st) ≡ Some x
        → st.epoch + tail_start_of sc.sizes sc.plan ≤ x
    stays me h same known = (keeps-running hands lawful p running me i st h.there h.good).next x (sym same ∙ known)

    of-biu : Option ℕ → Option ℕ
    of-biu = option_map (λ k2. k2 + sc.plan.v + sc.plan.z + sc.plan.c)

    of-rmu : Option ℕ → Option ℕ
    of-rmu = option_map (λ k3. k3 + sc.plan.z)

    by : (me : Side) (q : ℕ) → q < 3 → m.window ≡ 3 * sync_slot_of sc.sizes + q → IsGoodNode sc m me i st → new_epoch_of sc.plan me (after sc m me i st) ≡ Some x
        → st.epoch + tail_start_of sc.sizes sc.plan ≤ x
    by Biu zero small at h known = stays Biu h (ap of-biu (kept 0 (lit< tt) at Biu h).1.k2) known
    by Biu (suc zero) small at h known =
        let k = biu-middle hands lawful p running at h in
        let e : k.0 + sc.plan.v + sc.plan.z + sc.plan.c ≡ x = same_Some (k.0 + sc.plan.v + sc.plan.z + sc.plan.c) x (ap of-biu (sym k.1.0) ∙ known) in
        omega (arith, e, k.1.1)
    by Biu (suc (suc zero)) small at h known = stays Biu h (ap of-biu (kept 2 (lit< tt) at Biu h).1.k2) known
    by Biu (suc (suc (suc q))) small at h known = absurd (omega arith)
    by Rmu zero small at h known = stays Rmu h (ap of-rmu (kept 0 (lit< tt) at Rmu h).1.k3) known
    by Rmu (suc zero) small at h known = stays Rmu h (ap of-rmu (kept 1 (lit< tt) at Rmu h).1.k3) known
    by Rmu (suc (suc zero)) small at h known =
        let k = rmu-middle hands lawful p running at h in
        let e : k.0 + sc.plan.z ≡ x = same_Some (k.0 + sc.plan.z) x (ap of-rmu (sym k.1.0) ∙ known) in
        omega (arith, e, k.1.1)
    by Rmu (suc (suc (suc q))) small at h known = absurd (omega arith)
