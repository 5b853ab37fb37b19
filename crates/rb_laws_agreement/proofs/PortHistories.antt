-- A good BIU's port is what the bus's values and its hand-ins make of it.
use Rattle.std.proofs.{Common.{◌≡◌, ℕ, zero, suc, ◌+◌, ◌-◌, ◌*◌, ◌<◌, ◌≤◌, true, List, length, None, slice_get, get_or, inl, inr, sym, ◌∙◌, ap, subst, arith, lit<}, lemmas.Bool.cases_lt}
use Rattle.rb_base.specs.{Nodes.Side.Biu, Sizes.sync_slot_of}
use Rattle.rb_rules.specs.{Book.of_kind, Goodness.{Scenario, is_good}, Hearing.port_at, Lawful.IsLawful, Moments.{before_stage, before_slot, after_slot, IsRunning, IsComplete, IsReached}, Ports.{PortState, HandIn, fresh_port}, Rounds.{Moment, moment, step, windows_in}}
use Rattle.rb_laws_agreement.specs.{Histories.{value_in_lines, delivered_in, with_delivery, states_for, with_states, port_through, port_begun, AreAlike}, Laws.{PortsFollowTheBus, PortsHoldOneState}}
use Rattle.rb_laws_agreement.proofs.{Tests.Present, Goodnesses.{good_counts, good_earlier, good_before}, JudgedWindows.{rows_of, IsPassed, passed}, NextMoments.next, NodeWindows.{sync_windows_are, tail_windows}, Settings.item_at, SyncAgrees.book_sync, Places.{IsPlaced, placed, complete_before, running_earlier}, SlotRuns.{slot_runs, step_through, stage_next, next-frame}, FrameBegins.{IsTurn, frame_turns}, PortLists.{ports_long, first-port, turned-port}, PortSlots.{slot_port, sync_port, sync_lines}}

-- The stages of a complete sync slot.

pub record IsSyncStage (sc : Scenario) (hands : List HandIn) (frame q : ℕ) : Type 0 where
  pub at : (before_stage sc hands frame (sync_slot_of sc.sizes) (q + 1)).window ≡ 3 * sync_slot_of sc.sizes + q
  pub onward : next sc (before_stage sc hands frame (sync_slot_of sc.sizes) (q + 1)) ≡ before_stage sc hands frame (sync_slot_of sc.sizes) (q + 2)
  pub counts : length (of_kind Biu (before_stage sc hands frame (sync_slot_of sc.sizes) (q + 1)).nodes) ≡ sc.sizes.bius
  pub runs : IsRunning (before_stage sc hands frame (sync_slot_of sc.sizes) (q + 2))

pub sync-stage : {sc hands : _} → IsLawful sc → {frame : ℕ} (q : ℕ) → q < 3 → IsComplete sc hands frame (sync_slot_of sc.sizes) → IsSyncStage sc hands frame q
sync-stage {sc} {hands} law {frame} q small complete =
    let s : ℕ = sync_slot_of sc.sizes in
    let m : Moment = before_stage sc hands frame s (q + 1) in
    let p : IsPlaced sc hands frame s (q + 1) = placed hands law frame s (q + 1) (omega arith) (omega arith) (omega arith) (complete_before sc hands frame s (q + 1) (omega arith) complete) in
    let at : m.window ≡ 3 * s + q = p.window_is ∙ drop-one (3 * s) q in
    let two : before_stage sc hands frame s (q + 1 + 1) ≡ before_stage sc hands frame s (q + 2) = ap (before_stage sc hands frame s) (plus q) in
    let stepped : step sc hands m ≡ before_stage sc hands frame s (q + 2) = stage_next sc hands frame s (q + 1) (omega arith) ∙ two in
    let runs : IsRunning (before_stage sc hands frame s (q + 2)) = complete_before sc hands frame s (q + 2) (omega arith) complete in
    record {
      at = at;
      onward = sym (step_through sc hands m (omega arith) (ap (λ m. m.book.ended) stepped ∙ runs)) ∙ stepped;
      counts = p.agree.counts Biu;
      runs = runs;
    }
  where
    drop-one : (a q : ℕ) → a + (q + 1 - 1) ≡ a + q
    drop-one a q = omega arith

    plus : (q : ℕ) → q + 1 + 1 ≡ q + 2
    plus q = omega arith

-- a stage of the sync slot leaves the ports as they are
stage-port : {sc : _} (hands : List HandIn) → IsLawful sc → (frame q i : ℕ) → q < 3 → IsComplete sc hands frame (sync_slot_of sc.sizes) → i < sc.sizes.bius
    → port_at sc (before_stage sc hands frame (sync_slot_of sc.sizes) (q + 2)).ports i ≡ port_at sc (before_stage sc hands frame (sync_slot_of sc.sizes) (q + 1)).ports i
stage-port {sc} hands law frame q i small complete count =
    let s : ℕ = sync_slot_of sc.sizes in
    let m : Moment = before_stage sc hands frame s (q + 1) in
    let g : IsSyncStage sc hands frame q = sync-stage law q small complete in
    let nodes : length (of_kind Biu m.nodes) ≡ sc.sizes.bius = g.counts in
    let st : Present (slice_get (of_kind Biu m.nodes) i) = item_at (of_kind Biu m.nodes) i (omega arith) in
    let ports : length m.ports ≡ sc.sizes.bius = ports_long sc hands (frame * (windows_in sc.sizes + 1) + 3 * s + (q + 1) - 1) in
    ap (λ m. port_at sc m.ports i) (sym g.onward) ∙ sync_port (sync_windows_are sc m q small g.at) i (omega arith) st.is

-- nothing is delivered in the sync slot
none-delivered-in-sync : {sc : _} (hands : List HandIn) → IsLawful sc → (frame : ℕ) → IsComplete sc hands frame (sync_slot_of sc.sizes)
    → delivered_in sc hands frame (sync_slot_of sc.sizes) ≡ None
none-delivered-in-sync {sc} hands law frame complete =
    let s : ℕ = sync_slot_of sc.sizes in
    let m : Moment = before_stage sc hands frame s 2 in
    let small : 1 < 3 = lit< tt in
    let g : IsSyncStage sc hands frame 1 = sync-stage law 1 small complete in
    let through : IsPassed sc (record { frame = m.frame; slot = s; stage = 2 }) (rows_of sc m) m.book =
    passed sc (record { frame = m.frame; slot = s; stage = 2 }) (rows_of sc m) m.book
    (ap (λ b. b.ended) (sym (book_sync sc m 1 small g.at)) ∙ ap (λ m. m.book.ended) g.onward ∙ g.runs) in
    ap (λ m. value_in_lines m.book.lines) (sym g.onward)
    ∙ ap (λ b. value_in_lines b.lines) (book_sync sc m 1 small g.at ∙ through.is)
    ∙ ap value_in_lines (sync_lines (sync_windows_are sc m 1 small g.at))

-- after the sync slot a port is as after what the slot delivered
sync-slot-port : {sc : _} (hands : List HandIn) → IsLawful sc → (frame i : ℕ) → IsComplete sc hands frame (sync_slot_of sc.sizes) → i < sc.sizes.bius
    → port_at sc (after_slot sc hands frame (sync_slot_of sc.sizes)).ports i
    ≡ with_delivery (delivered_in sc hands frame (sync_slot_of sc.sizes)) (port_at sc (before_slot sc hands frame (sync_slot_of sc.sizes)).ports i)
sync-slot-port {sc} hands law frame i complete count =
    stage-port hands law frame 2 i (omega arith) complete count ∙ stage-port hands law frame 1 i (omega arith) complete count
    ∙ stage-port hands law frame 0 i (omega arith) complete count
    ∙ ap (λ o. with_delivery o (port_at sc (before_slot sc hands frame (sync_slot_of sc.sizes)).ports i)) (sym (none-delivered-in-sync hands law frame complete))

-- A frame.

-- after a slot a port is as after what the slot delivered
one-slot : {sc : _} (hands : List HandIn) → IsLawful sc → (frame : ℕ) {slot : ℕ} (i : ℕ) → slot ≤ sync_slot_of sc.sizes → IsComplete sc hands frame slot → is_good sc Biu i frame slot ≡ true
    → port_at sc (after_slot sc hands frame slot).ports i ≡ with_delivery (delivered_in sc hands frame slot) (port_at sc (before_slot sc hands frame slot).ports i)
one-slot {sc} hands law frame {slot} i le complete good =
    elim (cases_lt slot (sync_slot_of sc.sizes)) [
      | inl below ↦ slot_port (slot_runs law below complete) i (ports_long sc hands) good
      | inr late ↦
          let same : sync_slot_of sc.sizes ≡ slot = omega arith in
          let P : ℕ → Type 0 = λ slot. IsComplete sc hands frame slot
          → port_at sc (after_slot sc hands frame slot).ports i ≡ with_delivery (delivered_in sc hands frame slot) (port_at sc (before_slot sc hands frame slot).ports i) in
          subst P same (λ c. sync-slot-port hands law frame i c (good_counts sc Biu i frame slot good)) complete
    ]

pub slot-follows : (sc : Scenario) (hands : List HandIn) (frame slot : ℕ) → before_slot sc hands frame (suc slot) ≡ after_slot sc hands frame slot
slot-follows sc hands frame slot = ap (moment sc hands) (index (frame * (windows_in sc.sizes + 1)) slot)
  where
    index : (a slot : ℕ) → a + 3 * suc slot + 1 - 1 ≡ a + 3 * slot + 4 - 1
    index a slot = omega arith

-- after the first slots of a frame a port is as after what they delivered
through-slots : {sc : _} (hands : List HandIn) → IsLawful sc → (frame i : ℕ) (port : PortState)
    → (is_good sc Biu i frame 0 ≡ true → port_at sc (before_slot sc hands frame 0).ports i ≡ port)
    → (slot : ℕ) → slot ≤ sync_slot_of sc.sizes → IsComplete sc hands frame slot → is_good sc Biu i frame slot ≡ true
    → port_at sc (after_slot sc hands frame slot).ports i ≡ port_through sc hands frame (suc slot) port
through-slots {sc} hands law frame i port begun zero le complete good =
    one-slot hands law frame i le complete good ∙ ap (with_delivery (delivered_in sc hands frame 0)) (begun good)
through-slots {sc} hands law frame i port begun (suc slot) le complete good =
    let earlier : IsComplete sc hands frame slot =
    ap (λ m. m.book.ended) (sym (slot-follows sc hands frame slot)) ∙ complete_before sc hands frame (suc slot) 1 (omega arith) complete in
    one-slot hands law frame i le complete good
    ∙ ap (λ m. with_delivery (delivered_in sc hands frame (suc slot)) (port_at sc m.ports i)) (slot-follows sc hands frame slot)
    ∙ ap (with_delivery (delivered_in sc hands frame (suc slot)))
    (through-slots hands law frame i port begun slot (omega arith) earlier (good_earlier sc Biu i frame slot (suc slot) (omega arith) good))

-- The run.

-- a port through the tail and the turn to the next frame
turn-port : {sc : _} (hands : List HandIn) → IsLawful sc → (frame i : ℕ) → IsComplete sc hands frame (sync_slot_of sc.sizes) → i < sc.sizes.bius
    → port_at sc (before_slot sc hands (suc frame) 0).ports i
    ≡ with_states (states_for i (suc frame) hands) (port_at sc (after_slot sc hands frame (sync_slot_of sc.sizes)).ports i)
turn-port {sc} hands law frame i complete count =
    let s : ℕ = sync_slot_of sc.sizes in
    let a : Moment = after_slot sc hands frame s in
    let n : ℕ = frame * (windows_in sc.sizes + 1) + 3 * s + 4 - 1 in
    let t : IsTurn sc hands frame = frame_turns law complete in
    let p : IsPlaced sc hands frame s 4 = placed hands law frame s 4 (omega arith) (omega arith) (omega arith) complete in
    let at : a.window ≡ 3 * s + 3 = p.window_is in
    let nodes : length (of_kind Biu a.nodes) ≡ sc.sizes.bius = p.agree.counts Biu in
    let st : Present (slice_get (of_kind Biu a.nodes) i) = item_at (of_kind Biu a.nodes) i (omega arith) in
    let ports_a : length a.ports ≡ sc.sizes.bius = ports_long sc hands n in
    let ports_b : length (next sc a).ports ≡ sc.sizes.bius = ap (λ m. length m.ports) t.tail ∙ ports_long sc hands (suc n) in
    let frame_b : (next sc a).frame + 1 ≡ suc frame = ap (λ f. f + 1) (next-frame sc a ∙ p.frame_is) ∙ plus frame in
    ap (λ m. port_at sc m.ports i) (sym t.turn) ∙ turned-port sc hands (next sc a) i (omega arith)
    ∙ ap (λ f. with_states (states_for i f hands) (port_at sc (next sc a).ports i)) frame_b
    ∙ ap (with_states (states_for i (suc frame) hands)) (sync_port (tail_windows sc a at) i (omega arith) st.is)
  where
    plus : (a : ℕ) → a + 1 ≡ suc a
    plus a = omega arith

-- a frame with a complete slot is reached
pub reached_from : (sc : Scenario) (hands : List HandIn) (frame slot : ℕ) → IsComplete sc hands frame slot → IsReached sc hands frame
reached_from sc hands zero slot complete = tt
reached_from sc hands (suc f) slot complete =
    running_earlier sc hands (f * (windows_in sc.sizes + 1) + 3 * sync_slot_of sc.sizes + 4 - 1) (suc f * (windows_in sc.sizes + 1) + 3 * slot + 4 - 1)
    (later f (sync_slot_of sc.sizes) slot) complete
  where
    later : (f s slot : ℕ) → f * (3 * s + 4 + 1) + 3 * s + 4 - 1 ≤ suc f * (3 * s + 4 + 1) + 3 * slot + 4 - 1
    later f s slot = omega arith

-- a port as a frame begins that is reached
pub begun-port : {sc : _} (hands : List HandIn) → IsLawful sc → (frame i : ℕ) → IsReached sc hands frame → is_good sc Biu i frame 0 ≡ true
    → port_at sc (before_slot sc hands frame 0).ports i ≡ port_begun sc hands i frame
begun-port {sc} hands law zero i reached good =
    let e : 0 * (windows_in sc.sizes + 1) + 3 * 0 + 1 - 1 ≡ 0 = omega arith in
    ap (λ n. port_at sc (moment sc hands n).ports i) e ∙ first-port sc hands i (good_counts sc Biu i 0 0 good)
begun-port {sc} hands law (suc frame) i complete good =
    let s : ℕ = sync_slot_of sc.sizes in
    let port : PortState = port_begun sc hands i frame in
    let was : is_good sc Biu i frame s ≡ true = good_before sc Biu i frame (suc frame) s 0 (omega arith) good in
    turn-port hands law frame i complete (good_counts sc Biu i (suc frame) 0 good)
    ∙ ap (with_states (states_for i (suc frame) hands))
    (through-slots hands law frame i port (begun-port hands law frame i (reached_from sc hands frame s complete)) s (omega arith) complete was
    ∙ ap (λ o. with_delivery o (port_through sc hands frame s port)) (none-delivered-in-sync hands law frame complete))

pub ports_follow : PortsFollowTheBus
ports_follow sc hands law frame slot le complete i good =
    through-slots hands law frame i (port_begun sc hands i frame) (begun-port hands law frame i (reached_from sc hands frame slot complete)) slot le complete good

-- BIUs that are alike begin each frame alike
begun-alike : {sc hands i j : _} → AreAlike sc hands i j → (frame : ℕ) → port_begun sc hands i frame ≡ port_begun sc hands j frame
begun-alike {sc} {hands} {i} {j} alike zero =
    ap (λ states. with_states states (fresh_port (get_or sc.apps i 0) (get_or sc.words i 0))) (alike.hand_ins 0)
    ∙ ap (λ app. with_states (states_for j 0 hands) (fresh_port app (get_or sc.words i 0))) alike.app
    ∙ ap (λ word. with_states (states_for j 0 hands) (fresh_port (get_or sc.apps j 0) word)) alike.word
begun-alike {sc} {hands} {i} {j} alike (suc frame) =
    ap (λ states. with_states states (port_through sc hands frame (sync_slot_of sc.sizes) (port_begun sc hands i frame))) (alike.hand_ins (suc frame))
    ∙ ap (λ port. with_states (states_for j (suc frame) hands) (port_through sc hands frame (sync_slot_of sc.sizes) port)) (begun-alike alike frame)

pub ports_alike : PortsHoldOneState
ports_alike sc hands law frame slot le complete i j good_i good_j alike =
    ports_follow sc hands law frame slot le complete i good_i
    ∙ ap (port_through sc hands frame (suc slot)) (begun-alike alike frame)
    ∙ sym (ports_follow sc hands law frame slot le complete j good_j)
