-- For the law that running cores agree: between the delivery of a slot and that of the next a port
-- stays in the rounds.
use Rattle.std.proofs.{Common.{◌≡◌, ℕ, suc, ◌+◌, ◌-◌, ◌*◌, ◌%◌, length, ◌<◌, ◌≤◌, ◌==◌, ◌&&◌, ◌⊎◌, nat_le, Bool, true, false, refl, ap, sym, ◌∙◌, arith, inl, inr, List, None, option_map}, lemmas.Bool.cases_lt, lemmas.Bool.Decides.nat_tests}
use Rattle.rb_base.specs.{Nodes.Side, Nodes.Side.Biu, Sizes.{Sizes, sync_slot_of}, declared.values.Delivery.Delivery}
use Rattle.rb_rules.specs.{declared.plan.Window.Window, declared.record.SlotLine.SlotLine, declared.sense.Sense.Sense, Book.{line_in, of_kind}, ExactStage.{Outcome, close_exact, keep_sent, outcome_of}, Goodness.{Scenario, is_good}, Hearing.{port_at, row_of}, Lawful.IsLawful, Moments.{IsComplete, IsRunning, after_slot, before_stage}, NodeState.NodeState, Ports.HandIn, Rounds.{Moment, Result, close_on, go_through, heard_at, moment, port_after, sent_in, window_in, windows_in, word_for_window}, Slots.{count_of, role_of}, SyncStage.{close_sync, sync_outcome_of}}
use Rattle.rb_rules.proofs.RoundStates.{HasTicks}
use Rattle.rb_laws_agreement.proofs.{Deliveries.no-delivery, ExactAgrees.has_ticks, Places.{IsPlaced, complete_before, placed}}
use Rattle.rb_laws_events.proofs.{MomentBooks.stage-is-of, PortMoments.port-after-window, PortsKept.still-late, RoundNodes.{AllStand, item-at, moments-stand}}

gives-none : (sizes : Sizes) (me : Side) (i : ℕ) (st : NodeState) (slot stage first : ℕ) (sense : ℕ → Sense) (b : Bool) → (stage == 2) ≡ false
    → (elim b as (λ _. Outcome) [ true ↦ close_sync sizes me st stage first sense | false ↦ close_exact sizes me i st slot stage sense ]).closed.delivered ≡ None
unfolding close_sync sync_outcome_of close_exact outcome_of
gives-none sizes me i st slot stage first sense true other = refl
gives-none sizes me i st slot stage first sense false other = no-delivery me st slot (role_of sizes slot) _ stage _ other

-- the row of a window of another stage than the second has no delivery
no-line : (sc : Scenario) (m : Moment) (me : Side) (i : ℕ) (st : NodeState) (w : Window) → (w.stage == 2) ≡ false → line_in (go_through sc m (sent_in sc m) me i st w).row ≡ None
unfolding go_through close_on row_of
no-line sc m me i st w other = by (is_good sc me i m.frame w.slot && nat_le w.first w.last)
  where
    by : (b : Bool) → line_in (elim b as (λ _. Result) [
      | true ↦ close_on sc me i (keep_sent sc.sizes me i st w.slot w.stage (word_for_window sc m i w)) w (heard_at sc me i st w (sent_in sc m))
      | false ↦ record { state = st; row = None }
    ]).row ≡ None
    by true =
        ap (option_map (λ (d : Delivery). let l : SlotLine = record { receiver = i; sender = d.sender; value = d.value } in l))
        (gives-none sc.sizes me i (keep_sent sc.sizes me i st w.slot w.stage (word_for_window sc m i w)) w.slot w.stage _ _ (w.slot == sync_slot_of sc.sizes) other)
    by false = refl

not-two : (n : ℕ) → (n % 3 ≡ 0) ⊎ (n % 3 ≡ 2) → (n % 3 + 1 == 2) ≡ false
not-two n (inl e) = grind (arith, nat_tests)
not-two n (inr e) = grind (arith, nat_tests)

-- a window of the first or the third stage leaves each port as it is, and so does the tail
still : (sc : Scenario) (hands : List HandIn) (p i : ℕ) → HasTicks sc.plan → i < sc.sizes.bius → (moment sc hands p).window < windows_in sc.sizes
    → ((moment sc hands p).window % 3 ≡ 0) ⊎ ((moment sc hands p).window % 3 ≡ 2) → port_at sc (moment sc hands (suc p)).ports i ≡ port_at sc (moment sc hands p).ports i
still sc hands p i ticks counted inside other =
    elim (cases_lt (moment sc hands p).window (3 * sync_slot_of sc.sizes)) [
      | inr late ↦ still-late sc hands p i ticks counted inside late
      | inl early ↦
          let m : Moment = moment sc hands p in
          let stand : AllStand sc m = moments-stand sc hands p ticks in
          let long : length (of_kind Biu m.nodes) ≡ count_of Biu sc.sizes = stand.counts Biu in
          let st = item-at (of_kind Biu m.nodes) i (omega (arith, long, counted)) in
          let w : Window = window_in sc m Biu st.0 in
          let stage : w.stage ≡ m.window % 3 + 1 = stage-is-of sc.sizes sc.plan Biu st.0 m.window (omega (arith, early)) in
          port-after-window sc hands p i inside counted st.1
          ∙ ap (λ l. port_after l (port_at sc m.ports i)) (no-line sc m Biu i st.0 w (ap (λ s. s == 2) stage ∙ not-two m.window other))
    ]

-- A slot that is complete.

third-number : (a slot : ℕ) → suc (a + 3 * slot + 3 - 1) ≡ a + 3 * slot + 4 - 1
third-number a slot = omega arith

-- before the third stage of a slot a port is as after the slot
pub before-third : {sc : _} (hands : List HandIn) → IsLawful sc → (frame : ℕ) {slot : ℕ} (i : ℕ) → slot ≤ sync_slot_of sc.sizes → IsComplete sc hands frame slot → i < sc.sizes.bius
    → port_at sc (before_stage sc hands frame slot 3).ports i ≡ port_at sc (after_slot sc hands frame slot).ports i
before-third {sc} hands lawful frame {slot} i le complete counted =
    let p : IsPlaced sc hands frame slot 3 = placed hands lawful frame slot 3 le (omega arith) (omega arith) (complete_before sc hands frame slot 3 (omega arith) complete) in
    let window = p.window_is in
    let inside : (before_stage sc hands frame slot 3).window < windows_in sc.sizes = omega (arith, window, le) in
    let stage : (before_stage sc hands frame slot 3).window % 3 ≡ 2 = omega (arith, window) in
    sym (ap (λ n. port_at sc (moment sc hands n).ports i) (sym (third-number (frame * (windows_in sc.sizes + 1)) slot))
    ∙ still sc hands (frame * (windows_in sc.sizes + 1) + 3 * slot + 3 - 1) i (has_ticks lawful) counted inside (inr stage))

next-first : (a slot : ℕ) → a + 3 * (slot + 1) + 1 - 1 ≡ a + 3 * slot + 4 - 1
next-first a slot = omega arith

next-second : (a slot : ℕ) → a + 3 * (slot + 1) + 2 - 1 ≡ suc (a + 3 * slot + 4 - 1)
next-second a slot = omega arith

pub then-first : (sc : Scenario) (hands : List HandIn) (frame slot i : ℕ) → port_at sc (before_stage sc hands frame (slot + 1) 1).ports i ≡ port_at sc (after_slot sc hands frame slot).ports i
then-first sc hands frame slot i = ap (λ n. port_at sc (moment sc hands n).ports i) (next-first (frame * (windows_in sc.sizes + 1)) slot)

pub then-second : {sc : _} (hands : List HandIn) → IsLawful sc → (frame : ℕ) {slot : ℕ} (i : ℕ) → slot ≤ sync_slot_of sc.sizes → IsComplete sc hands frame slot → i < sc.sizes.bius
    → port_at sc (before_stage sc hands frame (slot + 1) 2).ports i ≡ port_at sc (after_slot sc hands frame slot).ports i
then-second {sc} hands lawful frame {slot} i le complete counted =
    let p : IsPlaced sc hands frame slot 4 = placed hands lawful frame slot 4 le (omega arith) (omega arith) complete in
    let window = p.window_is in
    let inside : (after_slot sc hands frame slot).window < windows_in sc.sizes = omega (arith, window, le) in
    let stage : (after_slot sc hands frame slot).window % 3 ≡ 0 = omega (arith, window) in
    ap (λ n. port_at sc (moment sc hands n).ports i) (next-second (frame * (windows_in sc.sizes + 1)) slot)
    ∙ still sc hands (frame * (windows_in sc.sizes + 1) + 3 * slot + 4 - 1) i (has_ticks lawful) counted inside (inl stage)

begin-second : (a : ℕ) → a + 3 * 0 + 2 - 1 ≡ suc (a + 3 * 0 + 1 - 1)
begin-second a = omega arith

-- before stage 2 of a frame's first slot a port is as before stage 1
pub begin-stays : {sc : _} (hands : List HandIn) → IsLawful sc → (frame i : ℕ) → IsRunning (before_stage sc hands frame 0 1) → i < sc.sizes.bius
    → port_at sc (before_stage sc hands frame 0 2).ports i ≡ port_at sc (before_stage sc hands frame 0 1).ports i
begin-stays {sc} hands lawful frame i running counted =
    let p : IsPlaced sc hands frame 0 1 = placed hands lawful frame 0 1 (omega arith) (omega arith) (omega arith) running in
    let window = p.window_is in
    let inside : (before_stage sc hands frame 0 1).window < windows_in sc.sizes = omega (arith, window) in
    let stage : (before_stage sc hands frame 0 1).window % 3 ≡ 0 = omega (arith, window) in
    ap (λ n. port_at sc (moment sc hands n).ports i) (begin-second (frame * (windows_in sc.sizes + 1)))
    ∙ still sc hands (frame * (windows_in sc.sizes + 1) + 3 * 0 + 1 - 1) i (has_ticks lawful) counted inside (inl stage)
