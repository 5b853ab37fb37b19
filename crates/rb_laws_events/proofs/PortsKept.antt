-- For the law that events are rounds: the port of a BIU that closes a window is that of the rounds
-- in the moment where the node stands then.
use Rattle.std.proofs.{Common.{◌≡◌, ℕ, suc, ◌+◌, ◌-◌, ◌*◌, ◌<◌, ◌≤◌, ◌==◌, ◌&&◌, ◌⊎◌, nat_le, nat_lt, Bool, true, false, List, [], ◌∷◌, length, refl, ap, sym, ◌∙◌, subst, arith, inl, inr, Some, None, slice_get, option_and_then, option_map, if◌then◌else◌}, lemmas.Bool.{cases_lt, lt-ltb, le-ltb}}
use Rattle.rb_base.specs.{Nodes.Side, Nodes.Side.{Biu, Rmu}, Sizes.{Sizes, sync_slot_of}, declared.values.Delivery.Delivery, declared.values.Heard.Heard}
use Rattle.rb_rules.specs.{declared.closing.Closed.Closed, declared.plan.Window.Window, declared.record.SlotLine.SlotLine, declared.role.Role.Role, declared.role.Role.TheVariants.{Schedule, Data, DiagBiu, DiagRmu, Sync}, declared.sense.Sense.Sense, Book.{line_in, of_kind}, ExactStage.{Outcome, close_exact, delivery_of, keep_sent, outcome_of, says}, Goodness.{Scenario, is_good}, Hearing.{Coming, port_at, row_of, word_for}, NodeState.NodeState, Ports.{HandIn, PortState, hand_over, with_state}, Rounds.{Moment, Result, begin_frame, close_on, go_through, heard_at, moment, port_after, sent_in, step, window_in, windows_in, word_for_window}, Slots.{Sender, count_of, role_of}, SyncStage.{close_sync, sync_outcome_of}, WorldStep.with_delivery}
use Rattle.rb_rules.proofs.{Books.stepped, RoundStates.HasTicks, Slots.{schedule_role, sync_role}}
use Rattle.rb_laws_agreement.proofs.NodeWindows.{sync_windows_are}
use Rattle.rb_laws_events.specs.Closing.{stages_in}
use Rattle.rb_laws_events.proofs.{CloseOrder.{IsFrameLater, IsWindowLater, frame-later, window-later}, Invariant.{next_stage, word_at}, NodeActs.HasWord, NodeWords.from-says, PortMoments.{port-after-close, port-after-window}, RoundNodes.{AllStand, item-at, moments-stand, slot-is, slot_numbered}, SameHeard.Every}

-- What delivers nothing.

-- the slot is no data slot
abbrev pub HasNoData : Sizes → ℕ → Type 0
HasNoData sizes slot = (n : ℕ) → role_of sizes slot ≡ Data n → ⊥

no-delivery : (me : Side) (st : NodeState) (slot : ℕ) (role : Role) (sender : Sender) (stage : ℕ) (voted : Heard) → ((n : ℕ) → role ≡ Data n → ⊥)
    → delivery_of me st slot role sender stage voted ≡ None
no-delivery Biu st slot (Schedule i) sender stage voted no_data = refl
no-delivery Biu st slot (Data n) sender stage voted no_data = absurd (no_data n refl)
no-delivery Biu st slot (DiagBiu i) sender stage voted no_data = refl
no-delivery Biu st slot (DiagRmu i) sender stage voted no_data = refl
no-delivery Biu st slot Sync sender stage voted no_data = refl
no-delivery Rmu st slot role sender stage voted no_data = refl

gives-none : (sizes : Sizes) (me : Side) (i : ℕ) (st : NodeState) (slot stage first : ℕ) (sense : ℕ → Sense) (b : Bool) → HasNoData sizes slot
    → (elim b as (λ _. Outcome) [ true ↦ close_sync sizes me st stage first sense | false ↦ close_exact sizes me i st slot stage sense ]).closed.delivered ≡ None
unfolding close_sync sync_outcome_of close_exact outcome_of
gives-none sizes me i st slot stage first sense true no_data = refl
gives-none sizes me i st slot stage first sense false no_data = no-delivery me st slot (role_of sizes slot) _ stage _ no_data

-- the row of a window of no data slot has no delivery
pub no-line : (sc : Scenario) (m : Moment) (me : Side) (i : ℕ) (st : NodeState) (w : Window) → HasNoData sc.sizes w.slot
    → line_in (go_through sc m (sent_in sc m) me i st w).row ≡ None
unfolding go_through close_on row_of
no-line sc m me i st w no_data = by (is_good sc me i m.frame w.slot && nat_le w.first w.last)
  where
    by : (b : Bool) → line_in (elim b as (λ _. Result) [
      | true ↦ close_on sc me i (keep_sent sc.sizes me i st w.slot w.stage (word_for_window sc m i w)) w (heard_at sc me i st w (sent_in sc m))
      | false ↦ record { state = st; row = None }
    ]).row ≡ None
    by true =
        ap (option_map (λ (d : Delivery). let l : SlotLine = record { receiver = i; sender = d.sender; value = d.value } in l))
        (gives-none sc.sizes me i (keep_sent sc.sizes me i st w.slot w.stage (word_for_window sc m i w)) w.slot w.stage _ _ (w.slot == sync_slot_of sc.sizes) no_data)
    by false = refl

role-not : {r s : _} → r ≡ s → ((n : ℕ) → s ≡ Data n → ⊥) → (n : ℕ) → r ≡ Data n → ⊥
role-not e no_data n f = no_data n (sym e ∙ f)

no-data-early : (sizes : Sizes) (slot : ℕ) → slot < sizes.bius → HasNoData sizes slot
no-data-early sizes slot h n e = role-not (schedule_role sizes slot h) (λ n e. cc) n e

no-data-late : (sizes : Sizes) → HasNoData sizes (sync_slot_of sizes)
no-data-late sizes n e = role-not (sync_role sizes) (λ n e. cc) n e

-- Steps of the rounds that leave a port alone.

still-by : (sc : Scenario) (hands : List HandIn) (p i : ℕ) → HasTicks sc.plan → i < sc.sizes.bius → (moment sc hands p).window < windows_in sc.sizes
    → HasNoData sc.sizes (slot_numbered sc.sizes (moment sc hands p).window) → port_at sc (moment sc hands (suc p)).ports i ≡ port_at sc (moment sc hands p).ports i
still-by sc hands p i ticks counted inside no_data =
    let m : Moment = moment sc hands p in
    let stand : AllStand sc m = moments-stand sc hands p ticks in
    let long : length (of_kind Biu m.nodes) ≡ count_of Biu sc.sizes = stand.counts Biu in
    let st = item-at (of_kind Biu m.nodes) i (omega arith) in
    let w : Window = window_in sc m Biu st.0 in
    let slot : w.slot ≡ slot_numbered sc.sizes m.window = slot-is sc.sizes sc.plan Biu st.0 m.window in
    port-after-window sc hands p i inside counted st.1
    ∙ ap (λ l. port_after l (port_at sc m.ports i)) (no-line sc m Biu i st.0 w (subst (HasNoData sc.sizes) (sym slot) no_data))

-- in the sync slot and the tail nothing is delivered
pub still-late : (sc : Scenario) (hands : List HandIn) (p i : ℕ) → HasTicks sc.plan → i < sc.sizes.bius → (moment sc hands p).window < windows_in sc.sizes
    → 3 * sync_slot_of sc.sizes ≤ (moment sc hands p).window → port_at sc (moment sc hands (suc p)).ports i ≡ port_at sc (moment sc hands p).ports i
still-late sc hands p i ticks counted inside late =
    let slot : slot_numbered sc.sizes (moment sc hands p).window ≡ sync_slot_of sc.sizes = omega arith in
    still-by sc hands p i ticks counted inside (subst (HasNoData sc.sizes) (sym slot) (no-data-late sc.sizes))

pub still-early : (sc : Scenario) (hands : List HandIn) (p i : ℕ) → HasTicks sc.plan → i < sc.sizes.bius → (moment sc hands p).window < 3 * sc.sizes.bius
    → port_at sc (moment sc hands (suc p)).ports i ≡ port_at sc (moment sc hands p).ports i
still-early sc hands p i ticks counted early =
    let slot : slot_numbered sc.sizes (moment sc hands p).window < sc.sizes.bius = omega arith in
    still-by sc hands p i ticks counted (omega arith) (no-data-early sc.sizes _ slot)

-- no state is handed in at a frame's start
abbrev pub NoneHanded : ℕ → List HandIn → Type 0
NoneHanded frame hands = Every (λ h. (h.frame == frame) ≡ false) hands

pub none-over : (frame : ℕ) (hands : List HandIn) (ports : List PortState) → NoneHanded frame hands → hand_over frame hands ports ≡ ports
none-over frame [] ports none = refl
none-over frame (h ∷ hs) ports none =
    ap (λ b. hand_over frame hs (if b then with_state h.biu h.state ports else ports)) none.0 ∙ none-over frame hs ports none.1

turned-ports : (sc : Scenario) (hands : List HandIn) (m : Moment) (over in_frame : Bool) → in_frame ≡ false → (stepped sc hands m over in_frame).ports ≡ hand_over (m.frame + 1) hands m.ports
unfolding begin_frame
turned-ports sc hands m over false e = refl
turned-ports sc hands m over true e = cc

-- a frame begins with the ports of the end of the one before, and what is handed in
pub ports-turned : (sc : Scenario) (hands : List HandIn) (p : ℕ) → windows_in sc.sizes ≤ (moment sc hands p).window
    → (moment sc hands (suc p)).ports ≡ hand_over ((moment sc hands p).frame + 1) hands (moment sc hands p).ports
unfolding step
ports-turned sc hands p over =
    turned-ports sc hands (moment sc hands p) ((moment sc hands p).frame == sc.frames) (nat_lt (moment sc hands p).window (windows_in sc.sizes))
    (le-ltb (moment sc hands p).window (windows_in sc.sizes) over)

-- The place where a node stands after a close.

-- from the moment after a window to the node's own moment nothing changes at the port, unless
-- something has been handed in
pub port-there : (sc : Scenario) (hands : List HandIn) (p q i : ℕ) → HasTicks sc.plan → i < sc.sizes.bius → (moment sc hands p).window ≤ stages_in sc.sizes
    → (q ≡ next_stage sc.sizes (moment sc hands p) p) ⊎ ((q ≡ suc p) × ((moment sc hands q).window ≡ stages_in sc.sizes))
    → ((moment sc hands q).window ≡ 0 → NoneHanded (moment sc hands q).frame hands)
    → port_at sc (moment sc hands q).ports i ≡ port_at sc (moment sc hands (suc p)).ports i
port-there sc hands p q i ticks counted within (inr tail) none = ap (λ n. port_at sc (moment sc hands n).ports i) tail.0
port-there sc hands p q i ticks counted within (inl stage) none =
    let m : Moment = moment sc hands p in
    elim (cases_lt (m.window + 1) (stages_in sc.sizes)) [
      | inl inner ↦
          let e : p + 1 ≡ suc p = omega arith in
          let is : q ≡ suc p = stage ∙ ap (λ b. p + (if b then 1 else windows_in sc.sizes + 1 - m.window)) (lt-ltb (m.window + 1) (stages_in sc.sizes) inner) ∙ e in
          ap (λ n. port_at sc (moment sc hands n).ports i) is
      | inr outer ↦
          let is : q ≡ p + (windows_in sc.sizes + 1 - m.window) =
          stage ∙ ap (λ b. p + (if b then 1 else windows_in sc.sizes + 1 - m.window)) (le-ltb (m.window + 1) (stages_in sc.sizes) outer) in
          let one : IsWindowLater sc m (moment sc hands (suc p)) = window-later sc hands m (omega arith) in
          let w1 : (moment sc hands (suc p)).window ≡ m.window + 1 = one.window in
          elim (cases_lt m.window (stages_in sc.sizes)) [
            | inr at_tail ↦
                let two : q ≡ suc (suc p) = omega (arith, is, at_tail, within) in
                over (suc p) (omega arith) two
            | inl at_last ↦
                let end : IsWindowLater sc (moment sc hands (suc p)) (moment sc hands (suc (suc p))) = window-later sc hands (moment sc hands (suc p)) (omega arith) in
                let w2 : (moment sc hands (suc (suc p))).window ≡ (moment sc hands (suc p)).window + 1 = end.window in
                let three : q ≡ suc (suc (suc p)) = omega (arith, is, at_last, outer) in
                over (suc (suc p)) (omega arith) three ∙ still-late sc hands (suc p) i ticks counted (omega arith) (omega arith)
          ]
    ]
  where
    over : (e : ℕ) → windows_in sc.sizes ≤ (moment sc hands e).window → q ≡ suc e → port_at sc (moment sc hands q).ports i ≡ port_at sc (moment sc hands e).ports i
    over e full is =
        let next : IsFrameLater sc hands (moment sc hands e) (moment sc hands (suc e)) = frame-later sc hands (moment sc hands e) full in
        let none_here : NoneHanded ((moment sc hands e).frame + 1) hands =
        subst (λ f. NoneHanded f hands) (ap (λ n. (moment sc hands n).frame) is ∙ next.frame) (none (ap (λ n. (moment sc hands n).window) is ∙ next.window)) in
        ap (λ n. port_at sc (moment sc hands n).ports i) is
        ∙ ap (λ ports. port_at sc ports i) (ports-turned sc hands e full ∙ none-over ((moment sc hands e).frame + 1) hands (moment sc hands e).ports none_here)

-- the port of a BIU that closed a window
pub port-then : (sc : Scenario) (hands : List HandIn) (ports : List PortState) (p q i : ℕ) {st : _} (x : NodeState) (heard : ℕ → List Coming) {closed c : _}
    → HasTicks sc.plan → i < sc.sizes.bius → length ports ≡ sc.sizes.bius → (moment sc hands p).window ≤ stages_in sc.sizes
    → (q ≡ next_stage sc.sizes (moment sc hands p) p) ⊎ ((q ≡ suc p) × ((moment sc hands q).window ≡ stages_in sc.sizes))
    → ((moment sc hands q).window ≡ 0 → NoneHanded (moment sc hands q).frame hands)
    → slice_get (of_kind Biu (moment sc hands p).nodes) i ≡ Some st → closed ≡ Some c
    → (go_through sc (moment sc hands p) (sent_in sc (moment sc hands p)) Biu i st (window_in sc (moment sc hands p) Biu st)).row ≡ Some (row_of Biu i x heard c)
    → port_at sc ports i ≡ port_at sc (moment sc hands p).ports i
    → port_at sc (with_delivery sc i (option_and_then (λ (c : Closed). c.delivered) closed) ports) i ≡ port_at sc (moment sc hands q).ports i
port-then sc hands ports p q i {st} x heard {c} ticks counted many within place none there is row same =
    ap (λ o. port_at sc (with_delivery sc i (option_and_then (λ (c : Closed). c.delivered) o) ports) i) is
    ∙ port-after-close sc i ports x heard c (omega arith)
    ∙ ap (λ r. port_after (line_in r) (port_at sc ports i)) (sym row)
    ∙ ap (port_after (line_in (go_through sc (moment sc hands p) (sent_in sc (moment sc hands p)) Biu i st (window_in sc (moment sc hands p) Biu st)).row)) same
    ∙ sym (port-after-window sc hands p i (omega arith) counted there)
    ∙ sym (port-there sc hands p q i ticks counted within place none)

-- in the sync slot what a node says does not depend on its port
pub sync-word : (sc : Scenario) (ports : List PortState) (m : Moment) (me : Side) (i : ℕ) (st : NodeState) (q : ℕ) → q < 3 → m.window ≡ 3 * sync_slot_of sc.sizes + q
    → HasWord sc ports me i st m.window (word_at sc m me i st)
sync-word sc ports m me i st q small at =
    let slot : ℕ = (window_in sc m me st).slot in
    let stage : ℕ = (window_in sc m me st).stage in
    let role : role_of sc.sizes slot ≡ Sync = ap (λ (w : Window). role_of sc.sizes w.slot) ((sync_windows_are sc m q small at).are me st) ∙ sync_role sc.sizes in
    let word : word_for sc ports i slot (role_of sc.sizes slot) ≡ word_for sc m.ports i slot (role_of sc.sizes slot) =
    ap (word_for sc ports i slot) role ∙ sym (ap (word_for sc m.ports i slot) role) in
    from-says sc.sizes me i st slot stage (word_for sc ports i slot (role_of sc.sizes slot)) (word_for sc m.ports i slot (role_of sc.sizes slot))
    (ap (says sc.sizes me i st slot stage) word)
