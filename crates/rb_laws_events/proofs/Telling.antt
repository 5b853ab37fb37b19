-- For the law that events are rounds: an event keeps all that the nodes have told what they tell in
-- the rounds.
use Rattle.std.proofs.{Common.{◌≡◌, ℕ, zero, suc, ◌+◌, ◌<◌, ◌≤◌, ◌==◌, ◌&&◌, nat_le, Bool, true, false, List, [], ◌∷◌, ◌++◌, map, refl, ap, sym, ◌∙◌, subst, arith, inl, inr, Option, Some, None, slice_get}, lemmas.Bool.cases_lt, lemmas.Bool.Decides.nat_tests, lemmas.Option.same_Some}
use Rattle.rb_base.specs.{Nodes.{Side, other}, Sizes.{Sizes, sync_slot_of}, declared.values.Place.Place}
use Rattle.rb_base.proofs.Plain.{option_map-back}
use Rattle.rb_rules.specs.{declared.message.Message.Message, declared.plan.Plan.Plan, declared.plan.Window.Window, declared.sense.Sense.Sense, declared.record.Epoch.Epoch, Book.{Begun, Row, of_kind}, Core.{Act, epoch_at}, ExactStage.{Outcome, close_exact, keep_sent, outcome_of}, Goodness.{Scenario, is_good, clock_of}, Hearing.{arrival_of, begun_of, coming_of, epoch_of, port_at, port_line, row_of, window_numbered}, NodeState.NodeState, NodeSteps.expect_of, Ports.{HandIn, PortState}, Rounds.{Moment, Result, close_on, go_through, heard_at, moment, sent_in, window_in, word_for_window}, Sense.sense_of, SyncStage.{close_sync, sync_outcome_of}, WorldStep.{Site, at_node, with_message}, Slots.same_side}
use Rattle.rb_rules.proofs.{RoundStates.{HasTicks, keeping-stays}, WindowNumbers.sync-numbered}
use Rattle.rb_laws_events.specs.Closing.{stages_in}
use Rattle.rb_laws_events.proofs.{Invariant.word_at, MomentBooks.{place_at, stage-is-of}, NodeActs.HasRoom, NodeEvents.begun_after, NodeGoesOn.none-gone, NodeSends.{KeepsTime, sending_at}, NodeTicks.{Like, by_said, gone, kept_in, like-in, state_in}, StageOrder.last_of, TickWindows.{IsTickIn, ends-before-later, first_of}, RoundNodes.{slot-is, slot_numbered}, Settling.{RowOfRounds, RowsOfRounds}, SettlingFrames.{BegunInRounds, BegunOfRounds, TellRounds, ports_before}, WorldStands.{is_node, node-is}, WorldTicks.{after_tick, get-after, length-after, reached}}

-- The row of a window has the window's place.

abbrev pub placed : (frame slot stage : ℕ) → Place
placed frame slot stage = record { frame = frame; slot = slot; stage = stage }

close-place : (sizes : Sizes) (me : Side) (i : ℕ) (st : NodeState) (slot stage first : ℕ) (sense : ℕ → Sense) {b : _} → (slot == sync_slot_of sizes) ≡ b
    → (elim b as (λ _. Outcome) [ true ↦ close_sync sizes me st stage first sense | false ↦ close_exact sizes me i st slot stage sense ]).closed.place ≡ placed st.frame slot stage
unfolding close_sync sync_outcome_of close_exact outcome_of
close-place sizes me i st slot stage first sense {b = true} e = ap (λ s. let p : Place = record { frame = st.frame; slot = s; stage = stage } in p) (sym (same-number slot (sync_slot_of sizes) e))
  where
    same-number : (a b : ℕ) → (a == b) ≡ true → a ≡ b
    same-number a b h = grind (arith, nat_tests)
close-place sizes me i st slot stage first sense e = refl

pub row-place : (sc : Scenario) (m : Moment) (me : Side) (i : ℕ) (st : NodeState) (w : Window) {row : _} → (go_through sc m (sent_in sc m) me i st w).row ≡ Some row
    → row.place ≡ placed st.frame w.slot w.stage
unfolding go_through close_on row_of
row-place sc m me i st w {row} = by (is_good sc me i m.frame w.slot && nat_le w.first w.last)
  where
    by : (b : Bool) → (elim b as (λ _. Result) [
      | true ↦ close_on sc me i (keep_sent sc.sizes me i st w.slot w.stage (word_for_window sc m i w)) w (heard_at sc me i st w (sent_in sc m))
      | false ↦ record { state = st; row = None }
    ]).row ≡ Some row → row.place ≡ record { frame = st.frame; slot = w.slot; stage = w.stage }
    by false e = cc
    by true e =
        let k : NodeState = keep_sent sc.sizes me i st w.slot w.stage (word_for_window sc m i w) in
        let sense : ℕ → Sense = λ j. sense_of (expect_of sc.sizes sc.plan.version k w.slot w.stage) (map (arrival_of (clock_of sc me i)) (heard_at sc me i st w (sent_in sc m) j)) in
        sym (ap (λ (r : Row). r.place) (same_Some _ row e))
        ∙ close-place sc.sizes me i k w.slot w.stage (k.epoch + w.first) sense refl
        ∙ ap (λ f. let p : Place = record { frame = f; slot = w.slot; stage = w.stage } in p) (keeping-stays sc.sizes me i st w.slot w.stage (word_for_window sc m i w)).frame

pub tail-stage : (sizes : Sizes) (plan : Plan) (me : Side) (st : NodeState) {n : ℕ} → n ≡ stages_in sizes → (window_numbered sizes plan me st n).stage ≡ 4
tail-stage sizes plan me st {n} e = ap (λ n. (window_numbered sizes plan me st n).stage) e ∙ ap (λ w. w.stage) (sync-numbered sizes plan me st 3)

pub place-is : (sc : Scenario) (m : Moment) (me : Side) (st : NodeState) → m.window < stages_in sc.sizes → st.frame ≡ m.frame
    → placed st.frame (window_in sc m me st).slot (window_in sc m me st).stage ≡ place_at sc.sizes m
place-is sc m me st stage frame =
    ap (λ f. let p : Place = record { frame = f; slot = (window_in sc m me st).slot; stage = (window_in sc m me st).stage } in p) frame
    ∙ ap (λ s. let p : Place = record { frame = m.frame; slot = s; stage = (window_in sc m me st).stage } in p) (slot-is sc.sizes sc.plan me st m.window)
    ∙ ap (λ s. let p : Place = record { frame = m.frame; slot = slot_numbered sc.sizes m.window; stage = s } in p) (stage-is-of sc.sizes sc.plan me st m.window stage)

-- a row that a close gave is one of the rounds
pub closed-row : (sc : Scenario) (hands : List HandIn) (me : Side) (i p : ℕ) {st : _} (s : Site) {row : _} → (moment sc hands p).window ≤ stages_in sc.sizes
    → slice_get (of_kind me (moment sc hands p).nodes) i ≡ Some st → st.frame ≡ (moment sc hands p).frame
    → ((row : Row) → s.row ≡ Some row → RowOfRounds sc hands me i row)
    → (elim ((window_in sc (moment sc hands p) me st).stage == 4) as (λ _. Option Row) [
      | true ↦ s.row
      | false ↦ (go_through sc (moment sc hands p) (sent_in sc (moment sc hands p)) me i st (window_in sc (moment sc hands p) me st)).row
    ]) ≡ Some row → RowOfRounds sc hands me i row
closed-row sc hands me i p {st} s {row} within there frame before =
    let m : Moment = moment sc hands p in
    let w : Window = window_in sc m me st in
    let by : (b : Bool) → (w.stage == 4) ≡ b
    → (elim b as (λ _. Option Row) [ true ↦ s.row | false ↦ (go_through sc m (sent_in sc m) me i st w).row ]) ≡ Some row → RowOfRounds sc hands me i row =
    λ b. elim b as (λ b. (w.stage == 4) ≡ b
    → (elim b as (λ _. Option Row) [ true ↦ s.row | false ↦ (go_through sc m (sent_in sc m) me i st w).row ]) ≡ Some row → RowOfRounds sc hands me i row) [
      | true ↦ λ f e. before row e
      | false ↦ λ f e.
          let stage : m.window < stages_in sc.sizes = elim (cases_lt m.window (stages_in sc.sizes)) [
            | inl lt ↦ lt
            | inr ge ↦ absurd (four-not (w.stage) (tail-stage sc.sizes sc.plan me st (omega arith)) f)
          ] in
          let place : row.place ≡ placed st.frame w.slot w.stage = row-place sc m me i st w e in
          record {
            q = p;
            st = st;
            stage = stage;
            state = there;
            place = place ∙ place-is sc m me st stage frame;
            is = e;
          }
    ] in
    by (w.stage == 4) refl
  where
    four-not : (n : ℕ) → n ≡ 4 → (n == 4) ≡ false → ⊥
    four-not n e f = grind (arith, nat_tests)

-- The start of a frame.

-- the first tick of a frame is one of its first window
pub first-window : {sizes plan me st : _} (n : ℕ) {k : ℕ} → HasTicks plan → n ≤ stages_in sizes → IsTickIn sizes plan me st n k → st.epoch ≡ k → n ≡ 0
first-window zero ticks le at e = refl
first-window {sizes} {plan} {me} {st} (suc n) {k} ticks le at e =
    let before : last_of sizes plan me st 0 < first_of sizes plan me st (suc n) = ends-before-later sizes me st 0 (suc n) ticks (omega arith) le in
    let from : st.epoch + first_of sizes plan me st (suc n) ≤ k = at.from in
    absurd (omega arith)

-- what a tick tells of a frame is what the rounds tell of it
pub begun-then : (sc : Scenario) (hands : List HandIn) (ports : List PortState) {me : _} (i p : ℕ) {k st : _} (x : Act) (old : Option Begun) {b : _} → HasRoom sc.plan
    → slice_get (of_kind me (moment sc hands p).nodes) i ≡ Some st → st.frame ≡ (moment sc hands p).frame
    → (moment sc hands p).window ≤ stages_in sc.sizes → KeepsTime sc.sizes sc.plan me st → IsTickIn sc.sizes sc.plan me st (moment sc hands p).window k
    → x.epoch ≡ epoch_at sc.sizes me (state_in sc.sizes sc.plan me i st (moment sc hands p).window (word_at sc (moment sc hands p) me i st) k) k
    → ((moment sc hands p).window ≡ 0 → st.epoch ≡ k → port_line me i (port_at sc ports i) ≡ port_line me i (port_at sc (ports_before sc hands p) i))
    → ((b : Begun) → old ≡ Some b → BegunInRounds sc hands me i b)
    → begun_after sc ports me i x.epoch old ≡ Some b → BegunInRounds sc hands me i b
begun-then sc hands ports {me} i p {k} {st} x old {b} room there frame le keeps at epoch same_port before e =
    let m : Moment = moment sc hands p in
    let word : ℕ = word_at sc m me i st in
    let y : NodeState = state_in sc.sizes sc.plan me i st m.window word k in
    let like : Like sc.sizes sc.plan me i st y = like-in sc.sizes sc.plan me i st m.window word k in
    let by : (t : Bool) → (y.epoch == k) ≡ t → BegunInRounds sc hands me i b =
    λ t. elim t as (λ t. (y.epoch == k) ≡ t → BegunInRounds sc hands me i b) [
      | true ↦ λ f.
          let at_epoch : st.epoch ≡ k = sym like.epoch ∙ same-of y.epoch k f in
          let zero_window : m.window ≡ 0 = first-window m.window room.ticks le at at_epoch in
          let first : first_of sc.sizes sc.plan me st m.window ≡ 0 = first-zero sc.sizes sc.plan me st k m.window at at_epoch in
          let fresh : gone (sending_at sc.sizes sc.plan me i st m.window word) k ≡ false =
          none-gone i m.window word room keeps le (omega arith) in
          let y_is : y ≡ st = ap (λ g. by_said g st (kept_in sc.sizes sc.plan me i st m.window word)) fresh in
          let began : x.epoch ≡ Some (epoch_of sc.sizes me st) =
          epoch ∙ ap (λ t. elim t as (λ _. Option Epoch) [ true ↦ Some (epoch_of sc.sizes me y) | false ↦ None ]) f ∙ ap (λ z. Some (epoch_of sc.sizes me z)) y_is in
          let told : begun_of sc ports me i (epoch_of sc.sizes me st) ≡ b = same_Some _ b (sym (ap (λ o. begun_after sc ports me i o old) began) ∙ e) in
          let rounds : begun_of sc ports me i (epoch_of sc.sizes me st) ≡ begun_of sc (ports_before sc hands p) me i (epoch_of sc.sizes me st) =
          ap (λ l. record (begun_of sc ports me i (epoch_of sc.sizes me st)) { port = l }) (same_port zero_window at_epoch) in
          record {
            q = p;
            st = st;
            first = zero_window;
            state = there;
            frame = sym (ap (λ (b : Begun). b.frame) told) ∙ frame;
            is = sym told ∙ rounds;
          }
      | false ↦ λ f.
          let none : x.epoch ≡ None = epoch ∙ ap (λ t. elim t as (λ _. Option Epoch) [ true ↦ Some (epoch_of sc.sizes me y) | false ↦ None ]) f in
          before b (sym (ap (λ o. begun_after sc ports me i o old) none) ∙ e)
    ] in
    by (y.epoch == k) refl
  where
    same-of : (a b : ℕ) → (a == b) ≡ true → a ≡ b
    same-of a b h = grind (arith, nat_tests)

    first-zero : (sizes : Sizes) (plan : Plan) (me : Side) (st : NodeState) (k n : ℕ) → IsTickIn sizes plan me st n k → st.epoch ≡ k → first_of sizes plan me st n ≡ 0
    first-zero sizes plan me st k n at e = let from : st.epoch + first_of sizes plan me st n ≤ k = at.from in omega arith

-- All nodes.

pub reached-tells : (sc : Scenario) (me : Side) (i frame k : ℕ) (m : Option Message) (side : Side) (j : ℕ) (s : Site)
    → ((reached sc me i frame k m side j s).row ≡ s.row) × ((reached sc me i frame k m side j s).begun ≡ s.begun)
reached-tells sc me i frame k None side j s = (refl, refl)
reached-tells sc me i frame k (Some m) side j s = by (same_side side (other me) && s.runs)
  where
    by : (b : Bool) → ((elim b as (λ _. Site) [
      | true ↦ record s { coming = s.coming ++ coming_of sc side j i frame (record { tick = k; message = m }) ∷ [] }
      | false ↦ s
    ]).row ≡ s.row) × ((elim b as (λ _. Site) [
      | true ↦ record s { coming = s.coming ++ coming_of sc side j i frame (record { tick = k; message = m }) ∷ [] }
      | false ↦ s
    ]).begun ≡ s.begun)
    by true = (refl, refl)
    by false = (refl, refl)

-- if the node of an event tells what it tells in the rounds, all nodes do
pub still-tell : {sc hands sites : _} (me : Side) (i frame k : ℕ) (m : Option Message) (change : Site → Site) {s : _}
    → slice_get (of_kind me sites) i ≡ Some s → ((row : Row) → (change s).row ≡ Some row → RowOfRounds sc hands me i row)
    → ((b : Begun) → (change s).begun ≡ Some b → BegunInRounds sc hands me i b) → TellRounds sc hands sites
    → TellRounds sc hands (with_message sc me i frame k m (at_node me i change sites))
unfolding RowsOfRounds BegunOfRounds
still-tell {sc} {hands} {sites} me i frame k m change {s} there rows begun h = record {
  rows = λ side j z row e its.
      let was = option_map-back (after_tick sc me i frame k m change side j) (slice_get (of_kind side sites) j) z (sym (get-after sc me i frame k m change sites side j) ∙ e) in
      let go : (d : Bool) → is_node me i side j ≡ d → reached sc me i frame k m side j (elim d as (λ _. Site) [ true ↦ change was.0 | false ↦ was.0 ]) ≡ z → RowOfRounds sc hands side j row =
      λ d. elim d as (λ d. is_node me i side j ≡ d → reached sc me i frame k m side j (elim d as (λ _. Site) [ true ↦ change was.0 | false ↦ was.0 ]) ≡ z → RowOfRounds sc hands side j row) [
        | true ↦ λ f g.
            let is = node-is me side i j f in
            let here : slice_get (of_kind me sites) i ≡ Some was.0 = sym (ap (λ y. slice_get (of_kind y sites) j) is.0 ∙ ap (slice_get (of_kind me sites)) is.1) ∙ was.1.0 in
            let s_is : s ≡ was.0 = same_Some s was.0 (sym there ∙ here) in
            let its_row : (change s).row ≡ Some row =
            ap (λ z. (change z).row) s_is ∙ sym (reached-tells sc me i frame k m side j (change was.0)).0 ∙ ap (λ (z : Site). z.row) g ∙ its in
            subst (λ y. RowOfRounds sc hands y j row) (sym is.0) (subst (λ n. RowOfRounds sc hands me n row) (sym is.1) (rows row its_row))
        | false ↦ λ f g. h.rows side j was.0 row was.1.0 (sym (reached-tells sc me i frame k m side j was.0).0 ∙ ap (λ (z : Site). z.row) g ∙ its)
      ] in
      go (is_node me i side j) refl was.1.1;
  begun = λ side j z b e its.
      let was = option_map-back (after_tick sc me i frame k m change side j) (slice_get (of_kind side sites) j) z (sym (get-after sc me i frame k m change sites side j) ∙ e) in
      let go : (d : Bool) → is_node me i side j ≡ d → reached sc me i frame k m side j (elim d as (λ _. Site) [ true ↦ change was.0 | false ↦ was.0 ]) ≡ z → BegunInRounds sc hands side j b =
      λ d. elim d as (λ d. is_node me i side j ≡ d → reached sc me i frame k m side j (elim d as (λ _. Site) [ true ↦ change was.0 | false ↦ was.0 ]) ≡ z → BegunInRounds sc hands side j b) [
        | true ↦ λ f g.
            let is = node-is me side i j f in
            let here : slice_get (of_kind me sites) i ≡ Some was.0 = sym (ap (λ y. slice_get (of_kind y sites) j) is.0 ∙ ap (slice_get (of_kind me sites)) is.1) ∙ was.1.0 in
            let s_is : s ≡ was.0 = same_Some s was.0 (sym there ∙ here) in
            let its_begun : (change s).begun ≡ Some b =
            ap (λ z. (change z).begun) s_is ∙ sym (reached-tells sc me i frame k m side j (change was.0)).1 ∙ ap (λ (z : Site). z.begun) g ∙ its in
            subst (λ y. BegunInRounds sc hands y j b) (sym is.0) (subst (λ n. BegunInRounds sc hands me n b) (sym is.1) (begun b its_begun))
        | false ↦ λ f g. h.begun side j was.0 b was.1.0 (sym (reached-tells sc me i frame k m side j was.0).1 ∙ ap (λ (z : Site). z.begun) g ∙ its)
      ] in
      go (is_node me i side j) refl was.1.1;
  counts = λ side. length-after sc me i frame k m change sites side ∙ h.counts side;
}
