-- For the law that events are rounds: in every moment of the rounds each good node is in the
-- moment's frame, and knows the middles of the windows passed.
use Rattle.std.proofs.{Common.{◌≡◌, ℕ, zero, suc, ◌+◌, ◌-◌, ◌*◌, ◌/◌, ◌<◌, ◌≤◌, ◌==◌, nat_lt, min, Bool, true, false, List, [], ◌∷◌, length, refl, subst, inl, inr, sym, ◌∙◌, ap, arith, Option, Some, None, slice_get, is_some}, lemmas.Bool.cases_lt, lemmas.Bool.Decides.nat_tests, lemmas.Option.same_Some}
use Rattle.rb_base.specs.{Nodes.Side, Sizes.{Sizes, sync_slot_of}}
use Rattle.rb_rules.specs.{declared.plan.Plan.Plan, Book.{Book, of_kind, each_of}, Conviction.turn, Goodness.{Scenario, is_good}, Hearing.window_numbered, NodeState.{NodeState, first_state}, NodeSteps.turn_if_known, Ports.HandIn, Rounds.{Moment, Result, window_in, sent_in, go_through, results_of, after_window, begin_frame, next_frame, first_moment, step, moment, windows_in}, Slots.count_of, SyncStage.new_epoch_of}
use Rattle.rb_rules.proofs.{Books.stepped, RoundStates.{state-after, state-turned, through-stays, Knows, knows-none, HasTicks, numbered-knows}, WindowNumbers.{length-each, get-made, exact-numbered, sync-numbered}}
use Rattle.rb_laws_agreement.proofs.{Goodnesses.{good_before, good_counts, good_earlier}, FrameAgrees.epoch-known}
use Rattle.rb_laws_events.proofs.WorldNodes.{first-counts}

-- Places.

-- the slot of window n of a frame, the tail's and the frame's end being the sync slot
abbrev pub slot_numbered : Sizes → ℕ → ℕ
slot_numbered sizes n = min (n / 3) (sync_slot_of sizes)

min-first : (a b : ℕ) → a ≤ b → min a b ≡ a
min-first a b h = omega arith

min-second : (a b : ℕ) → b ≤ a → min a b ≡ b
min-second a b h = omega arith

sync-slot : (sizes : Sizes) (plan : Plan) (me : Side) (st : NodeState) (r : ℕ) → (window_numbered sizes plan me st (3 * sync_slot_of sizes + r)).slot ≡ sync_slot_of sizes
sync-slot sizes plan me st zero = ap (λ w. w.slot) (sync-numbered sizes plan me st 0)
sync-slot sizes plan me st (suc zero) = ap (λ w. w.slot) (sync-numbered sizes plan me st 1)
sync-slot sizes plan me st (suc (suc zero)) = ap (λ w. w.slot) (sync-numbered sizes plan me st 2)
sync-slot sizes plan me st (suc (suc (suc r))) = ap (λ w. w.slot) (sync-numbered sizes plan me st (suc (suc (suc r))))

pub slot-is : (sizes : Sizes) (plan : Plan) (me : Side) (st : NodeState) (n : ℕ) → (window_numbered sizes plan me st n).slot ≡ slot_numbered sizes n
slot-is sizes plan me st n =
    elim (cases_lt n (3 * sync_slot_of sizes)) [
      | inl lt ↦ ap (λ w. w.slot) (exact-numbered sizes plan me st n lt) ∙ sym (min-first (n / 3) (sync_slot_of sizes) (omega arith))
      | inr ge ↦
          let e : 3 * sync_slot_of sizes + (n - 3 * sync_slot_of sizes) ≡ n = omega arith in
          ap (λ k. (window_numbered sizes plan me st k).slot) (sym e) ∙ sync-slot sizes plan me st (n - 3 * sync_slot_of sizes)
          ∙ sym (min-second (n / 3) (sync_slot_of sizes) (omega arith))
    ]

-- Moments.

-- what holds of a good node in its moment
pub record Stands (sc : Scenario) (m : Moment) (me : Side) (st : NodeState) : Type 0 where
  pub frame : st.frame ≡ m.frame
  pub knows : Knows sc.sizes me m.window st

pub record AllStand (sc : Scenario) (m : Moment) : Type 0 where
  pub window : m.window ≤ windows_in sc.sizes
  pub counts : (me : Side) → length (of_kind me m.nodes) ≡ count_of me sc.sizes
  pub stands : (me : Side) (i : ℕ) (st : NodeState) → slice_get (of_kind me m.nodes) i ≡ Some st
      → is_good sc me i m.frame (slot_numbered sc.sizes m.window) ≡ true → Stands sc m me st

-- there is an item at each number below the length
pub item-at : {X : Type 0} (xs : List X) (i : ℕ) → i < length xs → (x : X) × (slice_get xs i ≡ Some x)
item-at [] i h = absurd (omega arith)
item-at (x ∷ xs) zero h = (x, refl)
item-at (x ∷ xs) (suc i) h = item-at xs i (omega arith)

first-knows : (sizes : Sizes) (me : Side) → Knows sizes me 0 (first_state sizes me)
first-knows sizes me = record { k1 = sym (knows-none sizes me 1); k2 = sym (knows-none sizes me 2); k3 = sym (knows-none sizes me 3) }

first-stand : (sc : Scenario) (hands : List HandIn) → AllStand sc (first_moment sc hands)
unfolding begin_frame
first-stand sc hands = record {
  window = omega arith;
  counts = first-counts sc.sizes (λ me i. first_state sc.sizes me);
  stands = λ me i st there good.
      let made : slice_get (of_kind me (each_of sc.sizes (λ me i. first_state sc.sizes me))) i ≡ Some (first_state sc.sizes me) =
      get-made sc.sizes (λ me i. first_state sc.sizes me) me i (good_counts sc me i 0 (slot_numbered sc.sizes 0) good) in
      let same : first_state sc.sizes me ≡ st = same_Some (first_state sc.sizes me) st (sym made ∙ there) in
      subst (λ st. Stands sc (first_moment sc hands) me st) same (record { frame = refl; knows = first-knows sc.sizes me });
}

window-stand : {sc : Scenario} {m : Moment} → HasTicks sc.plan → m.window < windows_in sc.sizes → AllStand sc m → AllStand sc (after_window sc m (results_of sc m))
unfolding after_window results_of
window-stand {sc} {m} ticks below h = record {
  window = omega arith;
  counts = λ me.
      length-each (λ me i (r : Result). r.state) (results_of sc m) me
      ∙ length-each (λ me i st. go_through sc m (sent_in sc m) me i st (window_in sc m me st)) m.nodes me ∙ h.counts me;
  stands = λ me i st there good.
      let long : length (of_kind me m.nodes) ≡ count_of me sc.sizes = h.counts me in
      let counted : i < count_of me sc.sizes = good_counts sc me i m.frame (slot_numbered sc.sizes (m.window + 1)) good in
      let within : i < length (of_kind me m.nodes) = omega arith in
      let old = item-at (of_kind me m.nodes) i within in
      let now : NodeState = (go_through sc m (sent_in sc m) me i old.0 (window_in sc m me old.0)).state in
      let same : now ≡ st = same_Some now st (sym (state-after sc m me i old.0 old.1) ∙ there) in
      let before : is_good sc me i m.frame (slot_numbered sc.sizes m.window) ≡ true =
      good_earlier sc me i m.frame (slot_numbered sc.sizes m.window) (slot_numbered sc.sizes (m.window + 1)) (omega arith) good in
      let stood : Stands sc m me old.0 = h.stands me i old.0 old.1 before in
      let here : is_good sc me i m.frame (window_in sc m me old.0).slot ≡ true =
      ap (is_good sc me i m.frame) (slot-is sc.sizes sc.plan me old.0 m.window) ∙ before in
      subst (λ st. Stands sc (after_window sc m (results_of sc m)) me st) same (record {
        frame = (through-stays sc m (sent_in sc m) me i old.0 (window_in sc m me old.0)).frame ∙ stood.frame;
        knows = numbered-knows sc m (sent_in sc m) me i m.window old.0 ticks below here stood.knows;
      });
}

turned-by : (sizes : Sizes) (probation : ℕ) (me : Side) (st : NodeState) (o : Option ℕ) → is_some o ≡ true
    → (e : ℕ) × ((elim o as (λ _. NodeState) [ None ↦ st | Some epoch ↦ turn sizes probation me epoch st ]) ≡ turn sizes probation me e st)
turned-by sizes probation me st None h = cc
turned-by sizes probation me st (Some e) h = (e, refl)

turn-stands : (sc : Scenario) (m : Moment) (me : Side) (e : ℕ) (st : NodeState) → m.window ≡ 0 → st.frame + 1 ≡ m.frame
    → Stands sc m me (turn sc.sizes sc.plan.probation me e st)
unfolding turn
turn-stands sc m me e st w f = record {
  frame = f;
  knows = subst (λ n. Knows sc.sizes me n (turn sc.sizes sc.plan.probation me e st)) (sym w)
      (record { k1 = sym (knows-none sc.sizes me 1); k2 = sym (knows-none sc.sizes me 2); k3 = sym (knows-none sc.sizes me 3) });
}

-- a node that stood at the end of a frame stands at the start of the next
turned-stand : {sc : Scenario} (hands : List HandIn) {m : Moment} {me : Side} (i : ℕ) {old st : NodeState} → m.window ≡ windows_in sc.sizes
    → slice_get (of_kind me m.nodes) i ≡ Some old → slice_get (of_kind me (next_frame sc hands m).nodes) i ≡ Some st → Stands sc m me old
    → Stands sc (next_frame sc hands m) me st
unfolding begin_frame
turned-stand {sc} hands {m} {me} i {old} {st} full was is stood =
    let now : NodeState = turn_if_known sc.sizes sc.plan me old in
    let same : now ≡ st = same_Some now st (sym (state-turned sc hands m me i old was) ∙ is) in
    let known : is_some (new_epoch_of sc.plan me old) ≡ true =
    epoch-known sc.plan me (subst (λ n. Knows sc.sizes me n old) full stood.knows) in
    let by = turned-by sc.sizes sc.plan.probation me old (new_epoch_of sc.plan me old) known in
    let turn_is : turn sc.sizes sc.plan.probation me by.0 old ≡ now = sym by.1 in
    let is_st : turn sc.sizes sc.plan.probation me by.0 old ≡ st = turn_is ∙ same in
    let same_frame : old.frame ≡ m.frame = stood.frame in
    subst (λ st. Stands sc (next_frame sc hands m) me st) is_st
    (turn-stands sc (next_frame sc hands m) me by.0 old refl (ap (λ f. f + 1) same_frame))

frame-stand : {sc : Scenario} (hands : List HandIn) {m : Moment} → windows_in sc.sizes ≤ m.window → AllStand sc m → AllStand sc (next_frame sc hands m)
unfolding begin_frame
frame-stand {sc} hands {m} over h =
    let bound : m.window ≤ windows_in sc.sizes = h.window in
    let full : m.window ≡ windows_in sc.sizes = omega arith in
    record {
      window = omega arith;
      counts = λ me. length-each (λ me i st. turn_if_known sc.sizes sc.plan me st) m.nodes me ∙ h.counts me;
      stands = λ me i st there good.
          let long : length (of_kind me m.nodes) ≡ count_of me sc.sizes = h.counts me in
          let counted : i < count_of me sc.sizes = good_counts sc me i (m.frame + 1) (slot_numbered sc.sizes 0) good in
          let within : i < length (of_kind me m.nodes) = omega arith in
          let old = item-at (of_kind me m.nodes) i within in
          let before : is_good sc me i m.frame (slot_numbered sc.sizes m.window) ≡ true =
          good_before sc me i m.frame (m.frame + 1) (slot_numbered sc.sizes m.window) (slot_numbered sc.sizes 0) (omega arith) good in
          turned-stand hands i full old.1 there (h.stands me i old.0 old.1 before);
    }

-- with another book all nodes stand as before
other-book : {sc m : _} (b : Book) → AllStand sc m → AllStand sc (record m { book = b })
other-book {sc} {m} b h = record {
  window = h.window;
  counts = h.counts;
  stands = λ me i st there good. let s : Stands sc m me st = h.stands me i st there good in record { frame = s.frame; knows = s.knows };
}

stepped-stand : (sc : Scenario) (hands : List HandIn) (m : Moment) (over in_frame : Bool) → HasTicks sc.plan → nat_lt m.window (windows_in sc.sizes) ≡ in_frame
    → AllStand sc m → AllStand sc (stepped sc hands m over in_frame)
stepped-stand sc hands m over true ticks e h =
    other-book _ (window-stand ticks (grind (arith, nat_tests)) h)
stepped-stand sc hands m over false ticks e h = other-book _ (frame-stand hands (grind (arith, nat_tests)) h)

step-stand : {sc : Scenario} (hands : List HandIn) {m : Moment} → HasTicks sc.plan → AllStand sc m → AllStand sc (step sc hands m)
unfolding step
step-stand {sc} hands {m} ticks h = stepped-stand sc hands m (m.frame == sc.frames) (nat_lt m.window (windows_in sc.sizes)) ticks refl h

-- in every moment each good node is in its frame, and knows the middles of the windows that it has
-- passed
pub moments-stand : (sc : Scenario) (hands : List HandIn) (n : ℕ) → HasTicks sc.plan → AllStand sc (moment sc hands n)
moments-stand sc hands zero ticks = first-stand sc hands
moments-stand sc hands (suc n) ticks = step-stand hands ticks (moments-stand sc hands n ticks)
