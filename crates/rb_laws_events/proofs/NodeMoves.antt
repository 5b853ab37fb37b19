-- For the law that events are rounds: where a node stands after it has closed a window: in the next
-- one, or past an empty tail and the turn in the first one of the next frame.
use Rattle.std.proofs.{Common.{◌≡◌, ℕ, suc, ◌+◌, ◌*◌, ◌-◌, ◌<◌, ◌≤◌, ◌==◌, ◌&&◌, nat_le, nat_lt, Bool, true, false, refl, ap, sym, ◌∙◌, subst, arith, inl, inr, ◌⊎◌, List, Option, Some, None, is_some, slice_get, option_map, unwrap_or, if◌then◌else◌}, lemmas.Bool.{cases_lt, le-ltb, lt-leb, lt-ltb}, lemmas.Bool.Decides.nat_tests, lemmas.Option.same_Some}
use Rattle.rb_base.specs.{Nodes.Side, Nodes.Side.{Biu, Rmu}, Sizes.{Sizes, sync_slot_of}}
use Rattle.rb_base.proofs.Plain.{is_some-map, none-from, some-from}
use Rattle.rb_rules.specs.{declared.plan.Plan.Plan, declared.plan.Window.Window, Book.of_kind, Conviction.turn, Core.{is_tick, state_at}, Goodness.{Scenario, is_good}, Hearing.{Sending, window_numbered}, Book.Each, NodeState.NodeState, NodeSteps.turn_if_known, Plan.tail_start_of, Ports.HandIn, Rounds.{Moment, Result, window_in, windows_in, sent_in, go_through, close_on, moment, word_for_window, heard_at}, ExactStage.keep_sent, SyncStage.new_epoch_of}
use Rattle.rb_rules.proofs.RoundStates.{HasTicks, Knows, Stays, numbered-knows, state-after, state-turned, through-stays}
use Rattle.rb_laws_events.specs.Closing.{stages_in}
use Rattle.rb_laws_events.proofs.{CloseOrder.{IsWindowLater, IsFrameLater, window-later, frame-later}, Invariant.{is_good_at, next_stage}, NodeSends.KeepsTime, NodeTicks.{no-turn, tail-first, tail-last}, RoundNodes.slot-is, StageOrder.last_of, TickWindows.{IsTickIn, Tiles, first_of, first-same, get-window, tiles}}

-- One step of a node.

-- what the rounds make of a node in a moment's window
abbrev pub state_after : Scenario → Moment → Side → ℕ → NodeState → NodeState
state_after sc m me i st = (go_through sc m (sent_in sc m) me i st (window_in sc m me st)).state

pub get-later : (sc : Scenario) (hands : List HandIn) (p : ℕ) (me : Side) (i : ℕ) {st : _} → (moment sc hands p).window < windows_in sc.sizes
    → slice_get (of_kind me (moment sc hands p).nodes) i ≡ Some st
    → slice_get (of_kind me (moment sc hands (suc p)).nodes) i ≡ Some (state_after sc (moment sc hands p) me i st)
get-later sc hands p me i {st} inside there =
    let next : IsWindowLater sc (moment sc hands p) (moment sc hands (suc p)) = window-later sc hands (moment sc hands p) inside in
    ap (λ nodes. slice_get (of_kind me nodes) i) next.nodes ∙ state-after sc (moment sc hands p) me i st there

pub get-turned : (sc : Scenario) (hands : List HandIn) (p : ℕ) (me : Side) (i : ℕ) {st : _} → windows_in sc.sizes ≤ (moment sc hands p).window
    → slice_get (of_kind me (moment sc hands p).nodes) i ≡ Some st
    → slice_get (of_kind me (moment sc hands (suc p)).nodes) i ≡ Some (turn_if_known sc.sizes sc.plan me st)
get-turned sc hands p me i {st} over there =
    let next : IsFrameLater sc hands (moment sc hands p) (moment sc hands (suc p)) = frame-later sc hands (moment sc hands p) over in
    ap (λ nodes. slice_get (of_kind me nodes) i) next.nodes ∙ state-turned sc hands (moment sc hands p) me i st there

-- a window that is passed over leaves the node's state
pub passed-over : (sc : Scenario) (m : Moment) (sent : Each (Option Sending)) (me : Side) (i : ℕ) (st : NodeState) (w : Window)
    → nat_le w.first w.last ≡ false → (go_through sc m sent me i st w).state ≡ st
unfolding go_through
passed-over sc m sent me i st w e = by (is_good sc me i m.frame w.slot) (nat_le w.first w.last) e
  where
    by : (a b : Bool) → b ≡ false → (elim (a && b) as (λ _. Result) [
      | true ↦ close_on sc me i (keep_sent sc.sizes me i st w.slot w.stage (word_for_window sc m i w)) w (heard_at sc me i st w sent)
      | false ↦ record { state = st; row = None }
    ]).state ≡ st
    by true true e = cc
    by false true e = cc
    by true false e = refl
    by false false e = refl

-- The next place.

-- a node that has closed the window of moment p, in this state, goes on with tick k, which is the
-- first of moment q's window
pub record NextPlace (sc : Scenario) (hands : List HandIn) (me : Side) (i p k : ℕ) (c : NodeState) : Type 0 where
  pub q : ℕ
  pub st : NodeState
  pub place : (q ≡ next_stage sc.sizes (moment sc hands p) p) ⊎ ((q ≡ suc p) × ((moment sc hands q).window ≡ stages_in sc.sizes))
  pub state : slice_get (of_kind me (moment sc hands q).nodes) i ≡ Some st
  pub frame : st.frame ≡ (moment sc hands q).frame
  pub window : (moment sc hands q).window ≤ stages_in sc.sizes
  pub turned : state_at sc.sizes sc.plan me c k ≡ st
  pub first : k ≡ st.epoch + first_of sc.sizes sc.plan me st (moment sc hands q).window
  pub some : first_of sc.sizes sc.plan me st (moment sc hands q).window ≤ last_of sc.sizes sc.plan me st (moment sc hands q).window

next-of-inner : (sizes : Sizes) (m : Moment) (p : ℕ) → m.window + 1 < stages_in sizes → suc p ≡ next_stage sizes m p
next-of-inner sizes m p h =
    let t : nat_lt (m.window + 1) (stages_in sizes) ≡ true = lt-ltb (m.window + 1) (stages_in sizes) h in
    let e : suc p ≡ p + 1 = omega arith in
    e ∙ ap (λ b. p + (if b then 1 else windows_in sizes + 1 - m.window)) (sym t)

next-of-outer : (sizes : Sizes) (m : Moment) (p : ℕ) {q : ℕ} → stages_in sizes ≤ m.window + 1 → q ≡ p + (windows_in sizes + 1 - m.window) → q ≡ next_stage sizes m p
next-of-outer sizes m p h e =
    let t : nat_lt (m.window + 1) (stages_in sizes) ≡ false = le-ltb (m.window + 1) (stages_in sizes) h in
    e ∙ ap (λ b. p + (if b then 1 else windows_in sizes + 1 - m.window)) (sym t)

-- the node knows its next epoch once all stages are closed

pub epoch-known : {sizes : _} (plan : Plan) (me : Side) {st n : _} → stages_in sizes ≤ n → Knows sizes me n st → is_some (new_epoch_of plan me st) ≡ true
epoch-known {sizes} plan Biu {st} {n} h k =
    is_some-map (λ k2. k2 + plan.v + plan.z + plan.c) st.k2 ∙ k.k2 ∙ lt-ltb (3 * sync_slot_of sizes + 2 - 1) n (omega arith)
epoch-known {sizes} plan Rmu {st} {n} h k =
    is_some-map (λ k3. k3 + plan.z) st.k3 ∙ k.k3 ∙ lt-ltb (3 * sync_slot_of sizes + 3 - 1) n (omega arith)

epoch-unknown : {sizes : _} (plan : Plan) (me : Side) {st n : _} → n ≤ 3 * sync_slot_of sizes → Knows sizes me n st → new_epoch_of plan me st ≡ None
epoch-unknown {sizes} plan Biu {st} {n} h k =
    ap (option_map (λ k2. k2 + plan.v + plan.z + plan.c)) (none-from st.k2 (k.k2 ∙ le-ltb (3 * sync_slot_of sizes + 2 - 1) n (omega arith)))
epoch-unknown {sizes} plan Rmu {st} {n} h k =
    ap (option_map (λ k3. k3 + plan.z)) (none-from st.k3 (k.k3 ∙ le-ltb (3 * sync_slot_of sizes + 3 - 1) n (omega arith)))

pub turn-at : (sizes : Sizes) (plan : Plan) (me : Side) (st : NodeState) {x : ℕ} → new_epoch_of plan me st ≡ Some x
    → (state_at sizes plan me st x ≡ turn_if_known sizes plan me st) × (((turn_if_known sizes plan me st).epoch ≡ x) × ((turn_if_known sizes plan me st).frame ≡ st.frame + 1))
unfolding state_at turn
turn-at sizes plan me st {x} e = (
  ap (λ o. elim (is_tick o x) as (λ _. NodeState) [ true ↦ turn_if_known sizes plan me st | false ↦ st ]) e
      ∙ ap (λ b. elim b as (λ _. NodeState) [ true ↦ turn_if_known sizes plan me st | false ↦ st ]) (same x),
  (
    ap (λ o. (elim o as (λ _. NodeState) [ None ↦ st | Some epoch ↦ turn sizes plan.probation me epoch st ]).epoch) e,
    ap (λ o. (elim o as (λ _. NodeState) [ None ↦ st | Some epoch ↦ turn sizes plan.probation me epoch st ]).frame) e,
  ),
)
  where
    same : (x : ℕ) → (x == x) ≡ true
    same x = grind (arith, nat_tests)

-- A node that stood in moment p in a good state, with what is known of it.
pub record Closed (sc : Scenario) (hands : List HandIn) (me : Side) (i p : ℕ) (st : NodeState) : Type 0 where
  pub window : (moment sc hands p).window ≤ stages_in sc.sizes
  pub state : slice_get (of_kind me (moment sc hands p).nodes) i ≡ Some st
  pub good : is_good_at sc (moment sc hands p) me i ≡ true
  pub frame : st.frame ≡ (moment sc hands p).frame
  pub knows : Knows sc.sizes me (moment sc hands p).window st
  pub some : first_of sc.sizes sc.plan me st (moment sc hands p).window ≤ last_of sc.sizes sc.plan me st (moment sc hands p).window
  -- a node that is good in the next moment keeps time there
  pub keeps : (moment sc hands p).window < stages_in sc.sizes → is_good_at sc (moment sc hands (suc p)) me i ≡ true
      → KeepsTime sc.sizes sc.plan me (state_after sc (moment sc hands p) me i st)

pub after-stays : (sc : Scenario) (m : Moment) (me : Side) (i : ℕ) (st : NodeState) → Stays st (state_after sc m me i st)
after-stays sc m me i st = through-stays sc m (sent_in sc m) me i st (window_in sc m me st)

pub after-knows : {sc : Scenario} {hands : List HandIn} {me : Side} {i p : ℕ} {st : NodeState} → HasTicks sc.plan → Closed sc hands me i p st
    → Knows sc.sizes me ((moment sc hands p).window + 1) (state_after sc (moment sc hands p) me i st)
after-knows {sc} {hands} {me} {i} {p} {st} ticks h =
    let m : Moment = moment sc hands p in
    let le : m.window ≤ stages_in sc.sizes = h.window in
    numbered-knows sc m (sent_in sc m) me i m.window st ticks (omega arith) (ap (is_good sc me i m.frame) (slot-is sc.sizes sc.plan me st m.window) ∙ h.good) h.knows

-- windows of stages begin alike at all states of a frame
pub first-alike : (sizes : Sizes) {plan : _} (me : Side) (a b : NodeState) (n : ℕ) → HasTicks plan → n < stages_in sizes
    → first_of sizes plan me b (n + 1) ≡ last_of sizes plan me a n + 1
first-alike sizes {plan} me a b n ticks h =
    let t : Tiles sizes plan me b n = tiles sizes me b n ticks h in
    t.next ∙ ap (λ (w : Window). w.last + 1) (same-window sizes plan me a b n h)
  where
    same-window : (sizes : Sizes) (plan : Plan) (me : Side) (a b : NodeState) (n : ℕ) → n < stages_in sizes → window_numbered sizes plan me b n ≡ window_numbered sizes plan me a n
    same-window sizes plan me a b n h =
        same_Some (window_numbered sizes plan me b n) (window_numbered sizes plan me a n)
        (sym (get-window sizes plan me b n h) ∙ get-window sizes plan me a n h)

-- a node that has closed a stage before the last goes on to the next one
pub inner : {sc : Scenario} {hands : List HandIn} {me : Side} {i p : ℕ} {st : NodeState} → HasTicks sc.plan → Closed sc hands me i p st
    → (moment sc hands p).window + 1 < stages_in sc.sizes
    → ((is_good_at sc (moment sc hands (suc p)) me i ≡ true) ⊎ ((moment sc hands p).window + 1 ≤ 3 * sync_slot_of sc.sizes))
    → NextPlace sc hands me i p (st.epoch + last_of sc.sizes sc.plan me st (moment sc hands p).window + 1) (state_after sc (moment sc hands p) me i st)
unfolding state_at
inner {sc} {hands} {me} {i} {p} {st} ticks h below how =
    let m : Moment = moment sc hands p in
    let next : IsWindowLater sc m (moment sc hands (suc p)) = window-later sc hands m (omega arith) in
    let c : NodeState = state_after sc m me i st in
    let k : ℕ = st.epoch + last_of sc.sizes sc.plan me st m.window + 1 in
    let stays : Stays st c = after-stays sc m me i st in
    let epoch : c.epoch ≡ st.epoch = stays.epoch in
    let n : m.window + 1 ≡ (moment sc hands (suc p)).window = sym next.window in
    let first : first_of sc.sizes sc.plan me c (m.window + 1) ≡ last_of sc.sizes sc.plan me st m.window + 1 =
    first-alike sc.sizes me st c m.window ticks (omega arith) in
    let t : Tiles sc.sizes sc.plan me c (m.window + 1) = tiles sc.sizes me c (m.window + 1) ticks below in
    let some : first_of sc.sizes sc.plan me c (m.window + 1) ≤ last_of sc.sizes sc.plan me c (m.window + 1) = t.some in
    let turned : state_at sc.sizes sc.plan me c k ≡ c = elim how [
      | inl good ↦ no-turn (m.window + 1) ticks (h.keeps (omega arith) good) (omega arith) (record { from = omega arith; to = omega arith })
      | inr early ↦
          ap (λ o. elim (is_tick o k) as (λ _. NodeState) [ true ↦ turn_if_known sc.sizes sc.plan me c | false ↦ c ])
          (epoch-unknown sc.plan me early (after-knows ticks h))
    ] in
    record {
      q = suc p;
      st = c;
      place = inl (next-of-inner sc.sizes m p below);
      state = get-later sc hands p me i (omega arith) h.state;
      frame = stays.frame ∙ h.frame ∙ sym next.frame;
      window = subst (λ j. j ≤ stages_in sc.sizes) n (omega arith);
      turned = turned;
      first = subst (λ j. k ≡ c.epoch + first_of sc.sizes sc.plan me c j) n (omega arith);
      some = subst (λ j. first_of sc.sizes sc.plan me c j ≤ last_of sc.sizes sc.plan me c j) n some;
    }

-- the first window of the next frame, from the end of this one
turned-place : (sc : Scenario) (hands : List HandIn) (me : Side) (i p e : ℕ) {k x c : _} → HasTicks sc.plan
    → windows_in sc.sizes ≤ (moment sc hands e).window → slice_get (of_kind me (moment sc hands e).nodes) i ≡ Some c → c.frame ≡ (moment sc hands e).frame
    → new_epoch_of sc.plan me c ≡ Some x → x ≡ k → suc e ≡ next_stage sc.sizes (moment sc hands p) p → NextPlace sc hands me i p k c
turned-place sc hands me i p e {k} {x} {c} ticks over there frame known is place =
    let next : IsFrameLater sc hands (moment sc hands e) (moment sc hands (suc e)) = frame-later sc hands (moment sc hands e) over in
    let y : NodeState = turn_if_known sc.sizes sc.plan me c in
    let at = turn-at sc.sizes sc.plan me c known in
    let w : 0 ≡ (moment sc hands (suc e)).window = sym next.window in
    let zero_first : first_of sc.sizes sc.plan me y 0 ≡ 0 * sc.plan.l = first-same sc.sizes sc.plan me y 0 (omega arith) in
    let epoch : y.epoch ≡ x = at.1.0 in
    let t : Tiles sc.sizes sc.plan me y 0 = tiles sc.sizes me y 0 ticks (omega arith) in
    record {
      q = suc e;
      st = y;
      place = inl place;
      state = get-turned sc hands e me i over there;
      frame = at.1.1 ∙ ap (λ f. f + 1) frame ∙ sym next.frame;
      window = subst (λ j. j ≤ stages_in sc.sizes) w (omega arith);
      turned = ap (state_at sc.sizes sc.plan me c) (sym is) ∙ at.0;
      first = subst (λ j. k ≡ y.epoch + first_of sc.sizes sc.plan me y j) w (omega arith);
      some = subst (λ j. first_of sc.sizes sc.plan me y j ≤ last_of sc.sizes sc.plan me y j) w t.some;
    }

-- after the last stage a node goes on to the tail, or if that is empty to the next frame
pub last-stage : {sc : Scenario} {hands : List HandIn} {me : Side} {i p : ℕ} {st : NodeState} → HasTicks sc.plan → Closed sc hands me i p st
    → (moment sc hands p).window + 1 ≡ stages_in sc.sizes → is_good_at sc (moment sc hands (suc p)) me i ≡ true
    → NextPlace sc hands me i p (st.epoch + last_of sc.sizes sc.plan me st (moment sc hands p).window + 1) (state_after sc (moment sc hands p) me i st)
last-stage {sc} {hands} {me} {i} {p} {st} ticks h at_last good =
    let m : Moment = moment sc hands p in
    let tail : Moment = moment sc hands (suc p) in
    let next : IsWindowLater sc m tail = window-later sc hands m (omega arith) in
    let c : NodeState = state_after sc m me i st in
    let k : ℕ = st.epoch + last_of sc.sizes sc.plan me st m.window + 1 in
    let stays : Stays st c = after-stays sc m me i st in
    let epoch : c.epoch ≡ st.epoch = stays.epoch in
    let n : tail.window ≡ m.window + 1 = next.window in
    let w : stages_in sc.sizes ≡ tail.window = omega arith in
    let begins : first_of sc.sizes sc.plan me c (m.window + 1) ≡ last_of sc.sizes sc.plan me st m.window + 1 =
    first-alike sc.sizes me st c m.window ticks (omega arith) in
    let first : first_of sc.sizes sc.plan me c (stages_in sc.sizes) ≡ last_of sc.sizes sc.plan me st m.window + 1 =
    ap (first_of sc.sizes sc.plan me c) (sym at_last) ∙ begins in
    let start : first_of sc.sizes sc.plan me c (stages_in sc.sizes) ≡ tail_start_of sc.sizes sc.plan = tail-first sc.sizes sc.plan me c in
    let known = some-from (new_epoch_of sc.plan me c) (epoch-known sc.plan me (omega arith) (after-knows ticks h)) in
    let x : ℕ = known.0 in
    let low : c.epoch + tail_start_of sc.sizes sc.plan ≤ x = (h.keeps (omega arith) good).next x known.1 in
    let last : last_of sc.sizes sc.plan me c (stages_in sc.sizes) ≡ x - c.epoch - 1 =
    tail-last sc.sizes sc.plan me c ∙ ap (λ o. unwrap_or o 0 - c.epoch - 1) known.1 in
    let there : slice_get (of_kind me tail.nodes) i ≡ Some c = get-later sc hands p me i (omega arith) h.state in
    let frame : c.frame ≡ tail.frame = stays.frame ∙ h.frame ∙ sym next.frame in
    let l_some : 1 ≤ sc.plan.l = ticks.l in
    elim (cases_lt k x) [
      | inl lt ↦
          let inside : first_of sc.sizes sc.plan me c (stages_in sc.sizes) ≤ last_of sc.sizes sc.plan me c (stages_in sc.sizes) = omega arith in
          let at : IsTickIn sc.sizes sc.plan me c (stages_in sc.sizes) k = record { from = omega arith; to = omega arith } in
          record {
            q = suc p;
            st = c;
            place = inr (refl, sym w);
            state = there;
            frame = frame;
            window = omega arith;
            turned = no-turn (stages_in sc.sizes) ticks (h.keeps (omega arith) good) (omega arith) at;
            first = subst (λ j. k ≡ c.epoch + first_of sc.sizes sc.plan me c j) w (omega arith);
            some = subst (λ j. first_of sc.sizes sc.plan me c j ≤ last_of sc.sizes sc.plan me c j) w inside;
          }
      | inr ge ↦
          let is : x ≡ k = omega arith in
          let end_of : IsWindowLater sc tail (moment sc hands (suc (suc p))) = window-later sc hands tail (omega arith) in
          let tail_first : (window_in sc tail me c).first ≡ first_of sc.sizes sc.plan me c (stages_in sc.sizes) = ap (first_of sc.sizes sc.plan me c) (sym w) in
          let tail_last : (window_in sc tail me c).last ≡ last_of sc.sizes sc.plan me c (stages_in sc.sizes) = ap (last_of sc.sizes sc.plan me c) (sym w) in
          let empty : nat_le (window_in sc tail me c).first (window_in sc tail me c).last ≡ false = lt-leb _ _ (omega arith) in
          let same : state_after sc tail me i c ≡ c = passed-over sc tail (sent_in sc tail) me i c (window_in sc tail me c) empty in
          let at_end : slice_get (of_kind me (moment sc hands (suc (suc p))).nodes) i ≡ Some c =
          get-later sc hands (suc p) me i (omega arith) there ∙ ap Some same in
          let end_window : (moment sc hands (suc (suc p))).window ≡ tail.window + 1 = end_of.window in
          turned-place sc hands me i p (suc (suc p)) ticks (omega arith) at_end (frame ∙ sym end_of.frame) known.1 is
          (next-of-outer sc.sizes m p (omega arith) (omega arith))
    ]

-- after the tail a node goes on to the next frame
pub after-tail : {sc : Scenario} {hands : List HandIn} {me : Side} {i p x : ℕ} {st : NodeState} → HasTicks sc.plan → Closed sc hands me i p st
    → (moment sc hands p).window ≡ stages_in sc.sizes → new_epoch_of sc.plan me (state_after sc (moment sc hands p) me i st) ≡ Some x
    → x ≡ st.epoch + last_of sc.sizes sc.plan me st (moment sc hands p).window + 1
    → NextPlace sc hands me i p (st.epoch + last_of sc.sizes sc.plan me st (moment sc hands p).window + 1) (state_after sc (moment sc hands p) me i st)
after-tail {sc} {hands} {me} {i} {p} {st} ticks h in_tail known is =
    let m : Moment = moment sc hands p in
    let next : IsWindowLater sc m (moment sc hands (suc p)) = window-later sc hands m (omega arith) in
    let c : NodeState = state_after sc m me i st in
    let stays : Stays st c = after-stays sc m me i st in
    let n : (moment sc hands (suc p)).window ≡ m.window + 1 = next.window in
    turned-place sc hands me i p (suc p) ticks (omega arith)
    (get-later sc hands p me i (omega arith) h.state) (stays.frame ∙ h.frame ∙ sym next.frame) known is
    (next-of-outer sc.sizes m p (omega arith) (omega arith))
