-- For the law of record and replay: what a tick of a node in the run has for lines, and what it
-- moves: with them the node has told all up to where it then stands, but for the start of a frame
-- whose first tick pends.
use Rattle.std.proofs.{Common.{◌≡◌, ℕ, suc, ◌+◌, ◌*◌, ◌-◌, ◌<◌, ◌≤◌, ◌%◌, ◌==◌, ◌&&◌, ◌⊎◌, nat_lt, Bool, true, false, List, [], ◌++◌, append_assoc, refl, ap, sym, ◌∙◌, subst, arith, inl, inr, Option, Some, None, slice_get, option_and_then, option_map, if◌then◌else◌}, lemmas.Bool.{cases_lt, cond-false, cond-true, eq-eqb, le-ltb, lt-ltb}, lemmas.Bool.Decides.nat_tests, lemmas.List.append-nil, lemmas.Option.same_Some}
use Rattle.rb_base.specs.{Nodes.Side, Nodes.Side.{Biu, Rmu}, Sizes.{Sizes, sync_slot_of}, declared.node.NodeName.NodeName, declared.values.Delivery.Delivery}
use Rattle.rb_base.proofs.Plain.{less-differs}
use Rattle.rb_rules.specs.{declared.closing.Closed.Closed, declared.plan.Plan.Plan, declared.plan.Window.Window, declared.record.Epoch.Epoch, Book.{line_in, of_kind}, Core.{Act, Core, epoch_at, of_source, pass_to, state_at}, Goodness.{Scenario, is_good}, Hearing.{close_window, epoch_of, row_of, window_numbered}, Lawful.{IsLawful, kind_of}, NodeState.NodeState, NodeSteps.convicted_of, Ports.PortState, Rounds.{Moment, moment, window_in, windows_in}, WorldStep.{Site, Timed, after_act}}
use Rattle.rb_rules.proofs.RoundStates.{HasTicks, Stays, close-stays, keeping-stays, stays-refl}
use Rattle.rb_laws_events.specs.Closing.{stages_in}
use Rattle.rb_laws_events.proofs.{CloseOrder.{IsFrameLater, IsWindowLater, frame-later, window-later}, Invariant.{is_good_at, last_tick, next_stage, word_at}, MomentSteps.{next-inner, next-outer}, NodeActs.HasRoom, NodeClosing.{ClosesWindow, GoesOn}, NodeEvents.StaysOpen, NodeSends.sending_at, NodeTicks.{by_said, gone, kept_in, state_in}, RoundNodes.{slot-is, slot_numbered}, StageOrder.{last-same, last_of}, Telling.first-window, TickRooms.has-room, TickWindows.{ends-before-later, first-same, first_of}, ToldSoFar.{PendsFirst, first-pends}, WorldEvents.state-frame}
use Rattle.rb_report.specs.Report.{delivery_text}
use Rattle.rb_laws_agreement.proofs.Goodnesses.{good_before}
use Rattle.rb_laws_logs.specs.{Given.index_of, Laws.IsGoodThroughout, Replays.{delivery_lines, epoch_lines, frames_with}}
use Rattle.rb_laws_logs.proofs.{Delivered.{Delivers, close-by, line_of_node}, Gathered.if_there, NodeLines.{block_text, line_text, row_in, told_up_to, window_text}, NodeSites.{act-core, state-rises}, Positions.{StandsAt, stands-at}, RoundLines.{HasState, good-begin, has-state, nothing-told}}

some-more : (a : ℕ) → nat_lt 0 (a + 1) ≡ true
some-more a = grind (arith, nat_tests)

plus-none : (n : ℕ) → n + 0 ≡ n
plus-none n = omega arith

-- Begins.

-- what a node says of the convicted nodes does not change within a frame
convicted-stay : (sizes : Sizes) (side me : Side) {a b : _} → Stays a b → convicted_of sizes side me b ≡ convicted_of sizes side me a
convicted-stay sizes Biu Biu h = rw (h.near) refl
convicted-stay sizes Rmu Rmu h = rw (h.near) refl
convicted-stay sizes Biu Rmu h = rw (h.trusted) refl
convicted-stay sizes Rmu Biu h = rw (h.trusted) refl

epoch-stays : (sizes : Sizes) (me : Side) {a b : _} → Stays a b → epoch_of sizes me b ≡ epoch_of sizes me a
epoch-stays sizes me {a} {b} h =
    ap (λ f. let e : Epoch = record { frame = f; tick = b.epoch; biu = convicted_of sizes Biu me b; rmu = convicted_of sizes Rmu me b } in e) h.frame
    ∙ ap (λ t. let e : Epoch = record { frame = a.frame; tick = t; biu = convicted_of sizes Biu me b; rmu = convicted_of sizes Rmu me b } in e) h.epoch
    ∙ ap (λ c. let e : Epoch = record { frame = a.frame; tick = a.epoch; biu = c; rmu = convicted_of sizes Rmu me b } in e) (convicted-stay sizes Biu me h)
    ∙ ap (λ c. let e : Epoch = record { frame = a.frame; tick = a.epoch; biu = convicted_of sizes Biu me a; rmu = c } in e) (convicted-stay sizes Rmu me h)

in-stays : (sizes : Sizes) (plan : Plan) (me : Side) (i : ℕ) (st : NodeState) (n word k : ℕ) → Stays st (state_in sizes plan me i st n word k)
in-stays sizes plan me i st n word k = by (gone (sending_at sizes plan me i st n word) k)
  where
    by : (b : Bool) → Stays st (by_said b st (kept_in sizes plan me i st n word))
    by true = keeping-stays sizes me i st (window_numbered sizes plan me st n).slot (window_numbered sizes plan me st n).stage word
    by false = stays-refl st

begin-stays : (sizes : Sizes) (me : Side) {a b : _} (k : ℕ) → Stays a b → epoch_at sizes me b k ≡ epoch_at sizes me a k
begin-stays sizes me {a} {b} k h =
    ap (λ t. elim (t == k) as (λ _. Option Epoch) [ true ↦ Some (epoch_of sizes me b) | false ↦ None ]) h.epoch
    ∙ ap (λ e. elim (a.epoch == k) as (λ _. Option Epoch) [ true ↦ Some e | false ↦ None ]) (epoch-stays sizes me h)

-- no frame begins with a tick after the epoch
none-begins : (sizes : Sizes) (me : Side) (st : NodeState) (k : ℕ) → st.epoch < k → epoch_at sizes me st k ≡ None
none-begins sizes me st k h = ap (λ b. elim b as (λ _. Option Epoch) [ true ↦ Some (epoch_of sizes me st) | false ↦ None ]) (less-differs st.epoch k h)

pub now-begins : (sizes : Sizes) (me : Side) (st : NodeState) {k : ℕ} → st.epoch ≡ k → epoch_at sizes me st k ≡ Some (epoch_of sizes me st)
now-begins sizes me st {k} h = ap (λ b. elim b as (λ _. Option Epoch) [ true ↦ Some (epoch_of sizes me st) | false ↦ None ]) (eq-eqb st.epoch k h)

-- moment `p` is the first window of the frame, and the pending tick is the node's epoch
pub record Turns (sc : Scenario) (p frame : ℕ) (st : NodeState) (a : Timed) : Type 0 where
  pub first : st.epoch ≡ a.tick
  pub window : (moment sc [] p).window ≡ 0
  pub in_frame : (moment sc [] p).frame ≡ frame

pub turns-now : {sc : Scenario} {me : Side} {i p : ℕ} (frame : ℕ) {c : Core} {st : NodeState} {a : Timed} → HasTicks sc.plan → StandsAt sc me i p c st a → c.state.frame < frame
    → frame ≤ (moment sc [] p).frame → Turns sc p frame st a
turns-now {sc} {me} {i} {p} frame {c} {st} {a} ticks h before from =
    let m : Moment = moment sc [] p in
    let y : NodeState = state_in sc.sizes sc.plan me i st m.window (word_at sc m me i st) a.tick in
    let stays : Stays st y = in-stays sc.sizes sc.plan me i st m.window (word_at sc m me i st) a.tick in
    let now : state_at sc.sizes sc.plan me c.state a.tick ≡ y = h.window.now in
    let y_frame : y.frame ≡ m.frame = stays.frame ∙ h.frame in
    elim (state-rises sc.sizes sc.plan me c.state a.tick) [
      | inl same ↦
          let e : c.state.frame ≡ y.frame = ap (λ (z : NodeState). z.frame) (sym same ∙ now) in
          absurd (omega (arith, e, y_frame, before, from))
      | inr turned ↦
          let epoch : st.epoch ≡ a.tick = sym stays.epoch ∙ ap (λ (z : NodeState). z.epoch) (sym now) ∙ turned.0 in
          let up : y.frame ≡ c.state.frame + 1 = ap (λ (z : NodeState). z.frame) (sym now) ∙ turned.1 in
          record {
            first = epoch;
            window = first-window m.window ticks h.window.window h.window.at epoch;
            in_frame = omega (arith, up, y_frame, before, from);
          }
    ]

-- Deliveries.

close-text : (name : NodeName) {frame slot : ℕ} (sizes : Sizes) (kept : NodeState) {in_slot : ℕ} (stage first : ℕ) (o : Option Delivery) → kept.frame ≡ frame → in_slot ≡ slot
    → ((d : Delivery) → o ≡ Some d → Delivers sizes (kind_of name) kept in_slot stage d)
    → delivery_lines name o ≡ line_text frame slot (option_map (line_of_node (index_of name)) o)
close-text name sizes kept stage first None e f delivers = refl
close-text name {frame} sizes kept {in_slot} stage first (Some d) e f delivers =
    let its : Delivers sizes (kind_of name) kept in_slot stage d = delivers d refl in
    ap (λ f. delivery_text f d.slot (index_of name) d.sender d.value) (its.frame ∙ e) ∙ ap (λ s. delivery_text frame s (index_of name) d.sender d.value) (its.in_slot ∙ f)

-- the line of a delivery is that of the rounds
delivered-text : {sc : _} (name : NodeName) {p sent ports s st a x : _}
    → slice_get (of_kind (kind_of name) (moment sc [] p).nodes) (index_of name) ≡ Some st → st.frame ≡ (moment sc [] p).frame
    → ClosesWindow sc [] sent ports (kind_of name) (index_of name) p s st a x
    → delivery_lines name (option_and_then (λ c. c.delivered) x.closed) ≡ window_text sc name (moment sc [] p)
unfolding row_of
delivered-text {sc} name {p} {s} {st} {a} {x} there frame closes =
    let m : Moment = moment sc [] p in
    let me : Side = kind_of name in
    let i : ℕ = index_of name in
    let w : Window = window_in sc m me st in
    let slot : ℕ = slot_numbered sc.sizes m.window in
    let kept : NodeState = kept_in sc.sizes sc.plan me i st m.window (word_at sc m me i st) in
    let closed : Closed = (close_window sc.sizes sc.plan me i kept w (of_source (pass_to a.tick s.core).inbox)).closed in
    let its : x.closed ≡ Some closed = closes.act.closed in
    let same : closes.told.0 ≡ closed = same_Some closes.told.0 closed (sym closes.told.1.0 ∙ its) in
    let kept_frame : kept.frame ≡ m.frame = (keeping-stays sc.sizes me i st w.slot w.stage (word_at sc m me i st)).frame ∙ frame in
    ap (λ o. delivery_lines name (option_and_then (λ (c : Closed). c.delivered) o)) its
    ∙ close-by (λ o. delivery_lines name o ≡ line_text m.frame slot (option_map (line_of_node i) o)) sc.sizes me i kept w.slot w.stage w.first _ refl
    (λ d delivers. close-text name sc.sizes kept w.stage 0 (Some d) kept_frame (slot-is sc.sizes sc.plan me st m.window)
    (λ e same_d. subst (Delivers sc.sizes me kept w.slot w.stage) (same_Some d e same_d) delivers))
    ∙ ap (λ (c : Closed). line_text m.frame slot (option_map (line_of_node i) c.delivered)) (sym same)
    ∙ sym (ap (λ o. line_text m.frame slot (line_in o)) closes.told.1.1)
    ∙ sym (ap (λ o. if_there (λ st. line_text m.frame slot (line_in (row_in sc m me i st))) o) there)

-- After a tick.

-- after the tick the node stands in moment `q`, and with the tick it has told all up to there
pub record AfterTick (sc : Scenario) (name : NodeName) (p : ℕ) (st : NodeState) (a : Timed) (x : Act) (z : Site) : Type 0 where
  pub q : ℕ
  pub then_st : NodeState
  pub b : Timed
  pub stands : StandsAt sc (kind_of name) (index_of name) q z.core then_st b
  pub ahead : z.ahead ≡ Some b
  pub frame : z.core.state.frame ≡ (moment sc [] p).frame
  pub epoch : x.epoch ≡ epoch_at sc.sizes (kind_of name) st a.tick
  pub told : told_up_to sc name p ++ (delivery_lines name (option_and_then (λ c. c.delivered) x.closed) ++ epoch_lines name (epoch_at sc.sizes (kind_of name) then_st b.tick))
      ≡ told_up_to sc name q
  pub count : (moment sc [] p).frame + frames_with (epoch_at sc.sizes (kind_of name) then_st b.tick) ≡ (moment sc [] q).frame

-- `AfterTick` holds after a tick that leaves the window open
pub after-open : {sc : Scenario} (name : NodeName) {p : ℕ} {sent : Side → ℕ → ℕ → Bool} {ports : List PortState} {s : Site} {st : NodeState} {a : Timed} {x : Act}
    → HasTicks sc.plan → StandsAt sc (kind_of name) (index_of name) p s.core st a → StaysOpen sc [] sent a.time ports (kind_of name) (index_of name) p s st a.tick x
    → (after : AfterTick sc name p st a x (after_act sc ports (kind_of name) (index_of name) x s)) × ((after.q ≡ p) × (epoch_at sc.sizes (kind_of name) after.then_st after.b.tick ≡ None))
after-open {sc} name {p} {ports} {s} {st} {a} {x} ticks h stays =
    let m : Moment = moment sc [] p in
    let me : Side = kind_of name in
    let i : ℕ = index_of name in
    let word : ℕ = word_at sc m me i st in
    let z : Site = after_act sc ports me i x s in
    let core : z.core ≡ x.core = act-core sc ports me i x s in
    let had : z.core.had ≡ a.tick + 1 = ap (λ (c : Core). c.had) core ∙ stays.act.had in
    let now : StandsAt sc me i p z.core st stays.a = stands-at ticks stays.stands in
    let later : z.core.had ≤ stays.a.tick = now.next.later in
    let from : st.epoch + first_of sc.sizes sc.plan me st m.window ≤ a.tick = h.window.at.from in
    let none : epoch_at sc.sizes me st stays.a.tick ≡ None = none-begins sc.sizes me st stays.a.tick (omega (arith, had, later, from)) in (
      record {
        q = p;
        then_st = st;
        b = stays.a;
        stands = now;
        ahead = stays.stands.receives.pends;
        frame = ap (λ (c : Core). c.state.frame) core ∙ ap (λ (z : NodeState). z.frame) stays.act.state ∙ state-frame sc me i st m.window word (a.tick + 1) ∙ h.frame;
        epoch = stays.act.epoch ∙ begin-stays sc.sizes me a.tick (in-stays sc.sizes sc.plan me i st m.window word a.tick);
        told = ap (λ o. told_up_to sc name p ++ (delivery_lines name (option_and_then (λ (c : Closed). c.delivered) o) ++ epoch_lines name (epoch_at sc.sizes me st stays.a.tick))) stays.act.closed
            ∙ ap (λ o. told_up_to sc name p ++ ([] ++ epoch_lines name o)) none ∙ append-nil (told_up_to sc name p);
        count = ap (λ o. m.frame + frames_with o) none ∙ plus-none m.frame;
      },
      (refl, none),
    )

-- Closes.

-- a node's first window begins with its frame, and all others later
later-begins : (sizes : Sizes) {plan : _} (me : Side) (st : NodeState) (n : ℕ) → HasTicks plan → 1 ≤ n → n ≤ stages_in sizes → 1 ≤ first_of sizes plan me st n
later-begins sizes {plan} me st n ticks some le = let before : last_of sizes plan me st 0 < first_of sizes plan me st n = ends-before-later sizes me st 0 n ticks some le in omega (arith, before)

-- the step from a window, and from the end of a frame
window-step : (sc : Scenario) (name : NodeName) (p : ℕ) → (moment sc [] p).window < windows_in sc.sizes → told_up_to sc name (suc p) ≡ told_up_to sc name p ++ window_text sc name (moment sc [] p)
window-step sc name p h =
    ap (λ l. told_up_to sc name p ++ l) (cond-true (nat_lt (moment sc [] p).window (windows_in sc.sizes)) (window_text sc name (moment sc [] p)) (block_text sc name (moment sc [] (suc p)))
    (lt-ltb (moment sc [] p).window (windows_in sc.sizes) h))

frame-step : (sc : Scenario) (name : NodeName) (p : ℕ) → windows_in sc.sizes ≤ (moment sc [] p).window → told_up_to sc name (suc p) ≡ told_up_to sc name p ++ block_text sc name (moment sc [] (suc p))
frame-step sc name p h =
    ap (λ l. told_up_to sc name p ++ l) (cond-false (nat_lt (moment sc [] p).window (windows_in sc.sizes)) (window_text sc name (moment sc [] p)) (block_text sc name (moment sc [] (suc p)))
    (le-ltb (moment sc [] p).window (windows_in sc.sizes) h))

-- a node that has closed a window is in the next window of the frame, or at the start of the next
-- frame
pub data Place (sc : Scenario) (name : NodeName) (p q : ℕ) : Type 0 where
  Inside : (same : (moment sc [] q).frame ≡ (moment sc [] p).frame) (some : 1 ≤ (moment sc [] q).window) (within : (moment sc [] q).window ≤ stages_in sc.sizes)
      (told : told_up_to sc name q ≡ told_up_to sc name p ++ window_text sc name (moment sc [] p)) → Place sc name p q
  Next : (frame : (moment sc [] q).frame ≡ (moment sc [] p).frame + 1) (first : (moment sc [] q).window ≡ 0)
      (told : told_up_to sc name q ≡ told_up_to sc name p ++ (window_text sc name (moment sc [] p) ++ block_text sc name (moment sc [] q))) → Place sc name p q

good-inside : (sc : Scenario) (name : NodeName) (p : ℕ) → IsGoodThroughout sc name → (moment sc [] p).frame < sc.frames → is_good_at sc (moment sc [] p) (kind_of name) (index_of name) ≡ true
good-inside sc name p good h = good_before sc (kind_of name) (index_of name) (moment sc [] p).frame sc.frames (slot_numbered sc.sizes (moment sc [] p).window) 0 h good

-- before the tail the next place is the next window
to-window : (sc : Scenario) (name : NodeName) (p : ℕ) → (moment sc [] p).window < stages_in sc.sizes → Place sc name p (suc p)
to-window sc name p h =
    let later : IsWindowLater sc (moment sc [] p) (moment sc [] (suc p)) = window-later sc [] (moment sc [] p) (omega (arith, h)) in
    let w : (moment sc [] (suc p)).window ≡ (moment sc [] p).window + 1 = later.window in
    Inside later.frame (omega (arith, w)) (omega (arith, w, h)) (window-step sc name p (omega (arith, h)))

-- the place after the tail is the start of the next frame
from-tail : (sc : Scenario) (name : NodeName) (p : ℕ) → (moment sc [] p).window ≡ stages_in sc.sizes → Place sc name p (suc (suc p))
from-tail sc name p h =
    let end : IsWindowLater sc (moment sc [] p) (moment sc [] (suc p)) = window-later sc [] (moment sc [] p) (omega (arith, h)) in
    let w : (moment sc [] (suc p)).window ≡ (moment sc [] p).window + 1 = end.window in
    let next : IsFrameLater sc [] (moment sc [] (suc p)) (moment sc [] (suc (suc p))) = frame-later sc [] (moment sc [] (suc p)) (omega (arith, w, h)) in
    Next (next.frame ∙ ap (λ f. f + 1) end.frame) next.window
    (frame-step sc name (suc p) (omega (arith, w, h)) ∙ ap (λ l. l ++ block_text sc name (moment sc [] (suc (suc p)))) (window-step sc name p (omega (arith, h)))
    ∙ append_assoc (told_up_to sc name p) (window_text sc name (moment sc [] p)) (block_text sc name (moment sc [] (suc (suc p)))))

from-last : {sc : Scenario} {name : NodeName} (p : ℕ) → HasTicks sc.plan → IsGoodThroughout sc name → (moment sc [] p).frame < sc.frames → (moment sc [] p).window + 1 ≡ stages_in sc.sizes
    → Place sc name p (suc (suc (suc p)))
from-last {sc} {name} p ticks good inside h =
    let m : Moment = moment sc [] p in
    let tail_at : Moment = moment sc [] (suc p) in
    let end_at : Moment = moment sc [] (suc (suc p)) in
    let next_at : Moment = moment sc [] (suc (suc (suc p))) in
    let tail : IsWindowLater sc m tail_at = window-later sc [] m (omega (arith, h)) in
    let w : tail_at.window ≡ m.window + 1 = tail.window in
    let f : tail_at.frame ≡ m.frame = tail.frame in
    let end : IsWindowLater sc tail_at end_at = window-later sc [] tail_at (omega (arith, w, h)) in
    let w2 : end_at.window ≡ tail_at.window + 1 = end.window in
    let next : IsFrameLater sc [] end_at next_at = frame-later sc [] end_at (omega (arith, w, w2, h)) in
    let state : HasState sc name tail_at = has-state sc name (suc p) ticks (good-inside sc name (suc p) good (omega (arith, f, inside))) in
    let silent : window_text sc name tail_at ≡ [] = nothing-told state (omega (arith, w, h)) (past-exact tail_at.window (sync_slot_of sc.sizes) (omega (arith, w, h))) in
    Next (next.frame ∙ ap (λ f. f + 1) (end.frame ∙ f)) next.window
    (frame-step sc name (suc (suc p)) (omega (arith, w, w2, h))
    ∙ ap (λ l. l ++ block_text sc name next_at) (window-step sc name (suc p) (omega (arith, w, h)) ∙ ap (λ l. told_up_to sc name (suc p) ++ l) silent ∙ append-nil (told_up_to sc name (suc p)) ∙ window-step sc name p (omega (arith, h)))
    ∙ append_assoc (told_up_to sc name p) (window_text sc name m) (block_text sc name next_at))
  where
    past-exact : (n s : ℕ) → 3 * s ≤ n → (nat_lt n (3 * s) && (n % 3 == 1)) ≡ false
    past-exact n s h = ap (λ b. b && (n % 3 == 1)) (le-ltb n (3 * s) h)

-- a node that has closed the window of moment `p` has its place in moment `q`
closes-to : {sc : Scenario} {name : NodeName} (p q : ℕ) → HasTicks sc.plan → IsGoodThroughout sc name → (moment sc [] p).frame < sc.frames → (moment sc [] p).window ≤ stages_in sc.sizes
    → (q ≡ next_stage sc.sizes (moment sc [] p) p) ⊎ ((q ≡ suc p) × ((moment sc [] q).window ≡ stages_in sc.sizes)) → Place sc name p q
closes-to {sc} {name} p q ticks good inside within (inr tail) =
    let m : Moment = moment sc [] p in
    elim (cases_lt m.window (stages_in sc.sizes)) [
      | inl lt ↦ subst (Place sc name p) (sym tail.0) (to-window sc name p lt)
      | inr ge ↦
          let later : IsWindowLater sc m (moment sc [] (suc p)) = window-later sc [] m (omega (arith, within)) in
          let w : (moment sc [] (suc p)).window ≡ m.window + 1 = later.window in
          let e : (moment sc [] (suc p)).window ≡ stages_in sc.sizes = ap (λ q. (moment sc [] q).window) (sym tail.0) ∙ tail.1 in
          absurd (omega (arith, w, e, ge))
    ]
closes-to {sc} {name} p q ticks good inside within (inl stage) =
    let m : Moment = moment sc [] p in
    elim (cases_lt (m.window + 1) (stages_in sc.sizes)) [
      | inl lt ↦ subst (Place sc name p) (sym (stage ∙ next-inner sc.sizes m p lt)) (to-window sc name p (omega (arith, lt)))
      | inr ge ↦ elim (cases_lt m.window (stages_in sc.sizes)) [
        | inl last ↦
            let is : q ≡ suc (suc (suc p)) = stage ∙ next-outer sc.sizes m p ge ∙ omega (arith, ge, last) in
            subst (Place sc name p) (sym is) (from-last p ticks good inside (omega (arith, ge, last)))
        | inr over ↦
            let is : q ≡ suc (suc p) = stage ∙ next-outer sc.sizes m p ge ∙ omega (arith, over, within) in
            subst (Place sc name p) (sym is) (from-tail sc name p (omega (arith, over, within)))
      ]
    ]

-- the node is good in its place
good-there : {sc name p q : _} → IsGoodThroughout sc name → (moment sc [] p).frame < sc.frames → Place sc name p q
    → is_good_at sc (moment sc [] q) (kind_of name) (index_of name) ≡ true
good-there {sc} {name} {q} good inside (Inside same some within told) = good-inside sc name q good (omega (arith, same, inside))
good-there {sc} {name} {q} good inside (Next frame first told) =
    let z : slot_numbered sc.sizes 0 ≡ 0 = omega arith in
    ap (λ w. is_good sc (kind_of name) (index_of name) (moment sc [] q).frame (slot_numbered sc.sizes w)) first
    ∙ ap (is_good sc (kind_of name) (index_of name) (moment sc [] q).frame) z ∙ good-begin sc name (moment sc [] q).frame good (omega (arith, frame, inside))

-- the text and the frame that begins are all that the node tells between moments `p` and `q`
pub record ToldThere (sc : Scenario) (name : NodeName) (p q : ℕ) (text : List ℕ) (begins : Option Epoch) : Type 0 where
  pub told : told_up_to sc name p ++ (text ++ epoch_lines name begins) ≡ told_up_to sc name q
  pub count : (moment sc [] p).frame + frames_with begins ≡ (moment sc [] q).frame

told-there : {sc : Scenario} {name : NodeName} {p q : ℕ} {sent : Side → ℕ → ℕ → Bool} {t : ℕ} {z : Site} {text : List ℕ} → HasTicks sc.plan → text ≡ window_text sc name (moment sc [] p) → Place sc name p q
    → (goes : GoesOn sc [] sent t (kind_of name) (index_of name) q z) → StandsAt sc (kind_of name) (index_of name) q z.core goes.st goes.a
    → ToldThere sc name p q text (epoch_at sc.sizes (kind_of name) goes.st goes.a.tick)
told-there {sc} {name} {p} {q} {text} ticks is (Inside same some within told) goes stands =
    let me : Side = kind_of name in
    let n : ℕ = (moment sc [] q).window in
    let first : 1 ≤ first_of sc.sizes sc.plan me goes.st n = later-begins sc.sizes me goes.st n ticks some within in
    let from : goes.st.epoch + first_of sc.sizes sc.plan me goes.st n ≤ goes.a.tick = stands.window.at.from in
    let none : epoch_at sc.sizes me goes.st goes.a.tick ≡ None = none-begins sc.sizes me goes.st goes.a.tick (omega (arith, first, from)) in
    subst (ToldThere sc name p q text) (sym none) (record {
      told = ap (λ l. told_up_to sc name p ++ l) (append-nil text ∙ is) ∙ sym told;
      count = plus-none (moment sc [] p).frame ∙ sym same;
    })
told-there {sc} {name} {p} {q} {z} {text} ticks is (Next frame first told) goes stands =
    let me : Side = kind_of name in
    let i : ℕ = index_of name in
    let n : Moment = moment sc [] q in
    let zero_first : first_of sc.sizes sc.plan me goes.st n.window ≡ 0 =
    ap (first_of sc.sizes sc.plan me goes.st) first ∙ first-same sc.sizes sc.plan me goes.st 0 (omega arith) ∙ none-times sc.plan.l in
    let had : z.core.had ≡ goes.st.epoch = goes.had ∙ ap (λ k. goes.st.epoch + k) zero_first ∙ plus-none goes.st.epoch in
    let pends : PendsFirst sc [] me i q z = first-pends goes.stands had in
    let a_is : pends.a ≡ goes.a = same_Some pends.a goes.a (sym pends.ahead ∙ goes.stands.receives.pends) in
    let st_is : pends.st ≡ goes.st = same_Some pends.st goes.st (sym pends.state ∙ stands.state) in
    let at : goes.st.epoch ≡ goes.a.tick = sym (ap (λ (z : NodeState). z.epoch) st_is) ∙ sym pends.first ∙ ap (λ (a : Timed). a.tick) a_is in
    let now : epoch_at sc.sizes me goes.st goes.a.tick ≡ Some (epoch_of sc.sizes me goes.st) = now-begins sc.sizes me goes.st at in
    let block : block_text sc name n ≡ epoch_lines name (Some (epoch_of sc.sizes me goes.st)) = ap (if_there (λ st. epoch_lines name (Some (epoch_of sc.sizes me st)))) stands.state in
    let its_frame : goes.st.frame ≡ (moment sc [] p).frame + 1 = stands.frame ∙ frame in
    let one : frames_with (Some (epoch_of sc.sizes me goes.st)) ≡ 1 =
    ap (λ f. if nat_lt 0 f then 1 else 0) its_frame ∙ cond-true (nat_lt 0 ((moment sc [] p).frame + 1)) 1 0 (some-more (moment sc [] p).frame) in
    subst (ToldThere sc name p q text) (sym now) (record {
      told = ap (λ l. told_up_to sc name p ++ (l ++ epoch_lines name (Some (epoch_of sc.sizes me goes.st)))) is
          ∙ ap (λ l. told_up_to sc name p ++ (window_text sc name (moment sc [] p) ++ l)) (sym block) ∙ sym told;
      count = ap (λ k. (moment sc [] p).frame + k) one ∙ sym frame;
    })
  where
    none-times : (l : ℕ) → 0 * l ≡ 0
    none-times l = omega arith

-- `AfterTick` holds after a tick that closes the window
pub after-close : {sc : Scenario} {name : NodeName} {p : ℕ} {sent : Side → ℕ → ℕ → Bool} {ports : List PortState} {s : Site} {st : NodeState} {a : Timed} {x : Act}
    → HasTicks sc.plan → IsGoodThroughout sc name → (moment sc [] p).frame < sc.frames → StandsAt sc (kind_of name) (index_of name) p s.core st a
    → ClosesWindow sc [] sent ports (kind_of name) (index_of name) p s st a x → AfterTick sc name p st a x (after_act sc ports (kind_of name) (index_of name) x s)
after-close {sc} {name} {p} {ports} {s} {st} {a} {x} ticks good inside h closes =
    let m : Moment = moment sc [] p in
    let me : Side = kind_of name in
    let i : ℕ = index_of name in
    let word : ℕ = word_at sc m me i st in
    let z : Site = after_act sc ports me i x s in
    let q : ℕ = closes.q in
    let core : z.core ≡ x.core = act-core sc ports me i x s in
    let place : Place sc name p q = closes-to p q ticks good inside h.window.window closes.place in
    let w : Window = window_in sc m me st in
    let frame : x.core.state.frame ≡ m.frame =
    ap (λ (c : Core). c.state.frame) closes.act.core
    ∙ (close-stays sc.sizes me i (kept_in sc.sizes sc.plan me i st m.window word) w.slot w.stage w.first _).frame
    ∙ (keeping-stays sc.sizes me i st w.slot w.stage word).frame ∙ h.frame in
    elim closes.goes [
      | inr stops ↦ absurd (true-false (sym (good-there good inside place) ∙ stops.not_good))
      | inl goes ↦
          let now : StandsAt sc me i q z.core goes.st goes.a = stands-at ticks goes.stands in
          let told : ToldThere sc name p q (delivery_lines name (option_and_then (λ c. c.delivered) x.closed)) (epoch_at sc.sizes me goes.st goes.a.tick) =
          told-there ticks (delivered-text name h.state h.frame closes) place goes now in
          record {
            q = q;
            then_st = goes.st;
            b = goes.a;
            stands = now;
            ahead = goes.stands.receives.pends;
            frame = ap (λ (c : Core). c.state.frame) core ∙ frame;
            epoch = closes.act.epoch ∙ begin-stays sc.sizes me a.tick (in-stays sc.sizes sc.plan me i st m.window word a.tick);
            told = told.told;
            count = told.count;
          }
    ]
  where
    true-false : true ≡ false → ⊥
    true-false e = cc

-- a frame's first tick is not the last of its window
pub first-not-last : {sc : _} (me : Side) (p : ℕ) (st : NodeState) (a : Timed) → IsLawful sc → (moment sc [] p).window ≡ 0 → st.epoch ≡ a.tick
    → a.tick ≡ last_tick sc (moment sc [] p) me st → ⊥
first-not-last {sc} me p st a lawful first now last =
    let m : Moment = moment sc [] p in
    let room : HasRoom sc.plan = has-room lawful in
    let at : last_of sc.sizes sc.plan me st m.window ≡ 0 * sc.plan.l + sc.plan.l - 1 =
    ap (last_of sc.sizes sc.plan me st) first ∙ last-same sc.sizes sc.plan me st 0 (omega arith) in
    let long : sc.plan.h < sc.plan.l = room.inside.in_l in
    let some : 1 ≤ sc.plan.h = lawful.plan.h.0 in
    let none : 0 * sc.plan.l ≡ 0 = none-times sc.plan.l in
    omega (arith, at, none, long, some, now, last)
  where
    none-times : (l : ℕ) → 0 * l ≡ 0
    none-times l = omega arith
