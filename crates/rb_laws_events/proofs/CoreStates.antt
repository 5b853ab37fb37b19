-- For the law that cores are those of the rounds: a node that stands in a moment of the rounds
-- finds that moment by its own frame and window, and holds its state.
use Rattle.std.proofs.{Common.{◌≡◌, ℕ, ◌+◌, ◌*◌, ◌-◌, ◌%◌, ◌≤◌, ◌==◌, Bool, true, false, refl, ap, sym, ◌∙◌, subst, arith, inl, inr, List, Option, Some, None, slice_get}, lemmas.Bool.cases_lt}
use Rattle.rb_base.specs.{Nodes.Side, Sizes.{Sizes, sync_slot_of}}
use Rattle.rb_base.proofs.Plain.{less-differs}
use Rattle.rb_rules.specs.{declared.plan.Plan.Plan, declared.plan.Window.Window, Book.of_kind, Conviction.turn, Core.{Core, is_tick, state_at, window_here}, Goodness.{Scenario, is_good}, Hearing.window_numbered, NodeState.NodeState, Ports.HandIn, Rounds.{Moment, moment, window_in, windows_in}}
use Rattle.rb_rules.proofs.{QuietTicks.state-same, RoundStates.HasTicks, WindowNumbers.sync-numbered}
use Rattle.rb_laws_events.specs.{Closing.stages_in, OwnMoments.{HoldsTheState, IsStateOf, open_window, own_moment, ready_state}}
use Rattle.rb_laws_events.proofs.{Invariant.{is_good_at, word_at}, MomentBooks.{number-of, stage-is-of}, NodeActs.IsInWindow, NodeSends.{KeepsTime, sending_at}, NodeTicks.{Like, by_said, gone, kept_in, like-in, like-keeps, like-tick, no-turn, state_in}, RoundNodes.{moments-stand, slot-is, slot_numbered}, TickWindows.{IsTickIn, first_of, here-is}, WorldEvents.state-frame}

-- Turning.

-- the state at a tick, by the tick of the next epoch
abbrev turning : Sizes → Plan → Side → NodeState → ℕ → Option ℕ → NodeState
turning sizes plan me st k next =
    elim (is_tick next k) [ true ↦ elim next [ None ↦ st | Some epoch ↦ turn sizes plan.probation me epoch st ] | false ↦ st ]

-- if a core takes a later tick of the window in a state, it takes its next tick in that state
ready-early : {sizes plan me i st : _} (c : NodeState) {y n had : _} (k : ℕ) → HasTicks plan → KeepsTime sizes plan me st → n ≤ stages_in sizes
    → Like sizes plan me i st y → IsTickIn sizes plan me st n had → had ≤ k → state_at sizes plan me c k ≡ y → state_at sizes plan me c had ≡ y
ready-early {sizes} {plan} {me} {st} c {y} {n} {had} k ticks keeps le like at later now =
    elim (cases_lt had k) [
      | inl lt ↦
          let epoch : y.epoch ≡ st.epoch = like.epoch in
          let from = at.from in
          let other : ((state_at sizes plan me c k).epoch == k) ≡ false = ap (λ (y : NodeState). y.epoch == k) now ∙ less-differs y.epoch k (omega (arith, epoch, from, lt)) in
          let same : c ≡ y = sym (state-same sizes plan me c k other) ∙ now in
          ap (λ c. state_at sizes plan me c had) same
          ∙ no-turn n ticks (like-keeps like keeps) le (like-tick like at)
      | inr ge ↦
          let same : had ≡ k = omega (arith, ge, later) in
          ap (state_at sizes plan me c) same ∙ now
    ]

-- Places.

-- a window's slot and stage fix its number in the frame
pub window-place : (sizes : Sizes) (plan : Plan) (me : Side) (st : NodeState) (n : ℕ) → n ≤ stages_in sizes
    → 3 * (window_numbered sizes plan me st n).slot + (window_numbered sizes plan me st n).stage ≡ n + 1
window-place sizes plan me st n le =
    let slot : (window_numbered sizes plan me st n).slot ≡ slot_numbered sizes n = slot-is sizes plan me st n in
    elim (cases_lt n (stages_in sizes)) [
      | inl lt ↦
          let stage : (window_numbered sizes plan me st n).stage ≡ n % 3 + 1 = stage-is-of sizes plan me st n lt in
          omega (arith, slot, stage)
      | inr ge ↦
          let is : n ≡ 3 * sync_slot_of sizes + 3 = omega (arith, le, ge) in
          let stage : (window_numbered sizes plan me st n).stage ≡ 4 =
          ap (λ n. (window_numbered sizes plan me st n).stage) is ∙ ap (λ (w : Window). w.stage) (sync-numbered sizes plan me st 3) in
          omega (arith, slot, stage, is)
    ]

place-number : (f w slot stage n : ℕ) {p : ℕ} → p ≡ f * w + n → 3 * slot + stage ≡ n + 1 → f * w + 3 * slot + stage - 1 ≡ p
place-number f w slot stage n e h = omega (arith, e, h)

-- One node.

-- what is asked of a node: in moment p its state is `st`, and k is a tick of the window that is
-- still to come
pub record StandsIn (sc : Scenario) (hands : List HandIn) (me : Side) (i p : ℕ) (c : Core) (st : NodeState) (k : ℕ) : Type 0 where
  pub state : slice_get (of_kind me (moment sc hands p).nodes) i ≡ Some st
  pub good : is_good_at sc (moment sc hands p) me i ≡ true
  pub stands : IsInWindow sc.sizes sc.plan me i st (moment sc hands p).window (word_at sc (moment sc hands p) me i st) k c.state
  pub from : st.epoch + first_of sc.sizes sc.plan me st (moment sc hands p).window ≤ c.had
  pub later : c.had ≤ k

-- the node's own moment is moment `p`, and it holds the state of that moment
pub record IsThere (sc : Scenario) (hands : List HandIn) (me : Side) (i p : ℕ) (c : Core) : Type 0 where
  pub moment_is : own_moment sc hands me c ≡ moment sc hands p
  pub holds : HoldsTheState sc (moment sc hands p) me i c

pub is-there : {sc : Scenario} {hands : List HandIn} {me : Side} {i p : ℕ} {c : Core} {st : NodeState} {k : ℕ} → HasTicks sc.plan → StandsIn sc hands me i p c st k → IsThere sc hands me i p c
is-there {sc} {hands} {me} {i} {p} {c} {st} {k} ticks h =
    record {
      moment_is = ap (moment sc hands) number;
      holds = record {
        st = st;
        there = h.state;
        frame = frame;
        window = window;
        good = ap (is_good sc me i m.frame) (ap (λ (w : Window). w.slot) window ∙ slot-is sizes plan me st m.window) ∙ h.good;
        state = subst (IsStateOf sc m me i st) (sym ready) (by (gone (sending_at sizes plan me i st m.window word) k));
      };
    }
  where
    sizes : Sizes
    sizes = sc.sizes

    plan : Plan
    plan = sc.plan

    m : Moment
    m = moment sc hands p

    word : ℕ
    word = word_at sc m me i st

    y : NodeState
    y = state_in sizes plan me i st m.window word k

    like : Like sizes plan me i st y
    like = like-in sizes plan me i st m.window word k

    from : st.epoch + first_of sizes plan me st m.window ≤ c.had
    from = h.from

    at : IsTickIn sizes plan me st m.window k
    at = h.stands.at

    later : c.had ≤ k
    later = h.later

    within : IsTickIn sizes plan me st m.window c.had
    within = let to = at.to in record { from = from; to = omega (arith, to, later) }

    ready : ready_state sc me c ≡ y
    ready = ready-early c.state k ticks h.stands.keeps h.stands.window like within later h.stands.now

    window : open_window sc me c ≡ window_in sc m me st
    window =
        ap (λ (y : NodeState). window_here sizes plan me y c.had) ready
        ∙ here-is me y ticks h.stands.window (like-tick like within)
        ∙ like.windows m.window

    frame : (ready_state sc me c).frame ≡ m.frame
    frame =
        ap (λ (y : NodeState). y.frame) ready ∙ state-frame sc me i st m.window word k
        ∙ ((moments-stand sc hands p ticks).stands me i st h.state h.good).frame

    place : 3 * (open_window sc me c).slot + (open_window sc me c).stage ≡ m.window + 1
    place = ap (λ (w : Window). 3 * w.slot + w.stage) window ∙ window-place sizes plan me st m.window h.stands.window

    number : (ready_state sc me c).frame * (windows_in sizes + 1) + 3 * (open_window sc me c).slot + (open_window sc me c).stage - 1 ≡ p
    number =
        place-number (ready_state sc me c).frame (windows_in sizes + 1) (open_window sc me c).slot (open_window sc me c).stage m.window
        ((number-of sc hands p).0 ∙ ap (λ f. f * (windows_in sizes + 1) + m.window) (sym frame)) place

    by : (b : Bool) → IsStateOf sc m me i st (by_said b st (kept_in sizes plan me i st m.window word))
    by true = inr refl
    by false = inl refl
