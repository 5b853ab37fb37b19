-- For the law of record and replay: a node's place in the rounds is known by its core and by its
-- pending tick.
use Rattle.std.proofs.{Common.{◌≡◌, ℕ, ◌+◌, ◌<◌, ◌≤◌, Bool, true, [], ap, sym, ◌∙◌, subst, arith, inl, inr, Some, slice_get}, lemmas.Bool.cases_lt, lemmas.Option.same_Some}
use Rattle.rb_base.specs.{Nodes.Side, Sizes.Sizes}
use Rattle.rb_rules.specs.{declared.plan.Plan.Plan, declared.plan.Window.Window, Book.of_kind, Core.{Core, state_at}, Goodness.Scenario, Hearing.window_numbered, NodeState.NodeState, Rounds.{Moment, moment}, WorldStep.{Site, Timed}}
use Rattle.rb_rules.proofs.{QuietTicks.IsNext, RoundStates.HasTicks}
use Rattle.rb_laws_events.specs.Closing.{stages_in}
use Rattle.rb_laws_events.proofs.{Invariant.{NodeStands, is_good_at, word_at}, MomentBooks.one-number, NodeActs.IsInWindow, NodeTicks.{Like, like-in, state_in}, RoundNodes.{AllStand, Stands, moments-stand}, StageOrder.last_of, TickWindows.{IsTickIn, ends-before-later, first_of, get-window}, WorldEvents.state-frame}

-- a node that stands in moment p, in which its state is `st`, with this core, and this tick pending
pub record StandsAt (sc : Scenario) (me : Side) (i p : ℕ) (c : Core) (st : NodeState) (a : Timed) : Type 0 where
  pub state : slice_get (of_kind me (moment sc [] p).nodes) i ≡ Some st
  pub good : is_good_at sc (moment sc [] p) me i ≡ true
  pub frame : st.frame ≡ (moment sc [] p).frame
  pub window : IsInWindow sc.sizes sc.plan me i st (moment sc [] p).window (word_at sc (moment sc [] p) me i st) a.tick c.state
  pub next : IsNext sc.sizes sc.plan me i c.state c.had a.tick

pub stands-at : {sc : Scenario} {sent : Side → ℕ → ℕ → Bool} {now : ℕ} {me : Side} {i p : ℕ} {s : Site} {st : NodeState} {a : Timed} → HasTicks sc.plan
    → NodeStands sc [] sent now me i p s st a → StandsAt sc me i p s.core st a
stands-at {sc} {me} {i} {p} {st} ticks h =
    let stand : AllStand sc (moment sc [] p) = moments-stand sc [] p ticks in
    let known : Stands sc (moment sc [] p) me st = stand.stands me i st h.state h.good in
    record { state = h.state; good = h.good; frame = known.frame; window = h.stands; next = h.receives.is_next }

-- all stages end at the same tick, whatever the node's state
last-alike : (sizes : Sizes) (plan : Plan) (me : Side) (a b : NodeState) (n : ℕ) → n < stages_in sizes → last_of sizes plan me a n ≡ last_of sizes plan me b n
last-alike sizes plan me a b n h =
    ap (λ (w : Window). w.last) (same_Some (window_numbered sizes plan me a n) (window_numbered sizes plan me b n) (sym (get-window sizes plan me a n h) ∙ get-window sizes plan me b n h))

-- a tick is in one window alone
one-window : {sizes : Sizes} {plan : Plan} {me : Side} {a b : NodeState} {m n k : ℕ} → HasTicks plan → a.epoch ≡ b.epoch → n ≤ stages_in sizes → IsTickIn sizes plan me a m k → IsTickIn sizes plan me b n k
    → n ≤ m
one-window {sizes} {plan} {me} {a} {b} {m} {n} {k} ticks epoch le in_a in_b = elim (cases_lt m n) [
  | inr ge ↦ ge
  | inl lt ↦
      let before : last_of sizes plan me b m < first_of sizes plan me b n = ends-before-later sizes me b m n ticks lt le in
      let same : last_of sizes plan me a m ≡ last_of sizes plan me b m = last-alike sizes plan me a b m (omega (arith, lt, le)) in
      let to : k ≤ a.epoch + last_of sizes plan me a m = in_a.to in
      let from : b.epoch + first_of sizes plan me b n ≤ k = in_b.from in
      absurd (omega (arith, before, same, to, from, epoch))
]

pub one-place : {sc : Scenario} {me : Side} {i p q : ℕ} {c d : Core} {st z : NodeState} {a b : Timed} → HasTicks sc.plan → StandsAt sc me i p c st a → StandsAt sc me i q d z b
    → c.state ≡ d.state → a ≡ b → p ≡ q
one-place {sc} {me} {i} {p} {q} {c} {d} {st} {z} {a} {b} ticks here there cores pends =
    let m : Moment = moment sc [] p in
    let n : Moment = moment sc [] q in
    let x : NodeState = state_in sc.sizes sc.plan me i st m.window (word_at sc m me i st) a.tick in
    let y : NodeState = state_in sc.sizes sc.plan me i z n.window (word_at sc n me i z) b.tick in
    let tick : a.tick ≡ b.tick = ap (λ (a : Timed). a.tick) pends in
    let same : x ≡ y = sym here.window.now ∙ ap (λ c. state_at sc.sizes sc.plan me c a.tick) cores ∙ ap (state_at sc.sizes sc.plan me d.state) tick ∙ there.window.now in
    let like_x : Like sc.sizes sc.plan me i st x = like-in sc.sizes sc.plan me i st m.window (word_at sc m me i st) a.tick in
    let like_y : Like sc.sizes sc.plan me i z y = like-in sc.sizes sc.plan me i z n.window (word_at sc n me i z) b.tick in
    let epoch : st.epoch ≡ z.epoch = sym like_x.epoch ∙ ap (λ (s : NodeState). s.epoch) same ∙ like_y.epoch in
    let frame : m.frame ≡ n.frame =
    sym here.frame ∙ sym (state-frame sc me i st m.window (word_at sc m me i st) a.tick) ∙ ap (λ (s : NodeState). s.frame) same ∙ state-frame sc me i z n.window (word_at sc n me i z) b.tick ∙ there.frame in
    let at : IsTickIn sc.sizes sc.plan me z n.window a.tick = subst (IsTickIn sc.sizes sc.plan me z n.window) (sym tick) there.window.at in
    let down : n.window ≤ m.window = one-window ticks epoch there.window.window here.window.at at in
    let up : m.window ≤ n.window = one-window ticks (sym epoch) here.window.window at here.window.at in
    one-number sc [] p q frame (omega (arith, down, up))
