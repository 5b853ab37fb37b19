-- For the law that events are rounds: what a core does at a tick of a window, whether it has
-- already said what it has to say in it or not.
use Rattle.std.proofs.{Common.{◌≡◌, ℕ, ◌+◌, ◌*◌, ◌-◌, ◌<◌, ◌≤◌, ◌==◌, ◌&&◌, nat_lt, Bool, true, false, refl, ap, sym, ◌∙◌, subst, arith, inl, inr, Option, Some, None, is_some, option_and_then, option_map, unwrap_or, if◌then◌else◌}, lemmas.Bool.{cases_lt, eqb-true, le-ltb, lt-ltb, ltb-false, ltb-true}, lemmas.Bool.Decides.nat_tests}
use Rattle.rb_base.specs.{Nodes.Side, Nodes.Side.{Biu, Rmu}, Sizes.Sizes}
use Rattle.rb_base.proofs.Plain.{less-differs, more-differs}
use Rattle.rb_rules.specs.{declared.message.Message.Message, declared.plan.Plan.Plan, declared.plan.Window.Window, Core.{if_at, is_tick, state_at, state_kept}, ExactStage.{keep_sent, says}, Hearing.{Sending, sending, window_numbered, tail_at}, NodeState.NodeState, NodeSteps.{message_said, turn_if_known}, Plan.tail_start_of, SyncStage.{new_epoch_of, send_tick_of}}
use Rattle.rb_rules.proofs.{RoundStates.HasTicks, WindowNumbers.sync-numbered}
use Rattle.rb_laws_events.specs.Closing.{stages_in}
use Rattle.rb_laws_events.proofs.{NodeSends.{KeepsTime, sending_at}, NodeWords.{HasPlace, SameWords, WordFits, kept-some, message-place}, StageOrder.last_of, TickWindows.{IsTickIn, first_of, ends-before-later}}

-- What a sender keeps of its own value changes nothing of what it does next.

pub record Like (sizes : Sizes) (plan : Plan) (me : Side) (i : ℕ) (st y : NodeState) : Type 0 where
  pub epoch : y.epoch ≡ st.epoch
  pub next : new_epoch_of plan me y ≡ new_epoch_of plan me st
  pub windows : (n : ℕ) → window_numbered sizes plan me y n ≡ window_numbered sizes plan me st n
  pub says : (slot stage word : ℕ) → says sizes me i y slot stage word ≡ says sizes me i st slot stage word
  pub sends : (slot stage word : ℕ) → sending sizes plan me i y slot stage word ≡ sending sizes plan me i st slot stage word
  pub k1 : y.k1 ≡ st.k1
  pub k2 : y.k2 ≡ st.k2

pub like-itself : (sizes : Sizes) (plan : Plan) (me : Side) (i : ℕ) (st : NodeState) → Like sizes plan me i st st
like-itself sizes plan me i st = record {
  epoch = refl;
  next = refl;
  windows = λ n. refl;
  says = λ slot stage word. refl;
  sends = λ slot stage word. refl;
  k1 = refl;
  k2 = refl;
}

like-sent : (sizes : Sizes) (plan : Plan) (me : Side) (i : ℕ) (st : NodeState) (word slot stage : ℕ)
    → Like sizes plan me i st (record st { sent = says sizes me i st slot stage word })
unfolding sending
like-sent sizes plan Biu i st word slot stage = record {
  epoch = refl;
  next = refl;
  windows = λ n. refl;
  says = λ slot stage word. refl;
  sends = λ slot stage word. refl;
  k1 = refl;
  k2 = refl;
}
like-sent sizes plan Rmu i st word slot stage = record {
  epoch = refl;
  next = refl;
  windows = λ n. refl;
  says = λ slot stage word. refl;
  sends = λ slot stage word. refl;
  k1 = refl;
  k2 = refl;
}

pub like-kept : (sizes : Sizes) (plan : Plan) (me : Side) (i : ℕ) (st : NodeState) (slot stage word : ℕ)
    → Like sizes plan me i st (keep_sent sizes me i st slot stage word)
like-kept sizes plan me i st slot stage word = by ((stage == 1) && is_some (says sizes me i st slot stage word))
  where
    by : (b : Bool) → Like sizes plan me i st (if b then record st { sent = says sizes me i st slot stage word } else st)
    by true = like-sent sizes plan me i st word slot stage
    by false = like-itself sizes plan me i st

-- the state `kept` if the node has said what it has to say, and else `st`
abbrev pub by_said : Bool → NodeState → NodeState → NodeState
by_said b st kept = elim b [ true ↦ kept | false ↦ st ]

pub like-by : {sizes plan me i st kept : _} (b : Bool) → Like sizes plan me i st kept
    → Like sizes plan me i st (by_said b st kept)
like-by true h = h
like-by {sizes} {plan} {me} {i} {st} false h = like-itself sizes plan me i st

pub like-tick : {sizes plan me i st y n k : _} → Like sizes plan me i st y
    → IsTickIn sizes plan me st n k → IsTickIn sizes plan me y n k
like-tick {sizes} {plan} {me} {st} {y} {n} {k} h at =
    let first : first_of sizes plan me y n ≡ first_of sizes plan me st n = ap (λ (w : Window). w.first) (h.windows n) in
    let last : last_of sizes plan me y n ≡ last_of sizes plan me st n = ap (λ (w : Window). w.last) (h.windows n) in
    let epoch : y.epoch ≡ st.epoch = h.epoch in
    let from : st.epoch + first_of sizes plan me st n ≤ k = at.from in
    let to : k ≤ st.epoch + last_of sizes plan me st n = at.to in
    record { from = omega arith; to = omega arith }

pub like-keeps : {sizes plan me i st y : _} → Like sizes plan me i st y → KeepsTime sizes plan me st
    → KeepsTime sizes plan me y
like-keeps {sizes} {plan} {st} {y} h keeps = record {
  second = λ x e. like-tick h (keeps.second x (sym h.k1 ∙ e));
  third = λ x e. like-tick h (keeps.third x (sym h.k2 ∙ e));
  next = λ x e. let epoch : y.epoch ≡ st.epoch = h.epoch in let low : st.epoch + tail_start_of sizes plan ≤ x = keeps.next x (sym h.next ∙ e) in omega arith;
}

-- The node does not turn at a tick of its windows.

pub tail-first : (sizes : Sizes) (plan : Plan) (me : Side) (st : NodeState) → first_of sizes plan me st (stages_in sizes) ≡ tail_start_of sizes plan
tail-first sizes plan me st = ap (λ w. w.first) (sync-numbered sizes plan me st 3)

pub tail-last : (sizes : Sizes) (plan : Plan) (me : Side) (st : NodeState) → last_of sizes plan me st (stages_in sizes) ≡ (tail_at sizes plan me st).last
tail-last sizes plan me st = ap (λ w. w.last) (sync-numbered sizes plan me st 3)

pub past-tail : {sizes : Sizes} {plan : Plan} {me : Side} {st : NodeState} {k x : ℕ} → HasTicks plan → st.epoch + tail_start_of sizes plan ≤ x
    → IsTickIn sizes plan me st (stages_in sizes) k → new_epoch_of plan me st ≡ Some x → k < x
past-tail {sizes} {plan} {me} {st} {k} {x} ticks low at e =
    let first : first_of sizes plan me st (stages_in sizes) ≡ tail_start_of sizes plan = tail-first sizes plan me st in
    let last : last_of sizes plan me st (stages_in sizes) ≡ x - st.epoch - 1 =
    tail-last sizes plan me st ∙ ap (λ o. unwrap_or o 0 - st.epoch - 1) e in
    let some : 1 ≤ plan.l = ticks.l in
    let from : st.epoch + first_of sizes plan me st (stages_in sizes) ≤ k = at.from in
    let to : k ≤ st.epoch + last_of sizes plan me st (stages_in sizes) = at.to in
    omega arith

-- a node's next epoch comes after each tick of its windows
pub epoch-later : {sizes plan me st n k x : _} → HasTicks plan → KeepsTime sizes plan me st
    → n ≤ stages_in sizes → IsTickIn sizes plan me st n k → new_epoch_of plan me st ≡ Some x → k < x
epoch-later {sizes} {plan} {me} {st} {n} {k} {x} ticks keeps le at e =
    let low : st.epoch + tail_start_of sizes plan ≤ x = keeps.next x e in
    elim (cases_lt n (stages_in sizes)) [
      | inl lt ↦
          let before : last_of sizes plan me st n < first_of sizes plan me st (stages_in sizes) =
          ends-before-later sizes me st n (stages_in sizes) ticks lt (omega arith) in
          let first : first_of sizes plan me st (stages_in sizes) ≡ tail_start_of sizes plan = tail-first sizes plan me st in
          let to : k ≤ st.epoch + last_of sizes plan me st n = at.to in
          omega arith
      | inr ge ↦
          let same : n ≡ stages_in sizes = omega arith in
          past-tail ticks low (subst (λ n. IsTickIn sizes plan me st n k) same at) e
    ]

no-tick : (k : ℕ) (o : Option ℕ) → ((x : ℕ) → o ≡ Some x → k < x) → is_tick o k ≡ false
no-tick k None h = refl
no-tick k (Some x) h = more-differs x k (h x refl)

pub no-turn : {sizes plan me st : _} (n : ℕ) {k : ℕ} → HasTicks plan → KeepsTime sizes plan me st
    → n ≤ stages_in sizes → IsTickIn sizes plan me st n k → state_at sizes plan me st k ≡ st
unfolding state_at
no-turn {sizes} {plan} {me} {st} n {k} ticks keeps le at =
    ap (λ b. elim b as (λ _. NodeState) [ true ↦ turn_if_known sizes plan me st | false ↦ st ])
    (no-tick k (new_epoch_of plan me st) (λ x e. epoch-later ticks keeps le at e))

-- What is known of a tick of window n: the state in which the core takes it, `word` being the word
-- of the rounds.

-- the message has gone out before tick k
abbrev pub gone : Option Sending → ℕ → Bool
gone None k = false
gone (Some s) k = nat_lt s.tick k

-- the state that the node keeps when it has said what it has to say in the window
abbrev pub kept_in : Sizes → Plan → Side → ℕ → NodeState → ℕ → ℕ → NodeState
kept_in sizes plan me i st n word =
    keep_sent sizes me i st (window_numbered sizes plan me st n).slot (window_numbered sizes plan me st n).stage word

-- the state at tick k of the window
abbrev pub state_in : Sizes → Plan → Side → ℕ → NodeState → ℕ → ℕ → ℕ → NodeState
state_in sizes plan me i st n word k = by_said (gone (sending_at sizes plan me i st n word) k) st (kept_in sizes plan me i st n word)

pub like-in : (sizes : Sizes) (plan : Plan) (me : Side) (i : ℕ) (st : NodeState) (n word k : ℕ) → Like sizes plan me i st (state_in sizes plan me i st n word k)
like-in sizes plan me i st n word k =
    like-by (gone (sending_at sizes plan me i st n word) k)
    (like-kept sizes plan me i st (window_numbered sizes plan me st n).slot (window_numbered sizes plan me st n).stage word)

-- What the core says.

-- a sending is of the window's place
pub sent-place : (sizes : Sizes) (plan : Plan) (me : Side) (i : ℕ) (st : NodeState) (slot stage word : ℕ) {s : _}
    → sending sizes plan me i st slot stage word ≡ Some s → HasPlace s.message slot stage
unfolding sending
sent-place sizes plan me i st slot stage word {s} e = by (message_said sizes me i st slot stage word) (send_tick_of sizes plan st slot stage) refl e
  where
    some-same : {X : Type 0} (a b : X) → Some a ≡ Some b → a ≡ b
    some-same a b e = cc

    by : (o : Option Message) (t : Option ℕ) → message_said sizes me i st slot stage word ≡ o
        → option_and_then (λ m. option_map (λ tick. let x : Sending = record { tick = tick; message = m } in x) t) o ≡ Some s → HasPlace s.message slot stage
    by None t f e = cc
    by (Some m) None f e = cc
    by (Some m) (Some t) f e =
        let same : m ≡ s.message = ap (λ (x : Sending). x.message) (some-same (record { tick = t; message = m }) s e) in
        subst (λ m. HasPlace m slot stage) same (message-place sizes me i st slot stage word f)

other-of : (a b : ℕ) → (a == b) ≡ false → b ≤ a → b < a
other-of a b h k = grind (arith, nat_tests)

-- after the tick the state is that of the next tick
pub after-say : (sizes : Sizes) (me : Side) (i : ℕ) (st : NodeState) {kept : _} (slot stage word k : ℕ) (o : Option Sending)
    → ((s : Sending) → o ≡ Some s → HasPlace s.message slot stage) → kept ≡ keep_sent sizes me i st slot stage word
    → state_kept sizes me i (by_said (gone o k) st kept) word (if_at k o) ≡ by_said (gone o (k + 1)) st kept
after-say sizes me i st slot stage word k None place is = refl
after-say sizes me i st {kept} slot stage word k (Some s) place is = by (nat_lt s.tick k) refl
  where
    say : Bool → Option Message
    say b = elim b [ true ↦ Some s.message | false ↦ None ]

    at : (b : Bool) → (s.tick == k) ≡ b → nat_lt s.tick k ≡ false
        → state_kept sizes me i st word (elim b as (λ _. Option Message) [ true ↦ Some s.message | false ↦ None ]) ≡ by_said (nat_lt s.tick (k + 1)) st kept
    at true e h =
        let same : s.tick ≡ k = eqb-true s.tick k e in
        kept-some sizes me i st word (place s refl) ∙ sym is
        ∙ sym (ap (λ b. by_said b st kept) (lt-ltb s.tick (k + 1) (omega arith)))
    at false e h =
        let more : k < s.tick = other-of s.tick k e (ltb-false s.tick k h) in
        sym (ap (λ b. by_said b st kept) (le-ltb s.tick (k + 1) (omega arith)))

    by : (b : Bool) → nat_lt s.tick k ≡ b → state_kept sizes me i (by_said (nat_lt s.tick k) st kept) word (elim (s.tick == k) as (λ _. Option Message) [ true ↦ Some s.message | false ↦ None ])
        ≡ by_said (nat_lt s.tick (k + 1)) st kept
    by true e =
        let lt : s.tick < k = ltb-true s.tick k e in
        ap (λ b. state_kept sizes me i (by_said b st kept) word (elim (s.tick == k) as (λ _. Option Message) [ true ↦ Some s.message | false ↦ None ])) e
        ∙ ap (λ b. state_kept sizes me i kept word (elim b as (λ _. Option Message) [ true ↦ Some s.message | false ↦ None ])) (less-differs s.tick k lt)
        ∙ sym (ap (λ b. by_said b st kept) (lt-ltb s.tick (k + 1) (omega arith)))
    by false e =
        ap (λ b. state_kept sizes me i (by_said b st kept) word (elim (s.tick == k) as (λ _. Option Message) [ true ↦ Some s.message | false ↦ None ])) e
        ∙ at (s.tick == k) refl e

-- two words that come to the same fit
pub words-fit : {sizes me i st slot stage a b : _} (t : Bool) → SameWords sizes me i st slot stage a b
    → WordFits sizes me i st slot stage a b t
words-fit false same = record { message = refl; kept = refl }
words-fit {sizes} {me} {i} {st} {slot} {stage} {a} {b} true same = record {
  message = same.message;
  kept = by (message_said sizes me i st slot stage a) refl ∙ ap (state_kept sizes me i st b) same.message;
}
  where
    by : (o : Option Message) → message_said sizes me i st slot stage a ≡ o
        → state_kept sizes me i st a (message_said sizes me i st slot stage a) ≡ state_kept sizes me i st b (message_said sizes me i st slot stage a)
    by None e = ap (state_kept sizes me i st a) e ∙ sym (ap (state_kept sizes me i st b) e)
    by (Some m) e =
        let p : HasPlace m slot stage = message-place sizes me i st slot stage a e in
        ap (state_kept sizes me i st a) e ∙ kept-some sizes me i st a p ∙ same.kept ∙ sym (kept-some sizes me i st b p)
        ∙ sym (ap (state_kept sizes me i st b) e)
