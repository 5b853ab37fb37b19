-- For the law that events are rounds if the premise on faults is broken in a sync slot: a node that
-- has sent what it sends in a window has nothing left to do in it but to close it.
use Rattle.std.proofs.{Common.{◌≡◌, ℕ, ◌+◌, ◌<◌, ◌≤◌, ◌==◌, ◌||◌, Bool, true, false, refl, ap, sym, ◌∙◌, arith, Option, Some, None, is_some}, lemmas.Bool.Decides.nat_tests}
use Rattle.rb_base.proofs.Plain.{less-differs}
use Rattle.rb_rules.specs.{declared.message.Message.Message, declared.plan.Window.Window, Core.{if_at, is_busy, is_last, is_tick, said_at, state_at}, Hearing.{Sending, sending, window_numbered}, NodeState.NodeState, NodeSteps.message_said, SyncStage.send_tick_of}
use Rattle.rb_laws_events.specs.Closing.{stages_in}
use Rattle.rb_laws_events.proofs.{NodeActs.{HasRoom, IsInWindow, said-form}, NodeSends.sending_at, NodeTicks.{Like, like-in, like-tick, state_in}, NodeWords.{at_its_tick, none-message, said-at-tick}, StageOrder.last_of, TickWindows.last-is}

-- after the tick of its message a node says nothing, whatever word it is given
said-nothing : {sizes plan me i st y n word k : _} → HasRoom plan → n ≤ stages_in sizes → (stands : IsInWindow sizes plan me i st n word k y)
    → {z : _} → Like sizes plan me i st z → ((s : Sending) → sending_at sizes plan me i st n word ≡ Some s → s.tick < k) → said_at sizes plan me i z 0 k ≡ None
said-nothing {sizes} {plan} {me} {i} {st} {n} {word} {k} room le stands {z} like gone =
    said-form 0 room le stands.keeps stands.at like
    ∙ by (is_tick (send_tick_of sizes plan z slot stage) k) (sym (said-at-tick sizes plan me i z slot stage word k) ∙ ap (if_at k) (like.sends slot stage word) ∙ none (sending sizes plan me i st slot stage word) gone)
  where
    slot : ℕ
    slot = (window_numbered sizes plan me st n).slot

    stage : ℕ
    stage = (window_numbered sizes plan me st n).stage

    none : (o : Option Sending) → ((s : Sending) → o ≡ Some s → s.tick < k) → if_at k o ≡ None
    none None h = refl
    none (Some s) h = ap (λ b. elim b as (λ _. Option Message) [ true ↦ Some s.message | false ↦ None ]) (less-differs s.tick k (h s refl))

    by : (b : Bool) → at_its_tick b (message_said sizes me i z slot stage word) ≡ None → at_its_tick b (message_said sizes me i z slot stage 0) ≡ None
    by true e = none-message sizes me i z slot stage word 0 e
    by false e = refl

-- a busy tick after the start of the frame and after the node's message is the window's last tick
pub waits-for-last : {sizes plan me i st c n word k : _} → HasRoom plan → IsInWindow sizes plan me i st n word k c
    → is_busy sizes plan me i c k ≡ true → st.epoch < k → ((s : Sending) → sending_at sizes plan me i st n word ≡ Some s → s.tick < k)
    → k ≡ st.epoch + last_of sizes plan me st n
unfolding is_busy
waits-for-last {sizes} {plan} {me} {i} {st} {c} {n} {word} {k} room stands busy begun gone =
    by (y.epoch == k) (is_last sizes plan me y k) (is_some (said_at sizes plan me i y 0 k)) no-begin refl no-message (sym now ∙ busy)
  where
    y : NodeState
    y = state_in sizes plan me i st n word k

    like : Like sizes plan me i st y
    like = like-in sizes plan me i st n word k

    now : ((state_at sizes plan me c k).epoch == k) || is_last sizes plan me (state_at sizes plan me c k) k || is_some (said_at sizes plan me i (state_at sizes plan me c k) 0 k)
        ≡ ((y.epoch == k) || is_last sizes plan me y k || is_some (said_at sizes plan me i y 0 k))
    now = ap (λ z. (z.epoch == k) || is_last sizes plan me z k || is_some (said_at sizes plan me i z 0 k)) stands.now

    same : (a b : ℕ) → (a == b) ≡ true → a ≡ b
    same a b h = grind (arith, nat_tests)

    no-begin : (y.epoch == k) ≡ false
    no-begin = ap (λ e. e == k) like.epoch ∙ less-differs st.epoch k begun

    no-message : is_some (said_at sizes plan me i y 0 k) ≡ false
    no-message = ap is_some (said-nothing room stands.window stands like gone)

    last : is_last sizes plan me y k ≡ true → k ≡ st.epoch + last_of sizes plan me st n
    last e =
        let at : k ≡ y.epoch + last_of sizes plan me y n =
        same k (y.epoch + last_of sizes plan me y n)
        (sym (last-is me y room.ticks stands.window (like-tick like stands.at)) ∙ e) in
        let its : last_of sizes plan me y n ≡ last_of sizes plan me st n = ap (λ (w : Window). w.last) (like.windows n) in
        let epoch : y.epoch ≡ st.epoch = like.epoch in
        omega arith

    by : (a b c : Bool) → a ≡ false → is_last sizes plan me y k ≡ b → c ≡ false → (a || b || c) ≡ true → k ≡ st.epoch + last_of sizes plan me st n
    by true b c e f g h = cc
    by false true c e f g h = last f
    by false false true e f g h = cc
    by false false false e f g h = cc
