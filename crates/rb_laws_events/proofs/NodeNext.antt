-- For the law that events are rounds: the next busy tick of a node in a window lies in it, and no
-- message goes out before.
use Rattle.std.proofs.{Common.{◌≡◌, ℕ, zero, suc, ◌+◌, ◌-◌, ◌^◌, ◌<◌, ◌≤◌, ◌==◌, ◌||◌, Bool, true, false, refl, ap, sym, ◌∙◌, subst, arith, inl, inr, Option, Some, None, is_some}, lemmas.Bool.{cases_lt, le-ltb, lt-ltb, true≢false}, lemmas.Bool.Decides.nat_tests}
use Rattle.rb_base.specs.{Nodes.Side, Sizes.Sizes}
use Rattle.rb_base.proofs.Plain.{or_middle}
use Rattle.rb_rules.specs.{declared.message.Message.Message, declared.plan.Plan.Plan, declared.plan.Window.Window, Core.{Core, if_at, is_busy, is_last, is_tick, said_at, state_at, busy_among, next_tick}, Hearing.{Sending, sending, window_numbered}, NodeState.NodeState, NodeSteps.message_said, SyncStage.send_tick_of}
use Rattle.rb_rules.proofs.QuietTicks.{IsNext, IsQuiet, quiet-from, next-is}
use Rattle.rb_laws_events.specs.Closing.{stages_in}
use Rattle.rb_laws_events.proofs.{NodeActs.{HasRoom, IsInWindow, said-form}, NodeSends.{KeepsTime, sending_at, sent-at}, NodeTicks.{Like, like-in, like-tick, like-keeps, gone, by_said, kept_in, state_in, no-turn}, NodeWords.{at_its_tick, none-message, said-at-tick}, StageOrder.last_of, TickWindows.{IsTickIn, first_of, last-is}}

-- tick `k` is the next busy tick of a node that stands at tick `had` of window `n`
pub record NextIn (sizes : Sizes) (plan : Plan) (me : Side) (i : ℕ) (st : NodeState) (n word had k : ℕ) (c : NodeState) : Type 0 where
  pub in_window : IsTickIn sizes plan me st n k
  pub now : state_at sizes plan me c k ≡ state_in sizes plan me i st n word k
  pub silent : gone (sending_at sizes plan me i st n word) had ≡ gone (sending_at sizes plan me i st n word) k

-- the last tick of a window is busy
last-busy : {sizes plan me : _} (i : ℕ) {y n : _} → HasRoom plan → KeepsTime sizes plan me y → n ≤ stages_in sizes
    → IsTickIn sizes plan me y n (y.epoch + last_of sizes plan me y n) → is_busy sizes plan me i y (y.epoch + last_of sizes plan me y n) ≡ true
unfolding is_busy
last-busy {sizes} {plan} {me} i {y} {n} room keeps le at =
    let k : ℕ = y.epoch + last_of sizes plan me y n in
    let now : state_at sizes plan me y k ≡ y = no-turn n room.ticks keeps le at in
    let last : is_last sizes plan me y k ≡ true = last-is me y room.ticks le at ∙ same k in
    subst (λ z. ((z.epoch == k) || is_last sizes plan me z k || is_some (said_at sizes plan me i z 0 k)) ≡ true) (sym now)
    (or_middle (y.epoch == k) (is_last sizes plan me y k) (is_some (said_at sizes plan me i y 0 k)) last)
  where
    same : (k : ℕ) → (k == k) ≡ true
    same k = grind (arith, nat_tests)

quiet-says : (sizes : Sizes) (plan : Plan) (me : Side) (i : ℕ) {y : _} (k : ℕ) → state_at sizes plan me y k ≡ y
    → is_busy sizes plan me i y k ≡ false → said_at sizes plan me i y 0 k ≡ None
quiet-says sizes plan me i {y} k now h =
    let q : IsQuiet sizes plan me i y k = quiet-from sizes plan me i y k h in
    q.no_message

absurd-message : {m : Message} → Some m ≡ None → ⊥
absurd-message e = cc

-- no message goes out at a quiet tick
unsaid : {sizes : Sizes} {plan : Plan} {me : Side} {i : ℕ} {st y : NodeState} {n : ℕ} (word : ℕ) {s : Sending} → HasRoom plan → n ≤ stages_in sizes
    → KeepsTime sizes plan me st → IsTickIn sizes plan me st n s.tick → Like sizes plan me i st y
    → sending_at sizes plan me i st n word ≡ Some s → is_busy sizes plan me i y s.tick ≡ false → ⊥
unsaid {sizes} {plan} {me} {i} {st} {y} {n} word {s} room le keeps at like is quiet =
    let slot : ℕ = (window_numbered sizes plan me st n).slot in
    let stage : ℕ = (window_numbered sizes plan me st n).stage in
    let k : ℕ = s.tick in
    let now : state_at sizes plan me y k ≡ y =
    no-turn n room.ticks (like-keeps like keeps) le (like-tick like at) in
    let sends : sending sizes plan me i y slot stage word ≡ Some s = like.sends slot stage word ∙ is in
    let test : is_tick (send_tick_of sizes plan y slot stage) k ≡ true =
    ap (λ t. is_tick t k) (sent-at sizes plan me i y slot stage word sends) ∙ same k in
    let zero_said : at_its_tick (is_tick (send_tick_of sizes plan y slot stage) k) (message_said sizes me i y slot stage 0) ≡ None =
    sym (said-form 0 room le keeps at like) ∙ quiet-says sizes plan me i k now quiet in
    let none : message_said sizes me i y slot stage 0 ≡ None = sym (ap (λ b. at_its_tick b (message_said sizes me i y slot stage 0)) test) ∙ zero_said in
    let none_word : message_said sizes me i y slot stage word ≡ None = none-message sizes me i y slot stage 0 word none in
    let said : if_at k (sending sizes plan me i y slot stage word) ≡ None =
    said-at-tick sizes plan me i y slot stage word k
    ∙ ap (λ b. at_its_tick b (message_said sizes me i y slot stage word)) test ∙ none_word in
    let some : if_at k (sending sizes plan me i y slot stage word) ≡ Some s.message =
    ap (if_at k) sends ∙ ap (λ b. elim b as (λ _. Option Message) [ true ↦ Some s.message | false ↦ None ]) (same k) in
    absurd-message (sym some ∙ said)
  where
    same : (k : ℕ) → (k == k) ≡ true
    same k = grind (arith, nat_tests)

-- the state of a node that stands at a quiet tick of a window
quiet-state : {sizes plan me i st n word had c : _}
    → IsInWindow sizes plan me i st n word had c → is_busy sizes plan me i c had ≡ false → c ≡ state_in sizes plan me i st n word had
quiet-state {sizes} {plan} {me} {i} {had} {c} stands h =
    let q : IsQuiet sizes plan me i c had = quiet-from sizes plan me i c had h in
    sym q.no_turn ∙ stands.now

-- the last tick of the window, at a node in a state that is like its state there
end-of : {sizes plan me i st y n had : _} → Like sizes plan me i st y → IsTickIn sizes plan me st n had
    → IsTickIn sizes plan me y n (y.epoch + last_of sizes plan me y n) × (y.epoch + last_of sizes plan me y n ≡ st.epoch + last_of sizes plan me st n)
end-of {sizes} {plan} {me} {st} {y} {n} {had} like at =
    let first : first_of sizes plan me y n ≡ first_of sizes plan me st n = ap (λ (w : Window). w.first) (like.windows n) in
    let last : last_of sizes plan me y n ≡ last_of sizes plan me st n = ap (λ (w : Window). w.last) (like.windows n) in
    let epoch : y.epoch ≡ st.epoch = like.epoch in
    let from : st.epoch + first_of sizes plan me st n ≤ had = at.from in
    let to : had ≤ st.epoch + last_of sizes plan me st n = at.to in
    (record { from = omega arith; to = omega arith }, omega arith)

-- the next busy tick is one of the window
within : {sizes plan me i st y n had k : _} → HasRoom plan → n ≤ stages_in sizes
    → KeepsTime sizes plan me st → IsTickIn sizes plan me st n had → Like sizes plan me i st y → IsNext sizes plan me i y had k
    → k ≤ st.epoch + last_of sizes plan me st n
within {sizes} {plan} {me} {i} {st} {y} {n} {had} {k} room le keeps at like next =
    let end = end-of like at in
    let last : ℕ = y.epoch + last_of sizes plan me y n in
    let same : last ≡ st.epoch + last_of sizes plan me st n = end.1 in
    let to : had ≤ st.epoch + last_of sizes plan me st n = at.to in
    elim (cases_lt last k) [
      | inl lt ↦
          let busy : is_busy sizes plan me i y last ≡ true = last-busy i room (like-keeps like keeps) le end.0 in
          let quiet : is_busy sizes plan me i y last ≡ false = next.quiet_before last (omega arith) lt in
          absurd (true≢false (sym busy ∙ quiet))
      | inr ge ↦ omega arith
    ]

-- nothing is said up to the node's next tick
unchanged : {sizes plan me i st y n : _} (word : ℕ) {had k : ℕ} → HasRoom plan → n ≤ stages_in sizes
    → KeepsTime sizes plan me st → IsTickIn sizes plan me st n had → k ≤ st.epoch + last_of sizes plan me st n → Like sizes plan me i st y
    → IsNext sizes plan me i y had k → (o : Option Sending) → sending_at sizes plan me i st n word ≡ o → gone o had ≡ gone o k
unchanged word room le keeps at to like next None e = refl
unchanged {sizes} {plan} {me} {st} {n} word {had} {k} room le keeps at to like next (Some s) e =
    let later : had ≤ k = next.later in
    elim (cases_lt s.tick had) [
      | inl lt ↦ lt-ltb s.tick had lt ∙ sym (lt-ltb s.tick k (omega arith))
      | inr ge ↦ elim (cases_lt s.tick k) [
        | inl before ↦
            let from : st.epoch + first_of sizes plan me st n ≤ had = at.from in
            let here : IsTickIn sizes plan me st n s.tick = record { from = omega arith; to = omega arith } in
            absurd (unsaid word room le keeps here like e (next.quiet_before s.tick ge before))
        | inr after ↦ le-ltb s.tick had ge ∙ sym (le-ltb s.tick k after)
      ]
    ]

pub next-in : {sizes plan me i st n word had k c : _} → HasRoom plan
    → IsInWindow sizes plan me i st n word had c → IsNext sizes plan me i c had k → NextIn sizes plan me i st n word had k c
next-in {sizes} {plan} {me} {i} {st} {n} {word} {had} {k} {c} room stands next =
    elim (cases_lt had k) [
      | inl lt ↦
          let y : NodeState = state_in sizes plan me i st n word had in
          let is : c ≡ y = quiet-state stands (next.quiet_before had (omega arith) lt) in
          let like : Like sizes plan me i st y = like-in sizes plan me i st n word had in
          let next_y : IsNext sizes plan me i y had k = subst (λ z. IsNext sizes plan me i z had k) is next in
          let to : k ≤ st.epoch + last_of sizes plan me st n = within room stands.window stands.keeps stands.at like next_y in
          let from : st.epoch + first_of sizes plan me st n ≤ had = stands.at.from in
          let here : IsTickIn sizes plan me st n k = record { from = omega arith; to = to } in
          let silent : gone (sending_at sizes plan me i st n word) had ≡ gone (sending_at sizes plan me i st n word) k =
          unchanged word room stands.window stands.keeps stands.at to like next_y (sending_at sizes plan me i st n word) refl in
          record {
            in_window = here;
            now = ap (λ z. state_at sizes plan me z k) is
                ∙ no-turn n room.ticks (like-keeps like stands.keeps) stands.window (like-tick like here)
                ∙ ap (λ b. by_said b st (kept_in sizes plan me i st n word)) silent;
            silent = silent;
          }
      | inr ge ↦
          let later : had ≤ k = next.later in
          let same : had ≡ k = omega arith in
          subst (λ k. NextIn sizes plan me i st n word had k c) same (record { in_window = stands.at; now = stands.now; silent = refl })
    ]

-- There is a next busy tick.

found : (sizes : Sizes) (plan : Plan) (me : Side) (i : ℕ) (c : NodeState) (others had m : ℕ) → had ≤ m → m < had + others
    → is_busy sizes plan me i c m ≡ true → (k : ℕ) × (busy_among sizes plan me i c others had ≡ Some k)
found sizes plan me i c zero had m lo hi busy = absurd (omega arith)
found sizes plan me i c (suc others) had m lo hi busy = by (λ le. found sizes plan me i c others (suc had) m le (omega arith) busy) (is_busy sizes plan me i c had) refl
  where
    by : (suc had ≤ m → (k : ℕ) × (busy_among sizes plan me i c others (suc had) ≡ Some k)) → (b : Bool) → is_busy sizes plan me i c had ≡ b
        → (k : ℕ) × ((elim b as (λ _. Option ℕ) [ true ↦ Some had | false ↦ busy_among sizes plan me i c others (suc had) ]) ≡ Some k)
    by rest true e = (had, refl)
    by rest false e = elim (cases_lt had m) [
      | inl lt ↦ rest (omega arith)
      | inr ge ↦
          let same : m ≡ had = omega arith in
          absurd (true≢false (sym busy ∙ ap (is_busy sizes plan me i c) same ∙ e))
    ]

pub next-found : {sizes plan me i st n word : _} (c : Core) → HasRoom plan
    → IsInWindow sizes plan me i st n word c.had c.state → st.epoch + last_of sizes plan me st n < 2 ^ 31
    → (k : ℕ) × ((next_tick sizes plan me i c ≡ Some k) × IsNext sizes plan me i c.state c.had k)
next-found {sizes} {plan} {me} {i} {st} {n} {word} c room stands below =
    let to : c.had ≤ st.epoch + last_of sizes plan me st n = stands.at.to in
    let some : (k : ℕ) × (next_tick sizes plan me i c ≡ Some k) = by (is_busy sizes plan me i c.state c.had) refl in
    (some.0, (some.1, next-is sizes plan me i c some.0 (omega arith) some.1))
  where
    by : (b : Bool) → is_busy sizes plan me i c.state c.had ≡ b → (k : ℕ) × (next_tick sizes plan me i c ≡ Some k)
    by true e =
        let to : c.had ≤ st.epoch + last_of sizes plan me st n = stands.at.to in
        found sizes plan me i c.state (2 ^ 31 - c.had) c.had c.had (omega arith) (omega arith) e
    by false e =
        let y : NodeState = state_in sizes plan me i st n word c.had in
        let is : c.state ≡ y = quiet-state stands e in
        let like : Like sizes plan me i st y = like-in sizes plan me i st n word c.had in
        let end = end-of like stands.at in
        let last : ℕ = y.epoch + last_of sizes plan me y n in
        let same : last ≡ st.epoch + last_of sizes plan me st n = end.1 in
        let to : c.had ≤ st.epoch + last_of sizes plan me st n = stands.at.to in
        let busy : is_busy sizes plan me i c.state last ≡ true =
        ap (λ z. is_busy sizes plan me i z last) is
        ∙ last-busy i room (like-keeps like stands.keeps) stands.window end.0 in
        found sizes plan me i c.state (2 ^ 31 - c.had) c.had last (omega arith) (omega arith) busy
