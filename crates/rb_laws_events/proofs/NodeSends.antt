-- For the law that events are rounds: at each tick of a window the core says what the rounds send
-- in this window, if that is its tick.
use Rattle.std.proofs.{Common.{◌≡◌, ℕ, zero, suc, ◌+◌, ◌*◌, ◌-◌, ◌/◌, ◌%◌, ◌<◌, ◌≤◌, ◌==◌, ◌⊎◌, true, false, refl, ap, sym, ◌∙◌, subst, arith, inl, inr, Option, Some, None, option_and_then, option_map, if◌then◌else◌}, lemmas.Bool.cases_lt, lemmas.Option.same_Some}
use Rattle.std.specs.Option.{option_or}
use Rattle.rb_base.specs.{Nodes.{Side, other}, Nodes.Side.{Biu, Rmu}, Sizes.{Sizes, sync_slot_of}, declared.values.Heard.Heard}
use Rattle.rb_rules.specs.{declared.message.Message.Message, declared.plan.Plan.Plan, declared.plan.Window.Window, Core.{if_at, said_at, window_here}, ExactStage.{says, says_of, message_of, keep_sent}, Hearing.{Sending, sending, window_numbered}, NodeState.{NodeState, trusted_of}, NodeSteps.message_said, Plan.{f0_of, tail_start_of}, Slots.sender_in, SyncStage.{calls, new_epoch_of, send_tick_of, call_tick_of}, Windows.send_offset_of}
use Rattle.rb_base.proofs.Plain.{eq_self, less-differs, more-differs, option_map-back}
use Rattle.rb_rules.proofs.{Lawfulness.SendsInside, RoundStates.HasTicks, Slots.{nothing-kept, sync_role}, WindowNumbers.{exact-numbered, sync-numbered}}
use Rattle.rb_laws_events.specs.Closing.{stages_in}
use Rattle.rb_laws_events.proofs.{StageOrder.{last_of, last-same}, TickWindows.{IsTickIn, first_of, first-same, ends-before-later, here-is}}

-- a node's calls go out in their own windows, and the tick of its next epoch comes after the last
-- stage
pub record KeepsTime (sizes : Sizes) (plan : Plan) (me : Side) (st : NodeState) : Type 0 where
  pub second : (x : ℕ) → st.k1 ≡ Some x → IsTickIn sizes plan me st (3 * sync_slot_of sizes + 1) (x + plan.l)
  pub third : (x : ℕ) → st.k2 ≡ Some x → IsTickIn sizes plan me st (3 * sync_slot_of sizes + 2) (x + plan.v)
  pub next : (x : ℕ) → new_epoch_of plan me st ≡ Some x → st.epoch + tail_start_of sizes plan ≤ x

-- The tick at which a message goes out.

tick-of : (m : Option Message) (t : Option ℕ) {s : _}
    → option_and_then (λ m. option_map (λ tick. let x : Sending = record { tick = tick; message = m } in x) t) m ≡ Some s → t ≡ Some s.tick
tick-of None t e = cc
tick-of (Some m) None e = cc
tick-of (Some m) (Some t) {s} e = ap (λ (x : Sending). Some x.tick) (same_Some (record { tick = t; message = m }) s e)

pub sent-at : (sizes : Sizes) (plan : Plan) (me : Side) (i : ℕ) (st : NodeState) (slot stage word : ℕ) {s : _}
    → sending sizes plan me i st slot stage word ≡ Some s → send_tick_of sizes plan st slot stage ≡ Some s.tick
unfolding sending
sent-at sizes plan me i st slot stage word e =
    tick-of (message_said sizes me i st slot stage word) (send_tick_of sizes plan st slot stage) e

-- stage r + 1 of a slot is window 3 slot + r
exact-sent : (sizes : Sizes) {plan : _} (me : Side) (st : NodeState) (slot r : ℕ) {t : ℕ} → SendsInside plan → slot < sync_slot_of sizes → r < 3
    → send_tick_of sizes plan st slot (r + 1) ≡ Some t → IsTickIn sizes plan me st (3 * slot + r) t
exact-sent sizes {plan} me st slot r {t} inside below small e =
    let exact : send_tick_of sizes plan st slot (r + 1) ≡ Some (st.epoch + send_offset_of plan slot (r + 1)) =
    ap (λ b. if b then call_tick_of sizes plan st (r + 1) else Some (st.epoch + send_offset_of plan slot (r + 1))) (less-differs slot (sync_slot_of sizes) below) in
    let at : st.epoch + send_offset_of plan slot (r + 1) ≡ t = same_Some _ _ (sym exact ∙ e) in
    let k : 3 * slot + (r + 1) - 1 ≡ 3 * slot + r = omega arith in
    let offset : send_offset_of plan slot (r + 1) ≡ (3 * slot + r) * plan.l + plan.h = ap (λ n. n * plan.l + plan.h) k in
    let a : first_of sizes plan me st (3 * slot + r) ≡ (3 * slot + r) * plan.l = first-same sizes plan me st (3 * slot + r) (omega arith) in
    let b : last_of sizes plan me st (3 * slot + r) ≡ (3 * slot + r) * plan.l + plan.l - 1 = last-same sizes plan me st (3 * slot + r) (omega arith) in
    let h : plan.h < plan.l = inside.in_l in
    record { from = omega (arith, at, offset, a); to = omega (arith, at, offset, b, h) }

call-sent : {sizes plan me st : _} (r : ℕ) {t : ℕ} → SendsInside plan → KeepsTime sizes plan me st → r < 3
    → call_tick_of sizes plan st (r + 1) ≡ Some t → IsTickIn sizes plan me st (3 * sync_slot_of sizes + r) t
call-sent {sizes} {plan} {me} {st} zero {t} inside keeps small e =
    let at : st.epoch + f0_of sizes plan + plan.h ≡ t = same_Some _ _ e in
    let a : first_of sizes plan me st (3 * sync_slot_of sizes + 0) ≡ f0_of sizes plan = ap (λ w. w.first) (sync-numbered sizes plan me st 0) in
    let b : last_of sizes plan me st (3 * sync_slot_of sizes + 0) ≡ f0_of sizes plan + plan.l - 1 = ap (λ w. w.last) (sync-numbered sizes plan me st 0) in
    let h : plan.h < plan.l = inside.in_l in
    record { from = omega (arith, at, a); to = omega (arith, at, b, h) }
call-sent {sizes} {plan} {me} {st} (suc zero) {t} inside keeps small e =
    let x = option_map-back (λ k1. k1 + plan.l) st.k1 t e in
    subst (IsTickIn sizes plan me st (3 * sync_slot_of sizes + 1)) x.1.1 (keeps.second x.0 x.1.0)
call-sent {sizes} {plan} {me} {st} (suc (suc zero)) {t} inside keeps small e =
    let x = option_map-back (λ k2. k2 + plan.v) st.k2 t e in
    subst (IsTickIn sizes plan me st (3 * sync_slot_of sizes + 2)) x.1.1 (keeps.third x.0 x.1.0)
call-sent (suc (suc (suc r))) inside keeps small e = absurd (omega arith)

pub sent-in-window : {sizes plan me : _} (i : ℕ) {st : _} (slot r word : ℕ) {s : _} → SendsInside plan
    → KeepsTime sizes plan me st → slot ≤ sync_slot_of sizes → r < 3 → sending sizes plan me i st slot (r + 1) word ≡ Some s
    → IsTickIn sizes plan me st (3 * slot + r) s.tick
sent-in-window {sizes} {plan} {me} i {st} slot r word {s} inside keeps le small e =
    let at : send_tick_of sizes plan st slot (r + 1) ≡ Some s.tick = sent-at sizes plan me i st slot (r + 1) word e in
    elim (cases_lt slot (sync_slot_of sizes)) [
      | inl lt ↦ exact-sent sizes me st slot r inside lt small at
      | inr ge ↦
          let same : sync_slot_of sizes ≡ slot = omega arith in
          let call : call_tick_of sizes plan st (r + 1) ≡ Some s.tick =
          sym (ap (λ b. if b then call_tick_of sizes plan st (r + 1) else Some (st.epoch + send_offset_of plan (sync_slot_of sizes) (r + 1))) (eq_self (sync_slot_of sizes)))
          ∙ ap (λ n. send_tick_of sizes plan st n (r + 1)) same ∙ at in
          subst (λ n. IsTickIn sizes plan me st (3 * n + r) s.tick) same (call-sent r inside keeps small call)
    ]

-- Only the window's own message goes out in it.

apart : {sizes plan me st m n t k : _} → HasTicks plan → m < n → n ≤ stages_in sizes
    → IsTickIn sizes plan me st m t → IsTickIn sizes plan me st n k → t < k
apart {sizes} {plan} {me} {st} {m} {n} ticks lt le a b =
    let before : last_of sizes plan me st m < first_of sizes plan me st n = ends-before-later sizes me st m n ticks lt le in
    omega (arith, before, a.to, b.from)

if-at-none : (k : ℕ) (o : Option Sending) → ((s : Sending) → o ≡ Some s → (s.tick == k) ≡ false) → if_at k o ≡ None
if-at-none k None other = refl
if-at-none k (Some s) other = ap (λ b. elim b as (λ _. Option Message) [ true ↦ Some s.message | false ↦ None ]) (other s refl)

after-none : (o : Option Message) → option_or o None ≡ o
after-none None = refl
after-none (Some m) = refl

-- the message of another stage of the slot does not go out at a tick of this window
other-stage : {sizes plan me : _} (i : ℕ) {st : _} (slot r : ℕ) {n : ℕ} (word : ℕ) {k : ℕ} → HasTicks plan → SendsInside plan
    → KeepsTime sizes plan me st → slot ≤ sync_slot_of sizes → r < 3 → n ≤ stages_in sizes → (3 * slot + r < n) ⊎ (n < 3 * slot + r)
    → IsTickIn sizes plan me st n k → if_at k (sending sizes plan me i st slot (r + 1) word) ≡ None
other-stage {sizes} {plan} {me} i {st} slot r word {k} ticks inside keeps le small within differ at =
    if-at-none k (sending sizes plan me i st slot (r + 1) word)
    (λ s e.
    let sent : IsTickIn sizes plan me st (3 * slot + r) s.tick = sent-in-window i slot r word inside keeps le small e in
    elim differ [
      | inl lt ↦ less-differs s.tick k (apart ticks lt within sent at)
      | inr gt ↦ more-differs s.tick k (apart ticks gt (omega arith) at sent)
    ])

-- the message of stage r + 1, if those of the others do not go out
only : (sizes : Sizes) (plan : Plan) (me : Side) (i : ℕ) (st : NodeState) (slot word k : ℕ) (r : ℕ) → r < 3
    → ((q : ℕ) → q < 3 → (q < r) ⊎ (r < q) → if_at k (sending sizes plan me i st slot (q + 1) word) ≡ None)
    → option_or (if_at k (sending sizes plan me i st slot 1 word)) (option_or (if_at k (sending sizes plan me i st slot 2 word)) (if_at k (sending sizes plan me i st slot 3 word)))
    ≡ if_at k (sending sizes plan me i st slot (r + 1) word)
only sizes plan me i st slot word k zero small none =
    let a : Option Message = if_at k (sending sizes plan me i st slot 1 word) in
    let b : if_at k (sending sizes plan me i st slot 2 word) ≡ None = none 1 (omega arith) (inr (omega arith)) in
    let c : if_at k (sending sizes plan me i st slot 3 word) ≡ None = none 2 (omega arith) (inr (omega arith)) in
    ap (λ x. option_or a (option_or x (if_at k (sending sizes plan me i st slot 3 word)))) b ∙ ap (λ x. option_or a x) c ∙ after-none a
only sizes plan me i st slot word k (suc zero) small none =
    let b : Option Message = if_at k (sending sizes plan me i st slot 2 word) in
    let a : if_at k (sending sizes plan me i st slot 1 word) ≡ None = none 0 (omega arith) (inl (omega arith)) in
    let c : if_at k (sending sizes plan me i st slot 3 word) ≡ None = none 2 (omega arith) (inr (omega arith)) in
    ap (λ x. option_or x (option_or b (if_at k (sending sizes plan me i st slot 3 word)))) a ∙ ap (λ x. option_or b x) c ∙ after-none b
only sizes plan me i st slot word k (suc (suc zero)) small none =
    let a : if_at k (sending sizes plan me i st slot 1 word) ≡ None = none 0 (omega arith) (inl (omega arith)) in
    let b : if_at k (sending sizes plan me i st slot 2 word) ≡ None = none 1 (omega arith) (inl (omega arith)) in
    ap (λ x. option_or x (option_or (if_at k (sending sizes plan me i st slot 2 word)) (if_at k (sending sizes plan me i st slot 3 word)))) a
    ∙ ap (λ x. option_or x (if_at k (sending sizes plan me i st slot 3 word))) b
only sizes plan me i st slot word k (suc (suc (suc r))) small none = absurd (omega arith)

-- at a tick of window 3 slot + r the core says the message of that window, if this is its tick
said-in : {sizes plan me : _} (i : ℕ) {st slot : _} (r word : ℕ) {k : ℕ} → HasTicks plan → SendsInside plan
    → KeepsTime sizes plan me st → slot ≤ sync_slot_of sizes → r < 3 → (window_numbered sizes plan me st (3 * slot + r)).slot ≡ slot
    → IsTickIn sizes plan me st (3 * slot + r) k
    → said_at sizes plan me i st word k ≡ if_at k (sending sizes plan me i st slot (r + 1) word)
unfolding said_at
said-in {sizes} {plan} {me} i {st} {slot} r word {k} ticks inside keeps le small slot_is at =
    let here : (window_here sizes plan me st k).slot ≡ slot =
    ap (λ w. w.slot) (here-is me st ticks (omega arith) at) ∙ slot_is in
    ap (λ x. option_or (if_at k (sending sizes plan me i st x 1 word)) (option_or (if_at k (sending sizes plan me i st x 2 word)) (if_at k (sending sizes plan me i st x 3 word)))) here
    ∙ only sizes plan me i st slot word k r small
    (λ q sq differ. other-stage i slot q word ticks inside keeps le sq (omega arith)
    (elim differ [ inl lt ↦ inl (omega arith) | inr gt ↦ inr (omega arith) ]) at)

said-in-tail : {sizes plan me : _} (i : ℕ) {st : _} (word : ℕ) {k : ℕ} → HasTicks plan → SendsInside plan
    → KeepsTime sizes plan me st → IsTickIn sizes plan me st (stages_in sizes) k → said_at sizes plan me i st word k ≡ None
unfolding said_at
said-in-tail {sizes} {plan} {me} i {st} word {k} ticks inside keeps at =
    let s : ℕ = sync_slot_of sizes in
    let here : (window_here sizes plan me st k).slot ≡ s =
    ap (λ w. w.slot) (here-is me st ticks (omega arith) at) ∙ ap (λ w. w.slot) (sync-numbered sizes plan me st 3) in
    let none : (q : ℕ) → q < 3 → if_at k (sending sizes plan me i st s (q + 1) word) ≡ None =
    λ q small. other-stage i s q word ticks inside keeps (omega arith) small (omega arith) (inl (omega arith)) at in
    ap (λ x. option_or (if_at k (sending sizes plan me i st x 1 word)) (option_or (if_at k (sending sizes plan me i st x 2 word)) (if_at k (sending sizes plan me i st x 3 word)))) here
    ∙ ap (λ x. option_or x (option_or (if_at k (sending sizes plan me i st s 2 word)) (if_at k (sending sizes plan me i st s 3 word)))) (none 0 (omega arith))
    ∙ ap (λ x. option_or x (if_at k (sending sizes plan me i st s 3 word))) (none 1 (omega arith))
    ∙ none 2 (omega arith)

-- in the tail nothing is sent
pub unsent : (sizes : Sizes) (plan : Plan) (me : Side) (i : ℕ) (st : NodeState) (word : ℕ) → sending sizes plan me i st (sync_slot_of sizes) 4 word ≡ None
unfolding sending
unsent sizes plan Biu i st word = ap (λ b. option_and_then (λ m. option_map (λ tick. let x : Sending = record { tick = tick; message = m } in x) (send_tick_of sizes plan st (sync_slot_of sizes) 4)) (if b then None else option_map (message_of st (sync_slot_of sizes) 4) (says sizes Biu i st (sync_slot_of sizes) 4 word))) (eq_self (sync_slot_of sizes))
unsent sizes plan Rmu i st word = ap (λ b. option_and_then (λ m. option_map (λ tick. let x : Sending = record { tick = tick; message = m } in x) (send_tick_of sizes plan st (sync_slot_of sizes) 4)) (if b then None else option_map (message_of st (sync_slot_of sizes) 4) (says sizes Rmu i st (sync_slot_of sizes) 4 word))) (eq_self (sync_slot_of sizes))

thirds : (n : ℕ) → (n ≡ 3 * (n / 3) + n % 3) × (n % 3 < 3)
thirds n = (omega arith, omega arith)

-- what a node sends in window n of its frame
abbrev pub sending_at : Sizes → Plan → Side → ℕ → NodeState → ℕ → ℕ → Option Sending
sending_at sizes plan me i st n word =
    sending sizes plan me i st (window_numbered sizes plan me st n).slot (window_numbered sizes plan me st n).stage word

sync-said : {sizes plan me : _} (i : ℕ) {st : _} (r word : ℕ) {k : ℕ} → HasTicks plan → SendsInside plan
    → KeepsTime sizes plan me st → r < 4 → IsTickIn sizes plan me st (3 * sync_slot_of sizes + r) k
    → said_at sizes plan me i st word k ≡ if_at k (sending_at sizes plan me i st (3 * sync_slot_of sizes + r) word)
sync-said {sizes} {plan} {me} i {st} zero word {k} ticks inside keeps small at =
    said-in i 0 word ticks inside keeps (omega arith) (omega arith) (ap (λ w. w.slot) (sync-numbered sizes plan me st 0)) at
    ∙ ap (λ (w : Window). if_at k (sending sizes plan me i st w.slot w.stage word)) (sym (sync-numbered sizes plan me st 0))
sync-said {sizes} {plan} {me} i {st} (suc zero) word {k} ticks inside keeps small at =
    said-in i 1 word ticks inside keeps (omega arith) (omega arith) (ap (λ w. w.slot) (sync-numbered sizes plan me st 1)) at
    ∙ ap (λ (w : Window). if_at k (sending sizes plan me i st w.slot w.stage word)) (sym (sync-numbered sizes plan me st 1))
sync-said {sizes} {plan} {me} i {st} (suc (suc zero)) word {k} ticks inside keeps small at =
    said-in i 2 word ticks inside keeps (omega arith) (omega arith) (ap (λ w. w.slot) (sync-numbered sizes plan me st 2)) at
    ∙ ap (λ (w : Window). if_at k (sending sizes plan me i st w.slot w.stage word)) (sym (sync-numbered sizes plan me st 2))
sync-said {sizes} {plan} {me} i {st} (suc (suc (suc zero))) word {k} ticks inside keeps small at =
    said-in-tail i word ticks inside keeps at
    ∙ sym (ap (if_at k) (unsent sizes plan me i st word))
    ∙ ap (λ (w : Window). if_at k (sending sizes plan me i st w.slot w.stage word)) (sym (sync-numbered sizes plan me st 3))
sync-said i (suc (suc (suc (suc r)))) word ticks inside keeps small at = absurd (omega arith)

-- at a tick of any window the core says what the rounds send in it, if this is its tick
pub said-is : {sizes plan me : _} (i : ℕ) {st n : _} (word : ℕ) {k : ℕ} → HasTicks plan → SendsInside plan
    → KeepsTime sizes plan me st → n ≤ stages_in sizes → IsTickIn sizes plan me st n k
    → said_at sizes plan me i st word k ≡ if_at k (sending_at sizes plan me i st n word)
said-is {sizes} {plan} {me} i {st} {n} word {k} ticks inside keeps le at =
    elim (cases_lt n (3 * sync_slot_of sizes)) [
      | inl lt ↦
          let w : window_numbered sizes plan me st n ≡ _ = exact-numbered sizes plan me st n lt in
          let parts = thirds n in
          let e : n ≡ 3 * (n / 3) + n % 3 = parts.0 in
          said-in i (n % 3) word ticks inside keeps (omega (arith, e)) parts.1
          (ap (λ m. (window_numbered sizes plan me st m).slot) (sym e) ∙ ap (λ w. w.slot) w)
          (subst (λ m. IsTickIn sizes plan me st m k) e at)
          ∙ ap (λ (w : Window). if_at k (sending sizes plan me i st w.slot w.stage word)) (sym w)
      | inr ge ↦
          let r : ℕ = n - 3 * sync_slot_of sizes in
          let e : 3 * sync_slot_of sizes + r ≡ n = omega arith in
          subst (λ m. said_at sizes plan me i st word k ≡ if_at k (sending_at sizes plan me i st m word)) e
          (sync-said i r word ticks inside keeps (omega arith) (subst (λ m. IsTickIn sizes plan me st m k) (sym e) at))
    ]

-- Where the message of a window goes out.

sync-sent : {sizes plan me : _} (i : ℕ) {st : _} (r word : ℕ) {s : _} → SendsInside plan → KeepsTime sizes plan me st
    → r < 4 → sending_at sizes plan me i st (3 * sync_slot_of sizes + r) word ≡ Some s → IsTickIn sizes plan me st (3 * sync_slot_of sizes + r) s.tick
sync-sent {sizes} {plan} {me} i {st} zero word inside keeps small e =
    sent-in-window i (sync_slot_of sizes) 0 word inside keeps (omega arith) (omega arith)
    (sym (ap (λ (w : Window). sending sizes plan me i st w.slot w.stage word) (sync-numbered sizes plan me st 0)) ∙ e)
sync-sent {sizes} {plan} {me} i {st} (suc zero) word inside keeps small e =
    sent-in-window i (sync_slot_of sizes) 1 word inside keeps (omega arith) (omega arith)
    (sym (ap (λ (w : Window). sending sizes plan me i st w.slot w.stage word) (sync-numbered sizes plan me st 1)) ∙ e)
sync-sent {sizes} {plan} {me} i {st} (suc (suc zero)) word inside keeps small e =
    sent-in-window i (sync_slot_of sizes) 2 word inside keeps (omega arith) (omega arith)
    (sym (ap (λ (w : Window). sending sizes plan me i st w.slot w.stage word) (sync-numbered sizes plan me st 2)) ∙ e)
sync-sent {sizes} {plan} {me} i {st} (suc (suc (suc zero))) word {s} inside keeps small e =
    absurd (no-none (sym (unsent sizes plan me i st word)
    ∙ sym (ap (λ (w : Window). sending sizes plan me i st w.slot w.stage word) (sync-numbered sizes plan me st 3)) ∙ e))
  where
    no-none : None ≡ Some s → ⊥
    no-none e = cc
sync-sent i (suc (suc (suc (suc r)))) word inside keeps small e = absurd (omega arith)

-- what is sent in a window goes out at one of its ticks
pub sent-in : {sizes plan me : _} (i : ℕ) {st : _} (n word : ℕ) {s : _} → SendsInside plan → KeepsTime sizes plan me st
    → n ≤ stages_in sizes → sending_at sizes plan me i st n word ≡ Some s → IsTickIn sizes plan me st n s.tick
sent-in {sizes} {plan} {me} i {st} n word {s} inside keeps le e =
    elim (cases_lt n (3 * sync_slot_of sizes)) [
      | inl lt ↦
          let w : window_numbered sizes plan me st n ≡ _ = exact-numbered sizes plan me st n lt in
          let parts = thirds n in
          let f : n ≡ 3 * (n / 3) + n % 3 = parts.0 in
          subst (λ m. IsTickIn sizes plan me st m s.tick) (sym f)
          (sent-in-window i (n / 3) (n % 3) word inside keeps (omega (arith, f)) parts.1
          (sym (ap (λ (w : Window). sending sizes plan me i st w.slot w.stage word) w) ∙ e))
      | inr ge ↦
          let r : ℕ = n - 3 * sync_slot_of sizes in
          let f : 3 * sync_slot_of sizes + r ≡ n = omega arith in
          subst (λ m. IsTickIn sizes plan me st m s.tick) f
          (sync-sent i r word inside keeps (omega arith) (ap (λ m. sending_at sizes plan me i st m word) f ∙ e))
    ]

-- If nothing is sent the sender keeps nothing.

no-message : (m : Option Message) (t : ℕ) → option_and_then (λ m. option_map (λ tick. let x : Sending = record { tick = tick; message = m } in x) (Some t)) m ≡ None → m ≡ None
no-message None t e = refl
no-message (Some m) t e = cc

no-value : (st : NodeState) (slot stage : ℕ) (o : Option Heard) → option_map (message_of st slot stage) o ≡ None → o ≡ None
no-value st slot stage None e = refl
no-value st slot stage (Some v) e = cc

unsent-exact : (sizes : Sizes) (plan : Plan) (me : Side) (i : ℕ) (st : NodeState) (slot stage word : ℕ) → slot < sync_slot_of sizes
    → sending sizes plan me i st slot stage word ≡ None → keep_sent sizes me i st slot stage word ≡ st
unfolding sending
unsent-exact sizes plan me i st slot stage word lt e =
    let test : (slot == sync_slot_of sizes) ≡ false = less-differs slot (sync_slot_of sizes) lt in
    let t : ℕ = st.epoch + send_offset_of plan slot stage in
    let exact : send_tick_of sizes plan st slot stage ≡ Some t =
    ap (λ b. if b then call_tick_of sizes plan st stage else Some t) test in
    let none : message_said sizes me i st slot stage word ≡ None =
    no-message (message_said sizes me i st slot stage word) t
    (sym (ap (λ o. option_and_then (λ m. option_map (λ tick. let x : Sending = record { tick = tick; message = m } in x) o) (message_said sizes me i st slot stage word)) exact) ∙ e) in
    let value : option_map (message_of st slot stage) (says sizes me i st slot stage word) ≡ None =
    sym (ap (λ b. if b then calls sizes me st stage else option_map (message_of st slot stage) (says sizes me i st slot stage word)) test) ∙ none in
    nothing-kept sizes me i st slot stage word (no-value st slot stage (says sizes me i st slot stage word) value)

pub keeps-none : (sizes : Sizes) (plan : Plan) (me : Side) (i : ℕ) (st : NodeState) (slot stage word : ℕ) → slot ≤ sync_slot_of sizes
    → sending sizes plan me i st slot stage word ≡ None → keep_sent sizes me i st slot stage word ≡ st
keeps-none sizes plan me i st slot stage word le e =
    elim (cases_lt slot (sync_slot_of sizes)) [
      | inl lt ↦ unsent-exact sizes plan me i st slot stage word lt e
      | inr ge ↦
          let same : sync_slot_of sizes ≡ slot = omega arith in
          subst (λ slot. keep_sent sizes me i st slot stage word ≡ st) same
          (nothing-kept sizes me i st (sync_slot_of sizes) stage word
          (ap (λ role. says_of me i st (sync_slot_of sizes) role (sender_in (trusted_of me Biu st) (trusted_of me Rmu st) st.owners role) stage word) (sync_role sizes)))
    ]

-- up to stage 1 of the sync slot the message of window n goes out h ticks after its first
pub sent-exactly : (sizes : Sizes) (plan : Plan) (me : Side) (i : ℕ) (st : NodeState) (n word : ℕ) {s : _} → n ≤ 3 * sync_slot_of sizes
    → sending_at sizes plan me i st n word ≡ Some s → s.tick ≡ st.epoch + n * plan.l + plan.h
sent-exactly sizes plan me i st n word {s} le e =
    let tick : send_tick_of sizes plan st (window_numbered sizes plan me st n).slot (window_numbered sizes plan me st n).stage ≡ Some s.tick =
    sent-at sizes plan me i st (window_numbered sizes plan me st n).slot (window_numbered sizes plan me st n).stage word e in
    elim (cases_lt n (3 * sync_slot_of sizes)) [
      | inl lt ↦
          let w : window_numbered sizes plan me st n ≡ _ = exact-numbered sizes plan me st n lt in
          let at : send_tick_of sizes plan st (n / 3) (n % 3 + 1) ≡ Some s.tick = sym (ap (λ (w : Window). send_tick_of sizes plan st w.slot w.stage) w) ∙ tick in
          let below : n / 3 < sync_slot_of sizes = omega arith in
          let exact : send_tick_of sizes plan st (n / 3) (n % 3 + 1) ≡ Some (st.epoch + send_offset_of plan (n / 3) (n % 3 + 1)) =
          ap (λ b. if b then call_tick_of sizes plan st (n % 3 + 1) else Some (st.epoch + send_offset_of plan (n / 3) (n % 3 + 1))) (less-differs (n / 3) (sync_slot_of sizes) below) in
          let is : st.epoch + send_offset_of plan (n / 3) (n % 3 + 1) ≡ s.tick = same_Some _ _ (sym exact ∙ at) in
          let k : 3 * (n / 3) + (n % 3 + 1) - 1 ≡ n = omega arith in
          let offset : send_offset_of plan (n / 3) (n % 3 + 1) ≡ n * plan.l + plan.h = ap (λ n. n * plan.l + plan.h) k in
          omega (arith, is, offset)
      | inr ge ↦
          let same : 3 * sync_slot_of sizes + 0 ≡ n = omega arith in
          let plain : n ≡ 3 * sync_slot_of sizes = omega arith in
          let at : send_tick_of sizes plan st (sync_slot_of sizes) 1 ≡ Some s.tick =
          sym (ap (λ (w : Window). send_tick_of sizes plan st w.slot w.stage) (sync-numbered sizes plan me st 0))
          ∙ ap (λ n. send_tick_of sizes plan st (window_numbered sizes plan me st n).slot (window_numbered sizes plan me st n).stage) same ∙ tick in
          let call : send_tick_of sizes plan st (sync_slot_of sizes) 1 ≡ Some (st.epoch + f0_of sizes plan + plan.h) =
          ap (λ b. if b then call_tick_of sizes plan st 1 else Some (st.epoch + send_offset_of plan (sync_slot_of sizes) 1)) (eq_self (sync_slot_of sizes)) in
          let is : st.epoch + f0_of sizes plan + plan.h ≡ s.tick = same_Some _ _ (sym call ∙ at) in
          let f : n * plan.l ≡ f0_of sizes plan = ap (λ n. n * plan.l) plain in
          omega (arith, is, f)
    ]
