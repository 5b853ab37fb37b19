-- For the law that events are rounds if the premise on faults is broken in a sync slot: what a node
-- does after it has closed the last stage of its frame. It goes through the tail and begins the
-- next frame, and closes no stage before the end of that one's first window.
use Rattle.std.proofs.{Common.{◌≡◌, ℕ, ◌+◌, ◌*◌, ◌-◌, ◌<◌, ◌≤◌, ◌==◌, ◌&&◌, ◌⊎◌, if◌then◌else◌, Bool, true, false, List, refl, ap, sym, ◌∙◌, subst, arith, inl, inr, Option, Some, None, is_some, option_map, unwrap_or, slice_get}, lemmas.Bool.eqb-true, lemmas.Bool.Decides.nat_tests}
use Rattle.rb_base.specs.{Nodes.{Side, other}, Nodes.Side.{Biu, Rmu}, Sizes.{Sizes, sync_slot_of}}
use Rattle.rb_base.proofs.Plain.{less-differs, none_not_some, true-false}
use Rattle.rb_rules.specs.{declared.closing.Closed.Closed as Shown, declared.message.Message.Message, declared.plan.Plan.Plan, declared.plan.Window.Window, declared.role.Role.TheVariants.Sync, declared.sense.Sense.Sense, Core.{Act, Core, act_on, if_at, is_last, of_source, said_at, state_kept, window_here}, ExactStage.{Outcome, close_exact, says}, Hearing.{Sending, close_window, window_numbered}, NodeState.NodeState, NodeSteps.expect_of, Plan.tail_start_of, Sense.{Arrival, sense_of}, Slots.listens, Standing.{has_evidence, with_evidence}, SyncStage.{close_sync, expects_call, new_epoch_of}, Windows.{tail_of, windows_of_frame}}
use Rattle.rb_rules.proofs.WindowNumbers.{sync-numbered}
use Rattle.rb_laws_events.specs.Closing.{stages_in}
use Rattle.rb_laws_events.proofs.{ActCases.{act-by, closing_act, open_act}, DeafCloses.deaf-state, NodeActs.HasRoom, NodeClosing.closed-stage, NodeSends.{KeepsTime, said-is, sending_at, sent-exactly}, NodeTicks.{tail-first, tail-last}, SilentThere.silent-there, StageOrder.{last_of, last-same}, TickWindows.{IsTickIn, first_of, first-same, here-is, last-is}}

-- What stays.

pub record KeepsMiddles (c y : NodeState) : Type 0 where
  pub frame : y.frame ≡ c.frame
  pub epoch : y.epoch ≡ c.epoch
  pub k1 : y.k1 ≡ c.k1
  pub k2 : y.k2 ≡ c.k2
  pub k3 : y.k3 ≡ c.k3

itself : (c : NodeState) → KeepsMiddles c c
itself c = record { frame = refl; epoch = refl; k1 = refl; k2 = refl; k3 = refl }

and-so : {a b c : _} → KeepsMiddles a b → KeepsMiddles b c → KeepsMiddles a c
and-so h k = record { frame = k.frame ∙ h.frame; epoch = k.epoch ∙ h.epoch; k1 = k.k1 ∙ h.k1; k2 = k.k2 ∙ h.k2; k3 = k.k3 ∙ h.k3 }

pub same-epoch : (plan : Plan) (me : Side) {c y : _} → KeepsMiddles c y → new_epoch_of plan me y ≡ new_epoch_of plan me c
same-epoch plan Biu h = ap (option_map (λ k2. k2 + plan.v + plan.z + plan.c)) h.k2
same-epoch plan Rmu h = ap (option_map (λ k3. k3 + plan.z)) h.k3

same-windows : (sizes : Sizes) (plan : Plan) (me : Side) {c y : _} (n : ℕ) → KeepsMiddles c y → window_numbered sizes plan me y n ≡ window_numbered sizes plan me c n
same-windows sizes plan me {c} {y} n h =
    ap (λ o. unwrap_or (slice_get (windows_of_frame sizes plan) n) (tail_of sizes plan (unwrap_or o 0 - y.epoch))) (same-epoch plan me h)
    ∙ ap (λ e. unwrap_or (slice_get (windows_of_frame sizes plan) n) (tail_of sizes plan (unwrap_or (new_epoch_of plan me c) 0 - e))) h.epoch

same-tick : {sizes plan me c y n k : _} → KeepsMiddles c y → IsTickIn sizes plan me c n k → IsTickIn sizes plan me y n k
same-tick {sizes} {plan} {me} {c} {y} {n} h at =
    let first : first_of sizes plan me y n ≡ first_of sizes plan me c n = ap (λ (w : Window). w.first) (same-windows sizes plan me n h) in
    let last : last_of sizes plan me y n ≡ last_of sizes plan me c n = ap (λ (w : Window). w.last) (same-windows sizes plan me n h) in
    let epoch : y.epoch ≡ c.epoch = h.epoch in
    record { from = omega (arith, first, epoch, at.from); to = omega (arith, last, epoch, at.to) }

keeps-same : {sizes plan me c y : _} → KeepsMiddles c y → KeepsTime sizes plan me c → KeepsTime sizes plan me y
keeps-same {sizes} {plan} {me} {c} {y} h keeps = record {
  second = λ x e. same-tick h (keeps.second x (sym h.k1 ∙ e));
  third = λ x e. same-tick h (keeps.third x (sym h.k2 ∙ e));
  next = λ x e. let epoch : y.epoch ≡ c.epoch = h.epoch in let low : c.epoch + tail_start_of sizes plan ≤ x = keeps.next x (sym (same-epoch plan me h) ∙ e) in omega (arith, epoch, low);
}

-- a message that is said leaves the middles
said-same : (sizes : Sizes) (me : Side) (i : ℕ) (c : NodeState) (word : ℕ) (m : Option Message) → KeepsMiddles c (state_kept sizes me i c word m)
said-same sizes me i c word None = itself c
said-same sizes me i c word (Some m) = by ((m.stage == 1) && is_some (says sizes me i c m.slot m.stage word))
  where
    by : (b : Bool) → KeepsMiddles c (if b then record c { sent = says sizes me i c m.slot m.stage word } else c)
    by true = record { frame = refl; epoch = refl; k1 = refl; k2 = refl; k3 = refl }
    by false = itself c

deaf-tail : (me : Side) → listens me Sync 4 ≡ false
deaf-tail Biu = refl
deaf-tail Rmu = refl

-- a close in which the node does not listen leaves the middles
pub closed-same : (sizes : Sizes) (plan : Plan) (me : Side) (i : ℕ) (st : NodeState) (w : Window) (arrivals : ℕ → List Arrival) → w.slot ≡ sync_slot_of sizes → listens me Sync w.stage ≡ false
    → KeepsMiddles st (close_window sizes plan me i st w arrivals).state
closed-same sizes plan me i st w arrivals slot deaf =
    subst (λ b. KeepsMiddles st (outcome b).state) (sym (same-is w.slot (sync_slot_of sizes) slot)) (record {
      frame = ap (λ (s : NodeState). s.frame) state;
      epoch = ap (λ (s : NodeState). s.epoch) state;
      k1 = ap (λ (s : NodeState). s.k1) state;
      k2 = ap (λ (s : NodeState). s.k2) state;
      k3 = ap (λ (s : NodeState). s.k3) state;
    })
  where
    sense : ℕ → Sense
    sense j = sense_of (expect_of sizes plan.version st w.slot w.stage) (arrivals j)

    outcome : Bool → Outcome
    outcome b = elim b as (λ _. Outcome) [
      | true ↦ close_sync sizes me st w.stage (st.epoch + w.first) sense
      | false ↦ close_exact sizes me i st w.slot w.stage sense
    ]

    state : (close_sync sizes me st w.stage (st.epoch + w.first) sense).state ≡ record st { far = with_evidence (has_evidence st.far (expects_call me st w.stage) sense) st.far }
    state = deaf-state sizes me st w.stage (st.epoch + w.first) sense deaf

    same-is : (a b : ℕ) → a ≡ b → (a == b) ≡ true
    same-is a b h = grind (arith, nat_tests)

-- The node after the last stage of its frame.

-- the core is in the tail of a frame that began at tick `e`, and the next frame begins at tick `x`.
-- A BIU's calls went out before
pub record IsInTail (sizes : Sizes) (plan : Plan) (me : Side) (frame e x : ℕ) (c : NodeState) (had : ℕ) : Type 0 where
  pub in_frame : c.frame ≡ frame
  pub epoch : c.epoch ≡ e
  pub known : new_epoch_of plan me c ≡ Some x
  pub from : e + tail_start_of sizes plan ≤ had
  pub keeps : listens me Sync 3 ≡ false → KeepsTime sizes plan me c

-- the core has turned to the next frame, which began at tick `x`
pub record HasTurned (frame x : ℕ) (c : NodeState) (had : ℕ) : Type 0 where
  pub in_frame : c.frame ≡ frame + 1
  pub epoch : c.epoch ≡ x
  pub k1 : c.k1 ≡ None
  pub k2 : c.k2 ≡ None
  pub k3 : c.k3 ≡ None
  pub begun : x < had

-- the core is in the tail, and `k` is at most the start of the next frame, or the core has turned
abbrev pub IsAfter : Sizes → Plan → Side → ℕ → ℕ → ℕ → NodeState → ℕ → ℕ → Type 0
IsAfter sizes plan me frame e x c had k = (IsInTail sizes plan me frame e x c had × (k ≤ x)) ⊎ HasTurned frame x c had

pub record GoesOn (sizes : Sizes) (plan : Plan) (me : Side) (frame e x k : ℕ) (a : Act) : Type 0 where
  pub closed : (s : Shown) → a.closed ≡ Some s → (s.place.stage == 4) ≡ true
  pub after : (IsInTail sizes plan me frame e x a.core.state a.core.had × (a.core.had ≤ x)) ⊎ HasTurned frame x a.core.state a.core.had
  pub message : listens me Sync 3 ≡ false → (m : Message) → a.message ≡ Some m → x + plan.h ≤ k
  pub begun : x ≤ k → (m : Message) → a.message ≡ Some m → x + plan.h ≡ k

pub none-some : {X P : Type 0} (o : Option X) {x : X} → o ≡ None → o ≡ Some x → P
none-some None e f = cc
none-some (Some y) e f = cc

-- The first window of the next frame.

pub turned-epoch : (plan : Plan) (me : Side) {frame x c had : _} → HasTurned frame x c had → new_epoch_of plan me c ≡ None
turned-epoch plan Biu h = ap (option_map (λ k2. k2 + plan.v + plan.z + plan.c)) h.k2
turned-epoch plan Rmu h = ap (option_map (λ k3. k3 + plan.z)) h.k3

turned-keeps : (sizes : Sizes) (plan : Plan) (me : Side) {frame x c had : _} → HasTurned frame x c had → KeepsTime sizes plan me c
turned-keeps sizes plan me {c} h = record {
  second = λ t e. none-some c.k1 h.k1 e;
  third = λ t e. none-some c.k2 h.k2 e;
  next = λ t e. none-some (new_epoch_of plan me c) (turned-epoch plan me h) e;
}

first-window : (sizes : Sizes) (plan : Plan) (me : Side) (y : NodeState) {x : ℕ} (k : ℕ) → y.epoch ≡ x → x ≤ k → k + 1 < x + plan.l → IsTickIn sizes plan me y 0 k
first-window sizes plan me y k epoch from before =
    let first : first_of sizes plan me y 0 ≡ 0 * plan.l = first-same sizes plan me y 0 (omega arith) in
    let last : last_of sizes plan me y 0 ≡ 0 * plan.l + plan.l - 1 = last-same sizes plan me y 0 (omega arith) in
    record { from = omega (arith, first, epoch, from); to = omega (arith, last, epoch, before) }

turned-last : (sizes : Sizes) {plan : _} (me : Side) (y : NodeState) {x : ℕ} (k : ℕ) → HasRoom plan → y.epoch ≡ x → x ≤ k → k + 1 < x + plan.l → is_last sizes plan me y k ≡ false
turned-last sizes {plan} me y k room epoch from before =
    let last : last_of sizes plan me y 0 ≡ 0 * plan.l + plan.l - 1 = last-same sizes plan me y 0 (omega arith) in
    last-is me y room.ticks (omega arith) (first-window sizes plan me y k epoch from before) ∙ less-differs k (y.epoch + last_of sizes plan me y 0) (omega (arith, last, epoch, before))

turned-says : (sizes : Sizes) {plan : _} (me : Side) (i : ℕ) {y frame x : _} (word k : ℕ) → HasRoom plan → HasTurned frame x y (k + 1) → x ≤ k → k + 1 < x + plan.l
    → {m : _} → said_at sizes plan me i y word k ≡ Some m → x + plan.h ≡ k
turned-says sizes {plan} me i {y} {x} word k room h from before {m} e =
    by (sending_at sizes plan me i y 0 word) refl
    (sym (said-is i word room.ticks room.inside (turned-keeps sizes plan me h) (omega arith) (first-window sizes plan me y k h.epoch from before)) ∙ e)
  where
    at : (s : Sending) → sending_at sizes plan me i y 0 word ≡ Some s → (b : Bool) → (s.tick == k) ≡ b → (elim b as (λ _. Option Message) [ true ↦ Some s.message | false ↦ None ]) ≡ Some m → x + plan.h ≡ k
    at s is true f g =
        let tick : s.tick ≡ y.epoch + 0 * plan.l + plan.h = sent-exactly sizes plan me i y 0 word (omega arith) is in
        let same : s.tick ≡ k = eqb-true s.tick k f in
        let epoch : y.epoch ≡ x = h.epoch in
        omega (arith, tick, same, epoch)
    at s is false f g = cc

    by : (o : Option Sending) → sending_at sizes plan me i y 0 word ≡ o → if_at k o ≡ Some m → x + plan.h ≡ k
    by None is g = cc
    by (Some s) is g = at s is (s.tick == k) refl g

pub turned-act : (sizes : Sizes) {plan : _} (me : Side) (i : ℕ) {frame : ℕ} (e : ℕ) {x : ℕ} (c : Core) {y : _} (word : ℕ) → HasRoom plan → HasTurned frame x y (c.had + 1) → c.had + 1 < x + plan.l
    → GoesOn sizes plan me frame e x c.had (act_on sizes plan me i c y (said_at sizes plan me i y word c.had) (state_kept sizes me i y word (said_at sizes plan me i y word c.had)))
turned-act sizes {plan} me i {frame} e {x} c {y} word room h before =
    act-by (GoesOn sizes plan me frame e x c.had) sizes plan me i c y m kept (λ last. true-false (sym last ∙ turned-last sizes me y c.had room h.epoch from before)) (λ _. record {
      closed = λ s f. none_not_some s f;
      after = inr (record {
        in_frame = same.frame ∙ h.in_frame;
        epoch = same.epoch ∙ h.epoch;
        k1 = same.k1 ∙ h.k1;
        k2 = same.k2 ∙ h.k2;
        k3 = same.k3 ∙ h.k3;
        begun = h.begun;
      });
      message = λ deaf msg f. let at = turned-says sizes me i word c.had room h from before f in omega (arith, at);
      begun = λ le msg f. turned-says sizes me i word c.had room h from before f;
    })
  where
    from : x ≤ c.had
    from = let begun = h.begun in omega (arith, begun)

    m : Option Message
    m = said_at sizes plan me i y word c.had

    kept : NodeState
    kept = state_kept sizes me i y word m

    same : KeepsMiddles y kept
    same = said-same sizes me i y word m

-- The tail.

pub in-tail : {sizes plan me frame e x c k : _} → e + tail_start_of sizes plan ≤ x → IsInTail sizes plan me frame e x c k → k < x
    → IsTickIn sizes plan me c (stages_in sizes) k
in-tail {sizes} {plan} {me} {e} {x} {c} low h lt =
    let first : first_of sizes plan me c (stages_in sizes) ≡ tail_start_of sizes plan = tail-first sizes plan me c in
    let last : last_of sizes plan me c (stages_in sizes) ≡ x - c.epoch - 1 =
    tail-last sizes plan me c ∙ ap (λ o. unwrap_or o 0 - c.epoch - 1) h.known in
    let epoch : c.epoch ≡ e = h.epoch in
    record { from = omega (arith, first, epoch, h.from); to = omega (arith, last, epoch, low, lt) }

pub tail-act : {sizes plan me : _} (i : ℕ) {frame e x : ℕ} (c : Core) (word : ℕ) → HasRoom plan → e + tail_start_of sizes plan ≤ x → IsInTail sizes plan me frame e x c.state c.had → c.had < x
    → GoesOn sizes plan me frame e x c.had (act_on sizes plan me i c c.state (said_at sizes plan me i c.state word c.had) (state_kept sizes me i c.state word (said_at sizes plan me i c.state word c.had)))
    × KeepsMiddles c.state (act_on sizes plan me i c c.state (said_at sizes plan me i c.state word c.had) (state_kept sizes me i c.state word (said_at sizes plan me i c.state word c.had))).core.state
tail-act {sizes} {plan} {me} i {frame} {e} {x} c word room low h lt = act-by Goes sizes plan me i c st m kept (λ _. closes) (λ _. goes)
  where
    st : NodeState
    st = c.state

    m : Option Message
    m = said_at sizes plan me i st word c.had

    kept : NodeState
    kept = state_kept sizes me i st word m

    w : Window
    w = window_here sizes plan me st c.had

    w_is : w ≡ window_numbered sizes plan me st (stages_in sizes)
    w_is = here-is me st room.ticks (omega arith) (in-tail low h lt)

    slot : w.slot ≡ sync_slot_of sizes
    slot = ap (λ (w : Window). w.slot) w_is ∙ ap (λ (w : Window). w.slot) (sync-numbered sizes plan me st 3)

    stage : w.stage ≡ 4
    stage = ap (λ (w : Window). w.stage) w_is ∙ ap (λ (w : Window). w.stage) (sync-numbered sizes plan me st 3)

    closing : Outcome
    closing = close_window sizes plan me i kept w (of_source c.inbox)

    silent : listens me Sync 3 ≡ false → m ≡ None
    silent deaf = silent-there i 3 word room (omega arith) (h.keeps deaf) (in-tail low h lt) (unheard me)
      where
        unheard : (me : Side) → listens (other me) Sync 4 ≡ false
        unheard Biu = refl
        unheard Rmu = refl

    still : (z : NodeState) → KeepsMiddles st z → IsInTail sizes plan me frame e x z (c.had + 1)
    still z same = record {
      in_frame = same.frame ∙ h.in_frame;
      epoch = same.epoch ∙ h.epoch;
      known = same-epoch plan me same ∙ h.known;
      from = let low = h.from in omega (arith, low);
      keeps = λ deaf. keeps-same same (h.keeps deaf);
    }

    kept-same : KeepsMiddles st kept
    kept-same = said-same sizes me i st word m

    stage-of : (s : Shown) → Some closing.closed ≡ Some s → (s.place.stage == 4) ≡ true
    stage-of s f =
        let its : closing.closed.place.stage ≡ w.stage = closed-stage sizes plan me i kept w (of_source c.inbox) in
        let same : closing.closed ≡ s = some-same closing.closed s f in
        ap (λ (s : Shown). s.place.stage == 4) (sym same) ∙ ap (λ n. n == 4) (its ∙ stage)
      where
        some-same : (a b : Shown) → Some a ≡ Some b → a ≡ b
        some-same a b e = cc

    closes-same : KeepsMiddles st closing.state
    closes-same = and-so kept-same (closed-same sizes plan me i kept w (of_source c.inbox) slot (ap (listens me Sync) stage ∙ deaf-tail me))

    Goes : Act → Type 0
    Goes a = GoesOn sizes plan me frame e x c.had a × KeepsMiddles st a.core.state

    closes : Goes (closing_act sizes plan me i c st m kept)
    closes = (
      record {
        closed = stage-of;
        after = inl (still closing.state closes-same, omega (arith, lt));
        message = λ deaf msg f. none-some m (silent deaf) f;
        begun = λ le msg f. absurd (omega (arith, le, lt));
      },
      closes-same,
    )

    goes : Goes (open_act sizes me c st m kept)
    goes = (
      record {
        closed = λ s f. none_not_some s f;
        after = inl (still kept kept-same, omega (arith, lt));
        message = λ deaf msg f. none-some m (silent deaf) f;
        begun = λ le msg f. absurd (omega (arith, le, lt));
      },
      kept-same,
    )
