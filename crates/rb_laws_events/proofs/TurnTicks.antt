-- For the law that events are rounds if the premise on faults is broken in a sync slot: a tick of a
-- node that has closed the last stage of its frame, also the one with which the next frame begins;
-- and which of its ticks comes next.
use Rattle.std.proofs.{Common.{◌≡◌, ℕ, zero, suc, ◌+◌, ◌-◌, ◌^◌, ◌<◌, ◌≤◌, ◌==◌, ◌||◌, ◌⊎◌, Bool, true, false, refl, ap, sym, ◌∙◌, subst, arith, inl, inr, Option, Some, None, is_some}, lemmas.Bool.cases_lt, lemmas.Bool.Decides.nat_tests}
use Rattle.rb_base.specs.{Nodes.Side, Sizes.Sizes}
use Rattle.rb_base.proofs.Plain.{eq_self, more-differs, none_not_some}
use Rattle.rb_rules.specs.{declared.plan.Plan.Plan, Conviction.turn, Core.{Core, busy_among, is_busy, is_last, is_tick, next_tick, said_at, state_at, tick}, NodeState.NodeState, NodeSteps.turn_if_known, Plan.tail_start_of, SyncStage.new_epoch_of}
use Rattle.rb_laws_events.proofs.{ActCases.{act_of, tick-by}, NodeActs.HasRoom, TailTicks.{GoesOn, HasTurned, IsAfter, IsInTail, tail-act, turned-act, turned-epoch}}

-- The state at a tick.

turn-is : (sizes : Sizes) (probation : ℕ) (me : Side) (x : ℕ) (st : NodeState) → HasTurned st.frame x (turn sizes probation me x st) (x + 1)
unfolding turn
turn-is sizes probation me x st = record { in_frame = refl; epoch = refl; k1 = refl; k2 = refl; k3 = refl; begun = omega arith }

turns-at : (sizes : Sizes) (plan : Plan) (me : Side) (st : NodeState) {x : ℕ} → new_epoch_of plan me st ≡ Some x → state_at sizes plan me st x ≡ turn sizes plan.probation me x st
unfolding state_at
turns-at sizes plan me st {x} known =
    ap (λ o. elim (is_tick o x) as (λ _. NodeState) [ true ↦ elim o as (λ _. NodeState) [ None ↦ st | Some e ↦ turn sizes plan.probation me e st ] | false ↦ st ]) known
    ∙ ap (λ b. elim b as (λ _. NodeState) [ true ↦ turn sizes plan.probation me x st | false ↦ st ]) (eq_self x)

pub not-yet : (sizes : Sizes) (plan : Plan) (me : Side) (st : NodeState) {x : ℕ} (k : ℕ) → new_epoch_of plan me st ≡ Some x → k < x → state_at sizes plan me st k ≡ st
unfolding state_at
not-yet sizes plan me st {x} k known lt =
    ap (λ o. elim (is_tick o k) as (λ _. NodeState) [ true ↦ turn_if_known sizes plan me st | false ↦ st ]) known
    ∙ ap (λ b. elim b as (λ _. NodeState) [ true ↦ turn_if_known sizes plan me st | false ↦ st ]) (more-differs x k lt)

pub no-next : (sizes : Sizes) (plan : Plan) (me : Side) (st : NodeState) (k : ℕ) → new_epoch_of plan me st ≡ None → state_at sizes plan me st k ≡ st
unfolding state_at
no-next sizes plan me st k none = ap (λ o. elim (is_tick o k) as (λ _. NodeState) [ true ↦ turn_if_known sizes plan me st | false ↦ st ]) none

-- A tick.

pub next-tick : {sizes plan me : _} (i : ℕ) {frame e x : ℕ} (c : Core) (word : ℕ) → HasRoom plan → e + tail_start_of sizes plan ≤ x → IsAfter sizes plan me frame e x c.state c.had c.had
    → c.had + 1 < x + plan.l → GoesOn sizes plan me frame e x c.had (tick sizes plan me i c word)
next-tick {sizes} {plan} {me} i {frame} {e} {x} c word room low h before = tick-by (GoesOn sizes plan me frame e x c.had) sizes plan me i c word (λ _. still) (λ _. now h)
  where
    in_state : (y : NodeState) → state_at sizes plan me c.state c.had ≡ y → GoesOn sizes plan me frame e x c.had (act_of sizes plan me i c word y)
        → GoesOn sizes plan me frame e x c.had (act_of sizes plan me i c word (state_at sizes plan me c.state c.had))
    in_state y is goes = subst (λ y. GoesOn sizes plan me frame e x c.had (act_of sizes plan me i c word y)) (sym is) goes

    now : IsAfter sizes plan me frame e x c.state c.had c.had → GoesOn sizes plan me frame e x c.had (act_of sizes plan me i c word (state_at sizes plan me c.state c.had))
    now (inl t) =
        elim (cases_lt c.had x) [
          | inl lt ↦ in_state c.state (not-yet sizes plan me c.state c.had t.0.known lt) (tail-act i c word room low t.0 lt).0
          | inr ge ↦
              let le : c.had ≤ x = t.1 in
              let at : x ≡ c.had = omega (arith, ge, le) in
              let y : NodeState = turn sizes plan.probation me x c.state in
              let is : state_at sizes plan me c.state c.had ≡ y = ap (state_at sizes plan me c.state) (sym at) ∙ turns-at sizes plan me c.state t.0.known in
              let turned : HasTurned frame x y (c.had + 1) =
              subst (λ k. HasTurned frame x y (k + 1)) at (subst (λ f. HasTurned f x y (x + 1)) t.0.in_frame (turn-is sizes plan.probation me x c.state)) in
              in_state y is (turned-act sizes me i e c word room turned before)
        ]
    now (inr t) =
        let begun : x < c.had = t.begun in
        in_state c.state (no-next sizes plan me c.state c.had (turned-epoch plan me t))
        (turned-act sizes me i e c word room (record { in_frame = t.in_frame; epoch = t.epoch; k1 = t.k1; k2 = t.k2; k3 = t.k3; begun = omega (arith, begun) }) before)

    still : GoesOn sizes plan me frame e x c.had (record { core = c; epoch = None; message = None; closed = None })
    still = record { closed = λ s f. none_not_some s f; after = h; message = λ deaf m f. none_not_some m f; begun = λ le m f. none_not_some m f }

-- ticks in which there is nothing to do keep `IsAfter`
pub after-later : {sizes plan me frame e x c had : _} (more : ℕ) {k : ℕ} → had ≤ more → IsAfter sizes plan me frame e x c had k → IsAfter sizes plan me frame e x c more k
after-later more le (inl t) =
    let from = t.0.from in
    inl (record { in_frame = t.0.in_frame; epoch = t.0.epoch; known = t.0.known; from = omega (arith, from, le); keeps = t.0.keeps }, t.1)
after-later {x} {had} more le (inr t) =
    let begun : x < had = t.begun in
    inr (record { in_frame = t.in_frame; epoch = t.epoch; k1 = t.k1; k2 = t.k2; k3 = t.k3; begun = omega (arith, begun, le) })

-- The next tick at which there is something to do.

-- the first busy tick is at most each tick that is busy
first-busy : (sizes : Sizes) (plan : Plan) (me : Side) (i : ℕ) (st : NodeState) (n k : ℕ) {t : ℕ} (x : ℕ) → k ≤ x → is_busy sizes plan me i st x ≡ true → busy_among sizes plan me i st n k ≡ Some t → t ≤ x
first-busy sizes plan me i st zero k x le busy e = cc
first-busy sizes plan me i st (suc n) k {t} x le busy e = by (is_busy sizes plan me i st k) refl (λ less f. first-busy sizes plan me i st n (suc k) x less busy f) e
  where
    other : (k == x) ≡ true → is_busy sizes plan me i st k ≡ false → ⊥
    other is quiet =
        let same : k ≡ x = grind (arith, nat_tests) in
        let both : true ≡ false = sym busy ∙ ap (is_busy sizes plan me i st) (sym same) ∙ quiet in
        cc

    less : (b : Bool) → (k == x) ≡ b → is_busy sizes plan me i st k ≡ false → suc k ≤ x
    less true is quiet = absurd (other is quiet)
    less false is quiet = grind (arith, nat_tests)

    by : (b : Bool) → is_busy sizes plan me i st k ≡ b → (suc k ≤ x → busy_among sizes plan me i st n (suc k) ≡ Some t → t ≤ x)
        → (elim b as (λ _. Option ℕ) [ true ↦ Some k | false ↦ busy_among sizes plan me i st n (suc k) ]) ≡ Some t → t ≤ x
    by true is rest f = let same : k ≡ t = cc in omega (arith, same, le)
    by false is rest f = rest (less (k == x) refl is) f

begin-busy : (sizes : Sizes) (plan : Plan) (me : Side) (i : ℕ) (st : NodeState) {x : ℕ} → new_epoch_of plan me st ≡ Some x → is_busy sizes plan me i st x ≡ true
unfolding is_busy
begin-busy sizes plan me i st {x} known =
    let y : NodeState = turn sizes plan.probation me x st in
    let epoch : y.epoch ≡ x = (turn-is sizes plan.probation me x st).epoch in
    ap (λ (z : NodeState). (z.epoch == x) || is_last sizes plan me z x || is_some (said_at sizes plan me i z 0 x)) (turns-at sizes plan me st known)
    ∙ ap (λ n. (n == x) || is_last sizes plan me y x || is_some (said_at sizes plan me i y 0 x)) epoch
    ∙ ap (λ b. b || is_last sizes plan me y x || is_some (said_at sizes plan me i y 0 x)) (eq_self x)

-- the next tick of a core in the tail is at most the start of the next frame
pub awaits-next : (sizes : Sizes) (plan : Plan) (me : Side) (i frame e x : ℕ) (c : Core) {k : ℕ} → (IsInTail sizes plan me frame e x c.state c.had × (c.had ≤ x)) ⊎ HasTurned frame x c.state c.had
    → next_tick sizes plan me i c ≡ Some k → IsAfter sizes plan me frame e x c.state c.had k
awaits-next sizes plan me i frame e x c (inl t) is = inl (t.0, first-busy sizes plan me i c.state (2 ^ 31 - c.had) c.had x t.1 (begin-busy sizes plan me i c.state t.0.known) is)
awaits-next sizes plan me i frame e x c (inr t) is = inr t
