-- For the law that events are rounds if the premise on faults is broken in a sync slot: a tick of a
-- node that has told its row of the last stage of the sync slot, and the tick with which a node
-- tells it.
use Rattle.std.proofs.Common.{◌≡◌, ℕ, zero, suc, ◌+◌, ◌-◌, ◌^◌, ◌<◌, ◌≤◌, ◌==◌, ◌⊎◌, Bool, true, false, List, refl, ap, sym, ◌∙◌, subst, arith, Option, Some, None}
use Rattle.rb_base.specs.{Nodes.Side, Sizes.Sizes}
use Rattle.rb_rules.specs.{declared.closing.Closed.Closed as Shown, declared.plan.Plan.Plan, Book.Row, Core.{Act, Core, busy_among, is_busy, pass_to}, Goodness.{Scenario}, Hearing.{row_of}, NodeState.NodeState, Ports.{HandIn, PortState}, WorldStep.{Site, Timed, after_act, coming_from, pass_and_tick, wants_in, with_close, word_of}}
use Rattle.rb_laws_events.proofs.{BreakSites.{PendsNext, acted, told-on}, LastSites.{AwaitsNext, Beyond, HasToldLast}, NodeActs.HasRoom, TailTicks.{GoesOn, HasTurned, IsAfter, IsInTail}, TurnTicks.{after-later, awaits-next, next-tick}}

-- What pends after a tick.

below-end : (sizes : Sizes) (plan : Plan) (me : Side) (i : ℕ) (st : NodeState) (n k : ℕ) {t : ℕ} → busy_among sizes plan me i st n k ≡ Some t → t < k + n
below-end sizes plan me i st zero k e = cc
below-end sizes plan me i st (suc n) k {t} e = by (is_busy sizes plan me i st k) (λ f. below-end sizes plan me i st n (suc k) f) e
  where
    by : (b : Bool) → (busy_among sizes plan me i st n (suc k) ≡ Some t → t < suc k + n)
        → (elim b as (λ _. Option ℕ) [ true ↦ Some k | false ↦ busy_among sizes plan me i st n (suc k) ]) ≡ Some t → t < k + suc n
    by true rest f = let same : k ≡ t = cc in omega (arith, same)
    by false rest f = let lt : t < suc k + n = rest f in omega (arith, lt)

-- a node that stands in the tail or in the next frame's first window waits for its next tick there
pub waits-next : (sc : Scenario) (ports : List PortState) (me : Side) (i : ℕ) (st : NodeState) (x : ℕ) (act : Act) (s : Site)
    → (IsInTail sc.sizes sc.plan me st.frame st.epoch x act.core.state act.core.had × (act.core.had ≤ x)) ⊎ HasTurned st.frame x act.core.state act.core.had
    → (a : Timed) → (after_act sc ports me i act s).ahead ≡ Some a → AwaitsNext sc me i st x (after_act sc ports me i act s).core a
waits-next sc ports me i st x act s after a e =
    let left = acted sc ports me i act s in
    let pends : PendsNext sc me i act.core a = left.ahead a e in
    let had : act.core.had ≤ a.tick = pends.later in
    let end : a.tick < act.core.had + (2 ^ 31 - act.core.had) = below-end sc.sizes sc.plan me i act.core.state (2 ^ 31 - act.core.had) act.core.had pends.next in
    subst (λ c. AwaitsNext sc me i st x c a) (sym left.core_is) (record {
      had = had;
      small = omega (arith, had, end);
      at_time = pends.at_time;
      after = awaits-next sc.sizes sc.plan me i st.frame st.epoch x act.core after pends.next;
    })

-- A tick of a node that has told its row.

-- what the core gives at its tick
pub told-goes : {sc : Scenario} {hands : List HandIn} (ports : List PortState) {me : Side} {i p : ℕ} {s : Site} {a : Timed} → HasRoom sc.plan → (h : HasToldLast sc hands me i p s) → s.ahead ≡ Some a
    → a.tick + 1 < h.course.x + sc.plan.l → GoesOn sc.sizes sc.plan me h.st.frame h.st.epoch h.course.x a.tick (pass_and_tick sc ports me i a.tick s.core)
unfolding pass_and_tick
told-goes {sc} ports {me} {i} {s} {a} room h pends before =
    let next : AwaitsNext sc me i h.st h.course.x s.core a = h.course.ahead a pends in
    let le : s.core.had ≤ a.tick = next.had in
    let c : Core = pass_to a.tick s.core in
    let had : c.had ≡ a.tick = omega arith in
    let word : ℕ = word_of sc ports i (wants_in sc me i c) in
    let now : IsAfter sc.sizes sc.plan me h.st.frame h.st.epoch h.course.x c.state c.had c.had =
    subst (λ k. IsAfter sc.sizes sc.plan me h.st.frame h.st.epoch h.course.x s.core.state k k) (sym had)
    (after-later a.tick le next.after) in
    subst (λ k. GoesOn sc.sizes sc.plan me h.st.frame h.st.epoch h.course.x k (pass_and_tick sc ports me i a.tick s.core)) had
    (next-tick i c word room h.course.low now (omega (arith, had, before)))

unfoldable pub told-ticks : {sc : Scenario} {hands : List HandIn} (ports : List PortState) {me : Side} {i p : ℕ} {s : Site} {a : Timed} → HasRoom sc.plan → (h : HasToldLast sc hands me i p s) → s.ahead ≡ Some a
    → a.tick + 1 < h.course.x + sc.plan.l → HasToldLast sc hands me i p (after_act sc ports me i (pass_and_tick sc ports me i a.tick s.core) s)
told-ticks {sc} ports {me} {i} {s} {a} room h pends before =
    let act : Act = pass_and_tick sc ports me i a.tick s.core in
    let goes : GoesOn sc.sizes sc.plan me h.st.frame h.st.epoch h.course.x a.tick act = told-goes ports room h pends before in
    told-on (Beyond sc) (after_act sc ports me i act s) h ((acted sc ports me i act s).row_is ∙ row-kept act.closed goes.closed)
    (record { x = h.course.x; low = h.course.low; calls = h.course.calls; ahead = waits-next sc ports me i h.st h.course.x act s goes.after })
  where
    act : Act
    act = pass_and_tick sc ports me i a.tick s.core

    row-kept : (c : Option Shown) → ((y : Shown) → c ≡ Some y → (y.place.stage == 4) ≡ true) → (with_close me i act.core.state c (record s { core = act.core })).row ≡ s.row
    row-kept None only = refl
    row-kept (Some c) only = ap (λ b. elim b as (λ _. Option Row) [ true ↦ s.row | false ↦ Some (row_of me i act.core.state (coming_from s.got) c) ]) (only c refl)
