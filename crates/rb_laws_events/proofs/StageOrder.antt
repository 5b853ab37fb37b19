-- For the law on the order of closes: how far apart the last ticks of two stages in a row are, and
-- what is known of a node's earlier states.
use Rattle.std.proofs.{Common.{◌≡◌, ℕ, ◌+◌, ◌*◌, ◌-◌, ◌<◌, ◌≤◌, ap, sym, ◌∙◌, subst, arith, inl, inr}, lemmas.Bool.cases_lt, lemmas.Nat.mul-le, Math.Nat.{add-mul, mul-add}}
use Rattle.rb_base.specs.{Nodes.Side, Sizes.{Sizes, sync_slot_of}}
use Rattle.rb_rules.specs.{declared.plan.Plan.Plan, Hearing.window_numbered, NodeState.NodeState, Plan.{drift_in, f0_of, longest_of, shortest_of, skew_of, tail_start_of}}
use Rattle.rb_rules.proofs.WindowNumbers.{exact-numbered, sync-numbered}
use Rattle.rb_laws_events.specs.Closing.{stages_in}
use Rattle.rb_laws_events.proofs.PlanNumbers.{Fits}

-- The last ticks of windows.

-- a node's stage ends at offset o and the next one at offset m, no fewer ticks later than two nodes
-- may be apart
pub record Apart (plan : Plan) (o m : ℕ) : Type 0 where
  pub ticks : ℕ
  pub enough : plan.p + 2 * plan.r * o < ticks * shortest_of plan
  pub later : o + ticks ≤ m

abbrev pub last_of : Sizes → Plan → Side → NodeState → ℕ → ℕ
last_of sizes plan me st n = (window_numbered sizes plan me st n).last

last-exact : (sizes : Sizes) (plan : Plan) (me : Side) (st : NodeState) (n : ℕ) → n < 3 * sync_slot_of sizes
    → last_of sizes plan me st n ≡ n * plan.l + plan.l - 1
last-exact sizes plan me st n h = ap (λ w. w.last) (exact-numbered sizes plan me st n h)

last-first-call : (sizes : Sizes) (plan : Plan) (me : Side) (st : NodeState)
    → last_of sizes plan me st (3 * sync_slot_of sizes + 0) ≡ f0_of sizes plan + plan.l - 1
last-first-call sizes plan me st = ap (λ w. w.last) (sync-numbered sizes plan me st 0)

pub last-second-call : (sizes : Sizes) (plan : Plan) (me : Side) (st : NodeState)
    → last_of sizes plan me st (3 * sync_slot_of sizes + 1) ≡ f0_of sizes plan + plan.l + plan.v - 1
last-second-call sizes plan me st = ap (λ w. w.last) (sync-numbered sizes plan me st 1)

pub last-third-call : (sizes : Sizes) (plan : Plan) (me : Side) (st : NodeState)
    → last_of sizes plan me st (3 * sync_slot_of sizes + 2) ≡ f0_of sizes plan + plan.l + plan.v + plan.z - 1
last-third-call sizes plan me st = ap (λ w. w.last) (sync-numbered sizes plan me st 2)

-- up to stage 1 of the sync slot all stages have the same length
pub last-same : (sizes : Sizes) (plan : Plan) (me : Side) (st : NodeState) (n : ℕ) → n ≤ 3 * sync_slot_of sizes
    → last_of sizes plan me st n ≡ n * plan.l + plan.l - 1
last-same sizes plan me st n h =
    elim (cases_lt n (3 * sync_slot_of sizes)) [
      | inl lt ↦ last-exact sizes plan me st n lt
      | inr ge ↦
          let e : n ≡ 3 * sync_slot_of sizes + 0 = omega arith in
          let f : 3 * sync_slot_of sizes + 0 ≡ 3 * sync_slot_of sizes = omega arith in
          ap (last_of sizes plan me st) e ∙ last-first-call sizes plan me st ∙ ap (λ k. k * plan.l + plan.l - 1) (sym (e ∙ f))
    ]

drift-up : (r o m : ℕ) → o ≤ m → 2 * r * o ≤ 2 * r * m
drift-up r o m h = mul-le (2 * r) o (2 * r) m (omega arith) h

drift-sum : (r a b : ℕ) → 2 * r * (a + b) ≡ 2 * r * a + 2 * r * b
drift-sum r a b = mul-add (2 * r) a b

apart-same : {sizes plan : _} (me you : Side) (mine yours : NodeState) (n : ℕ) → Fits sizes plan → 1 ≤ plan.l → 1 ≤ shortest_of plan
    → n < 3 * sync_slot_of sizes → Apart plan (last_of sizes plan me mine n) (last_of sizes plan you yours (n + 1))
apart-same {sizes} {plan} me you mine yours n fit some u h =
    let o : last_of sizes plan me mine n ≡ n * plan.l + plan.l - 1 = last-same sizes plan me mine n (omega arith) in
    let m : last_of sizes plan you yours (n + 1) ≡ (n + 1) * plan.l + plan.l - 1 = last-same sizes plan you yours (n + 1) (omega arith) in
    let e : (n + 1) * plan.l ≡ n * plan.l + 1 * plan.l = add-mul n 1 plan.l in
    let f : (n + 1) * plan.l ≤ 3 * sync_slot_of sizes * plan.l = mul-le (n + 1) plan.l (3 * sync_slot_of sizes) plan.l (omega arith) (omega arith) in
    let before : last_of sizes plan me mine n ≤ f0_of sizes plan + plan.h = omega arith in
    let up : 2 * plan.r * last_of sizes plan me mine n ≤ 2 * plan.r * (f0_of sizes plan + plan.h) = drift-up plan.r _ _ before in
    let fits_l : skew_of sizes plan + plan.dmax + shortest_of plan + plan.h * shortest_of plan ≤ plan.l * shortest_of plan = fit.in_l in
    record { ticks = plan.l; enough = omega (arith, up, fits_l, u); later = omega (arith, o, m, e, some) }

apart-second : {sizes plan : _} (me you : Side) (mine yours : NodeState) → Fits sizes plan → 1 ≤ plan.l → 1 ≤ shortest_of plan
    → Apart plan (last_of sizes plan me mine (3 * sync_slot_of sizes + 0)) (last_of sizes plan you yours (3 * sync_slot_of sizes + 1))
apart-second {sizes} {plan} me you mine yours fit some u =
    let a : ℕ = last_of sizes plan me mine (3 * sync_slot_of sizes + 0) in
    let o : a ≡ f0_of sizes plan + plan.l - 1 = last-first-call sizes plan me mine in
    let m : last_of sizes plan you yours (3 * sync_slot_of sizes + 1) ≡ f0_of sizes plan + plan.l + plan.v - 1 = last-second-call sizes plan you yours in
    let up : 2 * plan.r * a ≤ 2 * plan.r * (f0_of sizes plan + plan.h + plan.l) = drift-up plan.r _ _ (omega arith) in
    let sum : 2 * plan.r * (f0_of sizes plan + plan.h + plan.l) ≡ 2 * plan.r * (f0_of sizes plan + plan.h) + 2 * plan.r * plan.l =
    drift-sum plan.r (f0_of sizes plan + plan.h) plan.l in
    let fits_v : skew_of sizes plan + drift_in plan plan.l + shortest_of plan + plan.h * shortest_of plan ≤ plan.v * shortest_of plan = fit.in_v in
    record { ticks = plan.v; enough = omega (arith, up, sum, fits_v, u); later = omega (arith, o, m, some) }

apart-third : {sizes plan : _} (me you : Side) (mine yours : NodeState) → Fits sizes plan → 1 ≤ plan.l → 1 ≤ shortest_of plan
    → Apart plan (last_of sizes plan me mine (3 * sync_slot_of sizes + 1)) (last_of sizes plan you yours (3 * sync_slot_of sizes + 2))
apart-third {sizes} {plan} me you mine yours fit some u =
    let a : ℕ = last_of sizes plan me mine (3 * sync_slot_of sizes + 1) in
    let o : a ≡ f0_of sizes plan + plan.l + plan.v - 1 = last-second-call sizes plan me mine in
    let m : last_of sizes plan you yours (3 * sync_slot_of sizes + 2) ≡ f0_of sizes plan + plan.l + plan.v + plan.z - 1 = last-third-call sizes plan you yours in
    let up : 2 * plan.r * a ≤ 2 * plan.r * (f0_of sizes plan + plan.h + (plan.l + plan.v)) = drift-up plan.r _ _ (omega arith) in
    let sum : 2 * plan.r * (f0_of sizes plan + plan.h + (plan.l + plan.v)) ≡ 2 * plan.r * (f0_of sizes plan + plan.h) + 2 * plan.r * (plan.l + plan.v) =
    drift-sum plan.r (f0_of sizes plan + plan.h) (plan.l + plan.v) in
    let fits_z : skew_of sizes plan + drift_in plan (plan.l + plan.v) + shortest_of plan + plan.h * shortest_of plan ≤ plan.z * shortest_of plan = fit.in_z in
    record { ticks = plan.z; enough = omega (arith, up, sum, fits_z, u); later = omega (arith, o, m, some) }

-- a frame's last stage is apart from the first one of the next frame, which begins no earlier than
-- the windows of this frame end
pub apart-turn : {sizes plan : _} (me you : Side) (mine yours : NodeState) → Fits sizes plan → 1 ≤ plan.l → 1 ≤ shortest_of plan
    → Apart plan (last_of sizes plan me mine (3 * sync_slot_of sizes + 2)) (tail_start_of sizes plan + last_of sizes plan you yours 0)
apart-turn {sizes} {plan} me you mine yours fit some u =
    let a : ℕ = last_of sizes plan me mine (3 * sync_slot_of sizes + 2) in
    let o : a ≡ f0_of sizes plan + plan.l + plan.v + plan.z - 1 = last-third-call sizes plan me mine in
    let m : last_of sizes plan you yours 0 ≡ 0 * plan.l + plan.l - 1 = last-same sizes plan you yours 0 (omega arith) in
    let up : 2 * plan.r * a ≤ 2 * plan.r * (f0_of sizes plan + plan.h + (plan.l + plan.v + plan.z)) = drift-up plan.r _ _ (omega arith) in
    let sum : 2 * plan.r * (f0_of sizes plan + plan.h + (plan.l + plan.v + plan.z))
    ≡ 2 * plan.r * (f0_of sizes plan + plan.h) + 2 * plan.r * (plan.l + plan.v + plan.z) =
    drift-sum plan.r (f0_of sizes plan + plan.h) (plan.l + plan.v + plan.z) in
    let fits_l : skew_of sizes plan + plan.dmax + shortest_of plan + plan.h * shortest_of plan ≤ plan.l * shortest_of plan = fit.in_l in
    let before : skew_of sizes plan ≤ plan.h * shortest_of plan + plan.dmin = fit.before in
    let skew : 2 * longest_of plan + drift_in plan (plan.l + plan.v + plan.z) ≤ plan.p = fit.skew in
    let delays : plan.dmin ≤ plan.dmax = fit.delays in
    record { ticks = plan.l; enough = omega (arith, up, sum, fits_l, before, skew, delays, u); later = omega (arith, o, m, some) }

pub apart-next : {sizes plan : _} (me you : Side) (mine yours : NodeState) (n : ℕ) → Fits sizes plan → 1 ≤ plan.l → 1 ≤ shortest_of plan
    → n + 1 < stages_in sizes → Apart plan (last_of sizes plan me mine n) (last_of sizes plan you yours (n + 1))
apart-next {sizes} {plan} me you mine yours n fit some u h =
    elim (cases_lt n (3 * sync_slot_of sizes)) [
      | inl lt ↦ apart-same me you mine yours n fit some u lt
      | inr ge ↦
          let s : ℕ = 3 * sync_slot_of sizes in
          elim (cases_lt n (s + 1)) [
            | inl first ↦
                let e : s + 0 ≡ n = omega arith in
                let f : s + 1 ≡ n + 1 = omega arith in
                subst (λ a. Apart plan (last_of sizes plan me mine a) (last_of sizes plan you yours (n + 1))) e
                (subst (λ b. Apart plan (last_of sizes plan me mine (s + 0)) (last_of sizes plan you yours b)) f (apart-second me you mine yours fit some u))
            | inr second ↦
                let e : s + 1 ≡ n = omega arith in
                let f : s + 2 ≡ n + 1 = omega arith in
                subst (λ a. Apart plan (last_of sizes plan me mine a) (last_of sizes plan you yours (n + 1))) e
                (subst (λ b. Apart plan (last_of sizes plan me mine (s + 1)) (last_of sizes plan you yours b)) f (apart-third me you mine yours fit some u))
          ]
    ]
