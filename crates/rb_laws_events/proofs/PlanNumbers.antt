-- For the law on the order of closes: what a feasible plan says on natural numbers.
use Rattle.std.proofs.{Common.{◌≡◌, ℕ, ◌+◌, ◌*◌, ◌-◌, ◌<◌, ◌≤◌, min, max, ap, ◌∙◌, subst, arith}, Math.IntN.pos-*ℤ-pos, Math.Nat.{add-mul, mul-add}, lemmas.Int.ints}
use Rattle.std.specs.Prelude.{pos, ◌-ℤ◌, ◌*ℤ◌, ◌≤ℤ◌}
use Rattle.rb_base.specs.Sizes.{Sizes}
use Rattle.rb_rules.specs.{declared.plan.Plan.Plan, Plan.{IsFeasible, IsPlan, Sides, drift_in, longest_of, next_skew_of, shortest_of, skew_of}}
use Rattle.rb_rules.proofs.Lawfulness.{SendsInside, sends_inside_all}
use Rattle.rb_laws_synchrony.proofs.PlanNumbers.{enough}

-- if the ticks after the sending tick take at least `n`, the window takes at least `n` and the
-- ticks up to the sending one
window-rest : (ticks h shortest n : ℕ) → h < ticks → pos n ≤ℤ ((pos ticks -ℤ pos (1 + h)) *ℤ pos shortest)
    → n + shortest + h * shortest ≤ ticks * shortest
window-rest ticks h shortest n inside le =
    let k : ℕ = ticks - (1 + h) in
    let less : pos ticks -ℤ pos (1 + h) ≡ pos k = omega (arith, ints) in
    let product : (pos ticks -ℤ pos (1 + h)) *ℤ pos shortest ≡ pos (k * shortest) =
    ap (λ x. x *ℤ pos shortest) less ∙ pos-*ℤ-pos k shortest in
    let rest : pos n ≤ℤ pos (k * shortest) = subst (λ x. pos n ≤ℤ x) product le in
    let low : n ≤ k * shortest = omega (arith, ints, rest) in
    let all : ticks ≡ k + (1 + h) = omega arith in
    let parts : ticks * shortest ≡ k * shortest + (1 + h) * shortest = ap (λ t. t * shortest) all ∙ add-mul k (1 + h) shortest in
    let first : (1 + h) * shortest ≡ 1 * shortest + h * shortest = add-mul 1 h shortest in
    omega (arith, parts, first, low)

skew-bound : (a cg dg cu least p : ℕ) → a + max cg dg - min cu least ≤ p → least ≤ dg → a ≤ p
skew-bound a cg dg cu least p h le = omega arith

-- what is used of the inequalities: the first, second, fourth, sixth and seventh
pub record Fits (sizes : Sizes) (plan : Plan) : Type 0 where
  pub delays : plan.dmin ≤ plan.dmax
  pub before : skew_of sizes plan ≤ plan.h * shortest_of plan + plan.dmin
  pub in_l : skew_of sizes plan + plan.dmax + shortest_of plan + plan.h * shortest_of plan ≤ plan.l * shortest_of plan
  pub in_v : skew_of sizes plan + drift_in plan plan.l + shortest_of plan + plan.h * shortest_of plan ≤ plan.v * shortest_of plan
  pub in_z : skew_of sizes plan + drift_in plan (plan.l + plan.v) + shortest_of plan + plan.h * shortest_of plan ≤ plan.z * shortest_of plan
  pub skew : 2 * longest_of plan + drift_in plan (plan.l + plan.v + plan.z) ≤ plan.p

pub fits : {sizes plan : _} → IsPlan plan → IsFeasible sizes plan → Fits sizes plan
fits {sizes} {plan} is feasible =
    let none : Sides = record { left = pos 0; right = pos 0 } in
    let inside : SendsInside plan = sends_inside_all sizes plan is feasible in
    let u : ℕ = shortest_of plan in
    let l : skew_of sizes plan + plan.dmax + u + plan.h * u ≤ plan.l * u =
    window-rest plan.l plan.h u (skew_of sizes plan + plan.dmax) inside.in_l (feasible 1 none (omega arith)) in
    let v : skew_of sizes plan + 2 * plan.dmax + longest_of plan + drift_in plan plan.l + u + plan.h * u ≤ plan.v * u =
    window-rest plan.v plan.h u (skew_of sizes plan + 2 * plan.dmax + longest_of plan + drift_in plan plan.l) inside.in_v (feasible 3 none (omega arith)) in
    let z : skew_of sizes plan + 3 * plan.dmax + 2 * longest_of plan + drift_in plan (plan.l + plan.v) + u + plan.h * u ≤ plan.z * u =
    window-rest plan.z plan.h u (skew_of sizes plan + 3 * plan.dmax + 2 * longest_of plan + drift_in plan (plan.l + plan.v)) inside.in_z (feasible 5 none (omega arith)) in
    let last : next_skew_of plan ≤ plan.p = enough (next_skew_of plan) plan.p (feasible 6 none (omega arith)) in
    let delays : plan.dmin ≤ plan.dmax + longest_of plan = omega (arith, is.dmin) in
    let bound : 2 * (plan.dmax - plan.dmin) + 2 * longest_of plan + drift_in plan (plan.l + plan.v + plan.z) ≤ plan.p =
    skew-bound (2 * (plan.dmax - plan.dmin) + 2 * longest_of plan + drift_in plan (plan.l + plan.v + plan.z)) (plan.c * longest_of plan)
    (plan.dmax + longest_of plan) (plan.c * u) plan.dmin plan.p last delays in
    record {
      delays = is.dmin.1;
      before = enough (skew_of sizes plan) (plan.h * u + plan.dmin) (feasible 0 none (omega arith));
      in_l = l;
      in_v = omega (arith, v);
      in_z = omega (arith, z);
      skew = omega (arith, bound);
    }

-- Sums of ticks: `u` is a shortest tick, `d` how far two clocks drift apart in one, and `a + b`
-- ticks lie between two closes.

-- two nodes begin a frame at the times s and t, at most p apart. The first closes no later than
-- after o longest ticks, the second no earlier than after o and n shortest ones
pub closes-first : (u d o n m p s t first second : ℕ) → p + d * o < n * u → o + n ≤ m → s ≤ t + p → first ≤ s + o * (u + d) → t + m * u ≤ second
    → first < second
closes-first u d o n m p s t first second less later apart early late =
    let a : o * (u + d) ≡ o * u + o * d = mul-add o u d in
    let b : (o + n) * u ≡ o * u + n * u = add-mul o n u in
    let e : o * d ≡ d * o = times-turn o d in
    let k : m ≡ (o + n) + (m - (o + n)) = omega arith in
    let c : m * u ≡ (o + n) * u + (m - (o + n)) * u = ap (λ x. x * u) k ∙ add-mul (o + n) (m - (o + n)) u in
    omega (arith, a, b, e, c, less, apart, early, late)
  where
    times-turn : (x y : ℕ) → x * y ≡ y * x
    times-turn x y = omega arith
