-- What a feasible plan says on natural numbers. A tick takes at least `u` and at most `u + d`
-- reference units.
use Rattle.std.proofs.{Common.{◌≡◌, ℕ, ◌+◌, ◌*◌, ◌-◌, ◌<◌, ◌≤◌, min, max, ap, ◌∙◌, subst, arith}, Math.IntN.pos-*ℤ-pos, Math.Nat.mul-le-mul_left, lemmas.Int.ints}
use Rattle.std.specs.Prelude.{pos, ◌-ℤ◌, ◌*ℤ◌, ◌≤ℤ◌}
use Rattle.rb_base.specs.Sizes.{Sizes}
use Rattle.rb_rules.specs.{declared.plan.Plan.Plan, Plan.{IsFeasible, IsPlan, Sides, f0_of, drift_in, longest_of, next_skew_of, shortest_of, skew_of}}
use Rattle.rb_rules.proofs.Lawfulness.{SendsInside, sends_inside_all}

-- how far apart the delays of one message may be
abbrev pub eps_of : Plan → ℕ
eps_of plan = plan.dmax - plan.dmin

-- how far two clocks drift apart in one tick, at most
abbrev pub drift_of : Plan → ℕ
drift_of plan = 2 * plan.r

-- the seven inequalities in these words; the last as four
pub record Fits (plan : Plan) (u d f : ℕ) : Type 0 where
  pub some : 1 ≤ u
  pub longest : longest_of plan ≡ u + d
  pub delays : plan.dmax ≡ plan.dmin + eps_of plan
  pub in_l : plan.h < plan.l
  pub in_v : plan.h < plan.v
  pub in_z : plan.h < plan.z
  pub before_1 : plan.p + d * (f + plan.h) ≤ plan.h * u + plan.dmin
  pub after_1 : plan.p + d * (f + plan.h) + plan.dmax + (1 + plan.h) * u ≤ plan.l * u
  pub before_2 : plan.p + d * (f + plan.h) + d * plan.l ≤ plan.h * (u + d) + 2 * plan.dmin
  pub after_2 : plan.p + d * (f + plan.h) + 2 * plan.dmax + (u + d) + d * plan.l + (1 + plan.h) * u ≤ plan.v * u
  pub before_3 : plan.p + d * (f + plan.h) + d * (plan.l + plan.v) ≤ plan.h * (u + d) + 3 * plan.dmin
  pub after_3 : plan.p + d * (f + plan.h) + 3 * plan.dmax + 2 * (u + d) + d * (plan.l + plan.v) + (1 + plan.h) * u ≤ plan.z * u
  pub next_cc : 2 * eps_of plan + 2 * (u + d) + d * (plan.l + plan.v + plan.z) + plan.c * (u + d) ≤ plan.p + plan.c * u
  pub next_ca : 2 * eps_of plan + 2 * (u + d) + d * (plan.l + plan.v + plan.z) + plan.c * (u + d) ≤ plan.p + plan.dmin
  pub next_bc : 2 * eps_of plan + 2 * (u + d) + d * (plan.l + plan.v + plan.z) + (plan.dmax + (u + d)) ≤ plan.p + plan.c * u
  pub next_ba : 2 * eps_of plan + 2 * (u + d) + d * (plan.l + plan.v + plan.z) + (plan.dmax + (u + d)) ≤ plan.p + plan.dmin

-- if the ticks after the sending tick take at least `n`, the window takes at least `n` and the
-- ticks up to the sending one
window-rest : (ticks h shortest n : ℕ) → h < ticks → pos n ≤ℤ ((pos ticks -ℤ pos (1 + h)) *ℤ pos shortest)
    → n + (1 + h) * shortest ≤ ticks * shortest
window-rest ticks h shortest n inside le =
    let k : ℕ = ticks - (1 + h) in
    let less : pos ticks -ℤ pos (1 + h) ≡ pos k = omega (arith, ints) in
    let product : (pos ticks -ℤ pos (1 + h)) *ℤ pos shortest ≡ pos (k * shortest) =
    ap (λ x. x *ℤ pos shortest) less ∙ pos-*ℤ-pos k shortest in
    let rest : pos n ≤ℤ pos (k * shortest) = subst (λ x. pos n ≤ℤ x) product le in
    let low : n ≤ k * shortest = omega (arith, ints, rest) in
    let all : ticks ≡ k + (1 + h) = omega arith in
    let parts : ticks * shortest ≡ (k + (1 + h)) * shortest = ap (λ t. t * shortest) all in
    omega (arith, parts, low)

pub enough : (a b : ℕ) → pos a ≤ℤ pos b → a ≤ b
enough a b h = omega (arith, ints)

-- a bound of a greatest less a least is one of each less each
pub record FourBounds (a x y v w p : ℕ) : Type 0 where
  pub xv : a + x ≤ p + v
  pub xw : a + x ≤ p + w
  pub yv : a + y ≤ p + v
  pub yw : a + y ≤ p + w

four-bounds : (a x y v w p : ℕ) → a + max x y - min v w ≤ p → FourBounds a x y v w p
four-bounds a x y v w p h = record { xv = omega arith; xw = omega arith; yv = omega arith; yw = omega arith }

pub fits : (sizes : Sizes) {plan : _} → IsPlan plan → IsFeasible sizes plan → Fits plan (shortest_of plan) (drift_of plan) (f0_of sizes plan)
fits sizes {plan} is feasible =
    let none : Sides = record { left = pos 0; right = pos 0 } in
    let inside : SendsInside plan = sends_inside_all sizes plan is feasible in
    let u : ℕ = shortest_of plan in
    let d : ℕ = drift_of plan in
    let r : plan.r < plan.u = is.r in
    let e : longest_of plan ≡ u + d = omega arith in
    let n2 : ℕ = skew_of sizes plan + plan.dmax in
    let n4 : ℕ = skew_of sizes plan + 2 * plan.dmax + longest_of plan + drift_in plan plan.l in
    let n6 : ℕ = skew_of sizes plan + 3 * plan.dmax + 2 * longest_of plan + drift_in plan (plan.l + plan.v) in
    let a1 : n2 + (1 + plan.h) * u ≤ plan.l * u = window-rest plan.l plan.h u n2 inside.in_l (feasible 1 none (omega arith)) in
    let a2 : n4 + (1 + plan.h) * u ≤ plan.v * u = window-rest plan.v plan.h u n4 inside.in_v (feasible 3 none (omega arith)) in
    let a3 : n6 + (1 + plan.h) * u ≤ plan.z * u = window-rest plan.z plan.h u n6 inside.in_z (feasible 5 none (omega arith)) in
    let b2 : skew_of sizes plan + drift_in plan plan.l ≤ plan.h * longest_of plan + 2 * plan.dmin =
    enough (skew_of sizes plan + drift_in plan plan.l) (plan.h * longest_of plan + 2 * plan.dmin) (feasible 2 none (omega arith)) in
    let b3 : skew_of sizes plan + drift_in plan (plan.l + plan.v) ≤ plan.h * longest_of plan + 3 * plan.dmin =
    enough (skew_of sizes plan + drift_in plan (plan.l + plan.v)) (plan.h * longest_of plan + 3 * plan.dmin) (feasible 4 none (omega arith)) in
    let last : next_skew_of plan ≤ plan.p = enough (next_skew_of plan) plan.p (feasible 6 none (omega arith)) in
    let four : FourBounds (2 * eps_of plan + 2 * longest_of plan + drift_in plan (plan.l + plan.v + plan.z)) (plan.c * longest_of plan)
    (plan.dmax + longest_of plan) (plan.c * u) plan.dmin plan.p =
    four-bounds (2 * eps_of plan + 2 * longest_of plan + drift_in plan (plan.l + plan.v + plan.z)) (plan.c * longest_of plan)
    (plan.dmax + longest_of plan) (plan.c * u) plan.dmin plan.p last in
    let base : ℕ → ℕ = λ g. 2 * eps_of plan + 2 * g + drift_in plan (plan.l + plan.v + plan.z) in
    let delays : plan.dmin ≤ plan.dmax = is.dmin.1 in
    record {
      some = omega arith;
      longest = e;
      delays = omega arith;
      in_l = inside.in_l;
      in_v = inside.in_v;
      in_z = inside.in_z;
      before_1 = enough (skew_of sizes plan) (plan.h * u + plan.dmin) (feasible 0 none (omega arith));
      after_1 = a1;
      before_2 = subst (λ g. skew_of sizes plan + drift_in plan plan.l ≤ plan.h * g + 2 * plan.dmin) e b2;
      after_2 = subst (λ g. skew_of sizes plan + 2 * plan.dmax + g + drift_in plan plan.l + (1 + plan.h) * u ≤ plan.v * u) e a2;
      before_3 = subst (λ g. skew_of sizes plan + drift_in plan (plan.l + plan.v) ≤ plan.h * g + 3 * plan.dmin) e b3;
      after_3 = subst (λ g. skew_of sizes plan + 3 * plan.dmax + 2 * g + drift_in plan (plan.l + plan.v) + (1 + plan.h) * u ≤ plan.z * u) e a3;
      next_cc = subst (λ g. 2 * eps_of plan + 2 * g + drift_in plan (plan.l + plan.v + plan.z) + plan.c * g ≤ plan.p + plan.c * u) e four.xv;
      next_ca = subst (λ g. 2 * eps_of plan + 2 * g + drift_in plan (plan.l + plan.v + plan.z) + plan.c * g ≤ plan.p + plan.dmin) e four.xw;
      next_bc = subst (λ g. 2 * eps_of plan + 2 * g + drift_in plan (plan.l + plan.v + plan.z) + (plan.dmax + g) ≤ plan.p + plan.c * u) e four.yv;
      next_ba = subst (λ g. 2 * eps_of plan + 2 * g + drift_in plan (plan.l + plan.v + plan.z) + (plan.dmax + g) ≤ plan.p + plan.dmin) e four.yw;
    }

pub le_trans : (a b c : ℕ) → a ≤ b → b ≤ c → a ≤ c
le_trans a b c h k = omega arith

pub last_plus : (first ticks : ℕ) → 1 ≤ ticks → first + ticks - 1 + 1 ≡ first + ticks
last_plus first ticks some = omega arith

-- The windows below the sync slot, and its stage 1: the window that begins at offset a ends at
-- offset o, and its messages are sent at offset a + h.

pub exact_early : (low p a f h u d least : ℕ) → a ≤ f → p + d * (f + h) ≤ h * u + least → low + p + a * (u + d) ≤ low + (a + h) * u + least
exact_early low p a f h u d least le c1 = omega (arith, c1, mul-le-mul_left d le)

pub exact_late : (low p a f h l o u d most : ℕ) → a ≤ f → o + 1 ≡ a + l → p + d * (f + h) + most + (1 + h) * u ≤ l * u
    → low + p + (a + h) * (u + d) + most ≤ low + o * u
exact_late low p a f h l o u d most le e c2 =
    let last : (o + 1) * u ≡ (a + l) * u = ap (λ x. x * u) e in
    omega (arith, last, c2, mul-le-mul_left d le)

-- The sync slot. The calls of stage 1 go out at the times from `low + (f + h) * u` on.

-- a window of stage 2 begins no later than the first calls of that stage come
pub second_early : (low p f h l u d least : ℕ) → p + d * (f + h) + d * l ≤ h * (u + d) + 2 * least
    → low + p + (f + l) * (u + d) ≤ low + (f + h) * u + least + l * u + least
second_early low p f h l u d least c3 = omega (arith, c3)

pub second_late : (low p f h l v o u d most : ℕ) → o + 1 ≡ f + l + v → p + d * (f + h) + 2 * most + (u + d) + d * l + (1 + h) * u ≤ v * u
    → low + p + (f + h) * (u + d) + most + (u + d) + l * (u + d) + most ≤ low + o * u
second_late low p f h l v o u d most e c4 =
    let last : (o + 1) * u ≡ (f + l + v) * u = ap (λ x. x * u) e in
    omega (arith, last, c4)

pub second_own : (low p f h l v o u d most : ℕ) → o + 1 ≡ f + v → p + d * (f + h) + 2 * most + (u + d) + d * l + (1 + h) * u ≤ v * u
    → low + p + (f + h) * (u + d) + most + (u + d) ≤ low + o * u
second_own low p f h l v o u d most e c4 =
    let last : (o + 1) * u ≡ (f + v) * u = ap (λ x. x * u) e in
    omega (arith, last, c4)

pub third_early : (low p f h l v u d least : ℕ) → p + d * (f + h) + d * (l + v) ≤ h * (u + d) + 3 * least
    → low + p + (f + l + v) * (u + d) ≤ low + (f + h) * u + least + l * u + least + v * u + least
third_early low p f h l v u d least c5 = omega (arith, c5)

pub third_late : (low p f h l v z o u d most : ℕ) → o + 1 ≡ f + l + v + z
    → p + d * (f + h) + 3 * most + 2 * (u + d) + d * (l + v) + (1 + h) * u ≤ z * u
    → low + p + (f + h) * (u + d) + most + (u + d) + l * (u + d) + most + (u + d) + v * (u + d) + most ≤ low + o * u
third_late low p f h l v z o u d most e c6 =
    let last : (o + 1) * u ≡ (f + l + v + z) * u = ap (λ x. x * u) e in
    omega (arith, last, c6)

pub third_own : (low p f h l v z o u d most : ℕ) → o + 1 ≡ f + l + z
    → p + d * (f + h) + 3 * most + 2 * (u + d) + d * (l + v) + (1 + h) * u ≤ z * u
    → low + p + (f + h) * (u + d) + most + (u + d) + l * (u + d) + most + (u + d) ≤ low + o * u
third_own low p f h l v z o u d most e c6 =
    let last : (o + 1) * u ≡ (f + l + z) * u = ap (λ x. x * u) e in
    omega (arith, last, c6)
