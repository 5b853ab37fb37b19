-- The times of ticks that a node may have are small.
use Rattle.std.proofs.{Common.{ℕ, ◌+◌, ◌*◌, ◌^◌, ◌<◌, ◌≤◌, ◌≡◌, [], length, arith, subst}, Math.Nat.mul-le-mul_left}
use Rattle.rb_base.specs.Nodes.{Side}
use Rattle.rb_rules.specs.{Clock.{IsClock, time_of}, Goodness.{Scenario, clock_of, clock_place}, Lawful.IsLawful, Plan.{longest_of, shortest_of}, Slots.count_of}
use Rattle.rb_rules.proofs.{Drift.{drift, has_lengths}, Slots.place-within}

pub small-time : (sc : Scenario) → IsLawful sc → (me : Side) (i k : ℕ) → i < count_of me sc.sizes → k < 2 ^ 31 → time_of (clock_of sc me i) k < 18446744073709551615
small-time sc lawful me i k within small =
    let is : IsClock (shortest_of sc.plan) (longest_of sc.plan) (clock_of sc me i) =
    lawful.clocks (clock_place sc.sizes me i) (record { start = 0; segments = [] }) (place-within sc.sizes me i (length sc.clocks) lawful.one_clock_each within) in
    let z : 0 + k ≡ k = omega arith in
    let far : time_of (clock_of sc me i) k ≤ time_of (clock_of sc me i) 0 + k * longest_of sc.plan =
    subst (λ n. time_of (clock_of sc me i) n ≤ time_of (clock_of sc me i) 0 + k * longest_of sc.plan) z
    (drift (clock_of sc me i) (shortest_of sc.plan) (longest_of sc.plan) (has_lengths (shortest_of sc.plan) (longest_of sc.plan) (clock_of sc me i) is) 0 k).1 in
    let start : time_of (clock_of sc me i) 0 ≤ 1000000000000 = is.start in
    let u = lawful.plan.u in
    let r = lawful.plan.r in
    let most = u.1 in
    let short : longest_of sc.plan ≤ 2000000 = omega (arith, most, r) in
    let product : k * longest_of sc.plan ≤ k * 2000000 = mul-le-mul_left k short in
    omega (arith, far, start, product, small)
