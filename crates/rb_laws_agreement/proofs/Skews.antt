-- If times are kept, good nodes begin slots near each other, and all that the bus promises holds.
use Rattle.std.proofs.Common.{◌≡◌, ℕ, ◌+◌, ◌-◌, ◌*◌, ◌<◌, ◌≤◌, ◌∙◌, ap, arith}
use Rattle.rb_rules.specs.{declared.plan.Plan.Plan, Headline.BeginSlotsNear, Lawful.IsLawful, Moments.time_in_frame, Plan.{shortest_of, longest_of, drift_in}}
use Rattle.rb_laws_agreement.specs.{Laws.{TimeIsAllThatIsLeft, TimeKeepsThePromise}, Times.KeepsTime}
use Rattle.rb_laws_agreement.proofs.{BeginTimes.{IsInTime, BeginsInTime}, BusStands.stands_in_time, FrameTimes.begins_in_time, Promises.{deliver-alike, deliver-word, convict-alike}, SlotLaws.{one-schedule, none_convicted}}

-- n of the longest ticks take longer than n of the shortest ones by the drift in n ticks
ticks-drift : (plan : Plan) (n : ℕ) → plan.r < plan.u → n * longest_of plan ≡ n * shortest_of plan + drift_in plan n
ticks-drift plan n small =
    let s : ℕ = plan.u - plan.r in
    let e : plan.u + plan.r ≡ s + plan.r + plan.r = omega arith in
    ap (λ k. n * k) e ∙ products n s plan.r
  where
    products : (n s r : ℕ) → n * (s + r + r) ≡ n * s + 2 * r * n
    products n s r = omega arith

near : (mine yours low p short drift : ℕ) {long : ℕ} → mine ≤ low + p + long → low + short ≤ yours → long ≡ short + drift → mine ≤ yours + (p + drift)
near mine yours low p short drift h k e = omega arith

begin-near : {sc hands : _} → IsLawful sc → {low : _} → BeginsInTime sc hands low → BeginSlotsNear sc hands
begin-near {sc} law {low} times frame slot le settled me you i j mine yours h k =
    let offset : ℕ = 3 * slot * sc.plan.l in
    let a : IsInTime sc (low frame) me i mine offset = times.in_time frame slot le settled me i mine h in
    let b : IsInTime sc (low frame) you j yours offset = times.in_time frame slot le settled you j yours k in
    near (time_in_frame sc me i mine offset) (time_in_frame sc you j yours offset) (low frame) sc.plan.p (offset * shortest_of sc.plan) (drift_in sc.plan offset)
    a.not_late b.not_early (ticks-drift sc.plan offset law.plan.r)

-- good nodes begin slots near each other
pub begin_slots_near : {sc hands : _} → IsLawful sc → KeepsTime sc hands → BeginSlotsNear sc hands
begin_slots_near law times = begin-near law (begins_in_time law times)

pub rounds_stand : TimeIsAllThatIsLeft
rounds_stand sc hands law times = stands_in_time law (begins_in_time law times)

pub keeps_the_promise : TimeKeepsThePromise
keeps_the_promise sc hands law times = record {
  skew = begin_slots_near law times;
  deliveries = deliver-alike hands law;
  words = deliver-word hands law;
  schedules = one-schedule hands law;
  convictions = convict-alike hands law;
  good_nodes_stay = none_convicted sc hands law;
}
