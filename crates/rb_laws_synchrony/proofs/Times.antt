-- The clocks of good nodes, stamps of times, and how long messages are on their way.
use Rattle.std.proofs.{Common.{◌≡◌, ℕ, zero, suc, ◌+◌, ◌*◌, ◌<◌, ◌≤◌, Bool, true, false, List, [], ◌∷◌, length, inl, inr, if◌then◌else◌, subst, arith}, lemmas.Bool.cases_lt, lemmas.List.Elements.{All-head, All-tail}}
use Rattle.std.specs.Prelude.{All}
use Rattle.rb_base.specs.{Nodes.Side, declared.node.NodeName.NodeName, declared.values.Place.Place}
use Rattle.rb_rules.specs.{declared.link.Rule.Rule, Clock.{Timeline, IsStamp, stamp_of, time_of}, Goodness.{Scenario, clock_of, clock_place, is_good}, Lawful.{IsDelay, IsLawful}, Links.{applies, delay_after, delay_of}, Plan.{f0_of, longest_of, shortest_of}}
use Rattle.rb_rules.proofs.{Drift.{HasLengths, drift, has_lengths, stamp_near, times_rise_strictly}, Slots.place-within, Stamps.{Moves, stamp_of-is, stamp_le}}
use Rattle.rb_laws_agreement.proofs.Goodnesses.{good_counts}
use Rattle.rb_laws_synchrony.proofs.PlanNumbers.{Fits, drift_of, fits}

-- ---- clocks

-- ticks take at least u and at most u + d
pub record Steady (u d : ℕ) (clock : Timeline) : Type 0 where
  pub moves : Moves clock
  pub not_early : (tick n : ℕ) → time_of clock tick + n * u ≤ time_of clock (tick + n)
  pub not_late : (tick n : ℕ) → time_of clock (tick + n) ≤ time_of clock tick + n * (u + d)
  pub stamped : (time tick : ℕ) → IsStamp clock time (suc tick) → time_of clock (suc tick) < time + (u + d)

pub steady-clock : {plan f clock : _} → Fits plan (shortest_of plan) (drift_of plan) f → HasLengths (shortest_of plan) (longest_of plan) clock
    → Steady (shortest_of plan) (drift_of plan) clock
steady-clock {plan} {clock} fit lengths =
    let u : ℕ = shortest_of plan in
    let d : ℕ = drift_of plan in
    let some : 1 ≤ u = fit.some in
    record {
      moves = λ tick. omega (arith, (lengths tick).0);
      not_early = λ tick n. (drift clock u (longest_of plan) lengths tick n).0;
      not_late = λ tick n.
          subst (λ g. time_of clock (tick + n) ≤ time_of clock tick + n * g) fit.longest (drift clock u (longest_of plan) lengths tick n).1;
      stamped = λ time tick is.
          subst (λ g. time_of clock (suc tick) < time + g) fit.longest (stamp_near clock (longest_of plan) (λ k. (lengths k).1) time tick is);
    }

-- `Fits` holds for the numbers of the scenario's plan
abbrev pub plan_fits : Scenario → Type 0
plan_fits sc = Fits sc.plan (shortest_of sc.plan) (drift_of sc.plan) (f0_of sc.sizes sc.plan)

pub lawful_fits : {sc : _} → IsLawful sc → plan_fits sc
lawful_fits {sc} law = fits sc.sizes law.plan law.feasible

-- the clock of a good node is steady
pub steady : {sc : _} → IsLawful sc → (me : Side) (i frame slot : ℕ) → is_good sc me i frame slot ≡ true
    → Steady (shortest_of sc.plan) (drift_of sc.plan) (clock_of sc me i)
steady {sc} law me i frame slot good =
    steady-clock (lawful_fits law)
    (has_lengths (shortest_of sc.plan) (longest_of sc.plan) (clock_of sc me i)
    (law.clocks (clock_place sc.sizes me i) (record { start = 0; segments = [] })
    (place-within sc.sizes me i (length sc.clocks) law.one_clock_each (good_counts sc me i frame slot good))))

-- ---- ticks and stamps

-- a tick whose time is no later is no later
pub tick_le : (clock : Timeline) → Moves clock → (a b : ℕ) → time_of clock a ≤ time_of clock b → a ≤ b
tick_le clock moves a b le =
    elim (cases_lt b a) [ inl lt ↦ absurd (omega (arith, le, times_rise_strictly clock moves b a lt)) | inr ge ↦ ge ]

-- a time from that of a tick on is stamped with this tick or a later one
pub stamp_from : (clock : Timeline) → Moves clock → (time first : ℕ) → time_of clock first ≤ time → first ≤ stamp_of clock time
stamp_from clock moves time first le =
    let is : IsStamp clock time (stamp_of clock time) = stamp_of-is clock moves time in
    tick_le clock moves first (stamp_of clock time) (omega (arith, le, is.reached))

-- the stamp of a time up to that of tick `last` is at most `last`
pub stamp_to : (clock : Timeline) → Moves clock → (time last : ℕ) → time ≤ time_of clock last → stamp_of clock time ≤ last
stamp_to clock moves time last le = stamp_le clock time (stamp_of clock time) last (stamp_of-is clock moves time) le

-- the tick of a stamp is no earlier than the time, and less than a tick later, but for tick 0
pub record IsStampTime (clock : Timeline) (g time stamp : ℕ) : Type 0 where
  pub reached : time ≤ time_of clock stamp
  pub near : 1 ≤ stamp → time_of clock stamp ≤ time + g

pub stamp_time : {u d clock : _} → Steady u d clock → (time : ℕ) → IsStampTime clock (u + d) time (stamp_of clock time)
stamp_time {u} {d} {clock} steady time = go (stamp_of clock time) (stamp_of-is clock steady.moves time)
  where
    go : (stamp : ℕ) → IsStamp clock time stamp → IsStampTime clock (u + d) time stamp
    go zero is = record { reached = is.reached; near = λ some. absurd (omega arith) }
    go (suc tick) is = record { reached = is.reached; near = λ some. omega (arith, steady.stamped time tick is) }

-- ---- delays

-- each delay is within the plan's bounds
after-within : (sc : Scenario) {plan : _} (rules : List Rule) {delay : ℕ} (from to : NodeName) (place : Place) → IsDelay plan delay
    → All (λ r. IsDelay plan r.delay) rules → IsDelay plan (delay_after delay rules from to place)
after-within sc [] from to place is all = is
after-within sc {plan} (r ∷ rs) {delay} from to place is all =
    after-within sc rs from to place (go (applies r from to place))
    (All-tail (λ r. IsDelay plan r.delay) r rs all)
  where
    go : (b : Bool) → IsDelay plan (if b then r.delay else delay)
    go true = All-head (λ r. IsDelay plan r.delay) r rs all
    go false = is

pub delay_within : {sc : _} → IsLawful sc → (from to : NodeName) (place : Place) → IsDelay sc.plan (delay_of sc.delays from to place)
unfolding delay_of
delay_within {sc} law from to place =
    after-within sc sc.delays.rules from to place law.base_delay (λ k d lt. (law.rules k d lt).delay)
