-- The newest calls of good RMUs from the last call of a frame on, for as long as a pass lasts: they
-- are of that frame, so there is a pass.
use Rattle.std.proofs.{Common.{◌≡◌, ℕ, ◌+◌, ◌%◌, ◌<◌, ◌≤◌, true, Option, Some, None, List, get_or, slice_get, inl, inr, refl, ◌∙◌, ap, arith}, lemmas.Bool.cases_lt}
use Rattle.rb_rules.specs.{Goodness.Scenario, Hearing.Coming, Lawful.IsLawful, Ports.HandIn, Rounds.moment}
use Rattle.rb_listen.specs.{Passes.{pass_of, reach_of}, declared.passes.Call.Call}
use Rattle.rb_laws_listener_learns.specs.Ears.{Ear, HearsTheRun, IsEar, is_always_good}
use Rattle.rb_laws_listener_learns.proofs.{Deciding.IsHeardCall, Fresh.{AreKnown, AreLatest, CallsToo, HasCalled, as-call, call-there, calls-apart, none-missing}, LastCalls.IsLastCall, Latest.{IsCallAt, IsLate}, Recorded.IsEarlier, Seeks.always-counts}

-- what comes soon after the last call of a frame, or before, is of no later frame
pub up-to : {sc hands : _} → IsLawful sc → {ear : _} → IsEar sc ear → {frame last : ℕ} → IsLastCall sc hands ear frame last → {j q at : ℕ}
    → (c : IsHeardCall sc hands ear j q at) → at ≤ last + reach_of sc.plan → (moment sc hands c.n).frame ≤ frame
up-to {sc} {hands} law is {frame} l c soon =
    elim (cases_lt frame (moment sc hands c.n).frame) [
      | inl more ↦ absurd (omega (arith, soon, calls-apart law is l.call c (omega (arith, l.frame_is, more))))
      | inr le ↦ le
    ]

-- the newest call of RMU `j` is one of this frame or a later one
pub record IsFromOn (sc : Scenario) (hands : List HandIn) (ear : Ear) (frame k : ℕ) (newest : List (Option Call)) (j : ℕ) : Type 0 where
  pub call : Call
  pub there : get_or newest j None ≡ Some call
  pub heard : IsHeardCall sc hands ear j call.frame call.at
  pub by_now : call.at ≤ k
  pub from : frame ≤ (moment sc hands heard.n).frame

-- all that comes up to the last call of the frame has come
abbrev pub HasCome : Ear → ℕ → ℕ → ℕ → Type 0
HasCome ear last k n = (at i : ℕ) (c : Coming) → at ≤ last → slice_get (ear.heard at) i ≡ Some c → IsEarlier at i k n

pub from-on : {sc hands : _} → IsLawful sc → {ear : _} → IsEar sc ear → {frame last : ℕ} → IsLastCall sc hands ear frame last → last < ear.ticks → {k n : ℕ}
    → {newest : _} → AreKnown sc hands ear k newest → AreLatest sc ear k n newest → HasCome ear last k n → (j : ℕ) → is_always_good sc hands j ≡ true
    → IsFromOn sc hands ear frame k newest j
from-on {sc} {hands} law {ear} is {frame} {last} l in_time {k} {newest} known latest come j good =
    by (get_or newest j None) refl (latest j e.0 there.0 (always-counts sc hands j good) there.1 (come e.0 there.0 there.1.coming e.1.1.1 there.1.there))
  where
    e : (b : ℕ) × (CallsToo sc hands ear l.call.n j b × ((1 ≤ b) × (b ≤ last)))
    e = l.each j good

    there : (i : ℕ) × IsCallAt sc ear e.0 i j
    there = call-there law e.1.0 e.1.1.0 (omega (arith, e.1.1.1, in_time))

    mine : IsHeardCall sc hands ear j (frame % 65536) e.0
    mine = as-call l.call e.1.0 e.1.1.0

    by : (o : Option Call) → get_or newest j None ≡ o → IsLate e.0 o → IsFromOn sc hands ear frame k newest j
    by None is_none late = absurd late
    by (Some c) is_c late =
        let heard : IsHeardCall sc hands ear j c.frame c.at × (c.at ≤ k) = known.known j c good is_c in
        elim (cases_lt (moment sc hands heard.0.n).frame frame) [
          | inl less ↦
              let less_it : (moment sc hands heard.0.n).frame < (moment sc hands mine.n).frame = omega (arith, less, l.frame_is) in
              absurd (omega (arith, late, calls-apart law is heard.0 mine less_it))
          | inr ge ↦ record { call = c; there = is_c; heard = heard.0; by_now = heard.1; from = ge }
        ]

-- once the last call has come, there is a pass of the frame for as long as its reach
pub all-called : {sc hands : _} → IsLawful sc → {ear : _} → IsEar sc ear → HearsTheRun sc hands ear → {frame last : ℕ} → IsLastCall sc hands ear frame last → last < ear.ticks
    → {k n newest : _} → AreKnown sc hands ear k newest → AreLatest sc ear k n newest → HasCome ear last k n → k ≤ last + reach_of sc.plan
    → pass_of sc.sizes sc.plan newest ≡ Some (frame % 65536)
all-called {sc} {hands} law {ear} is run {frame} l in_time {k} {newest} known latest come soon =
    none-missing law is run.most_good (frame % 65536) known l.i l.good called
  where
    called : (j : ℕ) → is_always_good sc hands j ≡ true → HasCalled newest (frame % 65536) j
    called j good =
        let f : IsFromOn sc hands ear frame k newest j = from-on law is l in_time known latest come j good in
        let le : (moment sc hands f.heard.n).frame ≤ frame = up-to law is l f.heard (omega (arith, f.by_now, soon)) in
        let same : (moment sc hands f.heard.n).frame ≡ frame = omega (arith, le, f.from) in
        record { call = f.call; there = f.there; frame_is = f.heard.number_is ∙ ap (λ x. x % 65536) same }
