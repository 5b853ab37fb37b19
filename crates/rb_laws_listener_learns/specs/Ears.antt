-- A listener beside a run of the bus: a clock of its own, links on which the RMUs reach it, and
-- what it hears on them.
use Rattle.std.specs.Prelude.{ℕ, zero, suc, ◌≡◌, ◌⊎◌, ◌+◌, ◌*◌, ◌^◌, ◌<◌, ◌≤◌, nat_lt, ◌&&◌, not, Bool, true, false, Option, Some, None, List, [], ◌∷◌, get_or, slice_get}
use Rattle.rb_base.specs.{Nodes.{Side, set_of}, Nodes.Side.Rmu, declared.values.Place.Place}
use Rattle.rb_rules.specs.{Clock.{IsClock, IsStamp, Timeline, time_of}, Goodness.{Scenario, clock_of}, Headline.stated_skew, Hearing.{Coming, Sending}, Lawful.IsDelay, Moments.{IsGoodBefore, IsRunning, before_slot, time_in_frame}, NodeState.NodeState, Plan.{longest_of, shortest_of}, Ports.HandIn, Rounds.{IsGoodIn, moment, sending_in, window_in, windows_in}, Spelling.spelling_of}
use Rattle.rb_listen.specs.{Listening.{Listening, first_search, hear, heed}, Passes.are_most, declared.heed.Heed.Heed}
use Rattle.rb_listen.specs.Listening as now

-- a listener's clock, how long a message of a place is on its way to it from each RMU, what comes
-- to it with each stamp, in order, and how many of its ticks are spoken of
pub record Ear : Type 0 where
  pub clock : Timeline
  pub delay : ℕ → Place → ℕ
  pub heard : ℕ → List Coming
  pub ticks : ℕ

-- message c comes to the listener with stamp k
pub record IsHeard (ear : Ear) (k : ℕ) (c : Coming) : Type 0 where
  pub nth : ℕ
  pub there : slice_get (ear.heard k) nth ≡ Some c

-- Clock and delays are as a node's may be, but that it starts at any time. Nothing of what came
-- before its first tick is heard
pub record IsEar (sc : Scenario) (ear : Ear) : Type 0 where
  pub clock : IsClock (shortest_of sc.plan) (longest_of sc.plan) ear.clock
  pub delays : (j : ℕ) (place : Place) → IsDelay sc.plan (ear.delay j place)
  pub stamps : (k : ℕ) (c : Coming) → k < ear.ticks → IsHeard ear k c → IsStamp ear.clock c.time k
  pub after_start : (c : Coming) → IsHeard ear 0 c → ⊥
  pub ticks : ear.ticks ≤ 2 ^ 31

-- What good RMUs send.

-- window n of the run comes before its end. RMU j is good there, and sends s
pub record SendsIn (sc : Scenario) (hands : List HandIn) (n j : ℕ) (s : Sending) : Type 0 where
  pub running : IsRunning (moment sc hands n)
  pub in_frame : (moment sc hands n).window < windows_in sc.sizes
  pub state : NodeState
  pub good : IsGoodIn sc (moment sc hands n) Rmu j state
  pub sends : sending_in sc (moment sc hands n) Rmu j state (window_in sc (moment sc hands n) Rmu state) ≡ Some s

-- the message of the sending, as it comes to the listener
abbrev pub coming_to : Scenario → Ear → ℕ → ℕ → Sending → Coming
coming_to sc ear j frame s = record {
  time = time_of (clock_of sc Rmu j) s.tick + ear.delay j (record { frame = frame; slot = s.message.slot; stage = s.message.stage });
  from = j;
  bytes = spelling_of sc.plan.version s.message;
}

-- an RMU that was good sent this in the run
pub record IsOfGood (sc : Scenario) (hands : List HandIn) (ear : Ear) (c : Coming) : Type 0 where
  pub n : ℕ
  pub sending : Sending
  pub sent : SendsIn sc hands n c.from sending
  pub is : c ≡ coming_to sc ear c.from (moment sc hands n).frame sending

-- the RMU that sent this is not good from some slot on, to which the run comes before its end. The
-- message comes less than a tick and the stated skew before some good node begins that slot, or
-- later. So it may come from the time on at which the RMU itself, or the listener, begins the slot
-- by its own clock
pub record IsOfFaulty (sc : Scenario) (hands : List HandIn) (c : Coming) : Type 0 where
  pub frame : ℕ
  pub slot : ℕ
  pub onset : get_or sc.rmu_onsets c.from None ≡ Some (frame, slot)
  pub running : IsRunning (before_slot sc hands frame slot)
  pub me : Side
  pub i : ℕ
  pub state : NodeState
  pub good : IsGoodBefore sc hands frame slot me i state
  pub not_early : time_in_frame sc me i state (3 * slot * sc.plan.l) < c.time + shortest_of sc.plan + stated_skew sc.plan (3 * slot * sc.plan.l)

-- What is heard.

-- the run comes to the slot of the onset before its end, if there is an onset
abbrev pub comes_to : Scenario → List HandIn → Option (ℕ × ℕ) → Bool
comes_to sc hands None = false
comes_to sc hands (Some onset) = not (before_slot sc hands onset.0 onset.1).book.ended

-- RMU j is good in the whole run: the run never comes to a slot from which on it is not
abbrev pub is_always_good : Scenario → List HandIn → ℕ → Bool
is_always_good sc hands j = nat_lt j sc.sizes.rmus && not (comes_to sc hands (get_or sc.rmu_onsets j None))

-- More than half of all RMUs are good in the whole run. While an RMU is good the listener hears
-- what it sends: each message with the stamp of its time, once, and nothing else. What it hears of
-- an RMU that is good no more is anything
pub record HearsTheRun (sc : Scenario) (hands : List HandIn) (ear : Ear) : Type 0 where
  pub most_good : are_most sc.sizes (set_of (is_always_good sc hands)) ≡ true
  pub each : (n j : ℕ) (s : Sending) → SendsIn sc hands n j s → (k : ℕ) → 1 ≤ k → k < ear.ticks
      → IsStamp ear.clock (coming_to sc ear j (moment sc hands n).frame s).time k → IsHeard ear k (coming_to sc ear j (moment sc hands n).frame s)
  pub once : (k a b : ℕ) (c : Coming) → k < ear.ticks → IsOfGood sc hands ear c
      → slice_get (ear.heard k) a ≡ Some c → slice_get (ear.heard k) b ≡ Some c → a ≡ b
  pub only : (k : ℕ) (c : Coming) → k < ear.ticks → IsHeard ear k c → c.from < sc.sizes.rmus → IsOfGood sc hands ear c ⊎ IsOfFaulty sc hands c

-- The listener.

-- a listener after it has heard some messages, one after another
abbrev pub hears : Scenario → List Coming → Listening → Listening
hears sc [] l = l
hears sc (c ∷ cs) l = hears sc cs (hear sc.sizes sc.plan c.from c.bytes l)

-- a listener at tick k, when it has heard all that comes before that tick
abbrev pub listening_at : Scenario → Ear → ℕ → Listening
listening_at sc ear zero = hears sc (ear.heard zero) (now.Searching first_search)
listening_at sc ear (suc k) = hears sc (ear.heard (suc k)) (heed sc.sizes sc.plan (listening_at sc ear k)).listening

-- what a listener tells at tick k
abbrev pub told_at : Scenario → Ear → ℕ → Heed
told_at sc ear k = (heed sc.sizes sc.plan (listening_at sc ear k)).heed
