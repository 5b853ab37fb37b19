-- When a listener decides.
use Rattle.std.specs.Prelude.{ℕ, ◌≡◌, ◌+◌, ◌*◌, ◌%◌, ◌≤◌, ◌<◌, true, Some, List}
use Rattle.rb_base.specs.Sizes.{sync_slot_of}
use Rattle.rb_rules.specs.{Clock.{IsStamp, time_of}, Goodness.Scenario, Hearing.Sending, Ports.HandIn, Rounds.moment}
use Rattle.rb_listen.specs.{Listening.is_deciding, declared.search.Search.Search}
use Rattle.rb_laws_listener_learns.specs.{Ears.{Ear, SendsIn, coming_to, listening_at}, Seeking.HasCalls}
use Rattle.rb_listen.specs.Listening as now

-- by this tick all calls of good RMUs in a frame of this number in messages have come
pub record CallsHaveCome (sc : Scenario) (hands : List HandIn) (ear : Ear) (number tick : ℕ) : Type 0 where
  pub n : ℕ
  pub window_is : (moment sc hands n).window ≡ 3 * sync_slot_of sc.sizes + 1
  pub number_is : number ≡ (moment sc hands n).frame % 65536
  pub come : (j : ℕ) (s : Sending) → SendsIn sc hands n j s → (stamp : ℕ) → IsStamp ear.clock (coming_to sc ear j (moment sc hands n).frame s).time stamp
      → stamp ≤ tick

-- if the tick of the decision is fixed, all calls of good RMUs in the frame that is learned come
-- before it
abbrev pub DecidesAfterTheCalls : Scenario → List HandIn → Ear → ℕ → Type 0
DecidesAfterTheCalls sc hands ear k =
    (s : Search) → listening_at sc ear k ≡ now.Searching s → s.learns ≡ true → (tick : ℕ) → s.lesson.decides ≡ Some tick
    → CallsHaveCome sc hands ear s.lesson.frame tick

-- at this tick the listener decides by what it learned of this frame of the bus
pub record DecidesBy (sc : Scenario) (hands : List HandIn) (ear : Ear) (learned tick : ℕ) (s : Search) : Type 0 where
  pub in_time : tick < ear.ticks
  pub searching : listening_at sc ear tick ≡ now.Searching s
  pub deciding : is_deciding s ≡ true
  pub called : HasCalls sc hands learned
  pub lesson : s.lesson.frame ≡ learned % 65536

-- all calls of good RMUs in this frame come after this tick of the listener
abbrev pub CallsComeAfter : Scenario → List HandIn → Ear → ℕ → ℕ → Type 0
CallsComeAfter sc hands ear frame tick =
    (n j : ℕ) (s : Sending) → (moment sc hands n).frame ≡ frame → (moment sc hands n).window ≡ 3 * sync_slot_of sc.sizes + 1 → SendsIn sc hands n j s
    → time_of ear.clock tick < (coming_to sc ear j (moment sc hands n).frame s).time

-- all calls of good RMUs in this frame come before this tick of the listener, or with it
abbrev pub CallsComeBy : Scenario → List HandIn → Ear → ℕ → ℕ → Type 0
CallsComeBy sc hands ear frame tick =
    (n j : ℕ) (s : Sending) → (moment sc hands n).frame ≡ frame → (moment sc hands n).window ≡ 3 * sync_slot_of sc.sizes + 1 → SendsIn sc hands n j s
    → (coming_to sc ear j (moment sc hands n).frame s).time ≤ time_of ear.clock tick

-- the listener decides at tick `latest` or before, by what it learned of this frame or of an
-- earlier one
pub record HasDecided (sc : Scenario) (hands : List HandIn) (ear : Ear) (frame latest : ℕ) : Type 0 where
  pub learned : ℕ
  pub tick : ℕ
  pub search : Search
  pub decides : DecidesBy sc hands ear learned tick search
  pub soon : learned ≤ frame
  pub in_time : tick ≤ latest
