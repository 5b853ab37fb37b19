-- How near to each other a listener hears the calls of one frame.
use Rattle.std.specs.Prelude.{ℕ, ◌≡◌, ◌+◌, ◌*◌, ◌≤◌, ◌<◌, List}
use Rattle.rb_base.specs.Sizes.{sync_slot_of}
use Rattle.rb_rules.specs.{Clock.IsStamp, Goodness.Scenario, Hearing.Sending, Ports.HandIn, Rounds.moment}
use Rattle.rb_listen.specs.Passes.{reach_of}
use Rattle.rb_laws_listener_learns.specs.Ears.{Ear, SendsIn, coming_to}

-- the calls of good RMUs in one frame come with stamps that lie at most the reach of a pass apart,
-- those of before the listener's first tick left out
abbrev pub CallsComeTogether : Scenario → List HandIn → Ear → Type 0
CallsComeTogether sc hands ear =
    (n i j : ℕ) (s t : Sending) → (moment sc hands n).window ≡ 3 * sync_slot_of sc.sizes + 1 → SendsIn sc hands n i s → SendsIn sc hands n j t
    → (a b : ℕ) → 1 ≤ a → IsStamp ear.clock (coming_to sc ear i (moment sc hands n).frame s).time a
    → IsStamp ear.clock (coming_to sc ear j (moment sc hands n).frame t).time b → b ≤ a + reach_of sc.plan

-- the calls of good RMUs in a later frame come later than those in an earlier one, by more than the
-- reach of a pass, those of before the listener's first tick left out
abbrev pub LaterCallsComeLater : Scenario → List HandIn → Ear → Type 0
LaterCallsComeLater sc hands ear =
    (m n i j : ℕ) (s t : Sending) → (moment sc hands m).window ≡ 3 * sync_slot_of sc.sizes + 1 → (moment sc hands n).window ≡ 3 * sync_slot_of sc.sizes + 1
    → (moment sc hands m).frame < (moment sc hands n).frame → SendsIn sc hands m i s → SendsIn sc hands n j t
    → (a b : ℕ) → 1 ≤ a → IsStamp ear.clock (coming_to sc ear i (moment sc hands m).frame s).time a
    → IsStamp ear.clock (coming_to sc ear j (moment sc hands n).frame t).time b → a + reach_of sc.plan < b
