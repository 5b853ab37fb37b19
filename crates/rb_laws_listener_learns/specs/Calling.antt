-- Good RMUs call, and the listener hears it.
use Rattle.std.specs.Prelude.{ℕ, ◌≡◌, ◌+◌, ◌*◌, ◌≤◌, ◌<◌, true, List}
use Rattle.rb_base.specs.{Nodes.Side.Rmu, Sizes.sync_slot_of}
use Rattle.rb_rules.specs.{Clock.IsStamp, Goodness.{Scenario, is_good}, Hearing.Sending, Moments.IsRunning, Ports.HandIn, Rounds.moment}
use Rattle.rb_listen.specs.Passes.{is_call}
use Rattle.rb_laws_listener_learns.specs.Ears.{Ear, IsHeard, SendsIn, coming_to}

-- RMU j sends a call in window n of the run, and the listener hears it with the stamp of its time,
-- if that is one of its ticks
pub record IsHeardToCall (sc : Scenario) (hands : List HandIn) (ear : Ear) (n j : ℕ) : Type 0 where
  pub sending : Sending
  pub sent : SendsIn sc hands n j sending
  pub call : is_call sc.sizes sending.message ≡ true
  pub heard : (k : ℕ) → 1 ≤ k → k < ear.ticks → IsStamp ear.clock (coming_to sc ear j (moment sc hands n).frame sending).time k
      → IsHeard ear k (coming_to sc ear j (moment sc hands n).frame sending)

-- each RMU that is good in the sync slot is heard to call in its stage 2, if the run gets that far
abbrev pub EachIsHeardToCall : Scenario → List HandIn → Ear → Type 0
EachIsHeardToCall sc hands ear =
    (n j : ℕ) → IsRunning (moment sc hands n) → (moment sc hands n).window ≡ 3 * sync_slot_of sc.sizes + 1
    → is_good sc Rmu j (moment sc hands n).frame (sync_slot_of sc.sizes) ≡ true → IsHeardToCall sc hands ear n j
