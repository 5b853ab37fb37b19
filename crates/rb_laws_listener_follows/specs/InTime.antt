-- What a listener hears of good RMUs in the windows of a frame that it begins near the good nodes.
use Rattle.std.specs.Prelude.{ℕ, ◌≡◌, ◌+◌, ◌-◌, ◌*◌, ◌/◌, ◌<◌, ◌≤◌, true, List}
use Rattle.rb_base.specs.{Nodes.Side, Nodes.Side.Rmu}
use Rattle.rb_rules.specs.{Clock.{IsStamp, time_of}, Goodness.{Scenario, is_good}, Hearing.{Coming, Sending}, Moments.{IsGoodBefore, time_in_frame}, NodeState.NodeState, Ports.HandIn, Rounds.windows_in}
use Rattle.rb_laws_listener_near.specs.Laws.{LieWithin}
use Rattle.rb_laws_listener_learns.specs.Ears.{Ear, IsHeard, SendsIn, coming_to}

-- the listener begins the frame with this tick, which is not its first, at most p from each good
-- node
pub record BeginsNear (sc : Scenario) (hands : List HandIn) (ear : Ear) (frame epoch : ℕ) : Type 0 where
  pub past : 1 ≤ epoch
  pub near : (me : Side) (i : ℕ) (st : NodeState) → IsGoodBefore sc hands frame 0 me i st → LieWithin sc.plan.p (time_of ear.clock epoch) (time_in_frame sc me i st 0)

-- the number of the moment before a stage
abbrev pub moment_before : Scenario → ℕ → ℕ → ℕ → ℕ
moment_before sc frame slot stage = frame * (windows_in sc.sizes + 1) + 3 * slot + stage - 1

-- the tick is one of the stage's window below the sync slot, if the frame begins with tick `epoch`
pub record IsTickIn (sc : Scenario) (epoch slot stage tick : ℕ) : Type 0 where
  pub from : epoch + (3 * slot + (stage - 1)) * sc.plan.l ≤ tick
  pub to : tick < epoch + (3 * slot + (stage - 1)) * sc.plan.l + sc.plan.l

-- RMU j sent this in the stage, and so it came
pub record IsSentIn (sc : Scenario) (hands : List HandIn) (ear : Ear) (frame slot stage : ℕ) (c : Coming) : Type 0 where
  pub sending : Sending
  pub sent : SendsIn sc hands (moment_before sc frame slot stage) c.from sending
  pub is : c ≡ coming_to sc ear c.from frame sending

-- what good RMUs send in the stage comes with stamps of the listener's window, and nothing else
-- comes then of those that are good in the next stage, too
pub record HearsTheStage (sc : Scenario) (hands : List HandIn) (ear : Ear) (frame slot stage epoch : ℕ) : Type 0 where
  pub own : (j : ℕ) (s : Sending) → SendsIn sc hands (moment_before sc frame slot stage) j s → (tick : ℕ) → IsStamp ear.clock (coming_to sc ear j frame s).time tick
      → IsTickIn sc epoch slot stage tick
  pub only : (c : Coming) (tick : ℕ) → tick < ear.ticks → IsHeard ear tick c → IsTickIn sc epoch slot stage tick → is_good sc Rmu c.from frame ((3 * slot + stage) / 3) ≡ true
      → IsSentIn sc hands ear frame slot stage c
