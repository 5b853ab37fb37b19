-- What holds of the clocks in every lawful scenario, whatever is handed in, up to the first breach
-- of the premise on faults.
use Rattle.std.specs.Prelude.{ℕ, ◌+◌, ◌<◌, ◌≤◌, List}
use Rattle.rb_base.specs.{Nodes.Side, Sizes.sync_slot_of}
use Rattle.rb_rules.specs.{Goodness.Scenario, Headline.BeginSlotsNear, Lawful.IsLawful, Moments.{IsRunning, IsComplete, IsReached, IsGoodBefore, IsGoodAfter, time_in_frame}, NodeState.NodeState, Ports.HandIn, Rounds.{IsTimely, moment, windows_in}, StandsFor.FrameTakes}

-- good nodes begin a frame that is reached at most p apart
abbrev pub BeginFramesNear : Scenario → List HandIn → Type 0
BeginFramesNear sc hands =
    (frame : ℕ) → IsReached sc hands frame
    → (me you : Side) (i j : ℕ) (mine yours : NodeState)
    → IsGoodBefore sc hands frame 0 me i mine → IsGoodBefore sc hands frame 0 you j yours
    → time_in_frame sc me i mine 0 ≤ time_in_frame sc you j yours 0 + sc.plan.p

-- after a complete sync slot each good node knows when its next frame begins: after all its
-- windows, and not long after them
abbrev pub FramesTakeTheirTime : Scenario → List HandIn → Type 0
FramesTakeTheirTime sc hands =
    (frame : ℕ) → IsComplete sc hands frame (sync_slot_of sc.sizes)
    → (me : Side) (i : ℕ) (st : NodeState) → IsGoodAfter sc hands frame (sync_slot_of sc.sizes) me i st
    → FrameTakes sc.sizes sc.plan me st

abbrev pub EpochsStayNear : Type 0
EpochsStayNear = (sc : Scenario) (hands : List HandIn) → IsLawful sc → BeginFramesNear sc hands × FramesTakeTheirTime sc hands

-- every window up to the first breach is timely, that of the breach and the tails with them
abbrev pub EachWindowIsTimely : Scenario → List HandIn → Type 0
EachWindowIsTimely sc hands =
    (n : ℕ) → IsRunning (moment sc hands n) → (moment sc hands n).window < windows_in sc.sizes → IsTimely sc (moment sc hands n)

abbrev pub WindowsAreTimely : Type 0
WindowsAreTimely = (sc : Scenario) (hands : List HandIn) → IsLawful sc → EachWindowIsTimely sc hands

-- good nodes begin a slot at most p apart, plus what their clocks may have drifted apart since the
-- frame's first tick
abbrev pub SlotsBeginNear : Type 0
SlotsBeginNear = (sc : Scenario) (hands : List HandIn) → IsLawful sc → BeginSlotsNear sc hands
