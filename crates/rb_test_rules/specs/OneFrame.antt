-- A frame in whose sync slot an RMU calls one BIU early, and sends noise to the other.
use Rattle.std.specs.Prelude.{ℕ, ◌==◌, ◌&&◌, nat_lt, if◌then◌else◌}
use Rattle.rb_base.specs.{Nodes.Side, Nodes.Side.{Biu, Rmu}}
use Rattle.rb_rules.specs.{declared.sense.Sense.Sense, declared.sense.Sense.TheVariants.{Silent, One, Bad}, Clock.stamp_of, NodeState.first_state, SyncStage.call_of}
use Rattle.rb_laws_synchrony.specs.OneFrame.{Frame}
use Rattle.rb_test_rules.specs.{Buses.{plan, steady}, OneSlot.two_and_three}

-- a call of a stage that comes at a time
abbrev pub called : ℕ → ℕ → Sense
called stage time = One (stamp_of steady time) (call_of two_and_three (first_state two_and_three Biu) stage)

-- both BIUs call in stages 1 and 3
abbrev pub calls_of_bius : ℕ → ℕ → Sense
calls_of_bius stage j =
    if nat_lt j 2 && (stage == 1) then called 1 3670000
    else (if nat_lt j 2 && (stage == 3) then called 3 4020000 else Silent)

-- RMUs 0 and 1 call in stage 2. RMU 2 calls BIU 0 early, and sends noise to BIU 1
abbrev pub calls_of_rmus : ℕ → ℕ → ℕ → Sense
calls_of_rmus stage i j =
    if nat_lt j 2 && (stage == 2) then called 2 3830000
    else (if (j == 2) && (stage == 2) then (if i == 0 then called 2 3760000 else Bad) else Silent)

abbrev pub calls_to : ℕ → Side → ℕ → ℕ → Sense
calls_to stage Biu i j = calls_of_rmus stage i j
calls_to stage Rmu i j = calls_of_bius stage j

-- all clocks show the same, and every node begins the frame at once. RMU 2 is not good
abbrev pub early_call : Frame
early_call = record {
  sizes = two_and_three;
  plan = plan;
  good = λ kind j. nat_lt j 2;
  clock = λ me i. steady;
  before = λ me i. first_state two_and_three me;
  came = calls_to;
}
