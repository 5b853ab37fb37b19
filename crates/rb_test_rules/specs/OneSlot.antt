-- A slot in which an RMU lies to each BIU in another way.
use Rattle.std.specs.Prelude.{ℕ, ◌==◌, ◌&&◌, nat_lt, if◌then◌else◌}
use Rattle.rb_base.specs.{Nodes.Side, Nodes.Side.{Biu, Rmu}, Sizes.Sizes, declared.values.Heard.Heard, declared.values.Heard.TheVariants.Word}
use Rattle.rb_rules.specs.{declared.sense.Sense.Sense, declared.sense.Sense.TheVariants.{Silent, One, Bad}, ExactStage.message_of, NodeState.first_state}
use Rattle.rb_laws_agreement.specs.OneSlot.{Exchange}

abbrev pub two_and_three : Sizes
two_and_three = record { bius = 2; rmus = 3; data_slots = 1 }

-- a value as a message of a stage of slot 0 of frame 0
abbrev pub one : ℕ → Heard → Sense
one stage value = One 9 (message_of (first_state two_and_three Biu) 0 stage value)

-- BIU 0 sends its request to the RMUs, and both BIUs their votes
abbrev pub from_bius : ℕ → ℕ → Sense
from_bius stage j =
    if (j == 0) && (stage == 1) then one 1 (Word 2)
    else (if nat_lt j 2 && (stage == 3) then one 3 (Word 2) else Silent)

-- RMUs 0 and 1 relay it. RMU 2 relays 7 to BIU 0 and sends noise to BIU 1
abbrev pub from_rmus : ℕ → ℕ → ℕ → Sense
from_rmus stage i j =
    if nat_lt j 2 && (stage == 2) then one 2 (Word 2)
    else (if (j == 2) && (stage == 2) then (if i == 0 then one 2 (Word 7) else Bad) else Silent)

abbrev pub comes_to : ℕ → Side → ℕ → ℕ → Sense
comes_to stage Biu i j = from_rmus stage i j
comes_to stage Rmu i j = from_bius stage j

-- the schedule slot of BIU 0, which asks for two data slots. RMU 2 is not good
abbrev pub lying_relay : Exchange
lying_relay = record {
  sizes = two_and_three;
  slot = 0;
  good = λ kind j. nat_lt j 2;
  before = λ me i. first_state two_and_three me;
  word = λ i. 2;
  came = comes_to;
}

-- the nodes that all good nodes trust: both BIUs and all three RMUs
abbrev pub all_trusted : Side → ℕ
all_trusted Biu = 3
all_trusted Rmu = 7
