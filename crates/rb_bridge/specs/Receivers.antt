-- What is said of a bus of a bridge in a frame.
use Rattle.std.specs.{Prelude.{ℕ, if◌then◌else◌, List, []}, List.flat_map}
use Rattle.rb_base.specs.{Counting.numbers, Nodes.Side.Biu, declared.values.Delivery.Delivery, declared.values.Heard.Heard}
use Rattle.rb_group.specs.{Groups.group_value, declared.voters.Which.TheVariants.Most}
use Rattle.rb_rules.specs.Goodness.{Scenario, is_good}
use Rattle.rb_rules_bridge.specs.{declared.bank.Bank.Bank, Texts.{cross_text, last_data_slot}}

-- the line of a BIU, if it is good in the last data slot of the frame, with the value that it finds
abbrev pub receiver_by : Scenario → ℕ → Bank → (ℕ → Heard) → ℕ → List ℕ
receiver_by sc frame bank value i = if is_good sc Biu i frame (last_data_slot sc.sizes) then cross_text frame bank i (value i) else []

-- the lines of all, by BIU
abbrev pub receivers_by : Scenario → ℕ → Bank → (ℕ → Heard) → List ℕ
receivers_by sc frame bank value = flat_map (receiver_by sc frame bank value) (numbers sc.sizes.bius)

-- the word that a port finds, which has been told this of these members
abbrev pub most_found : ℕ → (ℕ → List Delivery) → ℕ → Heard
most_found members told i = group_value Most members (told i)
