-- What events make of one node, and the text of it.
use Rattle.std.specs.{Prelude.{ℕ, ◌+◌, nat_lt, if◌then◌else◌, Option, Some, None, option_and_then, List, [], ◌∷◌, ◌++◌}, List.flat_map}
use Rattle.rb_base.specs.{Sizes.Sizes, declared.node.NodeName.NodeName, declared.values.Delivery.Delivery}
use Rattle.rb_rules.specs.{declared.plan.Plan.Plan, declared.record.Epoch.Epoch, Core.{Act, CoreEvent, acts_of, first_core}, Lawful.kind_of}
use Rattle.rb_report.specs.Report.{convicted_text, delivery_text, end_text, epoch_text}
use Rattle.rb_laws_logs.specs.Given.{index_of}

-- the lines of a frame that the node begins: its first tick, without a time, and whom the node
-- holds convicted
abbrev pub epoch_lines : NodeName → Option Epoch → List ℕ
epoch_lines name None = []
epoch_lines name (Some e) = epoch_text e.frame name e.tick None ++ convicted_text e.frame name e.biu e.rmu

-- the line of a delivery
abbrev pub delivery_lines : NodeName → Option Delivery → List ℕ
delivery_lines name None = []
delivery_lines name (Some d) = delivery_text d.frame d.slot (index_of name) d.sender d.value

abbrev pub act_lines : NodeName → Act → List ℕ
act_lines name x = epoch_lines name x.epoch ++ delivery_lines name (option_and_then (λ c. c.delivered) x.closed)

-- 1 if a frame above 0 begins, and 0 if not
abbrev pub frames_with : Option Epoch → ℕ
frames_with None = 0
frames_with (Some e) = if nat_lt 0 e.frame then 1 else 0

abbrev pub frames_in : List Act → ℕ
frames_in [] = 0
frames_in (x ∷ xs) = frames_with x.epoch + frames_in xs

-- the acts of the node's core, to which the events come from the first tick on
abbrev pub acts_from : Sizes → Plan → NodeName → List CoreEvent → List Act
acts_from sizes plan name events = acts_of sizes plan (kind_of name) (index_of name) (first_core sizes (kind_of name)) events

abbrev pub acts_text : NodeName → List Act → List ℕ
acts_text name acts = flat_map (act_lines name) acts ++ end_text (frames_in acts)

-- the text of a replay: the lines of all acts in order, and the end with the number of frames
-- completed
unfoldable pub replay_text : Sizes → Plan → NodeName → List CoreEvent → List ℕ
replay_text sizes plan name events = acts_text name (acts_from sizes plan name events)
