-- A replay as it goes on.
use Rattle.std.specs.{Prelude.{ℕ, ◌+◌, ◌≡◌, ◌≤◌, List, ◌++◌, Option, Result, IfOk}, List.flat_map}
use Rattle.rb_base.specs.{Nodes.Side, declared.node.NodeName.NodeName}
use Rattle.rb_rules.specs.Core.{Act, Core, CoreEvent, acts_of}
use Rattle.rb_node.specs.Cores.{IsCore, Running}
use Rattle.rb_report.specs.Report.{end_text}
use Rattle.rb_outside.specs.Writing.{Writes}
use Rattle.rb_laws_logs.specs.Replays.{act_lines, frames_in, frames_with}

-- the acts of a core that is the node's
abbrev pub acts_at : Side → Running → Core → List CoreEvent → List Act
acts_at me n c events = acts_of n.seat.sizes n.seat.plan me n.seat.index c events

-- the text of the acts to come, if `frames` frames above 0 have begun
abbrev pub text_after : NodeName → ℕ → List Act → List ℕ
text_after name frames acts = flat_map (act_lines name) acts ++ end_text (frames + frames_in acts)

-- the text that is due of a node to which these events are to come, if `frames` frames above 0 have
-- begun
pub record IsDue (me : Side) (n : Running) (name : NodeName) (frames : ℕ) (events : List CoreEvent) (due : List ℕ) : Type 0 where
  pub core : Core
  pub stands : IsCore n core
  pub few : frames ≤ core.had
  pub text : due ≡ text_after name frames (acts_at me n core events)

-- a tick was given to a node, whose core acts so, and the lines of that were written; the answer is
-- how many frames above 0 begin
pub record TellsAct {S E : Type 0} (held : S → Option (List ℕ)) (faults : S → ℕ) (name : NodeName) (x : Act) (n : Running) (before after : S) (result : Result ℕ E) : Type 0 where
  pub core : IsCore n x.core
  pub written : Writes held faults before after result (act_lines name x)
  pub begun : IfOk result (λ k. k ≡ frames_with x.epoch)
