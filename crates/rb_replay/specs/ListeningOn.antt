-- A log that is listened to, as that goes on.
use Rattle.std.specs.{Prelude.{ℕ, ◌+◌, ◌-◌, ◌^◌, ◌≡◌, ◌≤◌, List, ◌++◌, Option, Result, IfOk}, List.flat_map}
use Rattle.rb_base.specs.declared.node.NodeName.{NodeName}
use Rattle.rb_rules.specs.Core.{CoreEvent}
use Rattle.rb_outside.specs.Writing.{Writes}
use Rattle.rb_report.specs.Report.{end_text}
use Rattle.rb_listen.specs.{Listeners.{Hearer, IsListening}, Listening.{Heeding, Listening, had_by, told_of}, declared.heed.Heed.Heed}
use Rattle.rb_replay.specs.Overhearing.{begun_in, begun_with, heed_lines}

-- the text of what is still to be told, if `begun` frames have begun
abbrev pub text_after : NodeName → ℕ → List Heed → List ℕ
text_after name begun hs = flat_map (heed_lines name) hs ++ end_text (begun + begun_in hs - 1)

-- the text that is due of a listener to which these events are to come, if `begun` frames have
-- begun
pub record IsDue (h : Hearer) (name : NodeName) (begun : ℕ) (events : List CoreEvent) (due : List ℕ) : Type 0 where
  pub listening : Listening
  pub stands : IsListening h listening
  pub few : begun ≤ had_by listening
  pub most : had_by listening ≤ 2 ^ 31
  pub text : due ≡ text_after name begun (told_of h.sizes h.plan listening events)

-- a tick was given to a listener, which tells this, and the lines of that were written; the answer
-- is how many frames begin
pub record TellsHeed {S E : Type 0} (held : S → Option (List ℕ)) (faults : S → ℕ) (name : NodeName) (x : Heeding) (h : Hearer) (before after : S) (result : Result ℕ E) : Type 0 where
  pub stands : IsListening h x.listening
  pub written : Writes held faults before after result (heed_lines name x.heed)
  pub begun : IfOk result (λ n. n ≡ begun_with x.heed.epoch)
