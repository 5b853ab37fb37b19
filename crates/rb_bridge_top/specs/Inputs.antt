-- What is read, and how it is refused or not read to its end.
use Rattle.std.specs.{Prelude.{ℕ, ◌≡◌, ◌≤◌, List, IsSome, unwrap_or}, Io.KnownBytes.Appends}
use Rattle.rb_outside.specs.{Bytes.{AppendsPart, Gave, ReadsToEnd}, Causes.Rose}
use Rattle.rb_rules_bridge.specs.Bridges.{IsBridge}
use Rattle.rb_bridge_document.specs.{declared.bridge.Bridge.Bridge as Kept, declared.refusal.BridgeRefusal.BridgeRefusal, Acceptance.{AreListed, IsBridgeAccepted, IsBridgeRefused, as_bridge}, Codes.{code_of, detail_of}}
use Rattle.rb_run.specs.Seen.{SeenSink, SeenSource}
use Rattle.rb_bridge.specs.Refusals.{IsBridgeRefusal, bridge_refused_text}
use Rattle.rb_program.specs.{declared.status.Status.Status, Outside.IsUnreadOver, Statuses.MayRefuse}
use Rattle.rb_program.specs.declared.status.Status.TheVariants as answer

-- the most bytes of an input
abbrev pub input_limit : ℕ
input_limit = 4194304

-- Refusals.

-- the rule has a code, and a number if and only if its line has one. Out of memory has none
abbrev pub HasLine : BridgeRefusal → Type 0
HasLine rule = IsSome (code_of rule) × IsBridgeRefusal (unwrap_or (code_of rule) 0) (detail_of rule)

-- the line that names the rule
abbrev pub rule_text : BridgeRefusal → List ℕ
rule_text rule = bridge_refused_text (unwrap_or (code_of rule) 0) (detail_of rule)

-- the input says no bridge, by the first rule that it breaks, which has this line
pub record IsRefusedWith (input line : List ℕ) : Type 0 where
  pub rule : BridgeRefusal
  pub coded : IsSome (code_of rule)
  pub broken : IsBridgeRefused input rule
  pub line_is : line ≡ rule_text rule

-- Reading.

-- whether the source was read to its end, within the limit
abbrev pub IsUnread : Status → SeenSource → Type 0
IsUnread status source = IsUnreadOver input_limit status source

-- the source had the text of an accepted bridge left, this one
pub record ReadsBridge (source : SeenSource) (kept : Kept) : Type 0 where
  pub input : List ℕ
  pub read : ReadsToEnd source.left source.left' input
  pub short_enough : Gave source.left source.left' (λ n. n ≤ input_limit)
  pub accepted : IsBridgeAccepted input (as_bridge kept)
  pub bridge : IsBridge (as_bridge kept)
  pub listed : AreListed (as_bridge kept)

-- the source had no such text left, and the line that says why is written
pub record RefusesText (source : SeenSource) (sink : SeenSink) : Type 0 where
  pub input : List ℕ
  pub line : List ℕ
  pub read : ReadsToEnd source.left source.left' input
  pub refused : IsRefusedWith input line
  pub written : Appends sink.held sink.held' line

-- the source had no such text left, and a first part of the line that says why is written, perhaps
-- none and perhaps all of it; the count of the sink's faults rose
pub record FailsToRefuse (source : SeenSource) (sink : SeenSink) : Type 0 where
  pub input : List ℕ
  pub line : List ℕ
  pub read : ReadsToEnd source.left source.left' input
  pub refused : IsRefusedWith input line
  pub written : AppendsPart sink.held sink.held' line
  pub rose : Rose sink.faults sink.faults'

-- no bridge has been read, and this is the answer
pub record ReadsNone (status : Status) (source : SeenSource) (sink : SeenSink) : Type 0 where
  pub one_of : MayRefuse status
  pub unread : IsUnread status source
  pub refused : status ≡ answer.Refused → RefusesText source sink
  pub failed : status ≡ answer.WriteFault → FailsToRefuse source sink
