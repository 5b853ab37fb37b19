-- When each answer of the top call comes, and what it leaves written.
use Rattle.std.specs.{Prelude.{ℕ, ◌≡◌, ◌≤◌, ◌⊎◌, Bool, true, List, length, Some, String}, declared.alloc.Global.Global}
use Rattle.rb_outside.specs.{Bytes.ReadsToEnd, Causes.Rose}
use Rattle.rb_run.specs.{declared.ending.Ending.Ending, Seen.{SeenSink, SeenSource}}
use Rattle.rb_rules_bridge.specs.Bridges.{Bridge, IsBridge}
use Rattle.rb_bridge_document.specs.Acceptance.{AreListed, IsBridgeAccepted}
use Rattle.rb_bridge.specs.Crossing.{ArePlain, BridgeRun, Drives, WritesAll, WritesPart, run_of}
use Rattle.rb_program.specs.{declared.status.Status.Status, Statuses.{HasEnded, HasFailed, MayRefuse, RunsNothing, WritesNothing, status_of}}
use Rattle.rb_bridge_top.specs.{declared.form.Form.Form, declared.form.Form.TheVariants.Run, Inputs.{FailsToRefuse, IsRefusedWith, IsUnread, RefusesText, input_limit}, Statuses.end_of, Words.AskFor}
use Rattle.rb_program.specs.declared.status.Status.TheVariants as answer

-- Usage is the answer if and only if the words ask for no form
pub record UsageExactly (status : Status) (words : List (String Global)) : Type 0 where
  pub unknown : status ≡ answer.Usage → (form : Form) → ¬ AskFor words form
  pub refused : ((form : Form) → ¬ AskFor words form) → status ≡ answer.Usage
  pub known : ¬ (status ≡ answer.Usage) → (form : Form) × AskFor words form

-- the source, the sink and the drives are as they were, if the words or the answer leave them so
pub record Untouched {S K D : Type 0} (words : List (String Global)) (status : Status) (source source' : S) (sink sink' : K) (left left' right right' : D) : Type 0 where
  pub unread : ¬ AskFor words Run → source' ≡ source
  pub unwritten : WritesNothing status → sink' ≡ sink
  pub left_idle : (¬ AskFor words Run) ⊎ RunsNothing status → left' ≡ left
  pub right_idle : (¬ AskFor words Run) ⊎ RunsNothing status → right' ≡ right

-- the drives gave turns of the bridge's runs, and with two plain ones its text was written: all of
-- it, and this is the answer
pub record IsCrossed (x : BridgeRun) (status : Status) (sink : SeenSink) : Type 0 where
  pub ending : Ending
  pub answer_is : status ≡ status_of ending
  pub written : WritesAll x sink.held sink.held' ending

-- all that is said of a bridge was written, or a first part of it if a write failed
pub record Reports (b : Bridge) (d : Drives) (status : Status) (sink : SeenSink) : Type 0 where
  pub ended : HasEnded status → (both : Bool) → ArePlain both d.left.is_plain d.right.is_plain → IsCrossed (run_of b both d.left d.right) status sink
  pub part : status ≡ answer.WriteFault → (both : Bool) → ArePlain both d.left.is_plain d.right.is_plain → WritesPart (run_of b both d.left d.right) sink.held sink.held'

-- the input has been read, and it says this bridge. If `both` is true, both drives are plain
pub record Ends (both : Bool) (status : Status) (source : SeenSource) (sink : SeenSink) (drives : Drives) : Type 0 where
  pub input : List ℕ
  pub bridge : Bridge
  pub read : ReadsToEnd source.left source.left' input
  pub accepted : IsBridgeAccepted input bridge
  pub is : IsBridge bridge
  pub listed : AreListed bridge
  pub crossed : IsCrossed (run_of bridge both drives.left drives.right) status sink

-- the input has been read and is refused, and the one line of the refusal is written
abbrev pub Refuses : SeenSource → SeenSink → Type 0
Refuses source sink = RefusesText source sink

-- the first bytes of a bridge's text are written
pub record EndsPart (both : Bool) (source : SeenSource) (sink : SeenSink) (drives : Drives) : Type 0 where
  pub input : List ℕ
  pub bridge : Bridge
  pub read : ReadsToEnd source.left source.left' input
  pub accepted : IsBridgeAccepted input bridge
  pub written : WritesPart (run_of bridge both drives.left drives.right) sink.held sink.held'
  pub rose : Rose sink.faults sink.faults'

-- a write failed: the count of the sink's faults rose, and of the line of a refusal or of a
-- bridge's text the first bytes are written
abbrev pub FailsToWrite : Bool → SeenSource → SeenSink → Drives → Type 0
FailsToWrite both source sink drives = FailsToRefuse source sink ⊎ EndsPart both source sink drives

-- all that is said of the answer to `run`
pub record Answers (both : Bool) (status : Status) (source : SeenSource) (sink : SeenSink) (drives : Drives) : Type 0 where
  pub known : ¬ (status ≡ answer.Usage)
  pub ended : HasEnded status → Ends both status source sink drives
  pub refused : status ≡ answer.Refused → Refuses source sink
  pub unread : IsUnread status source
  pub failed : status ≡ answer.WriteFault → FailsToWrite both source sink drives

-- Completeness.

-- nothing fails: the input is within the limit, and no count of faults rises
pub record NothingFails (input : List ℕ) (source : SeenSource) (sink : SeenSink) : Type 0 where
  pub within : length input ≤ input_limit
  pub no_read : ¬ Rose source.faults source.faults'
  pub no_write : ¬ Rose sink.faults sink.faults'

-- The answers that must be given if the source tells its input: for a bridge with two plain drives
-- the one with which its text ends, and for a refused input Refused, unless something fails. If
-- nothing else fails, only out of memory may be the answer in their place
pub record Completes (both : Bool) (status : Status) (source : SeenSource) (sink : SeenSink) : Type 0 where
  pub ended : (input : List ℕ) (b : Bridge) → source.left ≡ Some input → IsBridgeAccepted input b → both ≡ true → (status ≡ end_of b) ⊎ HasFailed status
  pub ended_at_once : (input : List ℕ) (b : Bridge) → source.left ≡ Some input → IsBridgeAccepted input b → NothingFails input source sink
      → HasEnded status ⊎ (status ≡ answer.OutOfMemory)
  pub refused : (input line : List ℕ) → source.left ≡ Some input → IsRefusedWith input line → MayRefuse status
  pub refused_at_once : (input line : List ℕ) → source.left ≡ Some input → IsRefusedWith input line → NothingFails input source sink
      → (status ≡ answer.Refused) ⊎ (status ≡ answer.OutOfMemory)
