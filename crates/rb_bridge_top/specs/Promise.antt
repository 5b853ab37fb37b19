-- What a bridge promises if both drives are plain.
use Rattle.std.specs.{Prelude.{ℕ, ◌≡◌, List}, Io.KnownBytes.Appends}
use Rattle.rb_outside.specs.Bytes.{ReadsToEnd}
use Rattle.rb_laws_promise.specs.Promise.{KeepsThePromise}
use Rattle.rb_rules_bridge.specs.{declared.bank.Bank.Bank, Bridges.{Bridge, IsBridge, bus_on}, Crossings.{hands_of, hands_on}, Texts.bridge_text}
use Rattle.rb_laws_bridge.specs.Laws.{WordsCrossOn}
use Rattle.rb_bridge_document.specs.Acceptance.{AreListed, IsBridgeAccepted}
use Rattle.rb_run.specs.Seen.{SeenSink, SeenSource}
use Rattle.rb_program.specs.declared.status.Status.{Status}
use Rattle.rb_bridge_top.specs.Statuses.{end_of}

-- The promise of `run`, at Done and at Breach
pub record KeepsTheBridge (status : Status) (source : SeenSource) (sink : SeenSink) : Type 0 where
  pub input : List ℕ
  pub bridge : Bridge
  pub read : ReadsToEnd source.left source.left' input  -- the input is read to its end
  pub accepted : IsBridgeAccepted input bridge  -- the input is the text of an accepted bridge
  pub is : IsBridge bridge  -- both buses of the bridge are lawful, and the bridge fits them
  pub listed : AreListed bridge  -- faulty nodes do what the entries of the input list
  pub written : Appends sink.held sink.held' (bridge_text bridge)  -- what was added to the sink is the text of the bridge
  pub ends : status ≡ end_of bridge  -- the answer is Breach if and only if the bridge ends with a breach
  pub promise : WordsCrossOn bridge  -- words cross the bridge up to a breach
  -- each bus keeps the promise of the bus up to its breach, with the words that cross as its
  -- hand-ins
  pub buses : (bank : Bank) → KeepsThePromise (bus_on bridge bank) (hands_on bank (hands_of bridge))
