-- What `robus_bridge_call` promises of the very bytes.
use Rattle.std.specs.Prelude.{ℕ, ◌≡◌, ◌<◌, ◌≤◌, ◌⊎◌, List, [], length}
use Rattle.rb_flags.specs.declared.Flag.{Flag}
use Rattle.rb_laws_promise.specs.Promise.{KeepsThePromise}
use Rattle.rb_rules_bridge.specs.{declared.bank.Bank.Bank, Bridges.{Bridge, IsBridge, bus_on}, Crossings.{hands_of, hands_on}, Texts.bridge_text}
use Rattle.rb_laws_bridge.specs.Laws.{WordsCrossOn}
use Rattle.rb_bridge_document.specs.Acceptance.{AreListed, IsBridgeAccepted}
use Rattle.rb_program.specs.{declared.status.Status.Status, Statuses.{HasEnded, WritesNothing, number_of}}
use Rattle.rb_bridge_top.specs.{declared.form.Form.Form, declared.form.Form.TheVariants.{Run, Show}, Inputs.{IsRefusedWith, input_limit}, Pages.page_text, Statuses.end_of, Words.words_of}
use Rattle.robus_c.specs.{declared.answer.Answer.Answer, Put.IsAnswer}
use Rattle.rb_program.specs.declared.status.Status.TheVariants as code

-- the words are those of the form
abbrev pub Ask : List (List ℕ) → Form → Type 0
Ask words form = words ≡ words_of form

-- The promise of `run`, at Done and at Breach
pub record KeepsTheBridge (status : Status) (input output : List ℕ) : Type 0 where
  pub bridge : Bridge
  pub accepted : IsBridgeAccepted input bridge  -- the input is the text of an accepted bridge
  pub lawful : IsBridge bridge  -- both buses of the bridge are lawful, and the bridge fits them
  pub listed : AreListed bridge  -- faulty nodes do what the entries of the input list
  pub is : output ≡ bridge_text bridge  -- the output is the text of the bridge
  pub ends : status ≡ end_of bridge  -- the answer is Breach if and only if the bridge ends with a breach
  pub promise : WordsCrossOn bridge  -- words cross the bridge up to a breach
  -- each bus keeps the promise of the bus up to its breach, with the words that cross as its
  -- hand-ins
  pub buses : (bank : Bank) → KeepsThePromise (bus_on bridge bank) (hands_on bank (hands_of bridge))

-- The answer to `run`
pub record AnswersRun (input output : List ℕ) (status : Status) : Type 0 where
  pub promise : HasEnded status → KeepsTheBridge status input output
  pub refused : status ≡ code.Refused → IsRefusedWith input output  -- the input is refused, and the output is the line that says why
  pub too_long : status ≡ code.TooLong → input_limit < length input
  pub complete : (b : Bridge) → IsBridgeAccepted input b → length input ≤ input_limit
      → (status ≡ end_of b) ⊎ (status ≡ code.OutOfMemory)  -- the answer that is due comes, or memory runs out
  pub refused_at_once : (line : List ℕ) → IsRefusedWith input line → length input ≤ input_limit
      → (status ≡ code.Refused) ⊎ (status ≡ code.OutOfMemory)

-- The answer to words. Reading and writing never fail
pub record Answers (words : List (List ℕ)) (input output : List ℕ) (status : Status) : Type 0 where
  pub unknown : status ≡ code.Usage → (form : Form) → ¬ Ask words form
  pub usage : ((form : Form) → ¬ Ask words form) → status ≡ code.Usage
  pub nothing : WritesNothing status → output ≡ []
  pub reads : ¬ (status ≡ code.ReadFault)
  pub writes : ¬ (status ≡ code.WriteFault)
  pub shown : (flag : Flag) → Ask words (Show flag) → (status ≡ code.Done) × (output ≡ page_text flag)
  pub run : Ask words Run → AnswersRun input output status

-- the number of a status with which this output comes
pub record Says (words : List (List ℕ)) (input output : List ℕ) (number : ℕ) : Type 0 where
  pub status : Status
  pub is : number ≡ number_of status
  pub answers : Answers words input output status

-- what `robus_bridge_call` answers
abbrev pub IsBridgeAnswer : List ℕ → List ℕ → List ℕ → List ℕ → Answer → Type 0
IsBridgeAnswer words input before after answer = IsAnswer Says words input before after answer
