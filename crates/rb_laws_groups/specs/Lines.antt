-- What the lines of a slot's record say, and the law that the records of every run say it.
use Rattle.std.specs.Prelude.{⊤, ℕ, ◌≡◌, ◌⊎◌, ◌^◌, ◌%◌, true, All, List, [], get_or}
use Rattle.rb_base.specs.{Nodes.Side.Biu, declared.values.Heard.Heard, declared.values.Heard.TheVariants.Word}
use Rattle.rb_rules.specs.{declared.record.SlotLine.SlotLine, Book.Record, Goodness.{Scenario, is_good}, Headline.lines_of, Lawful.IsLawful, Ports.HandIn, Rounds.records_of}
use Rattle.rb_laws_agreement.specs.Held.{state_held}

-- the lines are of one sender: each BIU that is good in the slot has one line, and all lines have
-- one value. If the sender is good in the slot and has a table, the value is the state that its
-- table holds, as a word
pub record AreOfSender (sc : Scenario) (hands : List HandIn) (frame slot : ℕ) (lines : List SlotLine) : Type 0 where
  pub sender : ℕ
  pub value : Heard
  pub alike : lines ≡ lines_of sc frame slot sender value
  pub held : is_good sc Biu sender frame slot ≡ true → get_or sc.apps sender 0 ≡ 0
      → lines ≡ lines_of sc frame slot sender (Word (state_held sc hands sender frame % 2 ^ 32))

-- a slot's record has no lines, or lines of one sender. Of other records it says nothing
abbrev pub IsRight : Scenario → List HandIn → Record → Type 0
IsRight sc hands (Record.Frame frame nodes ports) = ⊤
IsRight sc hands (Record.Slot frame slot lines) = (lines ≡ []) ⊎ AreOfSender sc hands frame slot lines
IsRight sc hands Record.Ended = ⊤
IsRight sc hands (Record.Breach place cause) = ⊤

-- all records of every lawful scenario are right, for any hand-ins
abbrev pub RecordsAreRight : Type 0
RecordsAreRight = (sc : Scenario) (hands : List HandIn) → IsLawful sc → All (IsRight sc hands) (records_of sc hands)
