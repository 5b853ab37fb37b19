-- Kinds of answers.
use Rattle.std.specs.Prelude.{⊤, ℕ}
use Rattle.rb_run.specs.declared.ending.Ending.{Ending}
use Rattle.rb_program.specs.{declared.status.Status.Status, declared.status.Status.TheVariants.{Done, Breach, Usage, Refused, TooLong, ReadFault, WriteFault, OutOfMemory}}
use Rattle.rb_run.specs.declared.ending.Ending.TheVariants as ending

-- all that was asked for is done
abbrev pub HasEnded : Status → Type 0
HasEnded Done = ⊤
HasEnded Breach = ⊤
HasEnded Usage = ⊥
HasEnded Refused = ⊥
HasEnded TooLong = ⊥
HasEnded ReadFault = ⊥
HasEnded WriteFault = ⊥
HasEnded OutOfMemory = ⊥

-- nothing is written
abbrev pub WritesNothing : Status → Type 0
WritesNothing Done = ⊥
WritesNothing Breach = ⊥
WritesNothing Usage = ⊤
WritesNothing Refused = ⊥
WritesNothing TooLong = ⊤
WritesNothing ReadFault = ⊤
WritesNothing WriteFault = ⊥
WritesNothing OutOfMemory = ⊤

-- nothing was asked of a drive
abbrev pub RunsNothing : Status → Type 0
RunsNothing Done = ⊥
RunsNothing Breach = ⊥
RunsNothing Usage = ⊤
RunsNothing Refused = ⊤
RunsNothing TooLong = ⊤
RunsNothing ReadFault = ⊤
RunsNothing WriteFault = ⊥
RunsNothing OutOfMemory = ⊤

-- the answer may come of an input that is refused
abbrev pub MayRefuse : Status → Type 0
MayRefuse Done = ⊥
MayRefuse Breach = ⊥
MayRefuse Usage = ⊥
MayRefuse Refused = ⊤
MayRefuse TooLong = ⊤
MayRefuse ReadFault = ⊤
MayRefuse WriteFault = ⊤
MayRefuse OutOfMemory = ⊤

-- the outside has failed, or an allocation
abbrev pub HasFailed : Status → Type 0
HasFailed Done = ⊥
HasFailed Breach = ⊥
HasFailed Usage = ⊥
HasFailed Refused = ⊥
HasFailed TooLong = ⊤
HasFailed ReadFault = ⊤
HasFailed WriteFault = ⊤
HasFailed OutOfMemory = ⊤

-- an answer of a run or a bridge that is to be opened
abbrev pub IsOfRun : Status → Type 0
IsOfRun Done = ⊤
IsOfRun Breach = ⊤
IsOfRun WriteFault = ⊤
IsOfRun OutOfMemory = ⊤
IsOfRun Usage = ⊥
IsOfRun Refused = ⊥
IsOfRun TooLong = ⊥
IsOfRun ReadFault = ⊥

-- the answers if an input was not read to its end
abbrev pub IsNotRead : Status → Type 0
IsNotRead TooLong = ⊤
IsNotRead ReadFault = ⊤
IsNotRead OutOfMemory = ⊤
IsNotRead Done = ⊥
IsNotRead Breach = ⊥
IsNotRead Usage = ⊥
IsNotRead Refused = ⊥
IsNotRead WriteFault = ⊥

-- the answer to a run or a bridge that ends so
abbrev pub status_of : Ending → Status
status_of ending.Ended = Done
status_of ending.Breach = Breach

-- the number that the program ends with
abbrev pub number_of : Status → ℕ
number_of Done = 0
number_of Breach = 1
number_of Usage = 2
number_of Refused = 3
number_of TooLong = 4
number_of ReadFault = 5
number_of WriteFault = 6
number_of OutOfMemory = 7
