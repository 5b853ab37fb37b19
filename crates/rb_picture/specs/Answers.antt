-- How the top call answers.
use Rattle.std.specs.{Prelude.{⊤, ℕ, ◌≡◌, ◌<◌, ◌≤◌, ◌⊎◌, List, ◌++◌, length, codes, Option, Some, String}, Fmt.decimal, Io.KnownBytes.Appends, declared.alloc.Global.Global}
use Rattle.rb_flags.specs.declared.Flag.{Flag}
use Rattle.rb_outside.specs.{Bytes.{AppendsPart, Gave, ReadsToEnd}, Causes.Rose}
use Rattle.rb_picture.specs.{declared.form.Form.Form, declared.form.Form.TheVariants.{Draw, Show}, declared.form.Frames.Frames, declared.line.Line.Line, declared.reading.Fault.Fault, declared.status.Status.Status, declared.status.Status.TheVariants.{Done, Usage, Refused, TooLong, ReadFault, WriteFault, OutOfMemory}, declared.style.TheConstants.STYLE, Lines.{AllFit, FailsAt, IsReport}, Forms.{AskFor, first_of, last_of}, Pages.page_text, Picture.{asked_of, picture_text}, Sheets.sheet_of}
use Rattle.rb_picture.specs.declared.reading.Fault.TheVariants as fault

-- the most bytes of a report
abbrev pub report_limit : ℕ
report_limit = 67108864

-- a cause by code and name
abbrev pub fault_name : Fault → List ℕ
fault_name fault.NoLine = codes "1 NoLine"
fault_name fault.OutOfOrder = codes "2 OutOfOrder"
fault_name fault.NoEnd = codes "3 NoEnd"

-- refused CODE NAME NUMBER
abbrev pub fault_text : Fault → ℕ → List ℕ
fault_text f number = (((codes "refused " ++ fault_name f) ++ codes " ") ++ decimal number) ++ codes "\n"

-- the picture of lines, which are those of these frames
abbrev pub picture_of : Frames → List Line → List ℕ
picture_of frames lines = picture_text STYLE.now (sheet_of frames lines) lines

-- the picture of these frames of a report
pub record IsPicture (frames : Frames) (bytes text : List ℕ) : Type 0 where
  pub lines : List Line
  pub report : IsReport bytes lines
  pub picture : text ≡ picture_of frames (asked_of (first_of frames) (last_of frames) lines)

-- the line that says at which place and why the bytes are no report
pub record IsRefusal (bytes text : List ℕ) : Type 0 where
  pub number : ℕ
  pub cause : Fault
  pub fails : FailsAt bytes number cause
  pub line : text ≡ fault_text cause number

-- the bytes are such a report and its picture is written
pub record Draws (frames : Frames) (bytes : List ℕ) (held held' : Option (List ℕ)) : Type 0 where
  pub text : List ℕ
  pub due : IsPicture frames bytes text
  pub written : Appends held held' text

pub record Refuses (bytes : List ℕ) (held held' : Option (List ℕ)) : Type 0 where
  pub text : List ℕ
  pub due : IsRefusal bytes text
  pub written : Appends held held' text

-- a first part of what was due is written
pub record FailsToWrite (frames : Frames) (bytes : List ℕ) (held held' : Option (List ℕ)) : Type 0 where
  pub text : List ℕ
  pub due : IsPicture frames bytes text ⊎ IsRefusal bytes text
  pub written : AppendsPart held held' text

-- the whole input was such a report, and its picture is written
pub record IsDrawn (frames : Frames) (left left' held held' : Option (List ℕ)) : Type 0 where
  pub bytes : List ℕ
  pub read : ReadsToEnd left left' bytes
  pub draws : Draws frames bytes held held'

-- the whole input was no report, and the line that says so is written
pub record IsRefused (left left' held held' : Option (List ℕ)) : Type 0 where
  pub bytes : List ℕ
  pub read : ReadsToEnd left left' bytes
  pub refuses : Refuses bytes held held'

-- a first part of the drawing or of the refusal is written
pub record IsDrawnInPart (frames : Frames) (left left' held held' : Option (List ℕ)) : Type 0 where
  pub bytes : List ℕ
  pub read : ReadsToEnd left left' bytes
  pub fails : FailsToWrite frames bytes held held'

-- what a form asks for is written; for a flag nothing is read
abbrev pub Gives : Form → Option (List ℕ) → Option (List ℕ) → Option (List ℕ) → Option (List ℕ) → Type 0
Gives (Draw frames) left left' held held' = IsDrawn frames left left' held held'
Gives (Show flag) left left' held held' = (left' ≡ left) × Appends held held' (page_text flag)

abbrev pub GivesPart : Form → Option (List ℕ) → Option (List ℕ) → Option (List ℕ) → Option (List ℕ) → Type 0
GivesPart (Draw frames) left left' held held' = IsDrawnInPart frames left left' held held'
GivesPart (Show flag) left left' held held' = (left' ≡ left) × AppendsPart held held' (page_text flag)

-- the words ask for a form, and what it asks for is written
pub record IsDone (words : List (String Global)) (left left' held held' : Option (List ℕ)) : Type 0 where
  pub form : Form
  pub asked : AskFor words form
  pub gives : Gives form left left' held held'

-- a first part of the answer to the words is written
pub record IsCutOff (words : List (String Global)) (left left' held held' : Option (List ℕ)) : Type 0 where
  pub form : Form
  pub asked : AskFor words form
  pub gives : GivesPart form left left' held held'

-- the answers for bytes that were read
abbrev pub IsOfReport : Status → Type 0
IsOfReport Done = ⊤
IsOfReport Usage = ⊥
IsOfReport Refused = ⊤
IsOfReport TooLong = ⊥
IsOfReport ReadFault = ⊥
IsOfReport WriteFault = ⊤
IsOfReport OutOfMemory = ⊤

-- the answers with which nothing is written
abbrev pub WritesNothing : Status → Type 0
WritesNothing Done = ⊥
WritesNothing Usage = ⊤
WritesNothing Refused = ⊥
WritesNothing TooLong = ⊤
WritesNothing ReadFault = ⊤
WritesNothing WriteFault = ⊥
WritesNothing OutOfMemory = ⊤

-- Usage is the answer if and only if the words ask for no form
pub record UsageExactly (status : Status) (words : List (String Global)) : Type 0 where
  pub unknown : status ≡ Usage → (form : Form) → ¬ AskFor words form
  pub refused : ((form : Form) → ¬ AskFor words form) → status ≡ Usage
  pub known : ¬ (status ≡ Usage) → (form : Form) × AskFor words form

-- the source and the sink are as they were, if the answer or the words leave them so
pub record Untouched {S K : Type 0} (words : List (String Global)) (status : Status) (source source' : S) (sink sink' : K) : Type 0 where
  pub unread : status ≡ Usage → source' ≡ source
  pub without_input : (flag : Flag) → AskFor words (Show flag) → source' ≡ source
  pub unwritten : WritesNothing status → sink' ≡ sink

-- The answers that must come.

-- the answers for bytes that were read, if no write fails. Only out of memory may be the answer in
-- their place
pub record CompletesOn (bytes : List ℕ) (status : Status) (writes writes' : ℕ) : Type 0 where
  pub drawn : (lines : List Line) → AllFit lines → IsReport bytes lines → ¬ Rose writes writes' → (status ≡ Done) ⊎ (status ≡ OutOfMemory)
  pub refused : ((lines : List Line) → ¬ IsReport bytes lines) → ¬ Rose writes writes' → (status ≡ Refused) ⊎ (status ≡ OutOfMemory)

-- the source tells this input, which is within the limit, and no read fails
pub record IsReadable (input : List ℕ) (left : Option (List ℕ)) (reads reads' : ℕ) : Type 0 where
  pub told : left ≡ Some input
  pub within : length input ≤ report_limit
  pub no_read : ¬ Rose reads reads'

-- to words: for frames as for the bytes of the input, and for a flag Done, unless a write fails
pub record Completes (words : List (String Global)) (status : Status) (left : Option (List ℕ)) (reads reads' writes writes' : ℕ) : Type 0 where
  pub drawn : (frames : Frames) (input : List ℕ) → AskFor words (Draw frames) → IsReadable input left reads reads' → CompletesOn input status writes writes'
  pub shown : (flag : Flag) → AskFor words (Show flag) → ¬ Rose writes writes' → status ≡ Done

-- All that is said of an answer. The source tells what it has left, the sink what it holds, and
-- each counts its faults.

-- a text is written with this answer, or of it a first part
pub record TextAnswers {K : Type 0} (held : K → Option (List ℕ)) (writes : K → ℕ) (sink sink' : K) (status end : Status) (text : List ℕ) : Type 0 where
  pub whole : status ≡ end → Appends (held sink) (held sink') text
  pub part : status ≡ WriteFault → AppendsPart (held sink) (held sink') text
  pub cause : status ≡ WriteFault → Rose (writes sink) (writes sink')
  pub either : (status ≡ end) ⊎ (status ≡ WriteFault)

-- bytes were read, for these frames
pub record BytesAnswers {K : Type 0} (frames : Frames) (bytes : List ℕ) (held : K → Option (List ℕ)) (writes : K → ℕ) (sink sink' : K) (status : Status) : Type 0 where
  pub done : status ≡ Done → Draws frames bytes (held sink) (held sink')
  pub refused : status ≡ Refused → Refuses bytes (held sink) (held sink')
  pub part : status ≡ WriteFault → FailsToWrite frames bytes (held sink) (held sink')
  pub cause : status ≡ WriteFault → Rose (writes sink) (writes sink')
  pub memory : status ≡ OutOfMemory → sink' ≡ sink
  pub one_of : IsOfReport status
  pub complete : CompletesOn bytes status (writes sink) (writes sink')

-- frames were asked for
pub record FramesAnswers {S K : Type 0} (frames : Frames) (status : Status) (left : S → Option (List ℕ)) (reads : S → ℕ) (source source' : S)
    (held : K → Option (List ℕ)) (writes : K → ℕ) (sink sink' : K) : Type 0 where
  pub known : ¬ (status ≡ Usage)
  pub done : status ≡ Done → IsDrawn frames (left source) (left source') (held sink) (held sink')
  pub refused : status ≡ Refused → IsRefused (left source) (left source') (held sink) (held sink')
  pub part : status ≡ WriteFault → IsDrawnInPart frames (left source) (left source') (held sink) (held sink')
  pub cause : status ≡ WriteFault → Rose (writes sink) (writes sink')
  pub too_long : status ≡ TooLong → Gave (left source) (left source') (λ n. report_limit < n)
  pub read_fault : status ≡ ReadFault → Rose (reads source) (reads source')
  pub nothing : WritesNothing status → sink' ≡ sink
  pub complete : (input : List ℕ) → IsReadable input (left source) (reads source) (reads source') → CompletesOn input status (writes sink) (writes sink')

-- words were given
pub record Answers {S K : Type 0} (words : List (String Global)) (status : Status) (left : S → Option (List ℕ)) (reads : S → ℕ) (source source' : S)
    (held : K → Option (List ℕ)) (writes : K → ℕ) (sink sink' : K) : Type 0 where
  pub usage : UsageExactly status words
  pub untouched : Untouched words status source source' sink sink'
  pub done : status ≡ Done → IsDone words (left source) (left source') (held sink) (held sink')
  pub refused : status ≡ Refused → IsRefused (left source) (left source') (held sink) (held sink')
  pub write_fault : status ≡ WriteFault → IsCutOff words (left source) (left source') (held sink) (held sink') × Rose (writes sink) (writes sink')
  pub too_long : status ≡ TooLong → Gave (left source) (left source') (λ n. report_limit < n)
  pub read_fault : status ≡ ReadFault → Rose (reads source) (reads source')
  pub complete : Completes words status (left source) (reads source) (reads source') (writes sink) (writes sink')
