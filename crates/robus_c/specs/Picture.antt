-- What `robus_picture_call` promises of the very bytes.
use Rattle.std.specs.Prelude.{ℕ, ◌≡◌, ◌<◌, ◌≤◌, ◌⊎◌, List, [], length}
use Rattle.rb_flags.specs.declared.Flag.{Flag}
use Rattle.rb_picture.specs.{declared.form.Form.Form, declared.form.Form.TheVariants.{Draw, Show}, declared.form.Frames.Frames, declared.line.Line.Line, declared.status.Status.Status, Answers.{IsPicture, IsRefusal, WritesNothing, report_limit}, Forms.Ask, Lines.{AllFit, IsReport}, Pages.page_text}
use Rattle.robus_c.specs.{declared.answer.Answer.Answer, Put.IsAnswer}
use Rattle.rb_picture.specs.declared.status.Status.TheVariants as code

-- the number that a status has in the answer
abbrev pub number_of : Status → ℕ
number_of code.Done = 0
number_of code.Usage = 2
number_of code.Refused = 3
number_of code.TooLong = 4
number_of code.ReadFault = 5
number_of code.WriteFault = 6
number_of code.OutOfMemory = 7

-- the output is what the form asks for: the picture of these frames of the report that the input
-- is, or what the flag asks for
abbrev pub Gives : Form → List ℕ → List ℕ → Type 0
Gives (Draw frames) input output = IsPicture frames input output
Gives (Show flag) input output = output ≡ page_text flag

-- the words ask for a form, and the output is what it asks for
pub record IsDone (words : List (List ℕ)) (input output : List ℕ) : Type 0 where
  pub form : Form
  pub asked : Ask words form
  pub gives : Gives form input output

-- the answer that is due to the input comes, or memory runs out
pub record Completes (input : List ℕ) (status : Status) : Type 0 where
  pub drawn : (lines : List Line) → AllFit lines → IsReport input lines → (status ≡ code.Done) ⊎ (status ≡ code.OutOfMemory)
  pub refused_at_once : ((lines : List Line) → ¬ IsReport input lines) → (status ≡ code.Refused) ⊎ (status ≡ code.OutOfMemory)

-- The answer to words. Reading and writing never fail
pub record Answers (words : List (List ℕ)) (input output : List ℕ) (status : Status) : Type 0 where
  pub unknown : status ≡ code.Usage → (form : Form) → ¬ Ask words form
  pub usage : ((form : Form) → ¬ Ask words form) → status ≡ code.Usage
  pub nothing : WritesNothing status → output ≡ []
  pub reads : ¬ (status ≡ code.ReadFault)
  pub writes : ¬ (status ≡ code.WriteFault)
  pub done : status ≡ code.Done → IsDone words input output
  pub refused : status ≡ code.Refused → IsRefusal input output  -- the input is no report, and the output is the line that says where and why
  pub too_long : status ≡ code.TooLong → report_limit < length input
  pub complete : (frames : Frames) → Ask words (Draw frames) → length input ≤ report_limit → Completes input status
  pub shown : (flag : Flag) → Ask words (Show flag) → (status ≡ code.Done) × (output ≡ page_text flag)

-- the number of a status with which this output comes
pub record Says (words : List (List ℕ)) (input output : List ℕ) (number : ℕ) : Type 0 where
  pub status : Status
  pub is : number ≡ number_of status
  pub answers : Answers words input output status

-- what `robus_picture_call` answers
abbrev pub IsPictureAnswer : List ℕ → List ℕ → List ℕ → List ℕ → Answer → Type 0
IsPictureAnswer words input before after answer = IsAnswer Says words input before after answer
