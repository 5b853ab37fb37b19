-- The forms of words.
use Rattle.std.specs.{Prelude.{⊤, ℕ, ◌≡◌, ◌<◌, ◌≤◌, ◌^◌, true, List, [], ◌∷◌, length, map, codes, String, string_bytes, Option, Some, None, Result, Ok, Err, if◌then◌else◌}, Fmt.decimal, declared.alloc.Global.Global}
use Rattle.rb_scenario_document.specs.Names.{IsNumbered}
use Rattle.rb_report.specs.Report.{node_text}
use Rattle.hex.specs.Hex.{IsBytes, encode_lower}
use Rattle.rb_flags.specs.Flags.{flag_text}
use Rattle.rb_group.specs.{declared.voters.Which.Which, declared.voters.Which.TheVariants.{Most, Mid}}
use Rattle.rb_long.specs.Spelling.{is_length}
use Rattle.rb_top.specs.{declared.form.Form.Form, declared.form.Form.TheVariants.{Run, Check, Gen, Stress, Record, Replay, Spell, Letters, Group, Listen, Show}}

-- the word of a voter
abbrev pub voter_text : Which → List ℕ
voter_text Most = codes "most"
voter_text Mid = codes "mid"

-- the words of a form. A number is written in decimal, without sign and without leading zero, a
-- node as in a scenario, and a letter as two hexadecimal digits for each byte, in lower case
abbrev pub words_of : Form → List (List ℕ)
words_of Run = codes "run" ∷ []
words_of Check = codes "check" ∷ []
words_of (Gen seed frames) = codes "gen" ∷ decimal seed ∷ decimal frames ∷ []
words_of (Stress seed frames) = codes "stress" ∷ decimal seed ∷ decimal frames ∷ []
words_of (Record node) = codes "record" ∷ node_text node ∷ []
words_of Replay = codes "replay" ∷ []
words_of (Spell letter) = codes "spell" ∷ encode_lower letter.items ∷ []
words_of Letters = codes "letters" ∷ []
words_of (Group which members) = codes "group" ∷ voter_text which ∷ decimal members ∷ []
words_of (Listen skip) = codes "listen" ∷ decimal skip ∷ []
words_of (Show flag) = flag_text flag ∷ []

-- a seed, and a number of frames
pub record AreNumbers (seed frames : ℕ) : Type 0 where
  pub seed_fits : seed < 2 ^ 64
  pub some_frame : 1 ≤ frames
  pub most_frames : frames ≤ 4096

-- a letter has 1 to 255 bytes
pub record IsLetter (letter : List ℕ) : Type 0 where
  pub many : is_length (length letter) ≡ true
  pub all_bytes : IsBytes letter

-- the bytes that were read, if there are as many as a letter may have
abbrev pub letter_bytes : {E : Type 0} → Result (List ℕ) E → Option (List ℕ)
letter_bytes (Err e) = None
letter_bytes (Ok bytes) = if is_length (length bytes) then Some bytes else None

-- a mask of some of 16 members
pub record IsMask (members : ℕ) : Type 0 where
  pub some_member : 1 ≤ members
  pub mask_fits : members < 2 ^ 16

-- the form's numbers are in range, and its letter is one
abbrev pub IsInRange : Form → Type 0
IsInRange Run = ⊤
IsInRange Check = ⊤
IsInRange (Gen seed frames) = AreNumbers seed frames
IsInRange (Stress seed frames) = AreNumbers seed frames
IsInRange (Record node) = IsNumbered node
IsInRange Replay = ⊤
IsInRange (Spell letter) = IsLetter letter.items
IsInRange Letters = ⊤
IsInRange (Group which members) = IsMask members
IsInRange (Listen skip) = skip < 2 ^ 31
IsInRange (Show flag) = ⊤

-- the words, byte by byte, are those of the form, whose numbers and letter are in range
pub record AskFor (words : List (String Global)) (form : Form) : Type 0 where
  pub same : map string_bytes words ≡ words_of form
  pub in_range : IsInRange form
