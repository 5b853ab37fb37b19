-- What words ask for.
use Rattle.std.specs.{Prelude.{⊤, ℕ, ◌≡◌, ◌^◌, ◌-◌, ◌<◌, ◌≤◌, List, [], ◌∷◌, map, String, string_bytes}, Fmt.decimal, declared.alloc.Global.Global}
use Rattle.rb_flags.specs.Flags.{flag_text}
use Rattle.rb_picture.specs.{declared.form.Form.Form, declared.form.Form.TheVariants.{Draw, Show}, declared.form.Frames.Frames, declared.form.Frames.TheVariants.{All, Between}}

-- the words of a form: of a picture of all frames none, of others the first and the last, and the
-- word of a flag
abbrev pub words_of : Form → List (List ℕ)
words_of (Draw All) = []
words_of (Draw (Between first last)) = decimal first ∷ decimal last ∷ []
words_of (Show flag) = flag_text flag ∷ []

-- numbers of 32 bits, in order
pub record AreInOrder (first last : ℕ) : Type 0 where
  pub ordered : first ≤ last
  pub fits : last < 2 ^ 32

abbrev pub IsInRange : Form → Type 0
IsInRange (Draw All) = ⊤
IsInRange (Draw (Between first last)) = AreInOrder first last
IsInRange (Show flag) = ⊤

-- the words are those of the form, whose numbers are in range
pub record Ask (words : List (List ℕ)) (form : Form) : Type 0 where
  pub same : words ≡ words_of form
  pub in_range : IsInRange form

-- the words ask for this, byte by byte
abbrev pub AskFor : List (String Global) → Form → Type 0
AskFor words form = Ask (map string_bytes words) form

-- the first frame that is drawn, and the last one
abbrev pub first_of : Frames → ℕ
first_of All = 0
first_of (Between first last) = first

abbrev pub last_of : Frames → ℕ
last_of All = 2 ^ 32 - 1
last_of (Between first last) = last
