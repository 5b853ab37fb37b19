-- The words of a call, and what they ask for.
use Rattle.std.specs.{Prelude.{ℕ, ◌≡◌, List, [], ◌∷◌, map, codes, String, string_bytes}, declared.alloc.Global.Global}
use Rattle.rb_flags.specs.Flags.{flag_text}
use Rattle.rb_bridge_top.specs.{declared.form.Form.Form, declared.form.Form.TheVariants.{Run, Show}}

-- the words of a form
abbrev pub words_of : Form → List (List ℕ)
words_of Run = codes "run" ∷ []
words_of (Show flag) = flag_text flag ∷ []

-- the words, byte by byte, are those of the form
abbrev pub AskFor : List (String Global) → Form → Type 0
AskFor words form = map string_bytes words ≡ words_of form
