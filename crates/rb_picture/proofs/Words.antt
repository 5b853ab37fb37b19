-- what words ask for
use Rattle.std.proofs.{Common.{◌≡◌, ◌≢◌, ◌∙◌, ℕ, List, String, ◌^◌, ◌<◌, [], ◌∷◌, arith, sym}, lemmas.Fmt.decimal_injective}
use Rattle.std.specs.{Fmt.decimal, declared.alloc.Global.Global}
use Rattle.rb_flags.specs.{declared.Flag.Flag, Flags.flag_text}
use Rattle.rb_picture.specs.{declared.form.Form.Form, declared.form.Form.TheVariants.{Draw, Show}, declared.form.Frames.Frames, declared.form.Frames.TheVariants.{All, Between}, Forms.{AskFor, IsInRange, words_of}}

-- two numbers that are not in order are the words for nothing
pub not_in_order : (m n : ℕ) → n < m → m < 2 ^ 32 → (form : Form) → IsInRange form → words_of form ≡ decimal m ∷ decimal n ∷ [] → ⊥
not_in_order m n less fits (Draw All) given is = cc
not_in_order m n less fits (Show flag) given is = cc
not_in_order m n less fits (Draw (Between a b)) given is =
    let first : decimal a ≡ decimal m = cc in
    let second : decimal b ≡ decimal n = cc in
    let a_is : a ≡ m = decimal_injective a m (omega (arith, given.ordered, given.fits)) (omega (arith, fits)) first in
    let b_is : b ≡ n = decimal_injective b n (omega (arith, given.fits)) (omega (arith, less, fits)) second in
    absurd (omega (arith, a_is, b_is, given.ordered, less))

-- a word that is no flag asks for nothing
pub no_flag : (word : List ℕ) → ((flag : Flag) → word ≢ flag_text flag) → (form : Form) → words_of form ≡ word ∷ [] → ⊥
no_flag word none (Draw All) is = cc
no_flag word none (Draw (Between a b)) is = cc
no_flag word none (Show flag) is = let same : word ≡ flag_text flag = cc in none flag same

-- words for frames are no flag
pub no_frames : (words : List (String Global)) (frames : Frames) (flag : Flag) → AskFor words (Draw frames) → ¬ AskFor words (Show flag)
no_frames words All flag draws shows = let same = sym draws.same ∙ shows.same in cc
no_frames words (Between a b) flag draws shows = let same = sym draws.same ∙ shows.same in cc
