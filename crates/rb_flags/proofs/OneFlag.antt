-- A word is one flag at most, and none if it does not begin with a hyphen.
use Rattle.std.proofs.Common.{◌≡◌, ◌<◌, ◌∙◌, ℕ, List, ap, arith, get_or, refl}
use Rattle.rb_flags.specs.{declared.Flag.Flag, declared.Flag.TheVariants.{Help, ShortHelp, Version}, Flags.flag_text}

pub one_flag : (a b : Flag) → flag_text a ≡ flag_text b → a ≡ b
one_flag Help Help e = refl
one_flag Help ShortHelp e = let letters : 45 ≡ 104 = ap (λ xs. get_or xs 1 0) e in absurd (omega (arith, letters))
one_flag Help Version e = let letters : 104 ≡ 118 = ap (λ xs. get_or xs 2 0) e in absurd (omega (arith, letters))
one_flag ShortHelp Help e = let letters : 104 ≡ 45 = ap (λ xs. get_or xs 1 0) e in absurd (omega (arith, letters))
one_flag ShortHelp ShortHelp e = refl
one_flag ShortHelp Version e = let letters : 104 ≡ 45 = ap (λ xs. get_or xs 1 0) e in absurd (omega (arith, letters))
one_flag Version Help e = let letters : 118 ≡ 104 = ap (λ xs. get_or xs 2 0) e in absurd (omega (arith, letters))
one_flag Version ShortHelp e = let letters : 45 ≡ 104 = ap (λ xs. get_or xs 1 0) e in absurd (omega (arith, letters))
one_flag Version Version e = refl

begins_with_hyphen : (flag : Flag) → get_or (flag_text flag) 0 0 ≡ 45
begins_with_hyphen Help = refl
begins_with_hyphen ShortHelp = refl
begins_with_hyphen Version = refl

pub no_flag : (flag : Flag) (word : List ℕ) → 45 < get_or word 0 0 → word ≡ flag_text flag → ⊥
no_flag flag word other e =
    let hyphen : get_or word 0 0 ≡ 45 = ap (λ w. get_or w 0 0) e ∙ begins_with_hyphen flag in
    absurd (omega (arith, hyphen, other))
