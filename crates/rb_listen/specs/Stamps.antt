-- The stamps in a lesson do not run ahead.
use Rattle.std.specs.Prelude.{ℕ, ◌≤◌, ◌^◌, List, get_or}
use Rattle.rb_rules.specs.{declared.sense.Sense.Sense, declared.sense.Sense.TheVariants.{Silent, One, Bad}}

-- the stamp of the message, if it is one, is at most 2^31
abbrev pub IsSoonSense : Sense → Type 0
IsSoonSense Silent = Unit {0}
IsSoonSense (One at m) = at ≤ 2 ^ 31
IsSoonSense Bad = Unit {0}

unfoldable pub AreSoon : List Sense → Type 0
AreSoon records = (k : ℕ) → IsSoonSense (get_or records k Silent)
