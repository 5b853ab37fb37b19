-- The majority of a list of values, where Fault counts as a value.
use Rattle.std.specs.Prelude.{ℕ, ◌*◌, ◌<◌, Bool, true, false, ◌==◌, List, [], ◌∷◌, length, nat_lt, if◌then◌else◌}
use Rattle.rb_base.specs.{declared.values.Heard.Heard, declared.values.Heard.TheVariants.{Word, Fault}, Counting.count_if}

-- the two values are equal
abbrev pub same_heard : Heard → Heard → Bool
same_heard (Word a) (Word b) = a == b
same_heard (Word a) Fault = false
same_heard Fault (Word b) = false
same_heard Fault Fault = true

-- how many of the values are this one
abbrev pub times : Heard → List Heard → ℕ
times value values = count_if (same_heard value) values

-- more than half of the values are this one
abbrev pub IsMajority : Heard → List Heard → Type 0
IsMajority value values = length values < 2 * times value values

-- the first of the candidates that more than half of the values equal, or Fault if there is none
abbrev pub winner_among : List Heard → List Heard → Heard
winner_among values [] = Fault
winner_among values (candidate ∷ others) =
    if nat_lt (length values) (2 * times candidate values) then candidate else winner_among values others

-- the value that more than half of the list have, or Fault if there is none
abbrev pub majority_of : List Heard → Heard
majority_of values = winner_among values values
