-- The middle of a list of stamps.
use Rattle.std.specs.Prelude.{ℕ, ◌-◌, ◌*◌, ◌/◌, ◌<◌, ◌≤◌, List, [], ◌∷◌, length, nat_lt, nat_le, if◌then◌else◌, Option, slice_get}
use Rattle.rb_base.specs.Counting.{count_if}

-- the ascending list with `new` inserted in order
abbrev pub put : ℕ → List ℕ → List ℕ
put new [] = new ∷ []
put new (stamp ∷ stamps) = if nat_le new stamp then new ∷ (stamp ∷ stamps) else stamp ∷ put new stamps

-- the stamps in ascending order
abbrev pub ascending : List ℕ → List ℕ
ascending [] = []
ascending (stamp ∷ stamps) = put stamp (ascending stamps)

-- the item at place (n - 1) / 2, rounded down, of the n stamps in ascending order, counted from 0;
-- none if there is no stamp
abbrev pub middle_of : List ℕ → Option ℕ
middle_of stamps = slice_get (ascending stamps) ((length stamps - 1) / 2)

-- how many of the stamps are below a number
abbrev pub below : ℕ → List ℕ → ℕ
below m stamps = count_if (λ stamp. nat_lt stamp m) stamps

-- how many of the stamps are at most a number
abbrev pub up_to : ℕ → List ℕ → ℕ
up_to m stamps = count_if (λ stamp. nat_le stamp m) stamps

-- the middle by counts: fewer than half of the stamps are below it, and at least half are at most
-- as great
pub record IsMiddle (m : ℕ) (stamps : List ℕ) : Type 0 where
  pub few_below : 2 * below m stamps < length stamps
  pub half_up_to : length stamps ≤ 2 * up_to m stamps
