-- Numbers, pairs and lists of numbers in a document.
use Rattle.std.specs.Prelude.{ℕ, pos, List, Bool, false, ◌&&◌, nat_le, Option, Some, None, option_and_then}
use Rattle.toml.specs.Data.{Data, integer, Members, get_member, at}
use Rattle.rb_scenario_document.specs.{Forms.{has_length, is_array_of}, Walk.{absent_or, passes}}

-- the value is an integer from low to high, both included
abbrev pub is_within : ℕ → ℕ → Data → Bool
is_within low high (integer (pos n)) = nat_le low n && nat_le n high
is_within low high _ = false

-- the key has such an integer
abbrev pub has_number : List ℕ → ℕ → ℕ → Members → Bool
has_number key low high t = passes (is_within low high) (get_member key t)

-- the key has such an integer, or is not there
abbrev pub may_have_number : List ℕ → ℕ → ℕ → Members → Bool
may_have_number key low high t = absent_or (is_within low high) (get_member key t)

-- the number that a value is, or else the default
abbrev pub number_or : ℕ → Option Data → ℕ
number_or default (Some (integer (pos n))) = n
number_or default _ = default

-- the number at a key, or the default if the key is not there
abbrev pub number_at : List ℕ → ℕ → Members → ℕ
number_at key default t = number_or default (get_member key t)

-- the two numbers of a pair
abbrev pub pair_of : Data → ℕ × ℕ
pair_of d = (number_or 0 (at 0 d), number_or 0 (at 1 d))

-- the value is a pair of numbers from low to high, and the first is at most the second
abbrev pub is_range : ℕ → ℕ → Data → Bool
is_range low high d =
    passes (is_within low high) (at 0 d) && passes (is_within low high) (at 1 d) && nat_le (pair_of d).0 (pair_of d).1

-- the key has such a pair
abbrev pub has_range : List ℕ → ℕ → ℕ → Members → Bool
has_range key low high t = passes (is_range low high) (get_member key t)

-- the key has such a pair, or is not there
abbrev pub may_have_range : List ℕ → ℕ → ℕ → Members → Bool
may_have_range key low high t = absent_or (is_range low high) (get_member key t)

abbrev pub range_or : ℕ × ℕ → Option Data → ℕ × ℕ
range_or default None = default
range_or default (Some d) = pair_of d

-- the pair at a key, or the default if the key is not there
abbrev pub range_at : List ℕ → ℕ × ℕ → Members → ℕ × ℕ
range_at key default t = range_or default (get_member key t)

-- the value is an array of `count` items, and each passes
abbrev pub is_list : ℕ → (Data → Bool) → Data → Bool
is_list count test d = has_length count d && is_array_of test d

-- the key has such an array, or is not there
abbrev pub may_have_list : List ℕ → ℕ → (Data → Bool) → Members → Bool
may_have_list key count test t = absent_or (is_list count test) (get_member key t)

-- what stands at place i of the array at a key
abbrev pub item_at : List ℕ → ℕ → Members → Option Data
item_at key i t = option_and_then (at i) (get_member key t)
