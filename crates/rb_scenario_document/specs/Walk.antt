-- Steps through a TOML document.
use Rattle.std.specs.Prelude.{ℕ, ◌+◌, List, [], ◌++◌, Bool, true, false, ◌&&◌, Option, Some, None, is_some, option_to_list}
use Rattle.toml.specs.Data.{Data, array, table, Items, no_items, item, Members, get_member, as_table}

-- there is a value at the key
abbrev pub has_key : List ℕ → Members → Bool
has_key key t = is_some (get_member key t)

-- the value is there and passes the test
abbrev pub passes : (Data → Bool) → Option Data → Bool
passes test None = false
passes test (Some d) = test d

-- the value is not there, or passes the test
abbrev pub absent_or : (Data → Bool) → Option Data → Bool
absent_or test None = true
absent_or test (Some d) = test d

-- the value is a table that passes the test
abbrev pub on_table : (Members → Bool) → Data → Bool
on_table test (table t) = test t
on_table test _ = false

-- each item passes the test
abbrev pub every_item : (Data → Bool) → Items → Bool
every_item test no_items = true
every_item test (item d ds) = test d && every_item test ds

-- how many items there are
abbrev pub length_of : Items → ℕ
length_of no_items = 0
length_of (item d ds) = 1 + length_of ds

-- the tables among the items
abbrev pub tables_in : Items → List Members
tables_in no_items = []
tables_in (item d ds) = option_to_list (as_table d) ++ tables_in ds

-- the entries of an array of tables; there are none in another value
abbrev pub entries_in : Option Data → List Members
entries_in (Some (array ds)) = tables_in ds
entries_in _ = []

-- the entries at a key
abbrev pub entries_at : List ℕ → Members → List Members
entries_at key t = entries_in (get_member key t)
