-- The rules on keys and forms: each is looked at over the whole document.
use Rattle.std.specs.{Prelude.{ℕ, List, Bool, true, false, not, ◌&&◌, ◌||◌, ◌==◌, codes}, List.list_any, Str.bytes_eq}
use Rattle.toml.specs.Data.{Data, string, integer, boolean, array, table, Members, no_members, member, get_member}
use Rattle.rb_scenario_document.specs.{declared.fields.Form.Form, declared.fields.Form.TheVariants.{Integer, Text, Flag, Pair, Table, Integers, Texts, Pairs, Tables}, Fields.{Entry, root_fields, plan_fields, clock_fields, link_fields, fault_fields, say_fields}, Walk.{absent_or, entries_at, every_item, has_key, length_of, on_table, passes}}

abbrev pub is_integer : Data → Bool
is_integer (integer z) = true
is_integer _ = false

abbrev pub is_text : Data → Bool
is_text (string s) = true
is_text _ = false

abbrev pub is_flag : Data → Bool
is_flag (boolean b) = true
is_flag _ = false

abbrev pub is_table : Data → Bool
is_table (table t) = true
is_table _ = false

-- an array of items that pass
abbrev pub is_array_of : (Data → Bool) → Data → Bool
is_array_of test (array ds) = every_item test ds
is_array_of test _ = false

-- the value is an array of `count` items
abbrev pub has_length : ℕ → Data → Bool
has_length count (array ds) = length_of ds == count
has_length count _ = false

-- two integers
abbrev pub is_pair : Data → Bool
is_pair d = is_array_of is_integer d && has_length 2 d

-- the value is of the form
abbrev pub has_form : Form → Data → Bool
has_form Integer d = is_integer d
has_form Text d = is_text d
has_form Flag d = is_flag d
has_form Pair d = is_pair d
has_form Table d = is_table d
has_form Integers d = is_array_of is_integer d
has_form Texts d = is_array_of is_text d
has_form Pairs d = is_array_of is_pair d
has_form Tables d = is_array_of is_table d

-- a field that must be there is not
abbrev pub lacks : List Entry → Members → Bool
lacks fields t = list_any (λ f. f.needed && not (has_key f.key t)) fields

-- the key is of one of the fields
abbrev pub is_known : List Entry → List ℕ → Bool
is_known fields key = list_any (λ f. bytes_eq key f.key) fields

-- some key is of none of the fields
abbrev pub has_unknown : List Entry → Members → Bool
has_unknown fields no_members = false
has_unknown fields (member key d ms) = not (is_known fields key) || has_unknown fields ms

-- the value of some field is of another form
abbrev pub has_wrong : List Entry → Members → Bool
has_wrong fields t = list_any (λ f. not (absent_or (has_form f.form) (get_member f.key t))) fields

-- a rule on one table is broken at some entry. An entry that is no table is passed over
abbrev pub in_entries : (List Entry → Members → Bool) → Members → Bool
in_entries breaks t =
    list_any (breaks clock_fields) (entries_at (codes "clock") t)
    || list_any (breaks link_fields) (entries_at (codes "link") t)
    || list_any (breaks fault_fields) (entries_at (codes "fault") t)
    || list_any (breaks say_fields) (entries_at (codes "say") t)

-- the rule is broken at the root, at the plan or at some entry
abbrev pub somewhere : (List Entry → Members → Bool) → Members → Bool
somewhere breaks t =
    breaks root_fields t || passes (on_table (breaks plan_fields)) (get_member (codes "plan") t) || in_entries breaks t

-- a say entry says something: a word, Fault, a call to resynchronize, or raw bytes
abbrev pub says_something : Members → Bool
says_something e =
    has_key (codes "word") e || has_key (codes "fault") e || has_key (codes "sync") e || has_key (codes "raw") e

-- the three rules
unfoldable pub lacks_key : Members → Bool
lacks_key t = somewhere lacks t || list_any (λ e. not (says_something e)) (entries_at (codes "say") t)

unfoldable pub has_unknown_key : Members → Bool
has_unknown_key t = somewhere has_unknown t

unfoldable pub has_wrong_form : Members → Bool
has_wrong_form t = somewhere has_wrong t
