-- What the document of a bridge says: the texts of two scenarios, pairs of BIUs, and which data
-- slot of each bus is carried over.
use Rattle.std.specs.{Prelude.{ℕ, pos, ◌==◌, nat_le, nat_lt, Bool, true, false, not, ◌&&◌, List, [], ◌∷◌, Option, Some, None, codes, get_or, if◌then◌else◌}, List.list_any}
use Rattle.toml.specs.Data.{Data, string, integer, array, Items, no_items, item, Members, at, get_member}
use Rattle.rb_rules.specs.Goodness.{Scenario}
use Rattle.rb_scenario_document.specs.{declared.fields.Form.TheVariants.{Integer, Text, Pairs}, Fields.Entry, Forms.{has_unknown, has_wrong, lacks}, Values.{number_at, number_or, pair_of}, Walk.{every_item, length_of}}
use Rattle.rb_rules_bridge.specs.{declared.bank.Bank.Bank, declared.bank.Bank.TheVariants.{Left, Right}, declared.bank.Pair.Pair, Bridges.{Bridge, biu_on}}

-- Keys and forms.

-- the document has these keys and no others
unfoldable pub bridge_fields : List Entry
bridge_fields =
    record { key = codes "left"; needed = true; form = Text }
    ∷ record { key = codes "right"; needed = true; form = Text }
    ∷ record { key = codes "bridges"; needed = true; form = Pairs }
    ∷ record { key = codes "slot_left"; needed = true; form = Integer }
    ∷ record { key = codes "slot_right"; needed = true; form = Integer }
    ∷ []

-- the items at a key; there are none in another value than an array
abbrev pub items_in : Option Data → Items
items_in (Some (array ds)) = ds
items_in _ = no_items

abbrev pub pair_items : Members → Items
pair_items t = items_in (get_member (codes "bridges") t)

-- each key is there, each value is of its form, and there are 1 to 16 pairs
abbrev pub has_bridge_form : Members → Bool
has_bridge_form t =
    not (lacks bridge_fields t) && not (has_unknown bridge_fields t) && not (has_wrong bridge_fields t)
    && (nat_le 1 (length_of (pair_items t)) && nat_le (length_of (pair_items t)) 16)

-- What it says.

-- the text that a value is
abbrev pub text_in : Option Data → List ℕ
text_in (Some (string text)) = text
text_in _ = []

abbrev pub text_at : List ℕ → Members → List ℕ
text_at key t = text_in (get_member key t)

abbrev pub pair_in : Data → Pair
pair_in d = record { left = (pair_of d).0; right = (pair_of d).1 }

abbrev pub pairs_in : Items → List Pair
pairs_in no_items = []
pairs_in (item d ds) = pair_in d ∷ pairs_in ds

-- the key of each bus's slot
abbrev pub slot_key : Bank → List ℕ
slot_key Left = codes "slot_left"
slot_key Right = codes "slot_right"

-- the bridge of two buses that it says
abbrev pub bridge_of : Scenario → Scenario → Members → Bridge
bridge_of left right t = record {
  left = left;
  right = right;
  pairs = pairs_in (pair_items t);
  left_slot = number_at (slot_key Left) 0 t;
  right_slot = number_at (slot_key Right) 0 t;
}

-- Ranges.

-- the item, if the test holds
abbrev pub when : {X : Type 0} → Bool → X → Option X
when test x = if test then Some x else None

-- the value is an integer from 0 on, below a number
abbrev pub is_below : ℕ → Option Data → Bool
is_below count (Some (integer (pos n))) = nat_lt n count
is_below count _ = false

-- the number is that of a BIU whose application is a table
abbrev pub is_head : Scenario → Option Data → Bool
is_head sc d = is_below sc.sizes.bius d && (get_or sc.apps (number_or 0 d) 0 == 0)

-- the value is a pair of a BIU of `left` and one of `right`, whose applications are tables
abbrev pub joins : Scenario → Scenario → Data → Bool
joins left right d = is_head left (at 0 d) && is_head right (at 1 d)

-- no two pairs share a BIU on a bank
abbrev pub are_apart : Bank → List Pair → Bool
are_apart bank [] = true
are_apart bank (p ∷ ps) = not (list_any (λ q. biu_on bank p == biu_on bank q) ps) && are_apart bank ps

-- the bus has the slot that is carried over
abbrev pub has_slot : Bank → Scenario → Members → Bool
has_slot bank sc t = is_below sc.sizes.data_slots (get_member (slot_key bank) t)

-- the pairs and the slots of document t fit the buses `left` and `right`
abbrev pub is_in_range : Scenario → Scenario → Members → Bool
is_in_range left right t =
    every_item (joins left right) (pair_items t)
    && (are_apart Left (pairs_in (pair_items t)) && are_apart Right (pairs_in (pair_items t)))
    && (has_slot Left left t && has_slot Right right t)
    && (left.frames == right.frames)
