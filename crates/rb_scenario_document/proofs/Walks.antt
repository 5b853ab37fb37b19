-- A document's keys and items, in the map and the list and in what they stand for.
use Rattle.std.proofs.{Common.{◌≡◌, ◌≤◌, ℕ, zero, suc, pos, negsuc, nat_le, le-leb, List, [], ◌∷◌, length, true, not, ◌||◌, Option, Some, None, String, Global, string_bytes, refl, ap, arith}, lemmas.Bool.{and_parts, leb-true}}
use Rattle.std.specs.{Prelude.option_and_then, List.list_any, Map.keys_of}
use Rattle.toml.specs.{Data.{Data, string, integer, float, boolean, datetime, array, table, Items, no_items, item, get_item, at}, View.{items_view, members_view}, declared.value.Value.Value}
use Rattle.rb_scenario_document.specs.{Fields.Entry, Forms.{has_unknown, is_known}, Values.{is_list, is_within, number_or}, Walk.{absent_or, every_item, length_of}}

pub has_unknown-view : (fields : List Entry) (es : List (String Global × Value))
    → list_any (λ k. not (is_known fields (string_bytes k))) (keys_of es) ≡ has_unknown fields (members_view es)
has_unknown-view fields [] = refl
has_unknown-view fields (e ∷ es) = ap (λ b. not (is_known fields (string_bytes e.0)) || b) (has_unknown-view fields es)

pub length_of-view : (vs : List Value) → length_of (items_view vs) ≡ length vs
length_of-view [] = refl
length_of-view (v ∷ vs) = let rest = length_of-view vs in omega arith

-- an integer within the bounds is at most the high one
number_or-within : (low high : ℕ) (d : Data) → is_within low high d ≡ true → nat_le (number_or 0 (Some d)) high ≡ true
number_or-within low high (integer (pos n)) h = (and_parts _ _ h).1
number_or-within low high (integer (negsuc n)) h = le-leb 0 high (omega arith)
number_or-within low high (string s) h = le-leb 0 high (omega arith)
number_or-within low high (float s) h = le-leb 0 high (omega arith)
number_or-within low high (boolean s) h = le-leb 0 high (omega arith)
number_or-within low high (datetime s) h = le-leb 0 high (omega arith)
number_or-within low high (array s) h = le-leb 0 high (omega arith)
number_or-within low high (table s) h = le-leb 0 high (omega arith)

get_item-within : (low high i : ℕ) (ds : Items) → every_item (is_within low high) ds ≡ true → nat_le (number_or 0 (get_item i ds)) high ≡ true
get_item-within low high i no_items h = le-leb 0 high (omega arith)
get_item-within low high zero (item d ds) h = number_or-within low high d (and_parts _ _ h).0
get_item-within low high (suc i) (item d ds) h = get_item-within low high i ds (and_parts _ _ h).1

list-within : (high count i : ℕ) (d : Data) → is_list count (is_within 0 high) d ≡ true → number_or 0 (at i d) ≤ high
list-within high count i (array ds) h = leb-true _ _ (get_item-within 0 high i ds (and_parts _ _ h).1)
list-within high count i (string s) h = omega arith
list-within high count i (integer s) h = omega arith
list-within high count i (float s) h = omega arith
list-within high count i (boolean s) h = omega arith
list-within high count i (datetime s) h = omega arith
list-within high count i (table s) h = omega arith

pub listed-within : (high count i : ℕ) (o : Option Data) → absent_or (is_list count (is_within 0 high)) o ≡ true → number_or 0 (option_and_then (at i) o) ≤ high
listed-within high count i None h = omega arith
listed-within high count i (Some d) h = list-within high count i d h
