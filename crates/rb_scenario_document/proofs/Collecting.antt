-- Loops over the entries of an array of tables.
use Rattle.std.proofs.{Common.{◌≡◌, ◌<◌, ◌+◌, ℕ, suc, List, [], ◌∷◌, ◌++◌, length, map, drop, get_or, Bool, true, Option, Some, sym, ap, ◌∙◌, subst, append_assoc, add-one, drop-cons}, lemmas.Bool.and_parts, lemmas.List.Folds.list_all-append}
use Rattle.std.specs.{Prelude.option_to_list, List.list_all}
use Rattle.toml.specs.{Data.{Data, Members, as_table}, View.{items_view, view}, declared.value.Value.Value}
use Rattle.rb_scenario_document.specs.Walk.{tables_in}

map-append : {X Y : Type 0} (f : X → Y) (xs ys : List X) → map f (xs ++ ys) ≡ map f xs ++ map f ys
map-append f [] ys = ap (λ zs. zs) (λ i. map f ys)
map-append f (x ∷ xs) ys = ap (λ zs. f x ∷ zs) (map-append f xs ys)

-- the tables that are left are that of the first value, if it is one, and those after it
pub tables_in-drop : (vs : List Value) (i : ℕ) (v : Value) → i < length vs → v ≡ get_or vs i v
    → tables_in (items_view (drop i vs)) ≡ option_to_list (as_table (view v)) ++ tables_in (items_view (drop (i + 1) vs))
tables_in-drop vs i v h is =
    ap (λ xs. tables_in (items_view xs)) (drop-cons vs i v h)
    ∙ ap (λ w. option_to_list (as_table (view w)) ++ tables_in (items_view (drop (suc i) vs))) (sym is)
    ∙ ap (λ j. option_to_list (as_table (view v)) ++ tables_in (items_view (drop j vs))) (sym (add-one i))

-- what was gathered of the values before, with what is left to gather, is all
pub gather_more : {X : Type 0} (f : Members → X) (vs : List Value) (i : ℕ) (v : Value) (xs ys all : List X) → i < length vs → v ≡ get_or vs i v
    → ys ≡ xs ++ map f (option_to_list (as_table (view v))) → xs ++ map f (tables_in (items_view (drop i vs))) ≡ all
    → ys ++ map f (tables_in (items_view (drop (i + 1) vs))) ≡ all
gather_more f vs i v xs ys all h is taken before =
    ap (λ zs. zs ++ map f (tables_in (items_view (drop (i + 1) vs)))) taken
    ∙ append_assoc xs (map f (option_to_list (as_table (view v)))) (map f (tables_in (items_view (drop (i + 1) vs))))
    ∙ ap (λ zs. xs ++ zs) (sym (map-append f (option_to_list (as_table (view v))) (tables_in (items_view (drop (i + 1) vs)))))
    ∙ ap (λ ts. xs ++ map f ts) (sym (tables_in-drop vs i v h is))
    ∙ before

-- what holds for all entries that are left holds for the first one and for those after it
pub left_more : (p : Members → Bool) (vs : List Value) (i : ℕ) (v : Value) → i < length vs → v ≡ get_or vs i v
    → list_all p (tables_in (items_view (drop i vs))) ≡ true
    → (list_all p (option_to_list (as_table (view v))) ≡ true) × (list_all p (tables_in (items_view (drop (i + 1) vs))) ≡ true)
left_more p vs i v h is all =
    and_parts _ _ (sym (list_all-append p (option_to_list (as_table (view v))) (tables_in (items_view (drop (i + 1) vs))))
    ∙ ap (list_all p) (sym (tables_in-drop vs i v h is)) ∙ all)

-- an entry that passes by itself
pub one_entry : (p : Members → Bool) (d : Data) (t : Members) → Some t ≡ as_table d → list_all p (option_to_list (as_table d)) ≡ true → p t ≡ true
one_entry p d t e h =
    let P : Option Members → Type 0 = λ o. list_all p (option_to_list o) ≡ true in
    (and_parts (p t) true (subst P (sym e) h)).0
