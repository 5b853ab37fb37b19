-- Nodes that are noted one after the other.
use Rattle.std.proofs.{Common.{◌≡◌, ◌<◌, ◌+◌, ℕ, List, [], ◌∷◌, ◌++◌, Bool, true, false, not, ◌&&◌, ◌||◌, eqb, All, Option, Some, None, inl, inr, refl, sym, ap, ◌∙◌, drop, length, get_or, codes}, Math.Bool.or-false, lemmas.Bool.{cases_eq, eq-eqb, ne_eqb}, lemmas.List.Elements.{All-cons, All-head, All-nil, All-tail, filter_map-append}}
use Rattle.std.specs.{List.{cons_option, filter_map, list_all, list_any}, Prelude.option_to_list}
use Rattle.toml.specs.{Data.{Data, Members, as_table}, View.{items_view, view}, declared.value.Value.Value}
use Rattle.rb_base.specs.{Nodes.{has, set_of}, Sizes.{IsShape, Sizes}, declared.node.NodeName.NodeName, declared.node.NodeName.TheVariants.{Biu, Rmu}}
use Rattle.rb_base.proofs.Sets.{has-set_of, has_none}
use Rattle.rb_rules.specs.Links.{same_node}
use Rattle.rb_scenario_document.specs.{Names.{IsNumbered, node_at}, Walk.tables_in}
use Rattle.rb_scenario_document.proofs.{Collecting.tables_in-drop, NameLemmas.node_at-IsNumbered}
use Rattle.rb_scenario_entries.specs.{declared.entries.Seen.Seen, Entries.{are_distinct, nodes_in}, Seen.{are_new, was_seen}}

eqb-swap : (a b : ℕ) → eqb a b ≡ eqb b a
eqb-swap a b = elim (cases_eq a b) [
  | inl e ↦ eq-eqb a b e ∙ sym (eq-eqb b a (sym e))
  | inr n ↦ ne_eqb a b n ∙ sym (ne_eqb b a (λ e. n (sym e)))
]

-- to note a BIU adds that BIU to what was seen
pub noted_biu : (seen : Seen) (t k : ℕ) (name : NodeName) → name ≡ Biu k → t ≡ set_of (λ i. has seen.biu i || eqb i k) → (n : NodeName) → IsNumbered n
    → was_seen (record { biu = t; rmu = seen.rmu }) n ≡ (was_seen seen n || same_node name n)
noted_biu seen t k name is e (Biu i) small =
    ap (λ m. has m i) e ∙ has-set_of i (λ i. has seen.biu i || eqb i k) small ∙ ap (λ b. has seen.biu i || b) (eqb-swap i k)
    ∙ ap (λ m. has seen.biu i || same_node m (Biu i)) (sym is)
noted_biu seen t k name is e (Rmu i) small = sym (or-false (has seen.rmu i)) ∙ ap (λ m. has seen.rmu i || same_node m (Rmu i)) (sym is)

pub noted_rmu : (seen : Seen) (t k : ℕ) (name : NodeName) → name ≡ Rmu k → t ≡ set_of (λ i. has seen.rmu i || eqb i k) → (n : NodeName) → IsNumbered n
    → was_seen (record { biu = seen.biu; rmu = t }) n ≡ (was_seen seen n || same_node name n)
noted_rmu seen t k name is e (Biu i) small = sym (or-false (has seen.biu i)) ∙ ap (λ m. has seen.biu i || same_node m (Biu i)) (sym is)
noted_rmu seen t k name is e (Rmu i) small =
    ap (λ m. has m i) e ∙ has-set_of i (λ i. has seen.rmu i || eqb i k) small ∙ ap (λ b. has seen.rmu i || b) (eqb-swap i k)
    ∙ ap (λ m. has seen.rmu i || same_node m (Rmu i)) (sym is)

de_morgan : (a b : Bool) → not (a || b) ≡ (not a && not b)
de_morgan true b = refl
de_morgan false b = refl

-- none of `names` was seen and none is `name`, if and only if none was seen with `name`
unseen_with : (seen seen' : Seen) (name : NodeName) → ((n : NodeName) → IsNumbered n → was_seen seen' n ≡ (was_seen seen n || same_node name n))
    → (names : List NodeName) → All IsNumbered names
    → list_all (λ n. not (was_seen seen' n)) names ≡ (list_all (λ n. not (was_seen seen n)) names && not (list_any (same_node name) names))
unseen_with seen seen' name h [] small = refl
unseen_with seen seen' name h (n ∷ ns) small =
    let here : not (was_seen seen' n) ≡ (not (was_seen seen n) && not (same_node name n)) = ap not (h n (All-head IsNumbered n ns small)) ∙ de_morgan _ _ in
    let later = unseen_with seen seen' name h ns (All-tail IsNumbered n ns small) in
    ap (λ b. b && list_all (λ n. not (was_seen seen' n)) ns) here
    ∙ ap (λ b. (not (was_seen seen n) && not (same_node name n)) && b) later
    ∙ shuffled (not (was_seen seen n)) (same_node name n) (list_all (λ n. not (was_seen seen n)) ns) (list_any (same_node name) ns)
  where
    shuffled : (a b c d : Bool) → ((a && not b) && (c && not d)) ≡ ((a && c) && not (b || d))
    shuffled true true true d = refl
    shuffled true true false d = refl
    shuffled true false c d = refl
    shuffled false b c d = refl

-- names are new if the first was not seen and the others are new with it
pub new-cons : (seen seen' : Seen) (name : NodeName) → ((n : NodeName) → IsNumbered n → was_seen seen' n ≡ (was_seen seen n || same_node name n))
    → (names : List NodeName) → All IsNumbered names → are_new seen (name ∷ names) ≡ (not (was_seen seen name) && are_new seen' names)
new-cons seen seen' name h names small =
    regrouped (not (was_seen seen name)) (list_all (λ n. not (was_seen seen n)) names) (not (list_any (same_node name) names)) (are_distinct names)
    ∙ ap (λ b. not (was_seen seen name) && (b && are_distinct names)) (sym (unseen_with seen seen' name h names small))
  where
    regrouped : (a b c d : Bool) → ((a && b) && (c && d)) ≡ (a && ((b && c) && d))
    regrouped true true c d = refl
    regrouped true false c d = refl
    regrouped false b c d = refl

-- if nothing was seen, names are new if and only if they are distinct
pub new-none : (names : List NodeName) → are_new (record { biu = 0; rmu = 0 }) names ≡ are_distinct names
new-none names = ap (λ b. b && are_distinct names) (all names)
  where
    unseen : (n : NodeName) → was_seen (record { biu = 0; rmu = 0 }) n ≡ false
    unseen (Biu i) = has_none i
    unseen (Rmu i) = has_none i

    all : (names : List NodeName) → list_all (λ n. not (was_seen (record { biu = 0; rmu = 0 }) n)) names ≡ true
    all [] = refl
    all (n ∷ ns) = ap (λ b. not b && list_all (λ n. not (was_seen (record { biu = 0; rmu = 0 }) n)) ns) (unseen n) ∙ all ns

pub new_at_first : (b r : ℕ) (names : List NodeName) → b ≡ 0 → r ≡ 0 → are_new (record { biu = b; rmu = r }) names ≡ are_distinct names
new_at_first b r names b0 r0 =
    ap (λ m. are_new (record { biu = m; rmu = r }) names) b0 ∙ ap (λ m. are_new (record { biu = 0; rmu = m }) names) r0 ∙ new-none names

-- the nodes that entries are for have numbers below 16
all_numbered : (f : Members → Option NodeName) → ((e : Members) (n : NodeName) → f e ≡ Some n → IsNumbered n) → (es : List Members) → All IsNumbered (filter_map f es)
all_numbered f h [] = All-nil IsNumbered
all_numbered f h (e ∷ es) =
    let go : (o : Option NodeName) → f e ≡ o → All IsNumbered (cons_option o (filter_map f es)) = λ o. elim o as (λ o. f e ≡ o → All IsNumbered (cons_option o (filter_map f es))) [
      | None ↦ λ is. all_numbered f h es
      | Some n ↦ λ is. All-cons IsNumbered n (filter_map f es) (h e n is) (all_numbered f h es)
    ] in go (f e) refl

pub nodes_in-IsNumbered : (sizes : Sizes) → IsShape sizes → (es : List Members) → All IsNumbered (nodes_in sizes es)
nodes_in-IsNumbered sizes shape es =
    all_numbered (λ e. node_at sizes (codes "node") e) (λ e n is. node_at-IsNumbered sizes shape.most_bius shape.most_rmus (codes "node") e n is) es

-- names with one more entry are new if the entry names a new node and the others are new with it
pub are_new-more : (sizes : Sizes) → IsShape sizes → (vs : List Value) (i : ℕ) (v : Value) (seen seen' : Seen) (r : Bool) → i < length vs → v ≡ get_or vs i v
    → ((names : List NodeName) → All IsNumbered names → are_new seen (nodes_in sizes (option_to_list (as_table (view v))) ++ names) ≡ (r && are_new seen' names))
    → are_new seen (nodes_in sizes (tables_in (items_view (drop i vs)))) ≡ (r && are_new seen' (nodes_in sizes (tables_in (items_view (drop (i + 1) vs)))))
are_new-more sizes shape vs i v seen seen' r h is told =
    ap (λ ts. are_new seen (nodes_in sizes ts)) (tables_in-drop vs i v h is)
    ∙ ap (are_new seen) (filter_map-append (λ e. node_at sizes (codes "node") e) (option_to_list (as_table (view v))) (tables_in (items_view (drop (i + 1) vs))))
    ∙ told (nodes_in sizes (tables_in (items_view (drop (i + 1) vs)))) (nodes_in-IsNumbered sizes shape (tables_in (items_view (drop (i + 1) vs))))

-- the nodes of an entry that names one are new if that node is, and the others are with it
pub are_new-entry : (sizes : Sizes) (d : Data) (e : Members) (name : NodeName) (seen seen' : Seen) (r : Bool)
    → Some e ≡ as_table d → Some name ≡ node_at sizes (codes "node") e → r ≡ not (was_seen seen name)
    → ((n : NodeName) → IsNumbered n → was_seen seen' n ≡ (was_seen seen n || same_node name n))
    → (names : List NodeName) → All IsNumbered names → are_new seen (nodes_in sizes (option_to_list (as_table d)) ++ names) ≡ (r && are_new seen' names)
are_new-entry sizes d e name seen seen' r table named new noted names small =
    ap (λ o. are_new seen (nodes_in sizes (option_to_list o) ++ names)) (sym table)
    ∙ ap (λ o. are_new seen (cons_option o [] ++ names)) (sym named)
    ∙ new-cons seen seen' name noted names small
    ∙ ap (λ b. b && are_new seen' names) (sym new)
