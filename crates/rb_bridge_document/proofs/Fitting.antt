-- A document that fits two lawful buses says a bridge.
use Rattle.std.proofs.{Common.{◌≡◌, ℕ, pos, negsuc, ◌<◌, ◌≤◌, ◌==◌, ◌&&◌, ◌||◌, nat_le, All, Bool, true, false, not, List, [], ◌∷◌, length, map, get_or, eqb, Option, Some, None, refl, sym, ap, ◌∙◌, arith}, lemmas.Bool.{and_from, and_parts, eq-eqb, eqb-true, leb-true, ltb-true}, lemmas.List.Elements.{All-cons, All-nil}, lemmas.Option.same_Some}
use Rattle.std.specs.List.{AllByRecursion, IsDistinct, list_any}
use Rattle.toml.specs.Data.{Data, string, integer, float, boolean, datetime, array, table, Items, no_items, item, Members, at, get_member}
use Rattle.rb_rules.specs.{Entries.IsListed, Goodness.Scenario, Lawful.IsLawful}
use Rattle.rb_scenario_document.specs.{Forms.{has_unknown, has_wrong, lacks}, Values.{number_at, number_or}, Walk.{every_item, length_of}}
use Rattle.rb_rules_bridge.specs.{declared.bank.Bank.Bank, declared.bank.Bank.TheVariants.{Left, Right}, declared.bank.Pair.Pair, Bridges.{Bridge, IsBridge, IsHead, biu_on, bus_on, slot_on}}
use Rattle.rb_bridge_document.specs.{Acceptance.AreListed, Documents.{are_apart, bridge_fields, bridge_of, has_bridge_form, has_slot, is_below, is_head, is_in_range, joins, pair_in, pair_items, pairs_in, slot_key, when}}

number-below : (count : ℕ) (o : Option Data) → is_below count o ≡ true → number_or 0 o < count
number-below count None h = cc
number-below count (Some (integer (pos n))) h = ltb-true n count h
number-below count (Some (integer (negsuc n))) h = cc
number-below count (Some (string s)) h = cc
number-below count (Some (float s)) h = cc
number-below count (Some (boolean s)) h = cc
number-below count (Some (datetime s)) h = cc
number-below count (Some (array s)) h = cc
number-below count (Some (table s)) h = cc

head-of : (sc : Scenario) (o : Option Data) → is_head sc o ≡ true → IsHead sc (number_or 0 o)
head-of sc o h =
    let both = and_parts (is_below sc.sizes.bius o) (get_or sc.apps (number_or 0 o) 0 == 0) h in
    record { inside = number-below sc.sizes.bius o both.0; table = eqb-true (get_or sc.apps (number_or 0 o) 0) 0 both.1 }

heads-left : (left right : Scenario) (ds : Items) → every_item (joins left right) ds ≡ true → All (λ pair. IsHead left (biu_on Left pair)) (pairs_in ds)
heads-left left right no_items h = All-nil (λ pair. IsHead left (biu_on Left pair))
heads-left left right (item d ds) h =
    let parts = and_parts (joins left right d) (every_item (joins left right) ds) h in
    let both = and_parts (is_head left (at 0 d)) (is_head right (at 1 d)) parts.0 in
    All-cons (λ pair. IsHead left (biu_on Left pair)) (pair_in d) (pairs_in ds) (head-of left (at 0 d) both.0) (heads-left left right ds parts.1)

heads-right : (left right : Scenario) (ds : Items) → every_item (joins left right) ds ≡ true → All (λ pair. IsHead right (biu_on Right pair)) (pairs_in ds)
heads-right left right no_items h = All-nil (λ pair. IsHead right (biu_on Right pair))
heads-right left right (item d ds) h =
    let parts = and_parts (joins left right d) (every_item (joins left right) ds) h in
    let both = and_parts (is_head left (at 0 d)) (is_head right (at 1 d)) parts.0 in
    All-cons (λ pair. IsHead right (biu_on Right pair)) (pair_in d) (pairs_in ds) (head-of right (at 1 d) both.1) (heads-right left right ds parts.1)

as-many : (ds : Items) → length (pairs_in ds) ≡ length_of ds
as-many no_items = refl
as-many (item d ds) = let rest = as-many ds in omega arith

not-any : (bank : Bank) (p : Pair) (ps : List Pair) → not (list_any (λ q. biu_on bank p == biu_on bank q) ps) ≡ true
    → AllByRecursion (λ y. eqb (biu_on bank p) y ≡ false) (map (biu_on bank) ps)
not-any bank p [] h = tt
not-any bank p (q ∷ qs) h =
    let parts = neither (biu_on bank p == biu_on bank q) (list_any (λ q. biu_on bank p == biu_on bank q) qs) h in
    (parts.0, not-any bank p qs parts.1)
  where
    neither : (a b : Bool) → not (a || b) ≡ true → (a ≡ false) × (not b ≡ true)
    neither true b h = cc
    neither false b h = (refl, h)

distinct : (bank : Bank) (ps : List Pair) → are_apart bank ps ≡ true → IsDistinct eqb (map (biu_on bank) ps)
unfolding IsDistinct
distinct bank [] h = tt
distinct bank (p ∷ ps) h =
    let parts = and_parts (not (list_any (λ q. biu_on bank p == biu_on bank q) ps)) (are_apart bank ps) h in
    (not-any bank p ps parts.0, distinct bank ps parts.1)

pub says-bridge : (left right : Scenario) (t : Members) → IsLawful left → IsLawful right → 1 ≤ length_of (pair_items t) → length_of (pair_items t) ≤ 16
    → is_in_range left right t ≡ true → IsBridge (bridge_of left right t)
says-bridge left right t lawful_left lawful_right some most range =
    let a = and_parts (every_item (joins left right) (pair_items t) && (are_apart Left pairs && are_apart Right pairs) && (has_slot Left left t && has_slot Right right t)) (left.frames == right.frames) range in
    let b = and_parts (every_item (joins left right) (pair_items t) && (are_apart Left pairs && are_apart Right pairs)) (has_slot Left left t && has_slot Right right t) a.0 in
    let c = and_parts (every_item (joins left right) (pair_items t)) (are_apart Left pairs && are_apart Right pairs) b.0 in
    let d = and_parts (are_apart Left pairs) (are_apart Right pairs) c.1 in
    let e = and_parts (has_slot Left left t) (has_slot Right right t) b.1 in
    let many : length pairs ≡ length_of (pair_items t) = as-many (pair_items t) in
    record {
      lawful = lawful;
      frames = eqb-true left.frames right.frames a.1;
      some_pair = omega (arith, many, some);
      most_pairs = omega (arith, many, most);
      heads = heads c.0;
      apart = aparts d.0 d.1;
      slots = slots e.0 e.1;
    }
  where
    pairs : List Pair
    pairs = pairs_in (pair_items t)

    bridge : Bridge
    bridge = bridge_of left right t

    lawful : (bank : Bank) → IsLawful (bus_on bridge bank)
    lawful Left = lawful_left
    lawful Right = lawful_right

    heads : every_item (joins left right) (pair_items t) ≡ true → (bank : Bank) → All (λ pair. IsHead (bus_on bridge bank) (biu_on bank pair)) pairs
    heads all Left = heads-left left right (pair_items t) all
    heads all Right = heads-right left right (pair_items t) all

    aparts : are_apart Left pairs ≡ true → are_apart Right pairs ≡ true → (bank : Bank) → IsDistinct eqb (map (biu_on bank) pairs)
    aparts l r Left = distinct Left pairs l
    aparts l r Right = distinct Right pairs r

    slots : has_slot Left left t ≡ true → has_slot Right right t ≡ true → (bank : Bank) → slot_on bridge bank < (bus_on bridge bank).sizes.data_slots
    slots l r Left = number-below left.sizes.data_slots (get_member (slot_key Left) t) l
    slots l r Right = number-below right.sizes.data_slots (get_member (slot_key Right) t) r

pub are-listed : (left right : Scenario) (t : Members) → IsListed left → IsListed right → AreListed (bridge_of left right t)
are-listed left right t listed_left listed_right Left = listed_left
are-listed left right t listed_left listed_right Right = listed_right

when-some : {X : Type 0} (b : Bool) (x y : X) → when b x ≡ Some y → (b ≡ true) × (x ≡ y)
when-some true x y e = (refl, same_Some x y e)
when-some false x y e = cc

-- two buses that are joined fit, and make the bridge that the document says
pub joined : (left right : Scenario) (t : Members) (pairs : List Pair) (l r : ℕ) → when (every_item (joins left right) (pair_items t)) (pairs_in (pair_items t)) ≡ Some pairs
    → are_apart Left pairs ≡ true → are_apart Right pairs ≡ true → when (has_slot Left left t) (number_at (slot_key Left) 0 t) ≡ Some l
    → when (has_slot Right right t) (number_at (slot_key Right) 0 t) ≡ Some r → left.frames ≡ right.frames
    → (is_in_range left right t ≡ true) × (record { left = left; right = right; pairs = pairs; left_slot = l; right_slot = r } ≡ bridge_of left right t)
joined left right t pairs l r all apart_left apart_right slot_left slot_right frames =
    let p = when-some (every_item (joins left right) (pair_items t)) (pairs_in (pair_items t)) pairs all in
    let s = when-some (has_slot Left left t) (number_at (slot_key Left) 0 t) l slot_left in
    let u = when-some (has_slot Right right t) (number_at (slot_key Right) 0 t) r slot_right in (
      and_from _ _ (and_from _ _ (and_from _ _ p.0 (and_from _ _ (ap (are_apart Left) p.1 ∙ apart_left) (ap (are_apart Right) p.1 ∙ apart_right))) (and_from _ _ s.0 u.0))
          (eq-eqb left.frames right.frames frames),
      λ i. record { left = left; right = right; pairs = sym p.1 i; left_slot = sym s.1 i; right_slot = sym u.1 i },
    )

-- a document of the right form has few pairs
pub few-pairs : (t : Members) → has_bridge_form t ≡ true → (1 ≤ length_of (pair_items t)) × (length_of (pair_items t) ≤ 16)
few-pairs t form =
    let all = and_parts (not (lacks bridge_fields t) && not (has_unknown bridge_fields t) && not (has_wrong bridge_fields t)) (nat_le 1 (length_of (pair_items t)) && nat_le (length_of (pair_items t)) 16) form in
    let few = and_parts (nat_le 1 (length_of (pair_items t))) (nat_le (length_of (pair_items t)) 16) all.1 in
    (leb-true 1 (length_of (pair_items t)) few.0, leb-true (length_of (pair_items t)) 16 few.1)
