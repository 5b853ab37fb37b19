-- The latest rule of a pair gives the delay at each place that it has.
use Rattle.std.proofs.{Common.{◌≡◌, ℕ, ◌+◌, ◌<◌, ◌≤◌, nat_le, Bool, true, false, cond, ◌&&◌, ◌==◌, length, List, [], ◌∷◌, ◌++◌, Option, Some, None, reverse, slice_get, get_or, refl, sym, ap, subst, inl, inr, ◌∙◌, arith, length-append}, Math.Seq.get_or-append_seam, lemmas.Bool.{cases_lt, eqb-true, le-leb}, lemmas.List.get_or_append_left, lemmas.Option.{get_or_from_slice_get, slice_get-get_or, slice_get_within}}
use Rattle.std.specs.List.{find}
use Rattle.rb_base.specs.{declared.node.NodeName.NodeName, declared.values.Place.Place}
use Rattle.rb_rules.specs.{declared.link.Rule.Rule, Links.{applies, covers, delay_after, is_in_range}}
use Rattle.rb_link.specs.{Pairs.{AreLatest, IsLatest, delay_or, is_between, receiver_of, rule_or_base, sender_of}, Rows.{PlaceFits, latest_has, rule_has}}
use Rattle.rb_link.proofs.LastRules.{last_of_all}

-- if the first rule that passes the first test passes the second, it is the first that passes both
find_both : (first second : Rule → Bool) (rules : List Rule) (r : Rule) → find first rules ≡ Some r → second r ≡ true
    → find (λ x. first x && second x) rules ≡ Some r
find_both first second [] r is both = let never : None ≡ Some r = is in absurd cc
find_both first second (x ∷ xs) r is both = go (first x) refl (λ e. find_both first second xs r e both)
  where
    go : (b : Bool) → first x ≡ b → (find first xs ≡ Some r → find (λ y. first y && second y) xs ≡ Some r) → find (λ y. first y && second y) (x ∷ xs) ≡ Some r
    go true e rest =
        let here : Some x ≡ Some r = sym (ap (λ b. cond b (Some x) (find first xs)) e) ∙ is in
        let same : x ≡ r = cc in
        let passes : second x ≡ true = ap second same ∙ both in
        ap (λ b. cond (b && second x) (Some x) (find (λ y. first y && second y) xs)) e
        ∙ ap (λ b. cond b (Some x) (find (λ y. first y && second y) xs)) passes ∙ here
    go false e rest =
        let later : find first xs ≡ Some r = sym (ap (λ b. cond b (Some x) (find first xs)) e) ∙ is in
        ap (λ b. cond (b && second x) (Some x) (find (λ y. first y && second y) xs)) e ∙ rest later

-- if nothing passes the first test, nothing passes both tests
find_neither : (first second : Rule → Bool) (rules : List Rule) → find first rules ≡ None → find (λ x. first x && second x) rules ≡ None
find_neither first second [] is = refl
find_neither first second (x ∷ xs) is = go (first x) refl (find_neither first second xs)
  where
    go : (b : Bool) → first x ≡ b → (find first xs ≡ None → find (λ y. first y && second y) xs ≡ None) → find (λ y. first y && second y) (x ∷ xs) ≡ None
    go true e rest =
        let never : Some x ≡ None = sym (ap (λ b. cond b (Some x) (find first xs)) e) ∙ is in absurd cc
    go false e rest =
        let later : find first xs ≡ None = sym (ap (λ b. cond b (Some x) (find first xs)) e) ∙ is in
        ap (λ b. cond (b && second x) (Some x) (find (λ y. first y && second y) xs)) e ∙ rest later

-- if the last rule for the pair covers the place, its delay is that of the messages
last_delay : (base : ℕ) (rules : List Rule) (from to : NodeName) (rule : Rule) (place : Place) → find (is_between from to) (reverse rules) ≡ Some rule
    → covers rule.frames rule.slots rule.stages place ≡ true → rule.delay ≡ delay_after base rules from to place
last_delay base rules from to rule place is has =
    let both : find (λ r. applies r from to place) (reverse rules) ≡ Some rule =
    find_both (is_between from to) (λ r. covers r.frames r.slots r.stages place) (reverse rules) rule is has in
    sym (ap (delay_or base) both) ∙ last_of_all base rules from to place

-- if no rule is for the pair, the base is the delay at each place
base_delay : (base : ℕ) (rules : List Rule) (from to : NodeName) (place : Place) → find (is_between from to) (reverse rules) ≡ None
    → base ≡ delay_after base rules from to place
base_delay base rules from to place is =
    let neither : find (λ r. applies r from to place) (reverse rules) ≡ None =
    find_neither (is_between from to) (λ r. covers r.frames r.slots r.stages place) (reverse rules) is in
    sym (ap (delay_or base) neither) ∙ last_of_all base rules from to place

-- at each place that the latest rule has, its delay is that of the messages
pub latest_delay_is : (base : ℕ) (rules : List Rule) (from to : NodeName) (rule : Rule) (place : Place) → IsLatest base rules from to rule
    → covers rule.frames rule.slots rule.stages place ≡ true → rule.delay ≡ delay_after base rules from to place
latest_delay_is base rules from to rule place is has = go (find (is_between from to) (reverse rules)) refl
  where
    go : (o : Option Rule) → find (is_between from to) (reverse rules) ≡ o → rule.delay ≡ delay_after base rules from to place
    go (Some r) e =
        let same : rule ≡ r = is ∙ ap (rule_or_base base from to) e in
        last_delay base rules from to rule place (e ∙ ap Some (sym same)) has
    go None e = ap (λ r. r.delay) (is ∙ ap (rule_or_base base from to) e) ∙ base_delay base rules from to place e

-- ---- the places that it has

in_all : (most n : ℕ) → n ≤ most → is_in_range (0, most) n ≡ true
in_all most n le = ap (λ b. b && nat_le n most) (le-leb 0 n (omega arith)) ∙ le-leb n most le

-- ranges up to the last frame, slot and stage cover each place
pub every_place : (frames slots stages : ℕ) (place : Place) → place.frame ≤ frames → place.slot ≤ slots → place.stage ≤ stages
    → covers (0, frames) (0, slots) (0, stages) place ≡ true
every_place frames slots stages place frame slot stage =
    ap (λ b. b && is_in_range (0, slots) place.slot && is_in_range (0, stages) place.stage) (in_all frames place.frame frame)
    ∙ ap (λ b. b && is_in_range (0, stages) place.stage) (in_all slots place.slot slot)
    ∙ in_all stages place.stage stage

pub latest_places_are : (base : ℕ) (rules : List Rule) (from to : NodeName) (rule : Rule) (place : Place) → IsLatest base rules from to rule
    → PlaceFits place → covers rule.frames rule.slots rule.stages place ≡ latest_has rules from to place
latest_places_are base rules from to rule place is fits =
    ap (λ r. covers r.frames r.slots r.stages place) is ∙ go (find (is_between from to) (reverse rules))
  where
    all : covers (0, 4294967295) (0, 65535) (0, 255) place ≡ true
    all = every_place 4294967295 65535 255 place (omega (arith, fits.frame)) (omega (arith, fits.slot)) (omega (arith, fits.stage))

    go : (o : Option Rule) → covers (rule_or_base base from to o).frames (rule_or_base base from to o).slots (rule_or_base base from to o).stages place ≡ rule_has o place
    go (Some r) = refl
    go None = all

-- ---- pair by pair

pub latest_at_none : (base : ℕ) (rules : List Rule) → AreLatest base rules []
latest_at_none base rules = record { each = λ pair rule at. let never : None ≡ Some rule = at in absurd cc }

-- the list of the latest rules goes on with that of one more pair
pub latest_more : (base pair : ℕ) (rules latest : List Rule) (from to : NodeName) (rule : Rule) → AreLatest base rules latest → length latest ≡ pair
    → from ≡ sender_of pair → to ≡ receiver_of pair → IsLatest base rules from to rule → AreLatest base rules (latest ++ rule ∷ [])
latest_more base pair rules latest from to rule are many sender receiver is = record { each = λ n r at. here n r at }
  where
    last : IsLatest base rules (sender_of pair) (receiver_of pair) rule
    last = subst (λ x. IsLatest base rules (sender_of pair) x rule) receiver (subst (λ x. IsLatest base rules x to rule) sender is)

    here : (n : ℕ) (r : Rule) → slice_get (latest ++ rule ∷ []) n ≡ Some r → IsLatest base rules (sender_of n) (receiver_of n) r
    here n r at =
        let within : n < length (latest ++ rule ∷ []) = slice_get_within (latest ++ rule ∷ []) n r at in
        let long : length (latest ++ rule ∷ []) ≡ length latest + 1 = length-append latest (rule ∷ []) in
        let read : get_or (latest ++ rule ∷ []) n r ≡ r = get_or_from_slice_get (latest ++ rule ∷ []) n r r at in
        elim (cases_lt n (length latest)) [
          | inl less ↦
              are.each n r (slice_get-get_or latest n r less ∙ ap Some (sym (get_or_append_left latest (rule ∷ []) r n less) ∙ read))
          | inr more ↦
              let e : n ≡ length latest = omega arith in
              let same : rule ≡ r = sym (get_or-append_seam latest rule [] r) ∙ ap (λ k. get_or (latest ++ rule ∷ []) k r) (sym e) ∙ read in
              let p : pair ≡ n = sym many ∙ sym e in
              subst (λ k. IsLatest base rules (sender_of k) (receiver_of k) r) p (subst (λ x. IsLatest base rules (sender_of pair) (receiver_of pair) x) same last)
        ]

-- if there are no rules, the base is the delay
pub base_alone : (base : ℕ) (rules : List Rule) (from to : NodeName) (place : Place) → rules ≡ [] → base ≡ delay_after base rules from to place
base_alone base rules from to place none = subst (λ rs. base ≡ delay_after base rs from to place) (sym none) refl

pub by_latest : (latest : List Rule) (pair : ℕ) (rule : Rule) (place : Place) → Some rule ≡ slice_get latest pair
    → covers rule.frames rule.slots rule.stages place ≡ true
    → (base : ℕ) → (rules : List Rule) → AreLatest base rules latest → rule.delay ≡ delay_after base rules (sender_of pair) (receiver_of pair) place
by_latest latest pair rule place at has base rules are =
    latest_delay_is base rules (sender_of pair) (receiver_of pair) rule place (are.each pair rule (sym at)) has

pub none_there : (rules : List Rule) (empty : Bool) → empty ≡ (length rules == 0) → empty ≡ true → rules ≡ []
none_there [] empty is e = refl
none_there (r ∷ rs) empty is e = let long : length (r ∷ rs) ≡ 0 = eqb-true (length (r ∷ rs)) 0 (sym is ∙ e) in absurd (omega arith)
