-- The index: the places of the rules of each pair, pair by pair, and where those of each pair
-- begin.
use Rattle.std.proofs.{Common.{◌≡◌, ℕ, zero, suc, ◌+◌, ◌-◌, ◌/◌, ◌%◌, ◌<◌, nat_lt, ◌&&◌, if◌then◌else◌, length, get_or, take, Bool, true, false, cond, List, [], ◌∷◌, ◌++◌, Option, Some, None, reverse, filter, slice_get, refl, sym, ap, subst, inl, inr, ◌∙◌, add-one, append_assoc, arith, length-append, length-take-le}, Math.Seq.{drop-append_seam, get_or-append_seam, take-append_seam}, lemmas.Bool.Decides.nat_tests, lemmas.List.{append-nil, get_or_append_left, reverse-append, take_more}, lemmas.Bool.cases_lt, lemmas.List.Elements.{filter-append, filter_map-append}, lemmas.List.Folds.find-append, lemmas.Option.slice_get-get_or}
use Rattle.std.specs.{List.{cons_option, filter_map, find, slice_index, slice_range}, Option.option_or}
use Rattle.rb_base.specs.{declared.node.NodeName.NodeName, declared.node.NodeName.TheVariants.{Biu, Rmu}, declared.values.Place.Place}
use Rattle.rb_rules.specs.{declared.link.Rule.Rule, Links.{covers, delay_after, stands_for}}
use Rattle.rb_link.specs.Pairs.{IsIndex, delay_or, is_between, is_from, is_to, places_for, places_from, places_of, places_sent, receiver_of, sender_of}
use Rattle.rb_link.proofs.LastRules.{last_of_pair}

-- ---- places

places_from-append : (n : ℕ) (p : Rule → Bool) (xs ys : List Rule)
    → places_from n p (xs ++ ys) ≡ places_from n p xs ++ places_from (n + length xs) p ys
places_from-append n p [] ys = ap (λ m. places_from m p ys) (omega arith)
places_from-append n p (x ∷ xs) ys =
    let later : places_from (n + 1) p (xs ++ ys) ≡ places_from (n + 1) p xs ++ places_from (n + suc (length xs)) p ys =
    places_from-append (n + 1) p xs ys ∙ ap (λ m. places_from (n + 1) p xs ++ places_from m p ys) (omega arith) in
    elim (p x) as (λ b. cond b (n ∷ places_from (n + 1) p (xs ++ ys)) (places_from (n + 1) p (xs ++ ys))
    ≡ cond b (n ∷ places_from (n + 1) p xs) (places_from (n + 1) p xs) ++ places_from (n + suc (length xs)) p ys) [
      | true ↦ ap (λ l. n ∷ l) later
      | false ↦ later
    ]

length_take : (xs : List Rule) (i : ℕ) → i < length xs → length (take i xs) ≡ i
length_take xs i lt = length-take-le i xs (omega arith)

-- one more rule adds its place if it passes
pub places_from-more : (p : Rule → Bool) (xs : List Rule) (i : ℕ) (d : Rule) → i < length xs
    → places_from 0 p (take (i + 1) xs) ≡ places_from 0 p (take i xs) ++ cond (p (get_or xs i d)) (i ∷ []) []
places_from-more p xs i d lt =
    let many : length (take i xs) ≡ i = length_take xs i lt in
    ap (places_from 0 p) (take_more xs i d lt)
    ∙ places_from-append 0 p (take i xs) (get_or xs i d ∷ [])
    ∙ ap (λ m. places_from 0 p (take i xs) ++ cond (p (get_or xs i d)) (m ∷ []) []) (omega (arith, many))

-- ---- the rules at these places

rule_at_seam : (before rest : List Rule) (r : Rule) → slice_get (before ++ r ∷ rest) (length before) ≡ Some r
rule_at_seam before rest r =
    slice_get-get_or (before ++ r ∷ rest) (length before) r (omega (arith, length-append before (r ∷ rest))) ∙ ap Some (get_or-append_seam before r rest r)

read_from : (before rest : List Rule) (p : Rule → Bool)
    → filter_map (slice_get (before ++ rest)) (places_from (length before) p rest) ≡ filter p rest
read_from before [] p = refl
read_from before (r ∷ rest) p =
    let joined : (before ++ r ∷ []) ++ rest ≡ before ++ r ∷ rest = append_assoc before (r ∷ []) rest in
    let many : length (before ++ r ∷ []) ≡ length before + 1 = omega (arith, length-append before (r ∷ [])) in
    let later : filter_map (slice_get (before ++ r ∷ rest)) (places_from (length before + 1) p rest) ≡ filter p rest =
    subst (λ m. filter_map (slice_get (before ++ r ∷ rest)) (places_from m p rest) ≡ filter p rest) many
    (subst (λ l. filter_map (slice_get l) (places_from (length (before ++ r ∷ [])) p rest) ≡ filter p rest) joined (read_from (before ++ r ∷ []) rest p)) in
    elim (p r) as (λ b. filter_map (slice_get (before ++ r ∷ rest)) (cond b (length before ∷ places_from (length before + 1) p rest) (places_from (length before + 1) p rest))
    ≡ cond b (r ∷ filter p rest) (filter p rest)) [
      | true ↦ ap (λ o. cons_option o (filter_map (slice_get (before ++ r ∷ rest)) (places_from (length before + 1) p rest))) (rule_at_seam before rest r)
          ∙ ap (λ l. r ∷ l) later
      | false ↦ later
    ]

filter_map-reverse : {X Y : Type 0} (h : X → Option Y) (xs : List X) → filter_map h (reverse xs) ≡ reverse (filter_map h xs)
filter_map-reverse h [] = refl
filter_map-reverse {X} {Y} h (x ∷ xs) =
    let one : (o : Option Y) → reverse (filter_map h xs) ++ cons_option o [] ≡ reverse (cons_option o (filter_map h xs)) =
    λ o. elim o as (λ o. reverse (filter_map h xs) ++ cons_option o [] ≡ reverse (cons_option o (filter_map h xs))) [
      | Some y ↦ sym (reverse-append (y ∷ []) (filter_map h xs))
      | None ↦ append-nil (reverse (filter_map h xs))
    ] in
    ap (filter_map h) (reverse-append (x ∷ []) xs)
    ∙ filter_map-append h (reverse xs) (x ∷ [])
    ∙ ap (λ l. l ++ cons_option (h x) []) (filter_map-reverse h xs)
    ∙ one (h x)

-- ---- pair by pair

-- the places of the rules of the first n pairs
unfoldable pub places_below : ℕ → List Rule → List ℕ
places_below zero rules = []
places_below (suc n) rules = places_below n rules ++ places_for n rules

-- the number of places before those of each of the first `n` pairs
unfoldable pub starts_below : ℕ → List Rule → List ℕ
starts_below zero rules = []
starts_below (suc n) rules = starts_below n rules ++ length (places_below n rules) ∷ []

-- one more rule was looked at, and its place added if it passes
pub one_more : (all : List ℕ) (p : Rule → Bool) (xs : List Rule) (i : ℕ) (d : Rule) (passes : Bool) → i < length xs
    → all ≡ places_from 0 p (take i xs) → passes ≡ p (get_or xs i d) → all ++ cond passes (i ∷ []) [] ≡ places_from 0 p (take (i + 1) xs)
one_more all p xs i d passes lt is by =
    ap (λ l. l ++ cond passes (i ∷ []) []) is
    ∙ ap (λ b. places_from 0 p (take i xs) ++ cond b (i ∷ []) []) by
    ∙ sym (places_from-more p xs i d lt)

-- one more number was looked at, and kept if it passes
pub one_kept : (before all : List ℕ) (p : ℕ → Bool) (xs : List ℕ) (i : ℕ) (passes : Bool) → i < length xs
    → all ≡ before ++ filter p (take i xs) → passes ≡ p (get_or xs i 0)
    → all ++ cond passes (get_or xs i 0 ∷ []) [] ≡ before ++ filter p (take (i + 1) xs)
one_kept before all p xs i passes lt is by =
    ap (λ l. l ++ cond passes (get_or xs i 0 ∷ []) []) is
    ∙ append_assoc before (filter p (take i xs)) (cond passes (get_or xs i 0 ∷ []) [])
    ∙ ap (λ b. before ++ (filter p (take i xs) ++ cond b (get_or xs i 0 ∷ []) [])) by
    ∙ ap (λ l. before ++ l) (sym (ap (filter p) (take_more xs i 0 lt) ∙ filter-append p (take i xs) (get_or xs i 0 ∷ [])))

-- the rules of a pair are those of its sender that are for messages to its receiver
kept_of_sent : (before rest : List Rule) (from to : NodeName)
    → filter (λ n. is_to to (slice_get (before ++ rest) n)) (places_from (length before) (is_from from) rest) ≡ places_from (length before) (is_between from to) rest
kept_of_sent before [] from to = refl
kept_of_sent before (r ∷ rest) from to =
    let joined : (before ++ r ∷ []) ++ rest ≡ before ++ r ∷ rest = append_assoc before (r ∷ []) rest in
    let many : length (before ++ r ∷ []) ≡ length before + 1 = omega (arith, length-append before (r ∷ [])) in
    let passes : ℕ → Bool = λ n. is_to to (slice_get (before ++ r ∷ rest) n) in
    let later : filter passes (places_from (length before + 1) (is_from from) rest) ≡ places_from (length before + 1) (is_between from to) rest =
    subst (λ m. filter passes (places_from m (is_from from) rest) ≡ places_from m (is_between from to) rest) many
    (subst (λ l. filter (λ n. is_to to (slice_get l n)) (places_from (length (before ++ r ∷ [])) (is_from from) rest)
    ≡ places_from (length (before ++ r ∷ [])) (is_between from to) rest) joined (kept_of_sent (before ++ r ∷ []) rest from to)) in
    elim (stands_for r.from from) as (λ b. filter passes (cond b (length before ∷ places_from (length before + 1) (is_from from) rest) (places_from (length before + 1) (is_from from) rest))
    ≡ cond (b && stands_for r.to to) (length before ∷ places_from (length before + 1) (is_between from to) rest) (places_from (length before + 1) (is_between from to) rest)) [
      | true ↦ ap (λ o. cond (is_to to o) (length before ∷ filter passes (places_from (length before + 1) (is_from from) rest)) (filter passes (places_from (length before + 1) (is_from from) rest)))
          (rule_at_seam before rest r)
          ∙ ap (λ l. cond (stands_for r.to to) (length before ∷ l) l) later
      | false ↦ later
    ]

-- two pairs of one sender
sender_stays : (pair : ℕ) → ((pair + 1) % 16 ≡ 0 → ⊥) → sender_of (pair + 1) ≡ sender_of pair
sender_stays pair more =
    let same : (pair + 1) / 16 ≡ pair / 16 = omega arith in
    let tests : nat_lt (pair + 1) 256 ≡ nat_lt pair 256 = grind (arith, nat_tests) in
    ap (λ n. if nat_lt (pair + 1) 256 then Biu n else Rmu (n - 16)) same ∙ ap (λ b. if b then Biu (pair / 16) else Rmu (pair / 16 - 16)) tests

pub sent_stays : (pair : ℕ) (rules : List Rule) (sent : List ℕ) → sent ≡ places_sent pair rules → ((pair + 1) % 16 ≡ 0 → ⊥)
    → sent ≡ places_sent (pair + 1) rules
unfolding places_sent
sent_stays pair rules sent is more = is ∙ ap (λ from. places_from 0 (is_from from) rules) (sym (sender_stays pair more))

-- the places of the first `n` pairs are the first of those of more pairs
rest_below : (n more : ℕ) (rules : List Rule) → (rest : List ℕ) × (places_below (n + more) rules ≡ places_below n rules ++ rest)
unfolding places_below
rest_below n zero rules =
    let same : n + zero ≡ n = omega arith in
    ([], ap (λ m. places_below m rules) same ∙ sym (append-nil (places_below n rules)))
rest_below n (suc more) rules =
    let before = rest_below n more rules in
    let next : n + suc more ≡ suc (n + more) = omega arith in (
      before.0 ++ places_for (n + more) rules,
      ap (λ m. places_below m rules) next
          ∙ ap (λ l. l ++ places_for (n + more) rules) before.1
          ∙ append_assoc (places_below n rules) before.0 (places_for (n + more) rules),
    )

length-starts : (n : ℕ) (rules : List Rule) → length (starts_below n rules) ≡ n
unfolding starts_below
length-starts zero rules = refl
length-starts (suc n) rules =
    let before = length-starts n rules in
    length-append (starts_below n rules) (length (places_below n rules) ∷ []) ∙ omega (arith, before)

starts_at : (n k : ℕ) (rules : List Rule) → k < n → slice_index (starts_below n rules) k ≡ length (places_below k rules)
unfolding starts_below
starts_at zero k rules lt = absurd (omega arith)
starts_at (suc n) k rules lt =
    let many = length-starts n rules in
    elim (cases_lt k n) [
      | inl less ↦
          get_or_append_left (starts_below n rules) (length (places_below n rules) ∷ []) 0 k (omega (arith, many))
          ∙ starts_at n k rules less
      | inr ge ↦
          let last : k ≡ n = omega arith in
          let seam : get_or (starts_below n rules ++ length (places_below n rules) ∷ []) (length (starts_below n rules)) 0 ≡ length (places_below n rules) =
          get_or-append_seam (starts_below n rules) (length (places_below n rules)) [] 0 in
          ap (λ i. get_or (starts_below n rules ++ length (places_below n rules) ∷ []) i 0) (last ∙ sym many)
          ∙ seam
          ∙ ap (λ i. length (places_below i rules)) (sym last)
    ]

-- the part between the first one and the rest is the middle one
between : (first here rest : List ℕ) → slice_range (first ++ (here ++ rest)) (length first) (length (first ++ here)) ≡ here
between first here rest =
    let many : length (first ++ here) - length first ≡ length here = omega (arith, length-append first here) in
    ap (take (length (first ++ here) - length first)) (drop-append_seam first (here ++ rest))
    ∙ ap (λ n. take n (here ++ rest)) many
    ∙ take-append_seam here rest

below-suc : (n : ℕ) (rules : List Rule) → places_below (suc n) rules ≡ places_below n rules ++ places_for n rules
unfolding places_below
below-suc n rules = refl

pub index_below : (n : ℕ) (rules : List Rule) → IsIndex rules (starts_below (suc n) rules) (places_below n rules)
index_below n rules = record {
  each = λ pair lt.
      let inside : pair < n = omega (arith, length-starts (suc n) rules) in
      let start : slice_index (starts_below (suc n) rules) pair ≡ length (places_below pair rules) = starts_at (suc n) pair rules (omega arith) in
      let end : slice_index (starts_below (suc n) rules) (pair + 1) ≡ length (places_below (suc pair) rules) =
      starts_at (suc n) (pair + 1) rules (omega arith) ∙ ap (λ m. length (places_below m rules)) (add-one pair) in
      let later = rest_below (suc pair) (n - suc pair) rules in
      let rest_is : n ≡ suc pair + (n - suc pair) = omega arith in
      let all : places_below n rules ≡ places_below (suc pair) rules ++ later.0 =
      ap (λ m. places_below m rules) rest_is ∙ later.1 in
      let parts : places_below (suc pair) rules ≡ places_below pair rules ++ places_for pair rules = below-suc pair rules in
      let whole : places_below n rules ≡ places_below pair rules ++ (places_for pair rules ++ later.0) =
      all ∙ ap (λ l. l ++ later.0) parts ∙ append_assoc (places_below pair rules) (places_for pair rules) later.0 in
      ap (λ l. slice_range l (slice_index (starts_below (suc n) rules) pair) (slice_index (starts_below (suc n) rules) (pair + 1))) whole
      ∙ ap (λ i. slice_range (places_below pair rules ++ (places_for pair rules ++ later.0)) i (slice_index (starts_below (suc n) rules) (pair + 1))) start
      ∙ ap (λ i. slice_range (places_below pair rules ++ (places_for pair rules ++ later.0)) (length (places_below pair rules)) i) (end ∙ ap length parts)
      ∙ between (places_below pair rules) (places_for pair rules) later.0;
}

places_for-is : (pair : ℕ) (rules : List Rule) (from to : NodeName) → sender_of pair ≡ from → receiver_of pair ≡ to
    → places_for pair rules ≡ places_from 0 (is_between from to) rules
unfolding places_for
places_for-is pair rules from to sender receiver =
    ap (λ n. places_from 0 (is_between n (receiver_of pair)) rules) sender ∙ ap (λ n. places_from 0 (is_between from n) rules) receiver

-- one more pair has its start and its places
pub one_start_more : (n : ℕ) (rules : List Rule) (starts places : List ℕ) → starts ≡ starts_below n rules → places ≡ places_below n rules
    → starts ++ length places ∷ [] ≡ starts_below (n + 1) rules
unfolding starts_below
one_start_more n rules starts places is there =
    ap (λ l. l ++ length places ∷ []) is
    ∙ ap (λ l. starts_below n rules ++ length l ∷ []) there
    ∙ ap (λ m. starts_below m rules) (sym (add-one n))

pub its_places_more : (n : ℕ) (rules : List Rule) (places sent : List ℕ) (to : NodeName) → places ≡ places_below n rules
    → sent ≡ places_sent n rules → to ≡ receiver_of n → places ++ filter (λ number. is_to to (slice_get rules number)) sent ≡ places_below (n + 1) rules
unfolding places_sent
its_places_more n rules places sent to there is receiver =
    ap (λ l. places ++ filter (λ number. is_to to (slice_get rules number)) l) is
    ∙ ap (λ l. places ++ l) (kept_of_sent [] rules (sender_of n) to)
    ∙ ap (λ l. l ++ places_from 0 (is_between (sender_of n) to) rules) there
    ∙ ap (λ l. places_below n rules ++ l) (sym (places_for-is n rules (sender_of n) to refl (sym receiver)))
    ∙ sym (below-suc n rules)
    ∙ ap (λ m. places_below m rules) (sym (add-one n))

-- with the number of all places after the last start the index is whole
pub index_whole : (n : ℕ) (rules : List Rule) (starts places : List ℕ) → starts ≡ starts_below n rules → places ≡ places_below n rules
    → IsIndex rules (starts ++ length places ∷ []) places
index_whole n rules starts places is there =
    let all : starts ++ length places ∷ [] ≡ starts_below (suc n) rules =
    one_start_more n rules starts places is there ∙ ap (λ m. starts_below m rules) (add-one n) in
    subst (λ l. IsIndex rules (starts ++ length places ∷ []) l) (sym there)
    (subst (λ l. IsIndex rules l (places_below n rules)) (sym all) (index_below n rules))

-- an index with no starts is of no pairs
pub index_of_none : (rules : List Rule) → IsIndex rules [] []
index_of_none rules = record { each = λ pair lt. absurd (omega arith) }

-- the numbers of the pair are those of its rules
its_rules : (pair : ℕ) (rules : List Rule) (starts places found : List ℕ) (from to : NodeName) → IsIndex rules starts places → pair + 1 < length starts
    → found ≡ places_of starts places pair → sender_of pair ≡ from → receiver_of pair ≡ to
    → filter_map (slice_get rules) (reverse found) ≡ reverse (filter (is_between from to) rules)
its_rules pair rules starts places found from to index within is sender receiver =
    let passes : Rule → Bool = is_between from to in
    let same : found ≡ places_from 0 passes rules = is ∙ index.each pair within ∙ places_for-is pair rules from to sender receiver in
    ap (λ l. filter_map (slice_get rules) (reverse l)) same
    ∙ filter_map-reverse (slice_get rules) (places_from 0 passes rules)
    ∙ ap reverse (read_from [] rules passes)

-- the last rule among those of the pair is the last that applies
pub last_by_index : (base pair : ℕ) (rules : List Rule) (starts places found : List ℕ) (from to : NodeName) (place : Place)
    → IsIndex rules starts places → pair + 1 < length starts → found ≡ places_of starts places pair
    → sender_of pair ≡ from → receiver_of pair ≡ to
    → delay_or base (find (λ rule. covers rule.frames rule.slots rule.stages place) (filter_map (slice_get rules) (reverse found)))
    ≡ delay_after base rules from to place
last_by_index base pair rules starts places found from to place index within is sender receiver =
    ap (λ l. delay_or base (find (λ rule. covers rule.frames rule.slots rule.stages place) l))
    (its_rules pair rules starts places found from to index within is sender receiver)
    ∙ last_of_pair base rules from to place

or_none : (o : Option Rule) → option_or o None ≡ o
or_none (Some r) = refl
or_none None = refl

-- the last rule that passes is the last of those that pass
last_kept : (p : Rule → Bool) (rules : List Rule) → find (λ _. true) (reverse (filter p rules)) ≡ find p (reverse rules)
last_kept p [] = refl
last_kept p (r ∷ rs) =
    let found : find p (reverse (r ∷ rs)) ≡ option_or (find p (reverse rs)) (cond (p r) (Some r) None) =
    ap (find p) (reverse-append (r ∷ []) rs) ∙ find-append p (reverse rs) (r ∷ []) in
    elim (p r) as (λ b. find (λ _. true) (reverse (cond b (r ∷ filter p rs) (filter p rs))) ≡ option_or (find p (reverse rs)) (cond b (Some r) None)) [
      | true ↦ ap (find (λ _. true)) (reverse-append (r ∷ []) (filter p rs))
          ∙ find-append (λ _. true) (reverse (filter p rs)) (r ∷ [])
          ∙ ap (λ o. option_or o (Some r)) (last_kept p rs)
      | false ↦ last_kept p rs ∙ sym (or_none (find p (reverse rs)))
    ]
    ∙ sym found

-- the last rule by the numbers of the pair is the last rule of the pair
pub latest_by_index : (pair : ℕ) (rules : List Rule) (starts places found : List ℕ) → IsIndex rules starts places → pair + 1 < length starts
    → found ≡ places_of starts places pair
    → find (λ _. true) (filter_map (slice_get rules) (reverse found)) ≡ find (is_between (sender_of pair) (receiver_of pair)) (reverse rules)
latest_by_index pair rules starts places found index within is =
    ap (find (λ _. true)) (its_rules pair rules starts places found (sender_of pair) (receiver_of pair) index within is refl refl)
    ∙ last_kept (is_between (sender_of pair) (receiver_of pair)) rules
