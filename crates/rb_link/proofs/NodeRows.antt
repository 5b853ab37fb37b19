-- The rows of delays: if a place is in a sender's ranges, each of its latest rules has it.
use Rattle.std.proofs.{Common.{◌≡◌, ℕ, zero, suc, add-one, max, min, ◌*◌, ◌+◌, ◌-◌, ◌<◌, ◌≤◌, ◌/◌, ◌%◌, nat_le, nat_lt, Bool, true, false, ◌&&◌, if◌then◌else◌, length, List, [], ◌∷◌, ◌++◌, Option, Some, None, drop, take, map, slice_get, get_or, refl, sym, ap, subst, inl, inr, ◌∙◌, arith, length-append}, Math.Seq.get_or-append_seam, lemmas.Bool.{and_from, and_parts, cases_lt, le-leb, le-ltb, leb-true, lt-ltb}, lemmas.List.{get_or_append_left, length-map}, lemmas.Option.{get_or_from_slice_get, slice_get-get_or, slice_get_within}, lemmas.List.Edits.length-between}
use Rattle.std.specs.List.{slice_range}
use Rattle.rb_base.specs.{Nodes.other, declared.node.NodeName.NodeName, declared.node.NodeName.TheVariants.{Biu, Rmu}, declared.values.Place.Place}
use Rattle.rb_base.proofs.Plain.{same_bool}
use Rattle.rb_rules.specs.{declared.link.Rule.Rule, Lawful.kind_of, Links.{DelayRules, covers, is_in_range, name_of}}
use Rattle.rb_link.specs.{Pairs.{AreLatest, receiver_of, sender_of}, Rows.{AreRows, AreShared, PlaceFits, IsRowOf, IsSender, IsShared, all_below, all_latest_have, delay_of_rule, has_row, is_numbered, latest_has, rule_has}, declared.rows.Ranges.Ranges}
use Rattle.rb_link.proofs.Latest.{every_place, latest_delay_is, latest_places_are}

-- ---- tests

below-more : (n : ℕ) (passes : ℕ → Bool) → all_below (n + 1) passes ≡ (all_below n passes && passes n)
unfolding all_below
below-more n passes = ap (λ m. all_below m passes) (add-one n)

below-same : (n : ℕ) (p q : ℕ → Bool) → ((i : ℕ) → i < n → p i ≡ q i) → all_below n p ≡ all_below n q
unfolding all_below
below-same zero p q same = refl
below-same (suc n) p q same =
    ap (λ b. b && p n) (below-same n p q (λ i less. same i (omega (arith, less)))) ∙ ap (λ b. all_below n q && b) (same n (omega arith))

below_at : (n : ℕ) (passes : ℕ → Bool) (i : ℕ) → all_below n passes ≡ true → i < n → passes i ≡ true
unfolding all_below
below_at zero passes i all less = absurd (omega arith)
below_at (suc n) passes i all less =
    let parts = and_parts (all_below n passes) (passes n) all in
    elim (cases_lt i n) [
      | inl earlier ↦ below_at n passes i parts.0 earlier
      | inr later ↦ let last : i ≡ n = omega (arith, less, later) in ap passes last ∙ parts.1
    ]

below_none : (passes : ℕ → Bool) → all_below 0 passes ≡ true
unfolding all_below
below_none passes = refl

-- ---- ranges

pub in_both : (low low2 high high2 least most n : ℕ) → least ≡ max low low2 → most ≡ min high high2
    → is_in_range (least, most) n ≡ (is_in_range (low, high) n && is_in_range (low2, high2) n)
in_both low low2 high high2 least most n least_is most_is = same_bool _ _ there back
  where
    inside : (a b : ℕ) → a ≤ n → n ≤ b → is_in_range (a, b) n ≡ true
    inside a b from to = and_from (nat_le a n) (nat_le n b) (le-leb a n from) (le-leb n b to)

    parts : (a b : ℕ) → is_in_range (a, b) n ≡ true → (a ≤ n) × (n ≤ b)
    parts a b is = let both = and_parts (nat_le a n) (nat_le n b) is in (leb-true a n both.0, leb-true n b both.1)

    there : is_in_range (least, most) n ≡ true → (is_in_range (low, high) n && is_in_range (low2, high2) n) ≡ true
    there is =
        let both = parts least most is in
        and_from (is_in_range (low, high) n) (is_in_range (low2, high2) n)
        (inside low high (omega (arith, both.0, least_is)) (omega (arith, both.1, most_is)))
        (inside low2 high2 (omega (arith, both.0, least_is)) (omega (arith, both.1, most_is)))

    back : (is_in_range (low, high) n && is_in_range (low2, high2) n) ≡ true → is_in_range (least, most) n ≡ true
    back is =
        let both = and_parts (is_in_range (low, high) n) (is_in_range (low2, high2) n) is in
        let one = parts low high both.0 in
        let other = parts low2 high2 both.1 in
        inside least most (omega (arith, one.0, other.0, least_is)) (omega (arith, one.1, other.1, most_is))

regrouped : (a b c d e f : Bool) → ((a && d) && (b && e) && (c && f)) ≡ ((a && b && c) && (d && e && f))
regrouped true true true d e f = refl
regrouped true true false true true f = refl
regrouped true true false true false f = refl
regrouped true true false false e f = refl
regrouped true false c true e f = refl
regrouped true false c false e f = refl
regrouped false b c d e f = refl

pub covers_both : (f g h s t u a b c : ℕ × ℕ) (place : Place)
    → ((n : ℕ) → is_in_range f n ≡ (is_in_range g n && is_in_range h n))
    → ((n : ℕ) → is_in_range s n ≡ (is_in_range t n && is_in_range u n))
    → ((n : ℕ) → is_in_range a n ≡ (is_in_range b n && is_in_range c n))
    → covers f s a place ≡ (covers g t b place && covers h u c place)
covers_both f g h s t u a b c place frames slots stages =
    ap (λ x. x && is_in_range s place.slot && is_in_range a place.stage) (frames place.frame)
    ∙ ap (λ x. (is_in_range g place.frame && is_in_range h place.frame) && x && is_in_range a place.stage) (slots place.slot)
    ∙ ap (λ x. (is_in_range g place.frame && is_in_range h place.frame) && (is_in_range t place.slot && is_in_range u place.slot) && x) (stages place.stage)
    ∙ regrouped (is_in_range g place.frame) (is_in_range t place.slot) (is_in_range b place.stage)
    (is_in_range h place.frame) (is_in_range u place.slot) (is_in_range c place.stage)

pub covers_alone : (f s a : ℕ × ℕ) (place : Place) → covers f s a place ≡ (covers f s a place && true)
covers_alone f s a place = elim (covers f s a place) as (λ b. b ≡ (b && true)) [ true ↦ refl | false ↦ refl ]

pub ruleset narrowing = (covers_both, covers_alone)

-- ---- senders

pub biu_sender : (i : ℕ) → i < 16 → IsSender i (Biu i)
biu_sender i few j less =
    let first : nat_lt (16 * i + j) 256 ≡ true = lt-ltb (16 * i + j) 256 (omega (arith, few, less)) in
    let high : (16 * i + j) / 16 ≡ i = omega (arith, less) in
    let low : (16 * i + j) % 16 ≡ j = omega (arith, less) in (
      ap (λ b. if b then Biu ((16 * i + j) / 16) else Rmu ((16 * i + j) / 16 - 16)) first ∙ ap Biu high,
      ap (λ b. if b then Rmu ((16 * i + j) % 16) else Biu ((16 * i + j) % 16)) first ∙ ap Rmu low,
    )

pub rmu_sender : (i : ℕ) → i < 16 → IsSender (16 + i) (Rmu i)
rmu_sender i few j less =
    let n : ℕ = 16 * (16 + i) + j in
    let second : nat_lt n 256 ≡ false = le-ltb n 256 (omega arith) in
    let high : n / 16 - 16 ≡ i = omega (arith, less) in
    let low : n % 16 ≡ j = omega (arith, less) in (
      ap (λ b. if b then Biu (n / 16) else Rmu (n / 16 - 16)) second ∙ ap Rmu high,
      ap (λ b. if b then Rmu (n % 16) else Biu (n % 16)) second ∙ ap Biu low,
    )

pub ruleset senders = (biu_sender, rmu_sender)

-- ---- rows

delay_at : (latest : List Rule) (n delay : ℕ) → slice_get (map delay_of_rule latest) n ≡ Some delay
    → (rule : Rule) × (slice_get latest n ≡ Some rule) × (delay ≡ rule.delay)
delay_at [] n delay at = let never : None ≡ Some delay = at in absurd cc
delay_at (r ∷ rs) zero delay at = let same : Some r.delay ≡ Some delay = at in (r, refl, cc)
delay_at (r ∷ rs) (suc n) delay at = delay_at rs n delay at

at_within : (latest : List Rule) (n : ℕ) → n < length latest → (rule : Rule) × (slice_get latest n ≡ Some rule)
at_within [] n less = absurd (omega arith)
at_within (r ∷ rs) zero less = (r, refl)
at_within (r ∷ rs) (suc n) less = at_within rs n (omega (arith, less))

pub rows_of : (base : ℕ) (rules latest : List Rule) (shared : List Ranges) (flat : List ℕ) → AreLatest base rules latest → AreShared latest shared
    → length latest ≡ 512 → length shared ≡ 32 → flat ≡ map delay_of_rule latest → AreRows base rules shared flat
rows_of base rules latest shared flat are share pairs senders is = record {
  senders = senders;
  pairs = ap length is ∙ length-map latest delay_of_rule ∙ pairs;
  kept = λ sender ranges place fits at.
      let few : sender < length shared = slice_get_within shared sender ranges at in
      share.each sender ranges at place fits
      ∙ below-same 16 _ _ (λ i less. one sender i place fits (omega (arith, few, senders)) less);
  each = λ sender i ranges delay place fits few at has here.
      let n : ℕ = 16 * sender + i in
      let found = delay_at latest n delay (ap (λ l. slice_get l n) (sym is) ∙ here) in
      let all : all_below 16 (λ k. rule_has (slice_get latest (16 * sender + k)) place) ≡ true = sym (share.each sender ranges at place fits) ∙ has in
      let its : rule_has (slice_get latest n) place ≡ true = below_at 16 (λ k. rule_has (slice_get latest (16 * sender + k)) place) i all few in
      found.2
      ∙ latest_delay_is base rules (sender_of n) (receiver_of n) found.0 place (are.each n found.0 found.1)
      (sym (ap (λ o. rule_has o place) found.1) ∙ its);
}
  where
    one : (sender i : ℕ) (place : Place) → PlaceFits place → sender < 32 → i < 16
        → rule_has (slice_get latest (16 * sender + i)) place ≡ latest_has rules (sender_of (16 * sender + i)) (receiver_of (16 * sender + i)) place
    one sender i place fits few less =
        let n : ℕ = 16 * sender + i in
        let within : n < length latest = omega (arith, few, less, pairs) in
        let found = at_within latest n within in
        ap (λ o. rule_has o place) found.1
        ∙ latest_places_are base rules (sender_of n) (receiver_of n) found.0 place (are.each n found.0 found.1) fits

at_drop : (xs : List ℕ) (n i : ℕ) → slice_get (drop n xs) i ≡ slice_get xs (n + i)
at_drop xs zero i = let e : 0 + i ≡ i = omega arith in ap (slice_get xs) (sym e)
at_drop [] (suc n) i = refl
at_drop (x ∷ xs) (suc n) i =
    let e : suc n + i ≡ suc (n + i) = omega arith in at_drop xs n i ∙ ap (slice_get (x ∷ xs)) (sym e)

at_take : (xs : List ℕ) (k i x : ℕ) → slice_get (take k xs) i ≡ Some x → (i < k) × (slice_get xs i ≡ Some x)
at_take xs zero i x at = let never : None ≡ Some x = at in absurd cc
at_take [] (suc k) i x at = let never : None ≡ Some x = at in absurd cc
at_take (y ∷ xs) (suc k) zero x at = (omega arith, at)
at_take (y ∷ xs) (suc k) (suc i) x at = let rest = at_take xs k i x at in (omega (arith, rest.0), rest.1)

at_sixteen : (xs : List ℕ) (first i x : ℕ) → slice_get (slice_range xs first (first + 16)) i ≡ Some x → (i < 16) × (slice_get xs (first + i) ≡ Some x)
at_sixteen xs first i x at =
    let many : first + 16 - first ≡ 16 = omega arith in
    let here : slice_get (take 16 (drop first xs)) i ≡ Some x = ap (λ k. slice_get (take k (drop first xs)) i) (sym many) ∙ at in
    let parts = at_take (drop first xs) 16 i x here in
    (parts.0, sym (at_drop xs first i) ∙ parts.1)

pub row_of_sixteen : (base : ℕ) (rules : List Rule) (shared : List Ranges) (flat row : List ℕ) (sender : ℕ) (place : Place) (ranges : Ranges)
    → AreRows base rules shared flat → PlaceFits place → Some ranges ≡ slice_get shared sender → covers ranges.frames ranges.slots ranges.stages place ≡ true
    → row ≡ slice_range flat (16 * sender) (16 * sender + 16) → IsRowOf base rules sender place row
row_of_sixteen base rules shared flat row sender place ranges are fits at has is i delay here =
    let found = at_sixteen flat (16 * sender) i delay (ap (λ l. slice_get l i) (sym is) ∙ here) in
    (found.0, are.each sender i ranges delay place fits found.0 (sym at) has found.1)

pub empty_row : (base : ℕ) (rules : List Rule) (sender : ℕ) (place : Place) → IsRowOf base rules sender place []
empty_row base rules sender place i delay at = let never : None ≡ Some delay = at in absurd cc

pub ruleset row_found = (empty_row)

-- the row of a sender has sixteen delays if all its latest rules have the place, and else none
pub sixteen_there : (base : ℕ) (rules : List Rule) (shared : List Ranges) (flat row : List ℕ) (sender : ℕ) (place : Place) (ranges : Ranges)
    → AreRows base rules shared flat → PlaceFits place → sender < 32 → Some ranges ≡ slice_get shared sender
    → covers ranges.frames ranges.slots ranges.stages place ≡ true → row ≡ slice_range flat (16 * sender) (16 * sender + 16)
    → length row ≡ (if all_latest_have rules sender place then 16 else 0)
sixteen_there base rules shared flat row sender place ranges are fits few at has is =
    let long : length (slice_range flat (16 * sender) (16 * sender + 16)) ≡ 16 * sender + 16 - 16 * sender =
    length-between flat (16 * sender) (16 * sender + 16) (omega (arith, few, are.pairs)) in
    let sixteen : length row ≡ 16 = ap length is ∙ long ∙ omega arith in
    let all : all_latest_have rules sender place ≡ true = sym (are.kept sender ranges place fits (sym at)) ∙ has in
    sixteen ∙ ap (λ b. if b then 16 else 0) (sym all)

pub there_by_sender : (base : ℕ) (rules : List Rule) (from : NodeName) (sender : ℕ) (place : Place) (row : List ℕ) → IsSender sender from
    → true ≡ is_numbered from → length row ≡ (if all_latest_have rules sender place then 16 else 0)
    → length row ≡ (if has_row (record { base = base; rules = rules }) from place then 16 else 0)
unfolding has_row
there_by_sender base rules from sender place row nodes numbered is =
    let to : ℕ → NodeName = name_of (other (kind_of from)) in
    let alike : all_below 16 (λ i. latest_has rules from (to i) place) ≡ all_latest_have rules sender place =
    below-same 16 _ _ (λ i less.
    ap (λ n. latest_has rules n (to i) place) (sym (nodes i less).0)
    ∙ ap (λ n. latest_has rules (sender_of (16 * sender + i)) n place) (sym (nodes i less).1)) in
    let all : (is_numbered from && all_below 16 (λ i. latest_has rules from (to i) place)) ≡ all_latest_have rules sender place =
    ap (λ b. b && all_below 16 (λ i. latest_has rules from (to i) place)) (sym numbered) ∙ alike in
    is ∙ ap (λ b. if b then 16 else 0) (sym all)

pub none_past_sixteen : (delays : DelayRules) (from : NodeName) (place : Place) (row : List ℕ) → false ≡ is_numbered from → length row ≡ 0
    → length row ≡ (if has_row delays from place then 16 else 0)
unfolding has_row
none_past_sixteen delays from place row numbered empty =
    empty
    ∙ ap (λ b. if b && all_below 16 (λ i. latest_has delays.rules from (name_of (other (kind_of from)) i) place) then 16 else 0) numbered

-- ---- pair by pair

-- the shared ranges are those with the latest rule of one more pair
pub one_rule_more : (latest : List Rule) (sender k : ℕ) (before after : Ranges) (found : Option Rule) → found ≡ slice_get latest (16 * sender + k)
    → IsShared latest sender k before
    → ((place : Place) → covers after.frames after.slots after.stages place ≡ (covers before.frames before.slots before.stages place && rule_has found place))
    → IsShared latest sender (k + 1) after
one_rule_more latest sender k before after found is are narrow place fits =
    let has : ℕ → Bool = λ i. rule_has (slice_get latest (16 * sender + i)) place in
    narrow place
    ∙ ap (λ b. b && rule_has found place) (are place fits)
    ∙ ap (λ o. all_below k has && rule_has o place) is
    ∙ sym (below-more k has)

-- before the first rule the shared ranges have each place
pub no_rule_yet : (latest : List Rule) (sender : ℕ) → IsShared latest sender 0 (record { frames = (0, 4294967295); slots = (0, 4294967295); stages = (0, 4294967295) })
no_rule_yet latest sender place fits =
    every_place 4294967295 4294967295 4294967295 place (omega (arith, fits.frame)) (omega (arith, fits.slot)) (omega (arith, fits.stage))
    ∙ sym (below_none (λ i. rule_has (slice_get latest (16 * sender + i)) place))

-- ---- sender by sender

pub none_shared : (latest : List Rule) → AreShared latest []
none_shared latest = record { each = λ sender ranges at. let never : None ≡ Some ranges = at in absurd cc }

pub one_more_shared : (latest : List Rule) (shared : List Ranges) (ranges : Ranges) → AreShared latest shared → IsShared latest (length shared) 16 ranges
    → AreShared latest (shared ++ ranges ∷ [])
one_more_shared latest shared ranges are is = record { each = λ n r at. here n r at }
  where
    here : (n : ℕ) (r : Ranges) → slice_get (shared ++ ranges ∷ []) n ≡ Some r → IsShared latest n 16 r
    here n r at =
        let within : n < length (shared ++ ranges ∷ []) = slice_get_within (shared ++ ranges ∷ []) n r at in
        let long : length (shared ++ ranges ∷ []) ≡ length shared + 1 = length-append shared (ranges ∷ []) in
        let read : get_or (shared ++ ranges ∷ []) n r ≡ r = get_or_from_slice_get (shared ++ ranges ∷ []) n r r at in
        elim (cases_lt n (length shared)) [
          | inl less ↦ are.each n r (slice_get-get_or shared n r less ∙ ap Some (sym (get_or_append_left shared (ranges ∷ []) r n less) ∙ read))
          | inr more ↦
              let e : n ≡ length shared = omega arith in
              let same : ranges ≡ r = sym (get_or-append_seam shared ranges [] r) ∙ ap (λ k. get_or (shared ++ ranges ∷ []) k r) (sym e) ∙ read in
              subst (λ k. IsShared latest k 16 r) (sym e) (subst (λ x. IsShared latest (length shared) 16 x) same is)
        ]
