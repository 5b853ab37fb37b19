-- Walks over the members of a set, of which the first is taken out until none is left.
use Rattle.std.proofs.{Common.{◌≡◌, ℕ, zero, suc, ◌+◌, ◌-◌, ◌<◌, ◌≤◌, ◌⊎◌, ◌&&◌, ◌==◌, not, nat_lt, Bool, true, false, List, [], ◌++◌, length, Option, Some, None, inl, inr, refl, sym, ◌∙◌, ap, subst, arith, if◌then◌else◌}, lemmas.Bool.{and_parts, cases_lt, cases_order, lt-ltb, ltb-true}, lemmas.List.append-nil}
use Rattle.std.specs.Prelude.{is_some, option_to_list}
use Rattle.rb_base.specs.{Nodes.{TakesFirst, has, set_of}, declared.values.Place.Place}
use Rattle.rb_base.proofs.{Sets.{eq_other, first_gone, has-is, has_none, is_set_of, same_set_of}, Plain.{and-true, eq_self}}
use Rattle.rb_rules.specs.{Book.Row, WorldStep.row_for}
use Rattle.rb_world_book.specs.{declared.milestone.Milestone.TheVariants.Stage, declared.told.Told.Told, Telling.{has_told, row_told, told_at}, Waiting.{first_trusted, found_of, row_at, row_if}}
use Rattle.rb_world_book.proofs.Found.{HasAdded, found_first, found_more, found_none, line_added}

pub joined : (a b c : Bool) → ((a && b) && c) ≡ (a && (b && c))
joined true b c = refl
joined false b c = refl

-- node i is one of the first `count`, and in the set
abbrev pub is_below : ℕ → ℕ → ℕ → Bool
is_below count set i = nat_lt i count && has set i

pub those_are : (count set first : ℕ) → first ≡ set_of (λ i. nat_lt i count) → set_of (λ i. has first i && has set i) ≡ set_of (is_below count set)
those_are count set first is = same_set_of _ _ (λ i h. ap (λ b. b && has set i) (has-is first i (λ i. nat_lt i count) is h))

-- One node less.

pub same_or_not : (j k : ℕ) → (j ≡ k) ⊎ ((j == k) ≡ false)
same_or_not j k = elim (cases_order j k) [
  | inl same ↦ inl same
  | inr order ↦ inr (elim order as (λ _. (j == k) ≡ false) [ inl less ↦ eq_other j k (omega arith) | inr more ↦ eq_other j k (omega arith) ])
]

-- to take out the first member leaves all others
pub stays : (before after k j : ℕ) → j < 16 → TakesFirst before after k → (j == k) ≡ false → has after j ≡ has before j
stays before after k j h takes apart =
    has-is after j (λ i. has before i && not (i == k)) takes.rest h ∙ ap (λ b. has before j && not b) apart ∙ and-true (has before j)

-- what holds for each node that is gone holds with one more gone, if it holds for that one
each-next : (before after k : ℕ) (P : ℕ → Type 0) → TakesFirst before after k → P k → ((j : ℕ) → j < 16 → has before j ≡ false → P j)
    → (j : ℕ) → j < 16 → has after j ≡ false → P j
each-next before after k P takes here so_far j h out = elim (same_or_not j k) [
  | inl same ↦ subst P (sym same) here
  | inr apart ↦ so_far j h (sym (stays before after k j h takes apart) ∙ out)
]

pub left-before : (before after k j : ℕ) → j < 16 → TakesFirst before after k → has after j ≡ true → has before j ≡ true
left-before before after k j h takes is = (and_parts _ _ (sym (has-is after j (λ i. has before i && not (i == k)) takes.rest h) ∙ is)).0

-- Walks until a member passes.

-- what is left is of `these`, and none of `these` that is gone passed
pub record NonePassed (these : ℕ → Bool) (left : ℕ) (passes : ℕ → Bool) : Type 0 where
  pub within : (j : ℕ) → j < 16 → has left j ≡ true → these j ≡ true
  pub none : (j : ℕ) → j < 16 → has left j ≡ false → these j ≡ true → passes j ≡ false

pub all_left : (these : ℕ → Bool) (left : ℕ) (passes : ℕ → Bool) → left ≡ set_of these → NonePassed these left passes
all_left these left passes is = record {
  within = λ j h e. sym (has-is left j these is h) ∙ e;
  none = λ j h out e. let no : true ≡ false = sym e ∙ sym (has-is left j these is h) ∙ out in absurd (cc);
}

pub one_less : (these : ℕ → Bool) (before after k : ℕ) (passes : ℕ → Bool) → NonePassed these before passes → TakesFirst before after k → passes k ≡ false → NonePassed these after passes
one_less these before after k passes so_far takes fails = record {
  within = λ j h e. so_far.within j h (left-before before after k j h takes e);
  none = each-next before after k (λ j. these j ≡ true → passes j ≡ false) takes (λ e. fails) so_far.none;
}

-- A set of those that pass.

-- `set` has those of `these` that are gone and pass, and what is left is of `these`
pub record ArePassed (these : ℕ → Bool) (left set : ℕ) (passes : ℕ → Bool) : Type 0 where
  pub within : (j : ℕ) → j < 16 → has left j ≡ true → these j ≡ true
  pub is : set ≡ set_of (λ j. these j && (not (has left j) && passes j))

pub none_gone : (these : ℕ → Bool) (left set : ℕ) (passes : ℕ → Bool) → left ≡ set_of these → set ≡ 0 → ArePassed these left set passes
none_gone these left set passes is none = record {
  within = λ j h e. sym (has-is left j these is h) ∙ e;
  is = none ∙ is_set_of 0 _ (omega arith) (λ j h. has_none j ∙ sym (ap (λ b. these j && (not b && passes j)) (has-is left j these is h) ∙ never (these j) (passes j)));
}
  where
    never : (a b : Bool) → (a && (not a && b)) ≡ false
    never true b = refl
    never false b = refl

-- one more node joins, if it passes
pub one_more : (these : ℕ → Bool) (before after k set more : ℕ) (passes : ℕ → Bool) (member : Bool) → ArePassed these before set passes → TakesFirst before after k → k < 16
    → member ≡ passes k → more ≡ set_of (λ i. if i == k then member else has set i) → ArePassed these after more passes
one_more these before after k set more passes member so_far takes hk is joined = record {
  within = λ j h e. so_far.within j h (left-before before after k j h takes e);
  is = joined ∙ same_set_of _ _ at;
}
  where
    at : (j : ℕ) → j < 16 → (if j == k then member else has set j) ≡ (these j && (not (has after j) && passes j))
    at j h = elim (same_or_not j k) [
      | inl same ↦ ap (λ b. if b then member else has set j) (ap (λ n. n == k) same ∙ eq_self k) ∙ is ∙ ap passes (sym same)
          ∙ sym (ap (λ b. b && (not (has after j) && passes j)) (ap these same ∙ so_far.within k hk takes.inside)
          ∙ ap (λ b. true && (not b && passes j)) (ap (has after) same ∙ first_gone before after k hk takes))
      | inr apart ↦ ap (λ b. if b then member else has set j) apart ∙ has-is set j (λ j. these j && (not (has before j) && passes j)) so_far.is h
          ∙ ap (λ b. these j && (not b && passes j)) (sym (stays before after k j h takes apart))
    ]

pub all_gone : (count : ℕ) (among : ℕ → Bool) (left set : ℕ) (passes : ℕ → Bool) → ArePassed (λ j. nat_lt j count && among j) left set passes → left ≡ 0
    → set ≡ set_of (λ j. nat_lt j count && (among j && passes j))
all_gone count among left set passes so_far none =
    so_far.is ∙ same_set_of _ _ (λ j h. ap (λ b. (nat_lt j count && among j) && (not b && passes j)) (ap (λ s. has s j) none ∙ has_none j) ∙ joined (nat_lt j count) (among j) (passes j))

-- The first of what is found.

-- if nothing is found from node `k` on, what is found is that of the first `k` nodes
found_on : {X : Type 0} (find : ℕ → Told → Option X) (told : List Told) (k more n : ℕ) → n ≡ k + more → n ≤ length told → ((j : ℕ) → k ≤ j → j < n → find j (told_at told j) ≡ None)
    → found_of find n told ≡ found_of find k told
found_on find told k zero n is h none = ap (λ m. found_of find m told) (omega arith)
found_on find told k (suc more) n is h none =
    ap (λ m. found_of find m told) (let e : n ≡ k + more + 1 = omega arith in e) ∙ found_more find told (k + more) (omega arith)
    ∙ ap (λ o. found_of find (k + more) told ++ option_to_list o) (none (k + more) (omega arith) (omega arith))
    ∙ append-nil (found_of find (k + more) told)
    ∙ found_on find told k more (k + more) refl (omega arith) (λ j low high. none j low (omega arith))

-- if no node gives anything, nothing is found
found_nothing : {X : Type 0} (find : ℕ → Told → Option X) (told : List Told) (n : ℕ) → n ≤ length told → ((j : ℕ) → j < n → find j (told_at told j) ≡ None) → found_of find n told ≡ []
found_nothing find told n h none = found_on find told 0 n n (omega arith) h (λ j low high. none j high) ∙ found_none find told

-- none of the nodes that are gone has told of the stage
abbrev pub none_told : Place → ℕ → ℕ → List Told → ℕ → Type 0
none_told place count good told left = NonePassed (is_below count good) left (λ i. has_told (Stage place) (told_at told i))

no_row : (place : Place) (good i : ℕ) (t : Told) → (has good i ≡ true → has_told (Stage place) t ≡ false) → row_at good place i t ≡ None
no_row place good i t none = by (has good i) none
  where
    empty : (o : Option Row) → is_some o ≡ false → o ≡ None
    empty None e = refl
    empty (Some r) e = absurd (cc)

    by : (b : Bool) → (b ≡ true → has_told (Stage place) t ≡ false) → row_if place b t ≡ None
    by true h = empty (row_for place (row_told t)) (h refl)
    by false h = refl

pub first_told : (place : Place) (count good before after k : ℕ) (told : List Told) (trusted : Option (ℕ × ℕ)) → count ≤ 16 → count ≤ length told → none_told place count good told before
    → TakesFirst before after k → k < 16 → trusted ≡ first_trusted (option_to_list (row_for place (row_told (told_at told k)))) → is_some trusted ≡ true
    → trusted ≡ first_trusted (found_of (row_at good place) count told)
first_told place count good before after k told trusted most within so_far takes h is some =
    let both : (nat_lt k count ≡ true) × (has good k ≡ true) = and_parts _ _ (so_far.within k h takes.inside) in
    let less : k < count = ltb-true k count both.0 in
    let earlier : found_of (row_at good place) k told ≡ [] =
    found_nothing (row_at good place) told k (omega arith)
    (λ j lower. no_row place good j (told_at told j) (λ e.
    so_far.none j (omega arith) (takes.first j lower) (ap (λ b. b && has good j) (lt-ltb j count (omega arith)) ∙ e))) in
    found_first (row_at good place) told k count trusted less (omega arith) earlier
    (is ∙ ap (λ b. first_trusted (option_to_list (row_if place b (told_at told k)))) (sym both.1)) some

pub untold : (place : Place) (k : ℕ) (told : List Told) (trusted : Option (ℕ × ℕ)) → trusted ≡ first_trusted (option_to_list (row_for place (row_told (told_at told k)))) → is_some trusted ≡ false
    → has_told (Stage place) (told_at told k) ≡ false
untold place k told trusted is none = by (row_for place (row_told (told_at told k))) (sym (ap is_some is) ∙ none)
  where
    by : (o : Option Row) → is_some (first_trusted (option_to_list o)) ≡ false → is_some o ≡ false
    by None e = refl
    by (Some r) e = absurd (cc)

pub nobody_told : (place : Place) (count good left : ℕ) (told : List Told) → count ≤ 16 → count ≤ length told → none_told place count good told left → left ≡ 0
    → first_trusted (found_of (row_at good place) count told) ≡ None
nobody_told place count good left told most within so_far none =
    ap first_trusted
    (found_nothing (row_at good place) told count within
    (λ j lower. no_row place good j (told_at told j) (λ e.
    so_far.none j (omega arith) (ap (λ s. has s j) none ∙ has_none j) (ap (λ b. b && has good j) (lt-ltb j count lower) ∙ e))))

-- Lists of what is found.

-- what is found of the good nodes below `from` is added, and all good nodes from `from` on are left
pub record HasFollowed {X : Type 0} (find : ℕ → Told → Option X) (count good left : ℕ) (told : List Told) (before now : List X) : Type 0 where
  pub from : ℕ
  pub most : from ≤ count
  pub gone : (j : ℕ) → j < from → has left j ≡ false
  pub rest : (j : ℕ) → from ≤ j → j < count → has left j ≡ has good j
  pub within : (j : ℕ) → j < 16 → has left j ≡ true → j < count
  pub added : HasAdded find told from before now

pub follows_none : {X : Type 0} (find : ℕ → Told → Option X) (count good left : ℕ) (told : List Told) (before now : List X) → count ≤ 16 → left ≡ set_of (is_below count good) → now ≡ before
    → HasFollowed find count good left told before now
follows_none find count good left told before now most is same = record {
  from = 0;
  most = omega arith;
  gone = λ j h. absurd (omega arith);
  rest = λ j low h. has-is left j (is_below count good) is (omega arith) ∙ ap (λ b. b && has good j) (lt-ltb j count h);
  within = λ j h e. ltb-true j count (and_parts _ _ (sym (has-is left j (is_below count good) is h) ∙ e)).0;
  added = record {
    is = same ∙ sym (ap (λ l. before ++ l) (found_none find told) ∙ append-nil before);
    most = omega (arith, ap length same);
  };
}

-- the next good node is not below that number
not_below : (from before after k : ℕ) → ((j : ℕ) → j < from → has before j ≡ false) → TakesFirst before after k → from ≤ k
not_below from before after k earlier takes = elim (cases_lt k from) [
  | inl less ↦ let no : true ≡ false = sym takes.inside ∙ earlier k less in absurd (cc)
  | inr more ↦ more
]

-- what is found up to a number is found up to the next good node
followed_to : {X : Type 0} (find : ℕ → Told → Option X) (from to : ℕ) (told : List Told) (before now : List X) → from ≤ to → to ≤ length told
    → ((j : ℕ) → from ≤ j → j < to → find j (told_at told j) ≡ None) → HasAdded find told from before now → HasAdded find told to before now
followed_to find from to told before now h within none so_far = record {
  is = so_far.is ∙ ap (λ l. before ++ l) (sym (found_on find told from (to - from) to (omega arith) within none));
  most = omega (arith, so_far.most);
}

pub has_room : {X : Type 0} (find : ℕ → Told → Option X) (count good left after k : ℕ) (told : List Told) (before now : List X) → HasFollowed find count good left told before now
    → TakesFirst left after k → k < 16 → length now < length before + count
has_room find count good left after k told before now so_far takes h =
    let less : k < count = so_far.within k h takes.inside in
    let low : so_far.from ≤ k = not_below so_far.from left after k so_far.gone takes in
    omega (arith, so_far.added.most)

pub one_follows : {X : Type 0} (find : ℕ → Told → Option X) (count good left after k : ℕ) (told : List Told) (before now longer : List X) (o : Option X)
    → ((j : ℕ) (t : Told) → has good j ≡ false → find j t ≡ None) → count ≤ 16 → count ≤ length told → HasFollowed find count good left told before now → TakesFirst left after k → k < 16
    → (has good k ≡ true → o ≡ find k (told_at told k)) → longer ≡ now ++ option_to_list o → HasFollowed find count good after told before longer
one_follows find count good left after k told before now longer o good_only most within so_far takes h is joined =
    let less : k < count = so_far.within k h takes.inside in
    let low : so_far.from ≤ k = not_below so_far.from left after k so_far.gone takes in
    let inside : has good k ≡ true = sym (so_far.rest k low less) ∙ takes.inside in
    let here : HasAdded find told k before now =
    followed_to find so_far.from k told before now low (omega arith)
    (λ j from to. good_only j (told_at told j) (sym (so_far.rest j from (omega arith)) ∙ takes.first j to)) so_far.added in
    record {
      from = k + 1;
      most = omega arith;
      gone = λ j lower. gone_to j lower;
      rest = λ j from to. stays left after k j (omega arith) takes (eq_other j k (omega arith)) ∙ so_far.rest j (omega arith) to;
      within = λ j hj e. so_far.within j hj (left-before left after k j hj takes e);
      added = line_added find told k before now longer o (omega arith) here.is (is inside) joined here.most;
    }
  where
    gone_to : (j : ℕ) → j < k + 1 → has after j ≡ false
    gone_to j lower = elim (cases_lt j k) [
      | inl less ↦ stays left after k j (omega arith) takes (eq_other j k (omega arith)) ∙ takes.first j less
      | inr more ↦ let same : j ≡ k = omega arith in ap (has after) same ∙ first_gone left after k h takes
    ]

pub all_followed : {X : Type 0} (find : ℕ → Told → Option X) (count good left : ℕ) (told : List Told) (before now : List X) → ((j : ℕ) (t : Told) → has good j ≡ false → find j t ≡ None)
    → count ≤ length told → HasFollowed find count good left told before now → left ≡ 0 → HasAdded find told count before now
all_followed find count good left told before now good_only within so_far none =
    followed_to find so_far.from count told before now so_far.most within
    (λ j from to. good_only j (told_at told j) (sym (so_far.rest j from to) ∙ ap (λ s. has s j) none ∙ has_none j)) so_far.added
