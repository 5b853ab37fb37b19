-- For the laws of agreement: the vote of a close, by counts of the sources.
use Rattle.std.proofs.{Common.{◌≡◌, ℕ, ◌+◌, ◌<◌, ◌≤◌, Bool, true, false, cond, not, ◌&&◌, ◌||◌, List, [], ◌∷◌, length, map, Option, Some, None, is_some, refl, ◌∙◌, ap, arith, zero-add}, lemmas.List.FromFn.get_or-map-range_with_len}
use Rattle.std.specs.List.{cons_option}
use Rattle.rb_base.specs.{Counting.{count_if, numbers}, declared.values.Heard.Heard}
use Rattle.rb_base.proofs.Counts.{count_if-le, count_if-le_two}
use Rattle.rb_rules.specs.{declared.sense.Sense.Sense, Majority.{same_heard, times, IsMajority, majority_of}, ExactStage.{present, at_source, closing_of}, Sense.value_in, Standing.{Standing, taken_of}}
use Rattle.rb_rules.proofs.{Majorities.{same_heard_self, majority_is}, ExactStages.same_each_node}

-- the list of a close has at a source what is taken from that source
pub taken_at : (s : Standing) (expected : ℕ → Bool) (sense : ℕ → Sense) (j : ℕ) → j < 16
    → at_source (closing_of s expected sense).taken j ≡ taken_of value_in s expected sense j
taken_at s expected sense j below = get_or-map-range_with_len (taken_of value_in s expected sense) 0 16 j j None below (zero-add j)

-- the value was taken
abbrev pub holds : Heard → Option Heard → Bool
holds value None = false
holds value (Some taken) = same_heard value taken

one_more : {X : Type 0} (o : Option X) (rest : List X) → length (cons_option o rest) ≡ cond (is_some o) 1 0 + length rest
one_more None rest = omega arith
one_more (Some x) rest = omega arith

-- there are as many values as sources from which something was taken
pub length_present : {X : Type 0} (f : ℕ → Option X) (js : List ℕ) → length (present (map f js)) ≡ count_if (λ j. is_some (f j)) js
length_present f [] = refl
length_present f (j ∷ js) = one_more (f j) (present (map f js)) ∙ ap (λ n. cond (is_some (f j)) 1 0 + n) (length_present f js)

one_time_more : (value : Heard) (o : Option Heard) (rest : List Heard) → times value (cons_option o rest) ≡ cond (holds value o) 1 0 + times value rest
one_time_more value None rest = omega arith
one_time_more value (Some v) rest = refl

-- a value is present as many times as it was taken
pub times_present : (value : Heard) (f : ℕ → Option Heard) (js : List ℕ) → times value (present (map f js)) ≡ count_if (λ j. holds value (f j)) js
times_present value f [] = refl
times_present value f (j ∷ js) = one_time_more value (f j) (present (map f js)) ∙ ap (λ n. cond (holds value (f j)) 1 0 + n) (times_present value f js)

-- if the sources with one value outnumber all others with a value, this is the vote
pub vote_is : (f : ℕ → Option Heard) (good : ℕ → Bool) (value : Heard) → ((j : ℕ) → good j ≡ true → f j ≡ Some value) → (js : List ℕ)
    → count_if (λ j. not (good j) && is_some (f j)) js < count_if good js → majority_of (present (map f js)) ≡ value
vote_is f good value said js more =
    let held : (j : ℕ) → good j ≡ true → holds value (f j) ≡ true = λ j g. ap (holds value) (said j g) ∙ same_heard_self value in
    let enough : count_if good js ≤ count_if (λ j. holds value (f j)) js = count_if-le good (λ j. holds value (f j)) held js in
    let split : (j : ℕ) → is_some (f j) ≡ true → (good j || (not (good j) && is_some (f j))) ≡ true =
    λ j some.
    let go : (b c : Bool) → c ≡ true → (b || (not b && c)) ≡ true =
    λ b c h. elim b as (λ b. (b || (not b && c)) ≡ true) [ true ↦ refl | false ↦ h ] in
    go (good j) (is_some (f j)) some in
    let all : count_if (λ j. is_some (f j)) js ≤ count_if good js + count_if (λ j. not (good j) && is_some (f j)) js =
    count_if-le_two (λ j. is_some (f j)) good (λ j. not (good j) && is_some (f j)) split js in
    let most : IsMajority value (present (map f js)) = omega (arith, length_present f js, times_present value f js) in
    majority_is value (present (map f js)) most

pub closing_vote_is : (s : Standing) (expected : ℕ → Bool) (sense : ℕ → Sense) (good : ℕ → Bool) (value : Heard)
    → ((j : ℕ) → good j ≡ true → taken_of value_in s expected sense j ≡ Some value)
    → count_if (λ j. not (good j) && is_some (taken_of value_in s expected sense j)) (numbers 16) < count_if good (numbers 16)
    → (closing_of s expected sense).voted ≡ value
closing_vote_is s expected sense good value said more = vote_is (taken_of value_in s expected sense) good value said (numbers 16) more

-- closes that take the same have the same vote
pub same_vote : (s t : Standing) (p q : ℕ → Bool) (a b : ℕ → Sense)
    → ((j : ℕ) → j < 16 → taken_of value_in s p a j ≡ taken_of value_in t q b j) → (closing_of s p a).voted ≡ (closing_of t q b).voted
same_vote s t p q a b same = ap (λ taken. majority_of (present taken)) (same_each_node (taken_of value_in s p a) (taken_of value_in t q b) same)
