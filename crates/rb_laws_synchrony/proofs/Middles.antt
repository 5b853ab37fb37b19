-- The middle of what is taken of the nodes: it lies between bounds of the good ones' stamps, and of
-- two nodes that take alike the middles are near.
use Rattle.std.proofs.{Common.{◌≡◌, ℕ, zero, suc, ◌+◌, ◌<◌, ◌≤◌, Bool, true, false, cond, not, ◌&&◌, ◌||◌, List, [], ◌∷◌, length, map, nat_lt, nat_le, Option, Some, None, is_some, refl, sym, ◌∙◌, ap, subst, arith, ◌⊎◌, inl, inr}, lemmas.Bool.{cases_lt, leb-true, lt-ltb}}
use Rattle.std.specs.{Prelude.{⊤}, List.{AllZip, cons_option, range_with_len}}
use Rattle.rb_base.specs.Counting.{count_if, numbers}
use Rattle.rb_base.proofs.Counts.{count_if-le, count_if-le_two}
use Rattle.rb_rules.specs.{ExactStage.present, Middle.{IsMiddle, middle_of}}
use Rattle.rb_rules.proofs.{Middles.{AreNear, IsBetween, IsMonotone, has_middle, middle_is, middle-map, middles_near}, Votes.length_present}

-- ---- counts

-- there is a number, and it passes
abbrev pub passes : (ℕ → Bool) → Option ℕ → Bool
passes p None = false
passes p (Some x) = p x

one_more : (p : ℕ → Bool) (o : Option ℕ) (rest : List ℕ) → count_if p (cons_option o rest) ≡ cond (passes p o) 1 0 + count_if p rest
one_more p None rest = omega arith
one_more p (Some x) rest = refl

-- as many stamps pass as there are sources whose stamps do
counted_present : (p : ℕ → Bool) (f : ℕ → Option ℕ) (js : List ℕ) → count_if p (present (map f js)) ≡ count_if (λ j. passes p (f j)) js
counted_present p f [] = refl
counted_present p f (j ∷ js) = one_more p (f j) (present (map f js)) ∙ ap (λ n. cond (passes p (f j)) 1 0 + n) (counted_present p f js)

-- good sources and others that have something are together at most all that have something
parts_within : (good some : ℕ → Bool) → ((j : ℕ) → good j ≡ true → some j ≡ true) → (js : List ℕ)
    → count_if good js + count_if (λ j. not (good j) && some j) js ≤ count_if some js
parts_within good some has [] = omega arith
parts_within good some has (j ∷ js) =
    let here : (b c : Bool) → (b ≡ true → c ≡ true) → cond b 1 0 + cond (not b && c) 1 0 ≤ cond c 1 0 =
    λ b c. elim b as (λ b. (b ≡ true → c ≡ true) → cond b 1 0 + cond (not b && c) 1 0 ≤ cond c 1 0) [ true ↦ λ h. rw (h refl) (omega arith) | false ↦ λ h. omega arith ] in
    omega (arith, here (good j) (some j) (has j), parts_within good some has js)

-- ---- a middle between bounds

-- there is a stamp between `low` and `high`
pub record HasStamp (low high : ℕ) (o : Option ℕ) : Type 0 where
  pub stamp : ℕ
  pub is : o ≡ Some stamp
  pub between : IsBetween low high stamp

not_passed : (p : ℕ → Bool) {low high o : _} → ((y : ℕ) → IsBetween low high y → p y ≡ true → ⊥) → HasStamp low high o → passes p o ≡ true → ⊥
not_passed p fails has pass = fails has.stamp has.between (sym (ap (passes p) has.is) ∙ pass)

-- only sources that are not good can have a number below those of all good ones
few_up_to : (f : ℕ → Option ℕ) (good : ℕ → Bool) (low high m : ℕ) → ((j : ℕ) → good j ≡ true → HasStamp low high (f j)) → m < low → (js : List ℕ)
    → count_if (λ j. passes (λ x. nat_le x m) (f j)) js ≤ count_if (λ j. not (good j) && is_some (f j)) js
few_up_to f good low high m has less js =
    count_if-le (λ j. passes (λ x. nat_le x m) (f j)) (λ j. not (good j) && is_some (f j)) (λ j pass. go j (good j) refl (f j) refl pass) js
  where
    go : (j : ℕ) (b : Bool) → good j ≡ b → (o : Option ℕ) → f j ≡ o → passes (λ x. nat_le x m) o ≡ true → (not b && is_some o) ≡ true
    go j true is o e pass =
        absurd (not_passed (λ x. nat_le x m) (λ y in_range le. omega (arith, less, in_range.least, leb-true y m le)) (subst (HasStamp low high) e (has j is)) pass)
    go j false is None e pass = pass
    go j false is (Some x) e pass = refl

pub middle_within : (f : ℕ → Option ℕ) (good : ℕ → Bool) (low high : ℕ) {m : ℕ} (js : List ℕ) → ((j : ℕ) → good j ≡ true → HasStamp low high (f j))
    → count_if (λ j. not (good j) && is_some (f j)) js < count_if good js → IsMiddle m (present (map f js)) → IsBetween low high m
middle_within f good low high {m} js has more is =
    let there : (j : ℕ) → good j ≡ true → is_some (f j) ≡ true = λ j g. ap is_some (has j g).is in
    let all : length (present (map f js)) ≡ count_if (λ j. is_some (f j)) js = length_present f js in
    let parts : count_if good js + count_if (λ j. not (good j) && is_some (f j)) js ≤ count_if (λ j. is_some (f j)) js =
    parts_within good (λ j. is_some (f j)) there js in
    let split : count_if (λ j. is_some (f j)) js ≤ count_if good js + count_if (λ j. not (good j) && is_some (f j)) js =
    count_if-le_two (λ j. is_some (f j)) good (λ j. not (good j) && is_some (f j)) (λ j some. either (good j) (is_some (f j)) some) js in
    record {
      least = elim (cases_lt m low) [
        | inl less ↦ absurd (omega (arith, more, is.half_up_to, all, parts, counted_present (λ x. nat_le x m) f js, few_up_to f good low high m has less js))
        | inr least ↦ least
      ];
      most = elim (cases_lt high m) [
        | inl less ↦ absurd (omega (
          arith,
          more,
          is.few_below,
          all,
          split,
          counted_present (λ x. nat_lt x m) f js,
          count_if-le good (λ j. passes (λ x. nat_lt x m) (f j))
              (λ j g. ap (passes (λ x. nat_lt x m)) (has j g).is ∙ lt-ltb (has j g).stamp m (omega (arith, less, (has j g).between.most))) js,
        ))
        | inr most ↦ most
      ];
    }
  where
    either : (b c : Bool) → c ≡ true → (b || (not b && c)) ≡ true
    either true c h = refl
    either false c h = h

-- if more sources are good than others have a stamp, there is a middle
pub some_middle : (f : ℕ → Option ℕ) (good : ℕ → Bool) (js : List ℕ) → ((j : ℕ) → good j ≡ true → is_some (f j) ≡ true)
    → count_if (λ j. not (good j) && is_some (f j)) js < count_if good js
    → (m : ℕ) × (middle_of (present (map f js)) ≡ Some m) × IsMiddle m (present (map f js))
some_middle f good js there more =
    let some : 0 < length (present (map f js)) = omega (arith, more, length_present f js, parts_within good (λ j. is_some (f j)) there js) in
    let has = has_middle (present (map f js)) some in
    (has.0, middle_is has.0 (present (map f js)) has.1, has.1)

-- ---- near middles

-- both have nothing, or both have stamps with near times
abbrev pub BothNear : ℕ → (ℕ → ℕ) → (ℕ → ℕ) → Option ℕ → Option ℕ → Type 0
BothNear e x y None None = ⊤
BothNear e x y None (Some t) = ⊥
BothNear e x y (Some s) None = ⊥
BothNear e x y (Some s) (Some t) = AreNear e (x s) (y t)

one_pair : (e : ℕ) (x y : ℕ → ℕ) (a b : Option ℕ) (us vs : List ℕ) → BothNear e x y a b → AllZip (AreNear e) (map x us) (map y vs)
    → AllZip (AreNear e) (map x (cons_option a us)) (map y (cons_option b vs))
one_pair e x y None None us vs near rest = rest
one_pair e x y None (Some t) us vs near rest = absurd near
one_pair e x y (Some s) None us vs near rest = absurd near
one_pair e x y (Some s) (Some t) us vs near rest = (near, rest)

near_present : (e : ℕ) (x y : ℕ → ℕ) (f g : ℕ → Option ℕ) (from n : ℕ) → ((j : ℕ) → j < from + n → BothNear e x y (f j) (g j))
    → AllZip (AreNear e) (map x (present (map f (range_with_len from n)))) (map y (present (map g (range_with_len from n))))
near_present e x y f g from zero near = tt
near_present e x y f g from (suc n) near =
    one_pair e x y (f from) (g from) (present (map f (range_with_len (from + 1) n))) (present (map g (range_with_len (from + 1) n)))
    (near from (omega arith)) (near_present e x y f g (from + 1) n (λ j lt. near j (omega arith)))

-- the times of the two middles are near
pub middle_times_near : (e : ℕ) {x y : _} (f g : ℕ → Option ℕ) {m n : ℕ} → IsMonotone x → IsMonotone y
    → ((j : ℕ) → j < 16 → BothNear e x y (f j) (g j)) → IsMiddle m (present (map f (numbers 16))) → IsMiddle n (present (map g (numbers 16)))
    → AreNear e (x m) (y n)
middle_times_near e {x} {y} f g {m} {n} rises_x rises_y near is_m is_n =
    middles_near e (map x (present (map f (numbers 16)))) (map y (present (map g (numbers 16)))) (x m) (y n)
    (near_present e x y f g 0 16 (λ j lt. near j (omega arith)))
    (middle-map x rises_x m (present (map f (numbers 16))) is_m) (middle-map y rises_y n (present (map g (numbers 16))) is_n)

-- ---- the least of times that are near

-- `least` is the least time of the good ones, all of whose times are at most `spread` later, or
-- there is no good one
pub record HasLeast (good : ℕ → Bool) (time : ℕ → ℕ) (spread n : ℕ) : Type 0 where
  pub least : ℕ
  pub at : (i : ℕ) → i < n → good i ≡ true → IsBetween least (least + spread) (time i)
  pub held : ((i : ℕ) → i < n → good i ≡ false) ⊎ ((k : ℕ) × (good k ≡ true) × (time k ≡ least))

last_or_before : (i n : ℕ) → i < suc n → (i < n) ⊎ (i ≡ n)
last_or_before i n lt = elim (cases_lt i n) [ inl before ↦ inl before | inr ge ↦ inr (omega arith) ]

Near : (ℕ → Bool) → (ℕ → ℕ) → ℕ → Type 0
Near good time spread = (i j : ℕ) → good i ≡ true → good j ≡ true → time i ≤ time j + spread

-- if number `n` is good, and no later than all good ones before it, its time is the least
new_least : (good : ℕ → Bool) (time : ℕ → ℕ) (spread n : ℕ) → Near good time spread → good n ≡ true
    → ((i : ℕ) → i < n → good i ≡ true → time n ≤ time i) → HasLeast good time spread (suc n)
unfolding Near
new_least good time spread n near is first = record {
  least = time n;
  at = λ i lt g. elim (last_or_before i n lt) [
    | inl before ↦ record { least = first i before g; most = near i n g is }
    | inr same ↦ let e : time i ≡ time n = ap time same in record { least = omega arith; most = omega arith }
  ];
  held = inr (n, is, refl);
}

next_least : {good time spread n : _} → Near good time spread → HasLeast good time spread n → {b : _} → good n ≡ b
    → HasLeast good time spread (suc n)
unfolding Near
next_least {good} {n} near h {b = false} is = record {
  least = h.least;
  at = λ i lt g. elim (last_or_before i n lt) [
    | inl before ↦ h.at i before g
    | inr same ↦ let both : true ≡ false = sym g ∙ ap good same ∙ is in absurd (cc)
  ];
  held = elim h.held [
    | inl none ↦ inl (λ i lt. elim (last_or_before i n lt) [ inl before ↦ none i before | inr same ↦ ap good same ∙ is ])
    | inr some ↦ inr some
  ];
}
next_least {good} {time} {spread} {n} near h {b = true} is =
    elim h.held [
      | inl none ↦ new_least good time spread n near is (λ i lt g. let both : true ≡ false = sym g ∙ none i lt in absurd (cc))
      | inr some ↦
          let there : time some.0 ≡ h.least = some.2 in
          elim (cases_lt (time n) h.least) [
            | inl less ↦ new_least good time spread n near is (λ i lt g. omega (arith, less, (h.at i lt g).least))
            | inr ge ↦ record {
              least = h.least;
              at = λ i lt g. elim (last_or_before i n lt) [
                | inl before ↦ h.at i before g
                | inr same ↦
                    let e : time i ≡ time n = ap time same in
                    record { least = omega arith; most = omega (arith, near n some.0 is some.1) }
              ];
              held = inr some;
            }
          ]
    ]

pub least_of : (good : ℕ → Bool) (time : ℕ → ℕ) (spread : ℕ) → ((i j : ℕ) → good i ≡ true → good j ≡ true → time i ≤ time j + spread)
    → (n : ℕ) → HasLeast good time spread n
unfolding Near
least_of good time spread near zero = record { least = 0; at = λ i lt g. absurd (omega arith); held = inl (λ i lt. absurd (omega arith)) }
least_of good time spread near (suc n) = next_least near (least_of good time spread near n) refl
