-- The middle by place and by counts is one, and what is known of it.
use Rattle.std.proofs.{Common.{◌≡◌, ◌≢◌, ℕ, ◌+◌, ◌-◌, ◌/◌, ◌<◌, ◌≤◌, Bool, true, false, cond, not, List, [], ◌∷◌, length, map, nat_lt, nat_le, get_or, refl, sym, ◌∙◌, ap, subst, arith, Some, None, inl, inr}, lemmas.Bool.{cases_lt, le-leb, leb-true, lt-leb, lt-ltb, ltb-true}, lemmas.List.length-map, lemmas.List.Elements.{All-head, All-tail, All-from_get_or, length_all_zip}, lemmas.List.Sorted.{sum_by-IsPermutation, length_permutation}, lemmas.Option.slice_get-get_or}
use Rattle.std.specs.{Prelude.{All, IsPermutation}, List.AllZip}
use Rattle.rb_base.specs.Counting.{count_if}
use Rattle.rb_rules.specs.Middle.{ascending, middle_of, below, up_to, IsMiddle}
use Rattle.rb_base.proofs.Counts.{once, count_if-map, count_if-le, count_if-not, count_if-count_by}
use Rattle.rb_rules.proofs.Ranks.{IsAtRank, up_to-below, length-ascending, rank_in_ascending}

-- ---- by place and by counts

-- what stands at the middle place is the middle by counts
middle_at_rank : (m : ℕ) (stamps : List ℕ) → 0 < length stamps → IsAtRank ((length stamps - 1) / 2) m stamps → IsMiddle m stamps
middle_at_rank m stamps some is = record { few_below = omega (arith, is.few_below); half_up_to = omega (arith, is.enough_up_to) }

-- the stamp at the middle place of the ascending list is the middle
middle_at_place : (stamps : List ℕ) → 0 < length stamps → IsMiddle (get_or (ascending stamps) ((length stamps - 1) / 2) 0) stamps
middle_at_place stamps some = middle_at_rank _ stamps some (rank_in_ascending stamps ((length stamps - 1) / 2) (omega arith))

-- at most one number is the middle
pub one_middle : (m n : ℕ) (stamps : List ℕ) → IsMiddle m stamps → IsMiddle n stamps → m ≡ n
one_middle m n stamps is_m is_n =
    elim (cases_lt m n) [
      | inl less ↦ absurd (omega (arith, is_m.half_up_to, is_n.few_below, up_to-below m n stamps less))
      | inr least ↦ elim (cases_lt n m) [
        | inl less ↦ absurd (omega (arith, is_n.half_up_to, is_m.few_below, up_to-below n m stamps less))
        | inr most ↦ omega arith
      ]
    ]

-- the middle of a list with a stamp is at the middle place of the ascending list
some_middle : (stamps : List ℕ) → 0 < length stamps → middle_of stamps ≡ Some (get_or (ascending stamps) ((length stamps - 1) / 2) 0)
some_middle stamps some = slice_get-get_or (ascending stamps) ((length stamps - 1) / 2) 0 (omega (arith, length-ascending stamps))

-- the middle by counts is that of the ascending list
pub middle_is : (m : ℕ) (stamps : List ℕ) → IsMiddle m stamps → middle_of stamps ≡ Some m
middle_is m stamps is =
    let some : 0 < length stamps = omega (arith, is.few_below) in
    some_middle stamps some ∙ ap (λ n. Some n) (one_middle _ m stamps (middle_at_place stamps some) is)

-- a list with a stamp has a middle
pub has_middle : (stamps : List ℕ) → 0 < length stamps → (m : ℕ) × IsMiddle m stamps
has_middle stamps some = (get_or (ascending stamps) ((length stamps - 1) / 2) 0, middle_at_place stamps some)

-- the middle of the ascending list is that by counts
pub middle_so : (m : ℕ) (stamps : List ℕ) → middle_of stamps ≡ Some m → IsMiddle m stamps
middle_so m [] is = absurd (cc)
middle_so m (x ∷ xs) is =
    let has = has_middle (x ∷ xs) (omega arith) in
    let found = middle_is has.0 (x ∷ xs) has.1 in
    let same : has.0 ≡ m = cc in
    subst (λ n. IsMiddle n (x ∷ xs)) same has.1

-- only a list with no stamp has no middle
pub no_middle : (stamps : List ℕ) → middle_of stamps ≡ None → stamps ≡ []
no_middle [] none = refl
no_middle (x ∷ xs) none =
    let has = has_middle (x ∷ xs) (omega arith) in
    let found = middle_is has.0 (x ∷ xs) has.1 in
    absurd (cc)

-- ---- the middle is one of the stamps

-- if no stamp is `m`, at most as many stamps are up to `m` as are below it
up_to-without : (m : ℕ) (stamps : List ℕ) → All (λ x. x ≢ m) stamps → up_to m stamps ≤ below m stamps
up_to-without m [] others = omega arith
up_to-without m (x ∷ xs) others =
    let other = All-head (λ x. x ≢ m) x xs others in
    let go : (b : Bool) → nat_le x m ≡ b → cond b 1 0 ≤ cond (nat_lt x m) 1 0 =
    λ b. elim b as (λ b. nat_le x m ≡ b → cond b 1 0 ≤ cond (nat_lt x m) 1 0) [
      | true ↦ λ e.
          let most : x ≤ m = leb-true x m e in
          let less : x < m = elim (cases_lt x m) [ inl lt ↦ lt | inr ge ↦ absurd (other (omega arith)) ] in
          rw (lt-ltb x m less) (omega arith)
      | false ↦ λ e. omega arith
    ] in
    omega (arith, go (nat_le x m) refl, up_to-without m xs (All-tail (λ x. x ≢ m) x xs others))

-- if no stamp is the middle, there is no stamp
pub middle_among : (stamps : List ℕ) → ((k : ℕ) → k < length stamps → ¬ IsMiddle (get_or stamps k 0) stamps) → stamps ≡ []
middle_among [] none = refl
middle_among (x ∷ xs) none =
    let has = has_middle (x ∷ xs) (omega arith) in
    let others : All (λ y. y ≢ has.0) (x ∷ xs) =
    All-from_get_or (λ y. y ≢ has.0) (x ∷ xs) 0 (λ k inside same. none k inside (subst (λ n. IsMiddle n (x ∷ xs)) (sym same) has.1)) in
    absurd (omega (arith, has.1.few_below, has.1.half_up_to, up_to-without has.0 (x ∷ xs) others))

-- ---- if good stamps outnumber the others

-- `m` lies between `low` and `high`
pub record IsBetween (low high m : ℕ) : Type 0 where
  pub least : low ≤ m
  pub most : m ≤ high

-- a test that no stamp between the bounds passes is passed by others alone
few_pass : {X : Type 0} (good : X → Bool) (stamp : X → ℕ) (p : ℕ → Bool) (low high : ℕ) (heard : List X)
    → ((y : ℕ) → IsBetween low high y → p y ≡ false) → All (λ x. good x ≡ true → IsBetween low high (stamp x)) heard
    → count_if p (map stamp heard) ≤ count_if (λ x. not (good x)) heard
few_pass good stamp p low high [] fails within = omega arith
few_pass good stamp p low high (x ∷ xs) fails within =
    let here = All-head (λ x. good x ≡ true → IsBetween low high (stamp x)) x xs within in
    let later = All-tail (λ x. good x ≡ true → IsBetween low high (stamp x)) x xs within in
    let go : (b : Bool) → (b ≡ true → p (stamp x) ≡ false) → cond (p (stamp x)) 1 0 ≤ cond (not b) 1 0 =
    λ b. elim b as (λ b. (b ≡ true → p (stamp x) ≡ false) → cond (p (stamp x)) 1 0 ≤ cond (not b) 1 0) [ true ↦ λ h. rw (h refl) (omega arith) | false ↦ λ h. once (p (stamp x)) ] in
    omega (arith, go (good x) (λ is. fails (stamp x) (here is)), few_pass good stamp p low high xs fails later)

-- a test that each stamp between the bounds passes is passed by the good ones
many_pass : {X : Type 0} (good : X → Bool) (stamp : X → ℕ) (p : ℕ → Bool) (low high : ℕ) (heard : List X)
    → ((y : ℕ) → IsBetween low high y → p y ≡ true) → All (λ x. good x ≡ true → IsBetween low high (stamp x)) heard
    → count_if good heard ≤ count_if p (map stamp heard)
many_pass good stamp p low high [] passes within = omega arith
many_pass good stamp p low high (x ∷ xs) passes within =
    let here = All-head (λ x. good x ≡ true → IsBetween low high (stamp x)) x xs within in
    let later = All-tail (λ x. good x ≡ true → IsBetween low high (stamp x)) x xs within in
    let go : (b : Bool) → (b ≡ true → p (stamp x) ≡ true) → cond b 1 0 ≤ cond (p (stamp x)) 1 0 =
    λ b. elim b as (λ b. (b ≡ true → p (stamp x) ≡ true) → cond b 1 0 ≤ cond (p (stamp x)) 1 0) [ true ↦ λ h. rw (h refl) (omega arith) | false ↦ λ h. omega arith ] in
    omega (arith, go (good x) (λ is. passes (stamp x) (here is)), many_pass good stamp p low high xs passes later)

-- each stamp that is heard is of a good source or of another one
length-heard : {X : Type 0} (good : X → Bool) (stamp : X → ℕ) (heard : List X)
    → length (map stamp heard) ≡ count_if good heard + count_if (λ x. not (good x)) heard
length-heard good stamp heard = length-map heard stamp ∙ sym (count_if-not good heard)

-- if more good stamps than others are heard, the middle lies between the bounds of the good ones
pub middle_between : {X : Type 0} (good : X → Bool) (stamp : X → ℕ) (heard : List X) (low high m : ℕ)
    → count_if (λ x. not (good x)) heard < count_if good heard → All (λ x. good x ≡ true → IsBetween low high (stamp x)) heard
    → IsMiddle m (map stamp heard) → IsBetween low high m
middle_between good stamp heard low high m more within is = record {
  least = elim (cases_lt m low) [
    | inl less ↦ absurd (omega (
      arith,
      more,
      is.half_up_to,
      length-heard good stamp heard,
      few_pass good stamp (λ y. nat_le y m) low high heard (λ y in_range. lt-leb y m (omega (arith, in_range.least))) within,
    ))
    | inr least ↦ least
  ];
  most = elim (cases_lt high m) [
    | inl less ↦ absurd (omega (
      arith,
      more,
      is.few_below,
      length-heard good stamp heard,
      many_pass good stamp (λ y. nat_lt y m) low high heard (λ y in_range. lt-ltb y m (omega (arith, in_range.most))) within,
    ))
    | inr most ↦ most
  ];
}

-- ---- lists whose paired stamps are near

-- `m` and `n` differ by at most `e`
pub record AreNear (e m n : ℕ) : Type 0 where
  pub above : m ≤ n + e
  pub under : n ≤ m + e

-- two near lists are near in either order
near-swap : (e : ℕ) (xs ys : List ℕ) → AllZip (AreNear e) xs ys → AllZip (AreNear e) ys xs
near-swap e [] [] near = tt
near-swap e (x ∷ xs) (y ∷ ys) near = (record { above = near.0.under; under = near.0.above }, near-swap e xs ys near.1)
near-swap e [] (y ∷ ys) near = absurd near
near-swap e (x ∷ xs) [] near = absurd near

-- at most as many items of `ys` are up to `n` as items of `xs` are up to n + e
up_to-near : (e n : ℕ) (xs ys : List ℕ) → AllZip (AreNear e) xs ys → up_to n ys ≤ up_to (n + e) xs
up_to-near e n [] [] near = omega arith
up_to-near e n (x ∷ xs) (y ∷ ys) near =
    let go : (b : Bool) → nat_le y n ≡ b → cond b 1 0 ≤ cond (nat_le x (n + e)) 1 0 =
    λ b. elim b as (λ b. nat_le y n ≡ b → cond b 1 0 ≤ cond (nat_le x (n + e)) 1 0) [
      | true ↦ λ is. let most : y ≤ n = leb-true y n is in rw (le-leb x (n + e) (omega (arith, near.0.above))) (omega arith)
      | false ↦ λ is. omega arith
    ] in
    omega (arith, go (nat_le y n) refl, up_to-near e n xs ys near.1)
up_to-near e n [] (y ∷ ys) near = absurd near
up_to-near e n (x ∷ xs) [] near = absurd near

-- the middle of one list is at most `e` above that of the other
near_above : (e : ℕ) (xs ys : List ℕ) (m n : ℕ) → AllZip (AreNear e) xs ys → IsMiddle m xs → IsMiddle n ys → m ≤ n + e
near_above e xs ys m n near is_m is_n =
    elim (cases_lt (n + e) m) [
      | inl less ↦ absurd (omega (arith, is_m.few_below, is_n.half_up_to, length_all_zip (AreNear e) xs ys near, up_to-near e n xs ys near, up_to-below (n + e) m xs less))
      | inr most ↦ most
    ]

-- two lists whose stamps at each place differ by e at most have middles that do
pub middles_near : (e : ℕ) (xs ys : List ℕ) (m n : ℕ) → AllZip (AreNear e) xs ys → IsMiddle m xs → IsMiddle n ys → AreNear e m n
middles_near e xs ys m n near is_m is_n = record {
  above = near_above e xs ys m n near is_m is_n;
  under = near_above e ys xs n m (near-swap e xs ys near) is_n is_m;
}

-- the lists of two near stamps of each source are near
pub near_stamps : {X : Type 0} (e : ℕ) (x_of y_of : X → ℕ) (heard : List X) → All (λ h. AreNear e (x_of h) (y_of h)) heard → AllZip (AreNear e) (map x_of heard) (map y_of heard)
near_stamps e x_of y_of [] near = tt
near_stamps e x_of y_of (h ∷ hs) near =
    (All-head (λ h. AreNear e (x_of h) (y_of h)) h hs near, near_stamps e x_of y_of hs (All-tail (λ h. AreNear e (x_of h) (y_of h)) h hs near))

-- ---- maps that keep the order

-- a greater number never has a smaller image
pub record IsMonotone (f : ℕ → ℕ) : Type 0 where
  pub keeps : (x y : ℕ) → x ≤ y → f x ≤ f y

-- a number with a smaller image is smaller
less_before : (f : ℕ → ℕ) → IsMonotone f → (x m : ℕ) → f x < f m → x < m
less_before f monotone x m less = elim (cases_lt x m) [ inl lt ↦ lt | inr ge ↦ absurd (omega (arith, monotone.keeps m x ge)) ]

-- the middle of the images is the image of the middle
pub middle-map : (f : ℕ → ℕ) → IsMonotone f → (m : ℕ) (stamps : List ℕ) → IsMiddle m stamps → IsMiddle (f m) (map f stamps)
middle-map f monotone m stamps is = record {
  few_below = omega (
    arith,
    is.few_below,
    length-map stamps f,
    count_if-map (λ y. nat_lt y (f m)) f stamps,
    count_if-le (λ x. nat_lt (f x) (f m)) (λ x. nat_lt x m) (λ x lt. lt-ltb x m (less_before f monotone x m (ltb-true (f x) (f m) lt))) stamps,
  );
  half_up_to = omega (
    arith,
    is.half_up_to,
    length-map stamps f,
    count_if-map (λ y. nat_le y (f m)) f stamps,
    count_if-le (λ x. nat_le x m) (λ x. nat_le (f x) (f m)) (λ x le. le-leb (f x) (f m) (monotone.keeps x m (leb-true x m le))) stamps,
  );
}

-- ---- the order of the list

-- a count does not depend on the order of the list
count_if-permutation : (p : ℕ → Bool) (xs ys : List ℕ) → IsPermutation xs ys → count_if p ys ≡ count_if p xs
count_if-permutation p xs ys moved = count_if-count_by p ys ∙ sum_by-IsPermutation (λ x. cond (p x) 1 0) xs ys moved ∙ sym (count_if-count_by p xs)

pub middle-permutation : (m : ℕ) (xs ys : List ℕ) → IsPermutation xs ys → IsMiddle m xs → IsMiddle m ys
middle-permutation m xs ys moved is = record {
  few_below = omega (arith, is.few_below, length_permutation xs ys moved, count_if-permutation (λ x. nat_lt x m) xs ys moved);
  half_up_to = omega (arith, is.half_up_to, length_permutation xs ys moved, count_if-permutation (λ x. nat_le x m) xs ys moved);
}
