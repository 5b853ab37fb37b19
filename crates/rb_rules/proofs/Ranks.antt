-- Which stamp stands at a place of the ascending list, by counts.
use Rattle.std.proofs.{Common.{◌≡◌, ℕ, zero, suc, ◌+◌, ◌<◌, ◌≤◌, Bool, true, false, cond, List, [], ◌∷◌, length, nat_lt, nat_le, get_or, refl, ◌∙◌, ap, arith, if◌then◌else◌}, lemmas.Bool.{le-leb, leb-true, leb-false, lt-ltb, ltb-true, le-ltb}, lemmas.Bool.Decides.nat_tests}
use Rattle.rb_base.specs.Counting.{count_if}
use Rattle.rb_rules.specs.Middle.{put, ascending, below, up_to}
use Rattle.rb_base.proofs.Counts.{once, count_if-cons, count_if-le}

-- m stands at place k of the ascending list: at most k stamps are below it, and more than k are at
-- most it
pub record IsAtRank (k m : ℕ) (stamps : List ℕ) : Type 0 where
  pub few_below : below m stamps ≤ k
  pub enough_up_to : k < up_to m stamps

-- ---- counts below and up to a number

-- stamps that are at most a number are below each greater one
pub up_to-below : (m n : ℕ) (stamps : List ℕ) → m < n → up_to m stamps ≤ below n stamps
up_to-below m n stamps less =
    count_if-le (λ x. nat_le x m) (λ x. nat_lt x n) (λ x le. let at_most : x ≤ m = leb-true x m le in lt-ltb x n (omega arith)) stamps

pub below-le : (m n : ℕ) (stamps : List ℕ) → m ≤ n → below m stamps ≤ below n stamps
below-le m n stamps le =
    count_if-le (λ x. nat_lt x m) (λ x. nat_lt x n) (λ x lt. let less : x < m = ltb-true x m lt in lt-ltb x n (omega arith)) stamps

-- ---- putting in order keeps the counts

count_if-put : (p : ℕ → Bool) (new : ℕ) (stamps : List ℕ) → count_if p (put new stamps) ≡ cond (p new) 1 0 + count_if p stamps
count_if-put p new [] = refl
count_if-put p new (x ∷ xs) =
    elim (nat_le new x) as (λ b. count_if p (if b then new ∷ (x ∷ xs) else x ∷ put new xs) ≡ cond (p new) 1 0 + (cond (p x) 1 0 + count_if p xs)) [
      | true ↦ refl
      | false ↦ omega (arith, count_if-put p new xs)
    ]

pub count_if-ascending : (p : ℕ → Bool) (stamps : List ℕ) → count_if p (ascending stamps) ≡ count_if p stamps
count_if-ascending p [] = refl
count_if-ascending p (x ∷ xs) = omega (arith, count_if-put p x (ascending xs), count_if-ascending p xs)

length-put : (new : ℕ) (stamps : List ℕ) → length (put new stamps) ≡ suc (length stamps)
length-put new [] = refl
length-put new (x ∷ xs) =
    elim (nat_le new x) as (λ b. length (if b then new ∷ (x ∷ xs) else x ∷ put new xs) ≡ suc (suc (length xs))) [ true ↦ refl | false ↦ ap suc (length-put new xs) ]

pub length-ascending : (stamps : List ℕ) → length (ascending stamps) ≡ length stamps
length-ascending [] = refl
length-ascending (x ∷ xs) = length-put x (ascending xs) ∙ ap suc (length-ascending xs)

-- ---- the places of the ascending list

-- no stamp is below one that stands before it
abbrev IsUp : List ℕ → Type 0
IsUp [] = Unit {0}
IsUp (x ∷ xs) = (below x xs ≡ 0) × IsUp xs

up-put : (new : ℕ) (stamps : List ℕ) → IsUp stamps → IsUp (put new stamps)
up-put new [] up = (refl, tt)
up-put new (x ∷ xs) up =
    let go : (b : Bool) → nat_le new x ≡ b → IsUp (if b then new ∷ (x ∷ xs) else x ∷ put new xs) =
    λ b. elim b as (λ b. nat_le new x ≡ b → IsUp (if b then new ∷ (x ∷ xs) else x ∷ put new xs)) [
      | true ↦ λ e. let first : new ≤ x = leb-true new x e in (rw (le-ltb x new first) (omega (arith, up.0, below-le new x xs first)), up)
      | false ↦ λ e.
          let later : x < new = leb-false new x e in
          let least : x ≤ new = omega arith in
          (count_if-put (λ y. nat_lt y x) new xs ∙ rw (le-ltb new x least) (omega (arith, up.0)), up-put new xs up.1)
    ] in
    go (nat_le new x) refl

up-ascending : (stamps : List ℕ) → IsUp (ascending stamps)
up-ascending [] = tt
up-ascending (x ∷ xs) = up-put x (ascending xs) (up-ascending xs)

-- if no stamp is below `m`, the stamp at each place is at least `m`
none_below : (m : ℕ) (stamps : List ℕ) (k : ℕ) → below m stamps ≡ 0 → k < length stamps → m ≤ get_or stamps k 0
none_below m [] k none inside = absurd (omega arith)
none_below m (x ∷ xs) zero none inside =
    let go : (b : Bool) → nat_lt x m ≡ b → cond b 1 0 + below m xs ≡ 0 → m ≤ x =
    λ b. elim b as (λ b. nat_lt x m ≡ b → cond b 1 0 + below m xs ≡ 0 → m ≤ x) [ true ↦ λ e n. absurd (omega arith) | false ↦ λ e n. grind (arith, nat_tests) ] in
    go (nat_lt x m) refl none
none_below m (x ∷ xs) (suc k) none inside =
    none_below m xs k (omega (arith, none, count_if-cons (λ y. nat_lt y m) x xs)) (omega arith)

-- what stands at a place of a list in ascending order has that rank
rank_at : (stamps : List ℕ) (k : ℕ) → IsUp stamps → k < length stamps → IsAtRank k (get_or stamps k 0) stamps
rank_at [] k up inside = absurd (omega arith)
rank_at (x ∷ xs) zero up inside =
    let itself : x ≤ x = omega arith in
    record {
      few_below = rw (le-ltb x x itself) (omega (arith, up.0));
      enough_up_to = rw (le-leb x x itself) (omega arith);
    }
rank_at (x ∷ xs) (suc k) up inside =
    let later : IsAtRank k (get_or xs k 0) xs = rank_at xs k up.1 (omega arith) in
    let first : x ≤ get_or xs k 0 = none_below x xs k up.0 (omega arith) in
    record {
      few_below = omega (arith, later.few_below, once (nat_lt x (get_or xs k 0)), count_if-cons (λ y. nat_lt y (get_or xs k 0)) x xs);
      enough_up_to = rw (le-leb x (get_or xs k 0) first) (omega (arith, later.enough_up_to));
    }

-- what stands at a place of the ascending list has that rank among the stamps
pub rank_in_ascending : (stamps : List ℕ) (k : ℕ) → k < length stamps → IsAtRank k (get_or (ascending stamps) k 0) stamps
rank_in_ascending stamps k inside =
    let m : ℕ = get_or (ascending stamps) k 0 in
    let is : IsAtRank k m (ascending stamps) = rank_at (ascending stamps) k (up-ascending stamps) (omega (arith, length-ascending stamps)) in
    record {
      few_below = omega (arith, is.few_below, count_if-ascending (λ x. nat_lt x m) stamps);
      enough_up_to = omega (arith, is.enough_up_to, count_if-ascending (λ x. nat_le x m) stamps);
    }
