-- The place of the least of the keys.
use Rattle.std.proofs.{Common.{◌≡◌, ℕ, zero, suc, ◌+◌, ◌<◌, ◌≤◌, nat_lt, Bool, true, false, List, [], ◌∷◌, length, take, get_or, if◌then◌else◌, refl, sym, ap, ◌∙◌, subst, arith, inl, inr}, lemmas.Bool.cases_lt, lemmas.Bool.Decides.nat_tests}
use Rattle.rb_world_agenda.specs.{declared.scan.Front.Front, Agenda.least_key, Fronts.IsFront}
use Rattle.rb_world_agenda.proofs.Scans.{least-more}

-- ---- the least key

pub least-low : (keys : List ℕ) (k : ℕ) → k < length keys → least_key keys ≤ get_or keys k 0
unfolding least_key
least-low [] k h = absurd (omega arith)
least-low (x ∷ xs) zero h = omega arith
least-low (x ∷ xs) (suc k) h = omega (arith, least-low xs k (omega arith))

-- ---- looking through the keys

-- `front` is the front of the first `i` keys
pub record IsFrontOf (keys : List ℕ) (i : ℕ) (front : Front) : Type 0 where
  pub within : i ≤ length keys
  pub least_is : front.least ≡ least_key (take i keys)
  pub there : front.least < 18446744073709551615 → (front.first < i) × (get_or keys front.first 0 ≡ front.least)
  pub low : (k : ℕ) → k < i → front.least ≤ get_or keys k 0
  pub before : (k : ℕ) → k < front.first → front.least < get_or keys k 0

pub front-none : (keys : List ℕ) → IsFrontOf keys 0 (record { first = 0; least = 18446744073709551615 })
unfolding least_key
front-none keys = record { within = omega arith; least_is = refl; there = λ h. absurd (omega (arith, h)); low = λ k h. absurd (omega arith); before = λ k h. absurd (omega arith) }

pub front-more : (keys : List ℕ) (i : ℕ) (front : Front) → i < length keys → IsFrontOf keys i front
    → IsFrontOf keys (i + 1) (if nat_lt (get_or keys i 0) front.least then record { first = i; least = get_or keys i 0 } else front)
front-more keys i front h is = go (nat_lt (get_or keys i 0) front.least) refl
  where
    at : (k : ℕ) → k < i + 1 → (P : ℕ → Type 0) → ((j : ℕ) → j < i → P j) → P i → P k
    at k below P old new = elim (cases_lt k i) [ inl less ↦ old k less | inr ge ↦ subst P (let e : i ≡ k = omega (arith, below, ge) in e) new ]

    go : (b : Bool) → nat_lt (get_or keys i 0) front.least ≡ b
        → IsFrontOf keys (i + 1) (if b then record { first = i; least = get_or keys i 0 } else front)
    go true e =
        let less : get_or keys i 0 < front.least = grind (arith, nat_tests) in
        record {
          within = omega (arith, h);
          least_is = omega (arith, less, is.least_is, least-more keys i h);
          there = λ some. (omega arith, refl);
          low = λ k below. at k below (λ k. get_or keys i 0 ≤ get_or keys k 0) (λ j before. omega (arith, less, is.low j before)) (omega arith);
          before = λ k below. omega (arith, less, is.low k below);
        }
    go false e =
        let most : front.least ≤ get_or keys i 0 = grind (arith, nat_tests) in
        record {
          within = omega (arith, h);
          least_is = omega (arith, most, is.least_is, least-more keys i h);
          there = λ some. let at = is.there some in let first = at.0 in (omega (arith, first), at.1);
          low = λ k below. at k below (λ k. front.least ≤ get_or keys k 0) is.low most;
          before = is.before;
        }

-- with one more key the front is that key if it is less
pub front-key : (keys : List ℕ) (i key : ℕ) (front next : Front) → i < length keys → get_or keys i 0 ≡ key → IsFrontOf keys i front
    → next ≡ (if nat_lt key front.least then record { first = i; least = key } else front) → IsFrontOf keys (i + 1) next
front-key keys i key front next h at is after =
    subst (IsFrontOf keys (i + 1)) (sym (after ∙ ap (λ k. if nat_lt k front.least then record { first = i; least = k } else front) (sym at)))
    (front-more keys i front h is)

pub first-few : (i key : ℕ) (front next : Front) → next ≡ (if nat_lt key front.least then record { first = i; least = key } else front) → i < 32 → front.first < 32
    → next.first < 32
first-few i key front next after new old = subst (λ (f : Front). f.first < 32) (sym after) (go (nat_lt key front.least))
  where
    go : (b : Bool) → (if b then record { first = i; least = key } else front).first < 32
    go true = new
    go false = old

pub front-all : (keys : List ℕ) (i : ℕ) (front : Front) → take i keys ≡ keys → IsFrontOf keys i front → IsFront keys front
front-all keys i front all is = record {
  least_is = is.least_is ∙ ap least_key all;
  there = λ some. let at = is.there some in let first = at.0 in let within = is.within in (omega (arith, first, within), at.1);
  before = is.before;
}

-- ---- bounds

pub least-most : (keys : List ℕ) → least_key keys ≤ 18446744073709551615
unfolding least_key
least-most [] = omega arith
least-most (x ∷ xs) = omega (arith, least-most xs)

-- a number that is at most each key is at most the least
pub least-above : (keys : List ℕ) (m : ℕ) → m ≤ 18446744073709551615 → ((k : ℕ) → k < length keys → m ≤ get_or keys k 0) → m ≤ least_key keys
unfolding least_key
least-above [] m small above = small
least-above (x ∷ xs) m small above =
    let head : m ≤ x = above 0 (omega arith) in
    let rest = least-above xs m small (λ k h. above (suc k) (omega (arith, h))) in
    omega (arith, head, rest)
