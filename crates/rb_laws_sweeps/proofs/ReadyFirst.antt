-- What is due first: at the first node that has something ready at the least time, its first
-- arrival, else its tick.
use Rattle.std.proofs.{Common.{◌≡◌, ℕ, zero, suc, ◌+◌, ◌<◌, ◌≤◌, ◌==◌, ◌&&◌, ◌⊎◌, Bool, true, false, List, [], ◌∷◌, ◌++◌, cond, filter, flat_map, map, refl, ap, sym, ◌∙◌, subst, arith, inl, inr, Option, Some, None, slice_get}, lemmas.Bool.Decides.nat_tests, lemmas.Option.same_Some}
use Rattle.std.specs.List.{enumerate_from, range_with_len}
use Rattle.rb_base.specs.{Counting.numbers, Nodes.{Side, other}, Sizes.Sizes}
use Rattle.rb_rules.specs.{Book.map_from, Hearing.Coming, Slots.count_of, WorldStep.{Due, Site, arrivals_at, ready_at, tick_at, unless_any}, WorldStep.Pending.Arrival}
use Rattle.rb_laws_events.proofs.{SameHeard.Every, WorldNodes.Known, DueEvents.every-weaker, Receiving.every-stands}
use Rattle.rb_laws_sweeps.specs.Sweeping.{Placed, comes_first, first_of, first_with}
use Rattle.rb_laws_sweeps.proofs.Firsts.{first-least, first-stands, pick, which-first}

-- At a source.

-- whether an arrival is of this source and comes at this time
abbrev is_at : ℕ → ℕ → Coming → Bool
is_at j t c = (c.from == j) && (c.time == t)

none-found : (q : Coming → Bool) (k : ℕ) (cs : List Coming) → Every (λ c. q c ≡ false) cs → filter (λ (p : ℕ × Coming). q p.1) (enumerate_from k cs) ≡ []
none-found q k [] all = refl
none-found q k (c ∷ cs) all =
    ap (λ b. cond b ((k, c) ∷ filter (λ (p : ℕ × Coming). q p.1) (enumerate_from (k + 1) cs)) (filter (λ (p : ℕ × Coming). q p.1) (enumerate_from (k + 1) cs))) all.0
    ∙ none-found q (k + 1) cs all.1

-- `xs` begins with `x`
abbrev pub Begins : {X : Type 0} → X → List X → Type 0
Begins x xs = (rest : List _) × (xs ≡ x ∷ rest)

at-itself : (c : Coming) → is_at c.from c.time c ≡ true
at-itself c = grind (arith, nat_tests)

not-first-there : (c d : Coming) → comes_first c d ≡ false → is_at d.from d.time c ≡ false
not-first-there c d e = grind (arith, nat_tests)

lower-source : (c d : Coming) (j : ℕ) → comes_first c d ≡ true → j < c.from → is_at j c.time d ≡ false
lower-source c d j e lt = grind (arith, nat_tests)

later-there : (c : Coming) (j t : ℕ) → t < c.time → is_at j t c ≡ false
later-there c j t lt = grind (arith, nat_tests)

-- the first arrival is found first among those of its source and its time
found-first : (k : ℕ) (cs : List Coming) (p : Placed) → first_of cs ≡ Some p
    → Begins (k + p.place, p.coming) (filter (λ (c : ℕ × Coming). is_at p.coming.from p.coming.time c.1) (enumerate_from k cs))
unfolding first_of
found-first k [] p e = cc
found-first k (c ∷ cs) p e =
    subst (λ (p : Placed). Begins (k + p.place, p.coming) (filter (λ (c : ℕ × Coming). is_at p.coming.from p.coming.time c.1) (enumerate_from k (c ∷ cs))))
    (same_Some (first_with c (first_of cs)) p e) (by (first_of cs) refl (found-first (k + 1) cs))
  where
    Found : Placed → Type 0
    Found p = Begins (k + p.place, p.coming) (filter (λ (c : ℕ × Coming). is_at p.coming.from p.coming.time c.1) (enumerate_from k (c ∷ cs)))

    itself : Found (record { place = 0; coming = c })
    itself =
        let q : ℕ × Coming → Bool = λ d. is_at c.from c.time d.1 in
        let z : k + 0 ≡ k = omega arith in
        let others : List (ℕ × Coming) = filter q (enumerate_from (k + 1) cs) in
        (others, ap (λ b. cond b ((k, c) ∷ others) others) (at-itself c) ∙ ap (λ n. (n, c) ∷ others) (sym z))

    inner : (q : Placed) (b : Bool) → comes_first c q.coming ≡ b
        → Begins (k + 1 + q.place, q.coming) (filter (λ (c : ℕ × Coming). is_at q.coming.from q.coming.time c.1) (enumerate_from (k + 1) cs)) → Found (pick c q b)
    inner q true f rest = itself
    inner q false f rest =
        let test : ℕ × Coming → Bool = λ d. is_at q.coming.from q.coming.time d.1 in
        let z : k + 1 + q.place ≡ k + suc q.place = omega arith in
        let others : List (ℕ × Coming) = filter test (enumerate_from (k + 1) cs) in
        (rest.0, ap (λ b. cond b ((k, c) ∷ others) others) (not-first-there c q.coming f) ∙ rest.1 ∙ ap (λ n. (n, q.coming) ∷ rest.0) z)

    by : (o : Option Placed) → first_of cs ≡ o
        → ((q : Placed) → first_of cs ≡ Some q → Begins (k + 1 + q.place, q.coming) (filter (λ (c : ℕ × Coming). is_at q.coming.from q.coming.time c.1) (enumerate_from (k + 1) cs)))
        → Found (first_with c o)
    by None h rest = itself
    by (Some q) h rest = inner q (comes_first c q.coming) refl (rest q h)

-- At a node.

flat-head : {Y : Type 0} (f : ℕ → List Y) (a n j : ℕ) {d : Y} → j < n → ((k : ℕ) → k < j → f (a + k) ≡ []) → Begins d (f (a + j)) → Begins d (flat_map f (range_with_len a n))
flat-head f a zero j lt none is = absurd (omega (arith, lt))
flat-head f a (suc n) zero lt none is =
    let z : a + 0 ≡ a = omega arith in
    (is.0 ++ flat_map f (range_with_len (a + 1) n), ap (λ l. l ++ flat_map f (range_with_len (a + 1) n)) (ap f (sym z) ∙ is.1))
flat-head f a (suc n) (suc j) {d} lt none is =
    let z : a + 0 ≡ a = omega arith in
    let s : a + suc j ≡ a + 1 + j = omega arith in
    let rest = flat-head f (a + 1) n j (omega (arith, lt)) (λ k le. let s : a + 1 + k ≡ a + suc k = omega arith in ap f s ∙ none (suc k) (omega (arith, le))) (subst (λ m. Begins d (f m)) s is) in
    (rest.0, ap (λ l. l ++ flat_map f (range_with_len (a + 1) n)) (ap f (sym z) ∙ none 0 (omega arith)) ∙ rest.1)

flat-none : {Y : Type 0} (f : ℕ → List Y) (a n : ℕ) → ((k : ℕ) → f k ≡ []) → flat_map f (range_with_len a n) ≡ []
flat-none f a zero none = refl
flat-none f a (suc n) none = ap (λ l. l ++ flat_map f (range_with_len (a + 1) n)) (none a) ∙ flat-none f (a + 1) n none

-- what is ready at time `t` is first the first arrival, or if none comes then, the tick if it comes
-- then
abbrev pub ReadyFirst : Sizes → ℕ → Side → ℕ → Site → Type 0
ReadyFirst sizes t me i s =
    ((p : Placed) × ((first_of s.coming ≡ Some p) × ((p.coming.time ≡ t) × Begins (record { side = me; node = i; pending = Arrival p.place p.coming }) (ready_at sizes t me i s))))
    ⊎ (Every (λ c. t + 1 ≤ c.time) s.coming × (ready_at sizes t me i s ≡ tick_at me i t s.ahead))

pub ready-first : (sizes : Sizes) (t : ℕ) {me : _} (i : ℕ) (s : Site) → Known sizes me s.coming → Every (λ c. t ≤ c.time) s.coming → ReadyFirst sizes t me i s
unfolding ready_at
ready-first sizes t {me} i s known late = elim (which-first (t + 1) s.coming) [
  | inl one ↦
      let p : Placed = one.0 in
      let low : t ≤ p.coming.time = every-stands (λ c. t ≤ c.time) p.place s.coming (first-stands s.coming p one.1.0) late in
      let lt : p.coming.time < t + 1 = one.1.1 in
      let time : p.coming.time ≡ t = omega (arith, low, lt) in
      inl (p, (one.1.0, (time, arrives p one.1.0 time)))
  | inr later ↦ inr (later, ap (λ l. unless_any l (tick_at me i t s.ahead)) (quiet later))
]
  where
    n : ℕ
    n = count_of (other me) sizes

    due : ℕ × Coming → Due
    due c = record { side = me; node = i; pending = Arrival c.0 c.1 }

    arrives : (p : Placed) → first_of s.coming ≡ Some p → p.coming.time ≡ t
        → Begins (record { side = me; node = i; pending = Arrival p.place p.coming }) (unless_any (flat_map (arrivals_at me i t s) (numbers n)) (tick_at me i t s.ahead))
    arrives p e time =
        let j : ℕ = p.coming.from in
        let counted : j < n = every-stands (λ c. c.from < n) p.place s.coming (first-stands s.coming p e) known in
        let z : 0 + j ≡ j = omega arith in
        let y : 0 + p.place ≡ p.place = omega arith in
        let found = found-first 0 s.coming p e in
        let here : Begins (due (p.place, p.coming)) (arrivals_at me i t s j) = (
          map due found.0,
          ap (λ t. arrivals_at me i t s j) (sym time) ∙ ap (map due) found.1 ∙ ap (λ k. due (k, p.coming) ∷ map due found.0) y,
        ) in
        let lower : (k : ℕ) → k < j → arrivals_at me i t s (0 + k) ≡ [] = λ k lt.
        let z : 0 + k ≡ k = omega arith in
        ap (arrivals_at me i t s) z ∙ ap (λ t. arrivals_at me i t s k) (sym time)
        ∙ ap (map due)
        (none-found (is_at k p.coming.time) 0 s.coming
        (every-weaker (λ d. comes_first p.coming d ≡ true) (λ d. is_at k p.coming.time d ≡ false) (λ d f. lower-source p.coming d k f lt) s.coming (first-least s.coming p e))) in
        let all = flat-head (arrivals_at me i t s) 0 n j counted lower (subst (λ k. Begins (due (p.place, p.coming)) (arrivals_at me i t s k)) (sym z) here) in
        (all.0, ap (λ l. unless_any l (tick_at me i t s.ahead)) all.1)

    quiet : Every (λ c. t + 1 ≤ c.time) s.coming → flat_map (arrivals_at me i t s) (numbers n) ≡ []
    quiet later =
        flat-none (arrivals_at me i t s) 0 n
        (λ k. ap (map due) (none-found (is_at k t) 0 s.coming (every-weaker (λ c. t + 1 ≤ c.time) (λ c. is_at k t c ≡ false) (λ c le. later-there c k t (omega (arith, le))) s.coming later)))

-- Among nodes.

-- `d` is made first of the first item of which anything is made
pub record FirstMade {X Y : Type 0} (k : ℕ) (make : ℕ → X → List Y) (xs : List X) (d : Y) : Type 0 where
  pub n : ℕ
  pub x : X
  pub there : slice_get xs n ≡ Some x
  pub is : Begins d (make (k + n) x)
  pub before : (m : ℕ) (y : X) → m < n → slice_get xs m ≡ Some y → make (k + m) y ≡ []

pub head-same : {X : Type 0} (x y : X) (xs ys : List X) → x ∷ xs ≡ y ∷ ys → x ≡ y
head-same x y xs ys e = cc

pub first-made : {X Y : Type 0} (k : ℕ) (make : ℕ → X → List Y) (xs : List X) {d : Y} → Begins d (flat_map (λ l. l) (map_from k make xs)) → FirstMade k make xs d
first-made k make [] {d} is = absurd (no-head is.0 d is.1)
  where
    no-head : {Y : Type 0} (rest : List Y) (d : Y) → [] ≡ d ∷ rest → ⊥
    no-head rest d e = cc
first-made k make (x ∷ xs) {d} is = by (make k x) refl is (first-made (k + 1) make xs)
  where
    z : k + 0 ≡ k
    z = omega arith

    by : (l : List _) → make k x ≡ l → Begins d (l ++ flat_map (λ l. l) (map_from (k + 1) make xs)) → (Begins d (flat_map (λ l. l) (map_from (k + 1) make xs)) → FirstMade (k + 1) make xs d)
        → FirstMade k make (x ∷ xs) d
    by (y ∷ ys) e is rest = record {
      n = 0;
      x = x;
      there = refl;
      is = (ys, ap (λ m. make m x) z ∙ e ∙ ap (λ y. y ∷ ys) (head-same y d (ys ++ flat_map (λ l. l) (map_from (k + 1) make xs)) is.0 is.1));
      before = λ m y lt there. absurd (omega (arith, lt));
    }
    by [] e is rest =
        let r = rest is in
        let s : k + 1 + r.n ≡ k + suc r.n = omega arith in
        record { n = suc r.n; x = r.x; there = r.there; is = subst (λ m. Begins d (make m r.x)) s r.is; before = before r }
      where
        before : (r : FirstMade (k + 1) make xs d) (m : ℕ) (y : _) → m < suc r.n → slice_get (x ∷ xs) m ≡ Some y → make (k + m) y ≡ []
        before r zero y lt there = let same : x ≡ y = same_Some x y there in ap (make (k + 0)) (sym same) ∙ ap (λ m. make m x) z ∙ e
        before r (suc m) y lt there = let s : k + suc m ≡ k + 1 + m = omega arith in ap (λ n. make n y) s ∙ r.before m y (omega (arith, lt)) there
