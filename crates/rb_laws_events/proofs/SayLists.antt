-- For the law that events are rounds: what nodes that are not good say in a window that opens: it
-- comes in the window, and stands together with what good nodes have already sent for it.
use Rattle.std.proofs.{Common.{◌≡◌, ℕ, zero, suc, ◌+◌, ◌<◌, ◌≤◌, ◌==◌, ◌&&◌, ◌⊎◌, nat_le, Bool, true, false, cond, All, List, [], ◌∷◌, ◌++◌, filter, flat_map, get_or, length, refl, ap, sym, ◌∙◌, subst, arith, inl, inr}, lemmas.Bool.{cases_lt, eq-eqb, le-leb, le-ltb}, lemmas.Bool.Decides.nat_tests, lemmas.List.append-nil, lemmas.List.Elements.{filter-append, All-head}}
use Rattle.std.specs.List.{range_with_len}
use Rattle.rb_base.specs.Nodes.{Side, other}
use Rattle.rb_base.proofs.Plain.{and-false}
use Rattle.rb_rules.specs.{Clock.{Timeline, time_of}, Goodness.{Scenario, is_good, clock_of}, Hearing.{Coming, Span, said_by}, Slots.count_of, WorldStep.says_in}
use Rattle.rb_laws_events.proofs.{PendingLists.{Hears, is_later, is_now}, SameHeard.{Every, IsOneOf, all-every}}
use Rattle.rb_laws_agreement.proofs.SaidWindows.{IsSaid, all-said}

-- Times.

-- `c` comes at one of the ticks of the span, or less than a tick before
abbrev pub ComesIn : Timeline → Span → Coming → Type 0
ComesIn clock span c = ((m : ℕ) → span.first ≡ suc m → time_of clock m < c.time) × (c.time ≤ time_of clock span.last)

-- all that a node says that is not good comes in the window
pub said-in-window : (sc : Scenario) (me : Side) (i j : ℕ) (span : Span) → Every (ComesIn (clock_of sc me i) span) (said_by sc me i span j)
said-in-window sc me i j span =
    all-every (ComesIn (clock_of sc me i) span) (said_by sc me i span j)
    (λ k d lt. let is : IsSaid sc me i span j (get_or (said_by sc me i span j) k d) = all-said sc me i span j k d lt in (is.later, is.within))

-- Sources.

-- only nodes of the bus say anything
none-said : (sc : Scenario) (me : Side) (i j : ℕ) (span : Span) → count_of (other me) sc.sizes ≤ j → said_by sc me i span j ≡ []
none-said sc me i j span over = by (said_by sc me i span j) (all-said sc me i span j)
  where
    by : (xs : List Coming) → All (IsSaid sc me i span j) xs → xs ≡ []
    by [] all = refl
    by (x ∷ xs) all = let known = (All-head (IsSaid sc me i span j) x xs all).known in absurd (omega (arith, known, over))

said-from : (sc : Scenario) (me : Side) (i : ℕ) (span : Span) (j : ℕ) → Every (λ c. c.from ≡ j) (said_by sc me i span j)
said-from sc me i span j = all-every (λ c. c.from ≡ j) (said_by sc me i span j) (λ k d lt. (all-said sc me i span j k d lt).from)

-- Lists by source.

pub filter-all : (q : Coming → Bool) (xs : List Coming) → Every (λ c. q c ≡ true) xs → filter q xs ≡ xs
filter-all q [] e = refl
filter-all q (x ∷ xs) e = ap (λ b. cond b (x ∷ filter q xs) (filter q xs)) e.0 ∙ ap (λ l. x ∷ l) (filter-all q xs e.1)

pub filter-no : (q : Coming → Bool) (xs : List Coming) → Every (λ c. q c ≡ false) xs → filter q xs ≡ []
filter-no q [] e = refl
filter-no q (x ∷ xs) e = ap (λ b. cond b (x ∷ filter q xs) (filter q xs)) e.0 ∙ filter-no q xs e.1

pub every-to : (P Q : Coming → Type 0) → ((c : Coming) → P c → Q c) → (xs : List Coming) → Every P xs → Every Q xs
every-to P Q f [] e = tt
every-to P Q f (x ∷ xs) e = (f x e.0, every-to P Q f xs e.1)

pub every-both : (P Q : Coming → Type 0) (xs : List Coming) → Every P xs → Every Q xs → Every (λ c. P c × Q c) xs
every-both P Q [] a b = tt
every-both P Q (x ∷ xs) a b = ((a.0, b.0), every-both P Q xs a.1 b.1)

not-same : {a : ℕ} (j : ℕ) {k : ℕ} → a ≡ k → (k < j) ⊎ (j < k) → (a == j) ≡ false
not-same j e (inl lt) = grind (arith, nat_tests)
not-same j e (inr gt) = grind (arith, nat_tests)

-- entries of source `k` do not pass for another source `j`
others-now : (j k u : ℕ) (xs : List Coming) → (k < j) ⊎ (j < k) → Every (λ c. c.from ≡ k) xs → filter (is_now j u) xs ≡ []
others-now j k u xs h e =
    filter-no (is_now j u) xs (every-to (λ c. c.from ≡ k) (λ c. is_now j u c ≡ false) (λ c f. ap (λ b. b && nat_le c.time u) (not-same j f h)) xs e)

own-now : (j u : ℕ) {xs : List Coming} → Every (λ c. c.from ≡ j) xs → Every (λ c. c.time ≤ u) xs → filter (is_now j u) xs ≡ xs
own-now j u {xs} e times =
    filter-all (is_now j u) xs
    (every-to (λ c. (c.from ≡ j) × (c.time ≤ u)) (λ c. is_now j u c ≡ true)
    (λ c h. ap (λ b. b && nat_le c.time u) (eq-eqb c.from j h.0) ∙ le-leb c.time u h.1) xs (every-both (λ c. c.from ≡ j) (λ c. c.time ≤ u) xs e times))

none-later : (j u : ℕ) (xs : List Coming) → Every (λ c. c.time ≤ u) xs → filter (is_later j u) xs ≡ []
none-later j u xs times =
    filter-no (is_later j u) xs
    (every-to (λ c. c.time ≤ u) (λ c. is_later j u c ≡ false) (λ c le. ap (λ b. (c.from == j) && b) (le-ltb u c.time le) ∙ and-false (c.from == j)) xs times)

flat-miss : (j u : ℕ) (f : ℕ → List Coming) (a n : ℕ) → ((k : ℕ) → Every (λ c. c.from ≡ k) (f k)) → (j < a) ⊎ (a + n ≤ j)
    → filter (is_now j u) (flat_map f (range_with_len a n)) ≡ []
flat-miss j u f a zero its out = refl
flat-miss j u f a (suc n) its out =
    let rest : filter (is_now j u) (flat_map f (range_with_len (a + 1) n)) ≡ [] = flat-miss j u f (a + 1) n its (elim out [ inl lt ↦ inl (omega arith) | inr ge ↦ inr (omega arith) ]) in
    filter-append (is_now j u) (f a) (flat_map f (range_with_len (a + 1) n))
    ∙ ap (λ l. l ++ filter (is_now j u) (flat_map f (range_with_len (a + 1) n)))
    (others-now j a u (f a) (elim out [ inl lt ↦ inr lt | inr ge ↦ inl (omega arith) ]) (its a))
    ∙ rest

flat-hit : (j u : ℕ) (f : ℕ → List Coming) (a n : ℕ) → ((k : ℕ) → Every (λ c. c.from ≡ k) (f k)) → Every (λ c. c.time ≤ u) (f j) → a ≤ j → j < a + n
    → filter (is_now j u) (flat_map f (range_with_len a n)) ≡ f j
flat-hit j u f a zero its times lo hi = absurd (omega arith)
flat-hit j u f a (suc n) its times lo hi =
    filter-append (is_now j u) (f a) (flat_map f (range_with_len (a + 1) n))
    ∙ elim (cases_lt a j) [
      | inl lt ↦
          ap (λ l. l ++ filter (is_now j u) (flat_map f (range_with_len (a + 1) n))) (others-now j a u (f a) (inl lt) (its a))
          ∙ flat-hit j u f (a + 1) n its times (omega arith) (omega arith)
      | inr ge ↦
          let same : j ≡ a = omega arith in
          let own : filter (is_now j u) (f j) ≡ f j = own-now j u (its j) times in
          let own_a : filter (is_now j u) (f a) ≡ f j = ap (λ k. filter (is_now j u) (f k)) (sym same) ∙ own in
          ap (λ l. l ++ filter (is_now j u) (flat_map f (range_with_len (a + 1) n))) own_a
          ∙ ap (λ l. f j ++ l) (flat-miss j u f (a + 1) n its (inl (omega arith)))
          ∙ append-nil (f j)
    ]

-- A window opens.

-- what node `k` of the other kind says in the span, if it is not good
abbrev pub said_if : Scenario → Side → ℕ → Span → ℕ → List Coming
said_if sc me i span k = elim (is_good sc (other me) k span.place.frame span.place.slot) [ true ↦ [] | false ↦ said_by sc me i span k ]

said-if-from : (sc : Scenario) (me : Side) (i : ℕ) (span : Span) (k : ℕ) → Every (λ c. c.from ≡ k) (said_if sc me i span k)
said-if-from sc me i span k = by (is_good sc (other me) k span.place.frame span.place.slot)
  where
    by : (b : Bool) → Every (λ c. c.from ≡ k) (elim b as (λ _. List Coming) [ true ↦ [] | false ↦ said_by sc me i span k ])
    by true = tt
    by false = said-from sc me i span k

pub said-if-in : (sc : Scenario) (me : Side) (i : ℕ) (span : Span) (k : ℕ) → Every (ComesIn (clock_of sc me i) span) (said_if sc me i span k)
said-if-in sc me i span k = by (is_good sc (other me) k span.place.frame span.place.slot)
  where
    by : (b : Bool) → Every (ComesIn (clock_of sc me i) span) (elim b as (λ _. List Coming) [ true ↦ [] | false ↦ said_by sc me i span k ])
    by true = tt
    by false = said-in-window sc me i k span

every-flat : (P : Coming → Type 0) (f : ℕ → List Coming) (a n : ℕ) → ((k : ℕ) → Every P (f k)) → Every P (flat_map f (range_with_len a n))
every-flat P f a zero all = tt
every-flat P f a (suc n) all = join (f a) (flat_map f (range_with_len (a + 1) n)) (all a) (every-flat P f (a + 1) n all)
  where
    join : (xs ys : List Coming) → Every P xs → Every P ys → Every P (xs ++ ys)
    join [] ys a b = b
    join (x ∷ xs) ys a b = (a.0, join xs ys a.1 b)

-- all that is said in the span comes in it
pub says-come-in : (sc : Scenario) (me : Side) (i : ℕ) (span : Span) → Every (ComesIn (clock_of sc me i) span) (says_in sc me i span)
unfolding says_in
says-come-in sc me i span = every-flat (ComesIn (clock_of sc me i) span) (said_if sc me i span) 0 (count_of (other me) sc.sizes) (said-if-in sc me i span)

-- what is said in the span by source `j` alone comes from source `j`
pub says-now : (sc : Scenario) (me : Side) (i : ℕ) (span : Span) (j : ℕ) → filter (is_now j (time_of (clock_of sc me i) span.last)) (says_in sc me i span) ≡ said_if sc me i span j
unfolding says_in
says-now sc me i span j =
    let u : ℕ = time_of (clock_of sc me i) span.last in
    let times : Every (λ c. c.time ≤ u) (said_if sc me i span j) =
    every-to (ComesIn (clock_of sc me i) span) (λ c. c.time ≤ u) (λ c h. h.1) (said_if sc me i span j) (said-if-in sc me i span j) in
    elim (cases_lt j (count_of (other me) sc.sizes)) [
      | inl lt ↦ flat-hit j u (said_if sc me i span) 0 (count_of (other me) sc.sizes) (said-if-from sc me i span) times (omega arith) (omega arith)
      | inr ge ↦
          flat-miss j u (said_if sc me i span) 0 (count_of (other me) sc.sizes) (said-if-from sc me i span) (inr (omega arith))
          ∙ sym (none (is_good sc (other me) j span.place.frame span.place.slot) ge)
    ]
  where
    none : (b : Bool) → count_of (other me) sc.sizes ≤ j → (elim b as (λ _. List Coming) [ true ↦ [] | false ↦ said_by sc me i span j ]) ≡ []
    none true ge = refl
    none false ge = none-said sc me i j span ge

pub each-itself : (xs ys : List Coming) → ((x : Coming) → IsOneOf x xs → IsOneOf x ys) → Every (λ c. IsOneOf c ys) xs
each-itself [] ys f = tt
each-itself (x ∷ xs) ys f = (f x (inl refl), each-itself xs ys (λ z h. f z (inr h)))

-- entries that are said in the window are added to what is pending and to what was sent
pub say-more : {j u coming : _} (says : List Coming) {said sent next : _} → filter (is_now j u) says ≡ said → Every (λ c. c.time ≤ u) says
    → (said ≡ []) ⊎ (sent ≡ []) → Hears j u [] coming sent next → Hears j u [] (coming ++ says) (sent ++ said) next
say-more {j} {u} {coming} says {said} {sent} {next} now times (inl none) h =
    let more : filter (is_now j u) (coming ++ says) ≡ filter (is_now j u) coming =
    filter-append (is_now j u) coming says ∙ ap (λ l. filter (is_now j u) coming ++ l) (now ∙ none) ∙ append-nil (filter (is_now j u) coming) in
    let all : sent ++ said ≡ sent = ap (λ l. sent ++ l) none ∙ append-nil sent in
    subst (λ l. Hears j u [] (coming ++ says) l next) (sym all) (record {
      came = tt;
      pends = subst (Every (λ c. IsOneOf c sent)) (sym more) h.pends;
      as_many = ap (λ l. 0 + length l) more ∙ h.as_many;
      later = filter-append (is_later j u) coming says ∙ ap (λ l. filter (is_later j u) coming ++ l) (none-later j u says times)
          ∙ append-nil (filter (is_later j u) coming) ∙ h.later;
    })
say-more {j} {u} {coming} says {said} {sent} {next} now times (inr none) h =
    let count : 0 + length (filter (is_now j u) coming) ≡ length sent = h.as_many in
    let zero_sent : length sent ≡ 0 = ap length none in
    let empty : filter (is_now j u) coming ≡ [] = no-length (filter (is_now j u) coming) (omega arith) in
    let more : filter (is_now j u) (coming ++ says) ≡ said = filter-append (is_now j u) coming says ∙ ap (λ l. l ++ filter (is_now j u) says) empty ∙ now in
    let all : sent ++ said ≡ said = ap (λ l. l ++ said) none in
    subst (λ l. Hears j u [] (coming ++ says) l next) (sym all) (record {
      came = tt;
      pends = subst (Every (λ c. IsOneOf c said)) (sym more) (each-itself said said (λ x h. h));
      as_many = let l : length (filter (is_now j u) (coming ++ says)) ≡ length said = ap length more in omega (arith, l);
      later = filter-append (is_later j u) coming says ∙ ap (λ l. filter (is_later j u) coming ++ l) (none-later j u says times)
          ∙ append-nil (filter (is_later j u) coming) ∙ h.later;
    })
  where
    no-length : (xs : List Coming) → length xs ≡ 0 → xs ≡ []
    no-length [] e = refl
    no-length (x ∷ xs) e = absurd (omega arith)
