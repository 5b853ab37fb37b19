-- For the law that events are rounds: what is due: it is pending at its node, nothing is pending
-- before it, and if it is a tick nothing comes to the node at its time.
use Rattle.std.proofs.{Common.{◌≡◌, ℕ, zero, suc, ◌+◌, ◌<◌, ◌≤◌, ◌==◌, ◌&&◌, ◌||◌, min, Bool, true, false, List, [], ◌∷◌, ◌++◌, map, filter, cond, refl, sym, ◌∙◌, ap, subst, arith, Option, Some, None, slice_get, option_map}, lemmas.Bool.eqb-true, lemmas.Bool.Decides.nat_tests, lemmas.Option.same_Some}
use Rattle.std.specs.{Prelude.{flat_map, option_to_list}, List.{enumerate_from, range_with_len}}
use Rattle.rb_base.specs.{Counting.numbers, Nodes.{Side, other}, Nodes.Side.{Biu, Rmu}, Sizes.Sizes}
use Rattle.rb_base.proofs.Plain.{and_second, append-none}
use Rattle.rb_rules.specs.{Book.{of_kind, in_order, map_from, map_each}, Goodness.Scenario, Hearing.Coming, Slots.count_of, WorldStep.{Timed, Site, World, Pending, Due, least, times_of, arrivals_at, tick_at, unless_any, ready_at, due_at, due_of, needs_no_event}, WorldStep.Pending.{Tick, Arrival}}
use Rattle.rb_laws_events.proofs.{SameHeard.Every, PendingLists.StandsAt}

-- Lists.

pub every-append : {X : Type 0} (P : X → Type 0) (xs ys : List X) → Every P xs → Every P ys → Every P (xs ++ ys)
every-append P [] ys a b = b
every-append P (x ∷ xs) ys a b = (a.0, every-append P xs ys a.1 b)

pub every-front : {X : Type 0} (P : X → Type 0) (xs ys : List X) → Every P (xs ++ ys) → Every P xs
every-front P [] ys a = tt
every-front P (x ∷ xs) ys a = (a.0, every-front P xs ys a.1)

pub every-back : {X : Type 0} (P : X → Type 0) (xs ys : List X) → Every P (xs ++ ys) → Every P ys
every-back P [] ys a = a
every-back P (x ∷ xs) ys a = every-back P xs ys a.1

pub every-map : {X Y : Type 0} (P : X → Type 0) (Q : Y → Type 0) (f : X → Y) → ((x : X) → P x → Q (f x)) → (xs : List X) → Every P xs → Every Q (map f xs)
every-map P Q f go [] a = tt
every-map P Q f go (x ∷ xs) a = (go x a.0, every-map P Q f go xs a.1)

every-filter : {X : Type 0} (P : X → Type 0) (q : X → Bool) (xs : List X) → Every P xs → Every (λ x. P x × (q x ≡ true)) (filter q xs)
every-filter P q [] a = tt
every-filter P q (x ∷ xs) a = one a.0 (every-filter P q xs a.1) (q x) refl
  where
    one : P x → Every (λ x. P x × (q x ≡ true)) (filter q xs) → (b : Bool) → q x ≡ b → Every (λ x. P x × (q x ≡ true)) (cond b (x ∷ filter q xs) (filter q xs))
    one p rest true e = ((p, e), rest)
    one p rest false e = rest

every-flat : {X Y : Type 0} (Q : Y → Type 0) (f : X → List Y) (xs : List X) → Every (λ x. Every Q (f x)) xs → Every Q (flat_map f xs)
every-flat Q f [] a = tt
every-flat Q f (x ∷ xs) a = every-append Q (f x) (flat_map f xs) a.0 (every-flat Q f xs a.1)

each-of-all : {X : Type 0} (P : X → Type 0) → ((x : X) → P x) → (xs : List X) → Every P xs
each-of-all P all [] = tt
each-of-all P all (x ∷ xs) = (all x, each-of-all P all xs)

every-from : {X Y : Type 0} (Q : Y → Type 0) (i : ℕ) (make : ℕ → X → Y) (xs : List X)
    → ((n : ℕ) (x : X) → slice_get xs n ≡ Some x → Q (make (i + n) x)) → Every Q (map_from i make xs)
every-from Q i make [] all = tt
every-from Q i make (x ∷ xs) all =
    let z : i + 0 ≡ i = omega arith in (
      subst (λ k. Q (make k x)) z (all 0 x refl),
      every-from Q (i + 1) make xs (λ n y e. let s : i + suc n ≡ i + 1 + n = omega arith in subst (λ k. Q (make k y)) s (all (suc n) y e)),
    )

pub every-at : {X : Type 0} (P : X → Type 0) (xs : List X) (n : ℕ) {x : X} → slice_get xs n ≡ Some x → Every P xs → P x
every-at P [] n e a = cc
every-at P (y ∷ ys) zero {x} e a = let same : y ≡ x = cc in subst P same a.0
every-at P (y ∷ ys) (suc n) e a = every-at P ys n e a.1

-- The least time.

pub every-weaker : {X : Type 0} (P Q : X → Type 0) → ((x : X) → P x → Q x) → (xs : List X) → Every P xs → Every Q xs
every-weaker P Q go [] a = tt
every-weaker P Q go (x ∷ xs) a = (go x a.0, every-weaker P Q go xs a.1)

pub least-none : (P : ℕ → Type 0) (xs : List ℕ) → least xs ≡ None → Every P xs
least-none P [] e = tt
least-none P (x ∷ xs) e = cc

-- the least of times is at most each of them
pub least-of : (xs : List ℕ) (t : ℕ) → least xs ≡ Some t → Every (λ u. t ≤ u) xs
least-of [] t e = tt
least-of (x ∷ xs) t e = by (least-of xs) (least xs) refl e
  where
    by : ((u : ℕ) → least xs ≡ Some u → Every (λ v. u ≤ v) xs) → (o : Option ℕ) → least xs ≡ o
        → ◌≡◌ {A = Option ℕ} (Some (elim o as (λ _. ℕ) [ None ↦ x | Some u ↦ min x u ])) (Some t) → Every (λ u. t ≤ u) (x ∷ xs)
    by rest None none s = let same : x ≡ t = same_Some x t s in (omega arith, least-none (λ u. t ≤ u) xs none)
    by rest (Some u) some s =
        let same : min x u ≡ t = same_Some (min x u) t s in
        let below : t ≤ u = omega arith in
        (omega arith, every-weaker (λ v. u ≤ v) (λ v. t ≤ v) (λ v le. omega arith) xs (rest u some))

-- What is ready at a node.

-- the event may be taken at the node at time `t`, if nothing is pending there before
abbrev pub IsReady : ℕ → Site → Pending → Type 0
IsReady t s (Tick k) = (a : Timed) × ((s.ahead ≡ Some a) × ((a.tick ≡ k) × ((a.time ≡ t) × Every (λ c. t < c.time) s.coming)))
IsReady t s (Arrival n c) = StandsAt n c s.coming × (c.time ≡ t)

pub record IsOf (t : ℕ) (me : Side) (i : ℕ) (s : Site) (d : Due) : Type 0 where
  pub side : d.side ≡ me
  pub node : d.node ≡ i
  pub ready : IsReady t s d.pending

-- each item of the enumeration has its place
places : (n : ℕ) (all cs : List Coming) → ((m : ℕ) (c : Coming) → StandsAt m c cs → StandsAt (n + m) c all)
    → Every (λ p. StandsAt p.0 p.1 all) (enumerate_from n cs)
places n all [] at = tt
places n all (c ∷ cs) at =
    let z : n + 0 ≡ n = omega arith in (
      subst (λ k. StandsAt k c all) z (at 0 c refl),
      places (n + 1) all cs (λ m x s. let e : n + suc m ≡ n + 1 + m = omega arith in subst (λ k. StandsAt k x all) e (at (suc m) x s)),
    )

arrivals-ready : (me : Side) (i t : ℕ) (s : Site) (j : ℕ) → Every (IsOf t me i s) (arrivals_at me i t s j)
arrivals-ready me i t s j =
    let q : ℕ × Coming → Bool = λ p. (p.1.from == j) && (p.1.time == t) in
    let z : (m : ℕ) (c : Coming) → StandsAt m c s.coming → StandsAt (0 + m) c s.coming =
    λ m c h. let e : 0 + m ≡ m = omega arith in subst (λ k. StandsAt k c s.coming) (sym e) h in
    every-map (λ p. StandsAt p.0 p.1 s.coming × (q p ≡ true)) (IsOf t me i s) (λ p. record { side = me; node = i; pending = Arrival p.0 p.1 })
    (λ p h. record { side = refl; node = refl; ready = (h.0, eqb-true p.1.time t (and_second (p.1.from == j) (p.1.time == t) h.1)) })
    (filter q (enumerate_from 0 s.coming)) (every-filter (λ p. StandsAt p.0 p.1 s.coming) q (enumerate_from 0 s.coming) (places 0 s.coming s.coming z))

-- if the filter finds nothing, nothing passes
filter-none : {X : Type 0} (q : X → Bool) (xs : List X) → filter q xs ≡ [] → Every (λ x. q x ≡ false) xs
filter-none q [] e = tt
filter-none q (x ∷ xs) e = by (filter-none q xs) (q x) refl e
  where
    by : (filter q xs ≡ [] → Every (λ x. q x ≡ false) xs) → (b : Bool) → q x ≡ b → cond b (x ∷ filter q xs) (filter q xs) ≡ [] → Every (λ x. q x ≡ false) (x ∷ xs)
    by rest true h e = cc
    by rest false h e = (h, rest e)

map-none : {X Y : Type 0} (f : X → Y) (xs : List X) → map f xs ≡ [] → xs ≡ []
map-none f [] e = refl
map-none f (x ∷ xs) e = cc

flat-none : {Y : Type 0} (f : ℕ → List Y) (a n : ℕ) → flat_map f (range_with_len a n) ≡ [] → (k : ℕ) → k < n → f (a + k) ≡ []
flat-none f a zero e k h = absurd (omega arith)
flat-none f a (suc n) e zero h =
    let z : a + 0 ≡ a = omega arith in
    let parts = append-none (f a) (flat_map f (range_with_len (a + 1) n)) e in ap f z ∙ parts.0
flat-none f a (suc n) e (suc k) h =
    let s : a + 1 + k ≡ a + suc k = omega arith in
    let parts = append-none (f a) (flat_map f (range_with_len (a + 1) n)) e in
    ap f (sym s) ∙ flat-none f (a + 1) n parts.1 k (omega arith)

-- what holds for all items with their places holds for the items
unplaced : (P : Coming → Type 0) (n : ℕ) (cs : List Coming) → Every (λ p. P p.1) (enumerate_from n cs) → Every P cs
unplaced P n [] a = tt
unplaced P n (c ∷ cs) a = (a.0, unplaced P (n + 1) cs a.1)

-- an arrival that is not due at time `t`, and comes no earlier, comes later
after-it : (t : ℕ) (from time : ℕ) → ((from == from) && (time == t)) ≡ false → t ≤ time → t < time
after-it t from time h le = grind (arith, nat_tests)

later-all : (t n : ℕ) (cs : List Coming) → ((j : ℕ) → j < n → Every (λ c. ((c.from == j) && (c.time == t)) ≡ false) cs)
    → Every (λ c. c.from < n) cs → Every (λ c. t ≤ c.time) cs → Every (λ c. t < c.time) cs
later-all t n [] none known le = tt
later-all t n (c ∷ cs) none known le =
    (after-it t c.from c.time (none c.from known.0).0 le.0, later-all t n cs (λ j h. (none j h).1) known.1 le.1)

-- if no arrival is ready at the least time, all that comes to the node comes later
nothing-comes : (me : Side) (i t n : ℕ) (s : Site) → flat_map (arrivals_at me i t s) (numbers n) ≡ []
    → Every (λ c. c.from < n) s.coming → Every (λ c. t ≤ c.time) s.coming → Every (λ c. t < c.time) s.coming
nothing-comes me i t n s none known le =
    later-all t n s.coming
    (λ j h.
    let z : 0 + j ≡ j = omega arith in
    let q : ℕ × Coming → Bool = λ p. (p.1.from == j) && (p.1.time == t) in
    let empty : arrivals_at me i t s j ≡ [] = ap (arrivals_at me i t s) (sym z) ∙ flat-none (arrivals_at me i t s) 0 n none j h in
    unplaced (λ c. ((c.from == j) && (c.time == t)) ≡ false) 0 s.coming
    (filter-none q (enumerate_from 0 s.coming) (map-none (λ p. record { side = me; node = i; pending = Arrival p.0 p.1 }) (filter q (enumerate_from 0 s.coming)) empty)))
    known le

every-unmap : {X Y : Type 0} (P : Y → Type 0) (f : X → Y) (xs : List X) → Every P (map f xs) → Every (λ x. P (f x)) xs
every-unmap P f [] a = tt
every-unmap P f (x ∷ xs) a = (a.0, every-unmap P f xs a.1)

pub every-unflat : {X Y : Type 0} (P : Y → Type 0) (f : X → List Y) (xs : List X) → Every P (flat_map f xs) → Every (λ x. Every P (f x)) xs
every-unflat P f [] a = tt
every-unflat P f (x ∷ xs) a = (every-front P (f x) (flat_map f xs) a, every-unflat P f xs (every-back P (f x) (flat_map f xs) a))

tick-ready : (me : Side) (i t : ℕ) (s : Site) → Every (λ c. t < c.time) s.coming → (o : Option Timed) → s.ahead ≡ o → Every (IsOf t me i s) (tick_at me i t o)
tick-ready me i t s later None e = tt
tick-ready me i t s later (Some a) e = by (a.time == t) refl
  where
    by : (b : Bool) → (a.time == t) ≡ b
        → Every (IsOf t me i s) (elim b as (λ _. List Due) [ true ↦ record { side = me; node = i; pending = Tick a.tick } ∷ [] | false ↦ [] ])
    by true h = (record { side = refl; node = refl; ready = (a, (e, (refl, (eqb-true a.time t h, later)))) }, tt)
    by false h = tt

either : (P : Due → Type 0) (xs ys : List Due) → Every P xs → (xs ≡ [] → Every P ys) → Every P (unless_any xs ys)
either P [] ys a later = later refl
either P (x ∷ xs) ys a later = a

-- all that may be taken at a node at a time before which nothing is pending there
pub all-ready : (sizes : Sizes) (t : ℕ) (me : Side) (i : ℕ) (s : Site) → Every (λ c. c.from < count_of (other me) sizes) s.coming
    → Every (λ u. t ≤ u) (times_of s) → Every (IsOf t me i s) (ready_at sizes t me i s)
unfolding ready_at
all-ready sizes t me i s known le =
    let n : ℕ = count_of (other me) sizes in
    let first : List ℕ = option_to_list (option_map (λ (a : Timed). a.time) s.ahead) in
    let coming : Every (λ c. t ≤ c.time) s.coming =
    every-unmap (λ u. t ≤ u) (λ (c : Coming). c.time) s.coming (every-back (λ u. t ≤ u) first (map (λ (c : Coming). c.time) s.coming) le) in
    either (IsOf t me i s) (flat_map (arrivals_at me i t s) (numbers n)) (tick_at me i t s.ahead)
    (every-flat (IsOf t me i s) (arrivals_at me i t s) (numbers n) (each-of-all (λ j. Every (IsOf t me i s) (arrivals_at me i t s j)) (arrivals-ready me i t s) (numbers n)))
    (λ none. tick-ready me i t s (nothing-comes me i t n s none known coming) s.ahead refl)

-- What is due in the world.

-- event `d` is due: its node has it ready at time `t`, and nothing is pending anywhere before
pub record IsDue (w : World) (d : Due) : Type 0 where
  pub t : ℕ
  pub s : Site
  pub there : slice_get (of_kind d.side w.sites) d.node ≡ Some s
  pub ready : IsReady t s d.pending
  pub first : Every (λ u. t ≤ u) (flat_map times_of (in_order w.sites))

-- all that comes to a node comes from nodes that there are
pub record ComesFromNodes (sc : Scenario) (w : World) : Type 0 where
  pub known : (me : Side) (i : ℕ) (s : Site) → slice_get (of_kind me w.sites) i ≡ Some s → Every (λ c. c.from < count_of (other me) sc.sizes) s.coming

of-is-due : (w : World) {t me i s : _} → slice_get (of_kind me w.sites) i ≡ Some s
    → Every (λ u. t ≤ u) (flat_map times_of (in_order w.sites)) → (d : Due) → IsOf t me i s d → IsDue w d
of-is-due w {t} {me} {s} there first d h = record {
  t = t;
  s = s;
  there = ap (λ side. slice_get (of_kind side w.sites) d.node) h.side ∙ ap (slice_get (of_kind me w.sites)) h.node ∙ there;
  ready = h.ready;
  first = first;
}

due-at : {sc w : _} → ComesFromNodes sc w → (o : Option ℕ) → least (flat_map times_of (in_order w.sites)) ≡ o → Every (IsDue w) (due_at sc w o)
due-at known None e = tt
due-at {sc} {w} known (Some t) e =
    let first : Every (λ u. t ≤ u) (flat_map times_of (in_order w.sites)) = least-of (flat_map times_of (in_order w.sites)) t e in
    let by_node : Every (λ s. Every (λ u. t ≤ u) (times_of s)) (w.sites.bius ++ w.sites.rmus) = every-unflat (λ u. t ≤ u) times_of (in_order w.sites) first in
    let bius : Every (λ s. Every (λ u. t ≤ u) (times_of s)) w.sites.bius = every-front (λ s. Every (λ u. t ≤ u) (times_of s)) w.sites.bius w.sites.rmus by_node in
    let rmus : Every (λ s. Every (λ u. t ≤ u) (times_of s)) w.sites.rmus = every-back (λ s. Every (λ u. t ≤ u) (times_of s)) w.sites.bius w.sites.rmus by_node in
    let at : (me : Side) (i : ℕ) (s : Site) → slice_get (of_kind me w.sites) i ≡ Some s → Every (λ u. t ≤ u) (times_of s) → Every (IsDue w) (ready_at sc.sizes t me i s) =
    λ me i s there le. every-weaker (IsOf t me i s) (IsDue w) (of-is-due w there first) (ready_at sc.sizes t me i s)
    (all-ready sc.sizes t me i s (known.known me i s there) le) in
    every-flat (IsDue w) (λ due. due) (in_order (map_each (ready_at sc.sizes t) w.sites))
    (every-append (Every (IsDue w)) (map_from 0 (ready_at sc.sizes t Biu) w.sites.bius) (map_from 0 (ready_at sc.sizes t Rmu) w.sites.rmus)
    (every-from (Every (IsDue w)) 0 (ready_at sc.sizes t Biu) w.sites.bius
    (λ n s e. let z : 0 + n ≡ n = omega arith in subst (λ k. Every (IsDue w) (ready_at sc.sizes t Biu k s)) (sym z)
    (at Biu n s e (every-at (λ s. Every (λ u. t ≤ u) (times_of s)) w.sites.bius n e bius))))
    (every-from (Every (IsDue w)) 0 (ready_at sc.sizes t Rmu) w.sites.rmus
    (λ n s e. let z : 0 + n ≡ n = omega arith in subst (λ k. Every (IsDue w) (ready_at sc.sizes t Rmu k s)) (sym z)
    (at Rmu n s e (every-at (λ s. Every (λ u. t ≤ u) (times_of s)) w.sites.rmus n e rmus)))))

due-by : {sc w : _} → ComesFromNodes sc w → (b : Bool)
    → Every (IsDue w) (elim b as (λ _. List Due) [ true ↦ [] | false ↦ due_at sc w (least (flat_map times_of (in_order w.sites))) ])
due-by known true = tt
due-by {w} known false = due-at known (least (flat_map times_of (in_order w.sites))) refl

-- each event that may be taken is due
pub all-due : {sc w : _} → ComesFromNodes sc w → Every (IsDue w) (due_of sc w)
unfolding due_of
all-due {sc} {w} known = due-by known (w.book.ended || needs_no_event sc w.book.upcoming)

pub due-is : {sc w : _} (i : ℕ) {d : _} → ComesFromNodes sc w → slice_get (due_of sc w) i ≡ Some d → IsDue w d
due-is {sc} {w} i known e = every-at (IsDue w) (due_of sc w) i e (all-due known)

-- Something is due if something is pending.

-- the least of times above t is above t
least-above : (t : ℕ) {u : ℕ} (xs : List ℕ) → Every (λ v. t < v) xs → least xs ≡ Some u → t < u
least-above t [] a e = cc
least-above t {u} (x ∷ xs) a e = by (λ v h. least-above t xs a.1 h) (least xs) refl e
  where
    by : ((v : ℕ) → least xs ≡ Some v → t < v) → (o : Option ℕ) → least xs ≡ o
        → ◌≡◌ {A = Option ℕ} (Some (elim o as (λ _. ℕ) [ None ↦ x | Some v ↦ min x v ])) (Some u) → t < u
    by rest None none s = let same : x ≡ u = same_Some x u s in let above : t < x = a.0 in omega arith
    by rest (Some v) some s =
        let same : min x v ≡ u = same_Some (min x v) u s in
        let above : t < x = a.0 in
        let others : t < v = rest v some in
        omega arith

unless-none : (xs ys : List Due) → unless_any xs ys ≡ [] → (xs ≡ []) × (ys ≡ [])
unless-none [] ys e = (refl, e)
unless-none (x ∷ xs) ys e = cc

tick-later : (me : Side) (i t : ℕ) (o : Option Timed) → tick_at me i t o ≡ [] → Every (λ u. t ≤ u) (option_to_list (option_map (λ (a : Timed). a.time) o))
    → Every (λ u. t < u) (option_to_list (option_map (λ (a : Timed). a.time) o))
tick-later me i t None e le = tt
tick-later me i t (Some a) e le = (by (a.time == t) refl e, tt)
  where
    by : (b : Bool) → (a.time == t) ≡ b
        → (elim b as (λ _. List Due) [ true ↦ record { side = me; node = i; pending = Tick a.tick } ∷ [] | false ↦ [] ]) ≡ [] → t < a.time
    by true h e = cc
    by false h e = let low : t ≤ a.time = le.0 in grind (arith, nat_tests)

every-mapped : {X Y : Type 0} (P : Y → Type 0) (f : X → Y) (xs : List X) → Every (λ x. P (f x)) xs → Every P (map f xs)
every-mapped P f [] a = tt
every-mapped P f (x ∷ xs) a = (a.0, every-mapped P f xs a.1)

-- if nothing is ready at a node, all that is pending there comes later
ready-none : (sizes : Sizes) (t : ℕ) (me : Side) (i : ℕ) (s : Site) → Every (λ c. c.from < count_of (other me) sizes) s.coming
    → Every (λ u. t ≤ u) (times_of s) → ready_at sizes t me i s ≡ [] → Every (λ u. t < u) (times_of s)
unfolding ready_at
ready-none sizes t me i s known le e =
    let n : ℕ = count_of (other me) sizes in
    let first : List ℕ = option_to_list (option_map (λ (a : Timed). a.time) s.ahead) in
    let coming : Every (λ c. t ≤ c.time) s.coming =
    every-unmap (λ u. t ≤ u) (λ (c : Coming). c.time) s.coming (every-back (λ u. t ≤ u) first (map (λ (c : Coming). c.time) s.coming) le) in
    let none = unless-none (flat_map (arrivals_at me i t s) (numbers n)) (tick_at me i t s.ahead) e in
    every-append (λ u. t < u) first (map (λ (c : Coming). c.time) s.coming)
    (tick-later me i t s.ahead none.1 (every-front (λ u. t ≤ u) first (map (λ (c : Coming). c.time) s.coming) le))
    (every-mapped (λ u. t < u) (λ (c : Coming). c.time) s.coming (nothing-comes me i t n s none.0 known coming))

-- the lists that are joined to nothing are all empty
joined-none : {X : Type 0} (xss : List (List X)) → flat_map (λ xs. xs) xss ≡ [] → Every (λ xs. xs ≡ []) xss
joined-none [] e = tt
joined-none (xs ∷ xss) e = let parts = append-none xs (flat_map (λ xs. xs) xss) e in (parts.0, joined-none xss parts.1)

-- `R` holds for each item if it follows from what holds for what is made of the item
from-every : {X Y : Type 0} (Q : Y → Type 0) (i : ℕ) (make : ℕ → X → Y) (xs : List X) → Every Q (map_from i make xs)
    → (R : X → Type 0) → ((n : ℕ) (x : X) → slice_get xs n ≡ Some x → Q (make (i + n) x) → R x) → Every R xs
from-every Q i make [] a R go = tt
from-every Q i make (x ∷ xs) a R go =
    let z : i + 0 ≡ i = omega arith in (
      go 0 x refl (subst (λ k. Q (make k x)) (sym z) a.0),
      from-every Q (i + 1) make xs a.1 R (λ n y e q. let s : i + 1 + n ≡ i + suc n = omega arith in go (suc n) y e (subst (λ k. Q (make k y)) s q)),
    )

none-absurd : {sc w : _} → ComesFromNodes sc w → {t : ℕ} → least (flat_map times_of (in_order w.sites)) ≡ Some t → due_at sc w (Some t) ≡ [] → ⊥
none-absurd {sc} {w} known {t} e none =
    let first : Every (λ u. t ≤ u) (flat_map times_of (in_order w.sites)) = least-of (flat_map times_of (in_order w.sites)) t e in
    let le : Every (λ s. Every (λ u. t ≤ u) (times_of s)) (w.sites.bius ++ w.sites.rmus) = every-unflat (λ u. t ≤ u) times_of (in_order w.sites) first in
    let empty : Every (λ (ds : List Due). ds ≡ []) (map_from 0 (ready_at sc.sizes t Biu) w.sites.bius ++ map_from 0 (ready_at sc.sizes t Rmu) w.sites.rmus) =
    joined-none (in_order (map_each (ready_at sc.sizes t) w.sites)) none in
    let later : (me : Side) (i : ℕ) (s : Site) → slice_get (of_kind me w.sites) i ≡ Some s → Every (λ u. t ≤ u) (times_of s)
    → ready_at sc.sizes t me (0 + i) s ≡ [] → Every (λ u. t < u) (times_of s) =
    λ me i s there low h. ready-none sc.sizes t me (0 + i) s (known.known me i s there) low h in
    let bius : Every (λ s. Every (λ u. t < u) (times_of s)) w.sites.bius =
    from-every (λ ds. ds ≡ []) 0 (ready_at sc.sizes t Biu) w.sites.bius
    (every-front (λ ds. ds ≡ []) (map_from 0 (ready_at sc.sizes t Biu) w.sites.bius) (map_from 0 (ready_at sc.sizes t Rmu) w.sites.rmus) empty)
    (λ s. Every (λ u. t < u) (times_of s))
    (λ n s there h. later Biu n s there (every-at (λ s. Every (λ u. t ≤ u) (times_of s)) w.sites.bius n there (every-front (λ s. Every (λ u. t ≤ u) (times_of s)) w.sites.bius w.sites.rmus le)) h) in
    let rmus : Every (λ s. Every (λ u. t < u) (times_of s)) w.sites.rmus =
    from-every (λ ds. ds ≡ []) 0 (ready_at sc.sizes t Rmu) w.sites.rmus
    (every-back (λ ds. ds ≡ []) (map_from 0 (ready_at sc.sizes t Biu) w.sites.bius) (map_from 0 (ready_at sc.sizes t Rmu) w.sites.rmus) empty)
    (λ s. Every (λ u. t < u) (times_of s))
    (λ n s there h. later Rmu n s there (every-at (λ s. Every (λ u. t ≤ u) (times_of s)) w.sites.rmus n there (every-back (λ s. Every (λ u. t ≤ u) (times_of s)) w.sites.bius w.sites.rmus le)) h) in
    let above : t < t = least-above t (flat_map times_of (in_order w.sites))
    (every-flat (λ u. t < u) times_of (in_order w.sites) (every-append (λ s. Every (λ u. t < u) (times_of s)) w.sites.bius w.sites.rmus bius rmus)) e in
    absurd (omega arith)

-- if the run goes on and its next record needs an event, an event is due while anything is pending
pub some-due : {sc w t : _} → ComesFromNodes sc w → (w.book.ended || needs_no_event sc w.book.upcoming) ≡ false
    → least (flat_map times_of (in_order w.sites)) ≡ Some t → due_of sc w ≡ [] → ⊥
unfolding due_of
some-due {sc} {w} known goes e none =
    none-absurd known e
    (ap (due_at sc w) (sym e)
    ∙ ap (λ b. elim b as (λ _. List Due) [ true ↦ [] | false ↦ due_at sc w (least (flat_map times_of (in_order w.sites))) ]) (sym goes) ∙ none)
