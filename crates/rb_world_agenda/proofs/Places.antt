-- What is ready is of the least time; an arrival stands at its place, and is taken out there.
use Rattle.std.proofs.{Common.{◌≡◌, ℕ, zero, suc, ◌+◌, ◌<◌, ◌==◌, Bool, true, false, cond, Option, Some, None, List, [], ◌∷◌, ◌++◌, All, filter, map, slice_get, refl, sym, ap, ◌∙◌, subst, arith}, lemmas.Bool.Decides.nat_tests, lemmas.List.Elements.{All-cons, All-head, All-tail}, lemmas.Option.same_Some}
use Rattle.std.specs.{Prelude.{remove, unwrap_or}, List.enumerate_from}
use Rattle.rb_base.specs.{Nodes.{Side, other}, Sizes.Sizes}
use Rattle.rb_rules.specs.{Hearing.Coming, Slots.count_of, WorldStep.Site}
use Rattle.rb_queue.specs.{Waiting.{Held, Ready, comes, coming_at, head_of, ready_from, ready_of, without_found, without_ready}, Waiting.{unless_any as unless_some, arrivals_at as arrivals_of, tick_at as tick_in}, Waiting.Ready.{Comes, Ticks}}
use Rattle.rb_queue.proofs.Sources.{arrivals_are, from_on, from_on-suc, from_on-zero}
use Rattle.rb_world_agenda.specs.Holding.{HoldsSite, waits_with, without_waiting}

-- Arrivals.

-- each item is the arrival at its place, and comes at time `t`
abbrev AreAt : ℕ → List Coming → List (ℕ × Coming) → Type 0
AreAt t arrivals xs = (n : ℕ) → (c : ℕ × Coming) → slice_get xs n ≡ Some c → (c.1.time ≡ t) × (slice_get arrivals c.0 ≡ Some c.1)

at-none : (t : ℕ) (arrivals : List Coming) → AreAt t arrivals []
at-none t arrivals n c e = absurd (let never : ◌≡◌ {A = Option (ℕ × Coming)} None (Some c) = e in cc)

at-cons : (t : ℕ) (arrivals : List Coming) (x : ℕ × Coming) (xs : List (ℕ × Coming)) → (x.1.time ≡ t) × (slice_get arrivals x.0 ≡ Some x.1) → AreAt t arrivals xs
    → AreAt t arrivals (x ∷ xs)
at-cons t arrivals x xs here more zero c e =
    let same : x ≡ c = ap (λ o. unwrap_or o x) e in
    subst (λ (c : ℕ × Coming). (c.1.time ≡ t) × (slice_get arrivals c.0 ≡ Some c.1)) same here
at-cons t arrivals x xs here more (suc n) c e = more n c e

at-append : (t : ℕ) (arrivals : List Coming) (xs ys : List (ℕ × Coming)) → AreAt t arrivals xs → AreAt t arrivals ys → AreAt t arrivals (xs ++ ys)
at-append t arrivals [] ys hx hy n c e = hy n c e
at-append t arrivals (x ∷ xs) ys hx hy zero c e = hx zero c e
at-append t arrivals (x ∷ xs) ys hx hy (suc n) c e = at-append t arrivals xs ys (λ n. hx (suc n)) hy n c e

at-filter : (t j : ℕ) (arrivals suffix : List Coming) (k : ℕ) → ((m : ℕ) → slice_get arrivals (k + m) ≡ slice_get suffix m)
    → AreAt t arrivals (filter (λ c. comes t j c.1) (enumerate_from k suffix))
at-filter t j arrivals [] k same = at-none t arrivals
at-filter t j arrivals (x ∷ suffix) k same = pick (comes t j x) refl (at-filter t j arrivals suffix (k + 1) next)
  where
    next : (m : ℕ) → slice_get arrivals (k + 1 + m) ≡ slice_get suffix m
    next m = let e : k + 1 + m ≡ k + suc m = omega arith in ap (slice_get arrivals) e ∙ same (suc m)

    here : slice_get arrivals k ≡ Some x
    here = let e : k ≡ k + 0 = omega arith in ap (slice_get arrivals) e ∙ same 0

    pick : (b : Bool) → comes t j x ≡ b → AreAt t arrivals (filter (λ c. comes t j c.1) (enumerate_from (k + 1) suffix))
        → AreAt t arrivals (cond b ((k, x) ∷ filter (λ c. comes t j c.1) (enumerate_from (k + 1) suffix)) (filter (λ c. comes t j c.1) (enumerate_from (k + 1) suffix)))
    pick true is more = at-cons t arrivals (k, x) (filter (λ c. comes t j c.1) (enumerate_from (k + 1) suffix)) (grind (arith, nat_tests, is), here) more
    pick false is more = more

at-coming : (t : ℕ) (arrivals : List Coming) (j : ℕ) → AreAt t arrivals (coming_at t arrivals j)
at-coming t arrivals j = at-filter t j arrivals arrivals 0 (λ m. let e : 0 + m ≡ m = omega arith in ap (slice_get arrivals) e)

at-from : (t : ℕ) (arrivals : List Coming) (a n : ℕ) → AreAt t arrivals (from_on t arrivals a n)
at-from t arrivals a zero = subst (AreAt t arrivals) (sym (from_on-zero t arrivals a)) (at-none t arrivals)
at-from t arrivals a (suc n) =
    subst (AreAt t arrivals) (sym (from_on-suc t arrivals a n))
    (at-append t arrivals (coming_at t arrivals a) (from_on t arrivals (a + 1) n) (at-coming t arrivals a) (at-from t arrivals (a + 1) n))

-- What is ready.

-- the ready event is of time `t`: the arrival at its place, or the tick
abbrev pub IsOf : ℕ → Held → Ready → Type 0
IsOf t lane (Comes place c) = (c.time ≡ t) × (slice_get lane.arrivals place ≡ Some c)
IsOf t lane Ticks = lane.tick ≡ Some t

of-comes : (t : ℕ) (lane : Held) (cs : List (ℕ × Coming)) → AreAt t lane.arrivals cs → (n : ℕ) (r : Ready) → slice_get (map (λ c. Comes c.0 c.1) cs) n ≡ Some r → IsOf t lane r
of-comes t lane [] all n r e = absurd (let never : ◌≡◌ {A = Option Ready} None (Some r) = e in cc)
of-comes t lane (c ∷ cs) all zero r e = subst (IsOf t lane) (same_Some (Comes c.0 c.1) r e) (all 0 c refl)
of-comes t lane (c ∷ cs) all (suc n) r e = of-comes t lane cs (λ n. all (suc n)) n r e

of-tick : (t : ℕ) (lane : Held) (o : Option ℕ) → lane.tick ≡ o → (n : ℕ) (r : Ready) → slice_get (tick_in t o) n ≡ Some r → IsOf t lane r
of-tick t lane None is n r e = absurd (let never : ◌≡◌ {A = Option Ready} None (Some r) = e in cc)
of-tick t lane (Some u) is n r e = go (u == t) refl n e
  where
    go : (b : Bool) → (u == t) ≡ b → (n : ℕ) → slice_get (elim b as (λ _. List Ready) [ true ↦ Ticks ∷ [] | false ↦ [] ]) n ≡ Some r → IsOf t lane r
    go true f zero e = subst (IsOf t lane) (same_Some Ticks r e) (is ∙ ap (λ n. Some n) (let same : u ≡ t = grind (arith, nat_tests) in same))
    go true f (suc n) e = absurd (let never : ◌≡◌ {A = Option Ready} None (Some r) = e in cc)
    go false f n e = absurd (let never : ◌≡◌ {A = Option Ready} None (Some r) = e in cc)

of-unless : (t : ℕ) (lane : Held) (cs : List (ℕ × Coming)) → AreAt t lane.arrivals cs → (n : ℕ) (r : Ready)
    → slice_get (unless_some cs (tick_in t lane.tick)) n ≡ Some r → IsOf t lane r
of-unless t lane [] all n r e = of-tick t lane lane.tick refl n r e
of-unless t lane (c ∷ cs) all n r e = of-comes t lane (c ∷ cs) all n r e

-- the ready event is of the lane's least time
pub record IsAtHead (lane : Held) (r : Ready) : Type 0 where
  pub time : ℕ
  pub head : head_of lane ≡ Some time
  pub is : IsOf time lane r

pub ready-at : (lane : Held) (place : ℕ) (r : Ready) → slice_get (ready_of lane) place ≡ Some r → IsAtHead lane r
ready-at lane place r e = by (head_of lane) refl e
  where
    by : (o : Option ℕ) → head_of lane ≡ o → slice_get (ready_from o lane) place ≡ Some r → IsAtHead lane r
    by None is e = absurd (let never : ◌≡◌ {A = Option Ready} None (Some r) = e in cc)
    by (Some t) is e = record {
      time = t;
      head = is;
      is = of-unless t lane (arrivals_of t lane.arrivals) (subst (AreAt t lane.arrivals) (sym (arrivals_are t lane.arrivals)) (at-from t lane.arrivals 0 256)) place r e;
    }

-- One is taken out.

pub all-others : (P : Coming → Type 0) (xs : List Coming) (n : ℕ) → All P xs → All P (remove xs n)
all-others P [] zero all = all
all-others P [] (suc n) all = all
all-others P (x ∷ xs) zero all = All-tail P x xs all
all-others P (x ∷ xs) (suc n) all = All-cons P x (remove xs n) (All-head P x xs all) (all-others P xs n (All-tail P x xs all))

-- what is ready is taken out of the lane of a node, and waits no more at its site
pub holds-without : (sizes : Sizes) (me : Side) (lane : Held) (s : Site) (place : ℕ) (r : Ready) → HoldsSite sizes me lane s → slice_get (ready_of lane) place ≡ Some r
    → HoldsSite sizes me (without_ready place lane) (without_waiting (waits_with s.ahead r) s)
holds-without sizes me lane s place r holds e =
    subst (λ o. HoldsSite sizes me (without_found o lane) (without_waiting (waits_with s.ahead r) s)) (sym e) (taken r)
  where
    taken : (r : Ready) → HoldsSite sizes me (without_found (Some r) lane) (without_waiting (waits_with s.ahead r) s)
    taken (Comes n c) = record {
      coming = ap (λ cs. remove cs n) holds.coming;
      ahead = holds.ahead;
      senders = all-others (λ c. c.from < count_of (other me) sizes) s.coming n holds.senders;
    }
    taken Ticks = record { coming = holds.coming; ahead = refl; senders = holds.senders }
