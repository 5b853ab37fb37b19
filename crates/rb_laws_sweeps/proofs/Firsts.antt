-- The first of what comes to a node.
use Rattle.std.proofs.{Common.{◌≡◌, ℕ, zero, suc, ◌<◌, ◌≤◌, Bool, true, false, List, [], ◌∷◌, ◌++◌, length, remove, refl, ap, sym, ◌∙◌, subst, arith, Option, Some, None, if◌then◌else◌, ◌⊎◌, inl, inr}, lemmas.Bool.cases_lt, lemmas.Bool.Decides.nat_tests, lemmas.Option.same_Some}
use Rattle.rb_rules.specs.Hearing.{Coming}
use Rattle.rb_laws_events.proofs.{PendingLists.StandsAt, SameHeard.Every, DueEvents.{every-append, every-weaker}, Receiving.every-stands}
use Rattle.rb_laws_sweeps.specs.Sweeping.{Placed, comes_first, first_of, first_with}

-- Tests.

pub not-later : (c d : Coming) → comes_first c d ≡ true → c.time ≤ d.time
not-later c d e = grind (arith, nat_tests)

pub earlier-first : (c d : Coming) → c.time < d.time → comes_first c d ≡ true
earlier-first c d e = grind (arith, nat_tests)

pub itself-first : (c : Coming) → comes_first c c ≡ true
itself-first c = grind (arith, nat_tests)

pub first-so-on : (a b c : Coming) → comes_first a b ≡ true → comes_first b c ≡ true → comes_first a c ≡ true
first-so-on a b c e f = grind (arith, nat_tests)

pub other-first : (a b : Coming) → comes_first a b ≡ false → comes_first b a ≡ true
other-first a b e = grind (arith, nat_tests)

-- The first.

-- arrival `c` if `b` holds, and else the first of the others
abbrev pub pick : Coming → Placed → Bool → Placed
pick c q b = if b then (record { place = 0; coming = c }) else (record { place = suc q.place; coming = q.coming })

pub first-stands : (cs : List Coming) (p : Placed) → first_of cs ≡ Some p → StandsAt p.place p.coming cs
unfolding first_of
first-stands [] p e = cc
first-stands (c ∷ cs) p e = subst (λ p. StandsAt p.place p.coming (c ∷ cs)) (same_Some (first_with c (first_of cs)) p e) (by (first_of cs) (first-stands cs) refl)
  where
    by : (o : Option Placed) → ((q : Placed) → first_of cs ≡ Some q → StandsAt q.place q.coming cs) → first_of cs ≡ o → StandsAt (first_with c o).place (first_with c o).coming (c ∷ cs)
    by None rest h = refl
    by (Some q) rest h = inner (comes_first c q.coming) (rest q h)
      where
        inner : (b : Bool) → StandsAt q.place q.coming cs
            → StandsAt (pick c q b).place
            (pick c q b).coming (c ∷ cs)
        inner true s = refl
        inner false s = s

-- the first arrival comes before all others
pub first-least : (cs : List Coming) (p : Placed) → first_of cs ≡ Some p → Every (λ d. comes_first p.coming d ≡ true) cs
unfolding first_of
first-least [] p e = tt
first-least (c ∷ cs) p e = subst (λ p. Every (λ d. comes_first p.coming d ≡ true) (c ∷ cs)) (same_Some (first_with c (first_of cs)) p e) (by (first_of cs) (first-least cs) (none-least cs) refl)
  where
    inner : (q : Placed) (b : Bool) → comes_first c q.coming ≡ b → Every (λ d. comes_first q.coming d ≡ true) cs
        → Every (λ d. comes_first (pick c q b).coming d ≡ true) (c ∷ cs)
    inner q true h all = (itself-first c, every-weaker (λ d. comes_first q.coming d ≡ true) (λ d. comes_first c d ≡ true) (λ d. first-so-on c q.coming d h) cs all)
    inner q false h all = (other-first c q.coming h, all)

    by : (o : Option Placed) → ((q : Placed) → first_of cs ≡ Some q → Every (λ d. comes_first q.coming d ≡ true) cs) → (first_of cs ≡ None → Every (λ d. comes_first c d ≡ true) cs) → first_of cs ≡ o
        → Every (λ d. comes_first (first_with c o).coming d ≡ true) (c ∷ cs)
    by None rest none h = (itself-first c, none h)
    by (Some q) rest none h = inner q (comes_first c q.coming) refl (rest q h)

    none-least : (cs : List Coming) → first_of cs ≡ None → Every (λ d. comes_first c d ≡ true) cs
    none-least [] e = tt
    none-least (d ∷ ds) e = cc

pub none-there : (P : Coming → Type 0) (cs : List Coming) → first_of cs ≡ None → Every P cs
unfolding first_of
none-there P [] e = tt
none-there P (c ∷ cs) e = cc

-- what comes before all others is the first
pub is-first : (c : Coming) (cs : List Coming) → Every (λ d. comes_first c d ≡ true) cs → first_of (c ∷ cs) ≡ Some (record { place = 0; coming = c })
unfolding first_of
is-first c cs all = by (first_of cs) refl
  where
    by : (o : Option Placed) → first_of cs ≡ o → ◌≡◌ {A = Option Placed} (Some (first_with c o)) (Some (record { place = 0; coming = c }))
    by None h = refl
    by (Some q) h = ap (λ b. Some (pick c q b))
        (every-stands (λ d. comes_first c d ≡ true) q.place cs (first-stands cs q h) all)

pub first-is : (n : ℕ) {c : _} (cs : List Coming) → StandsAt n c cs → Every (λ d. comes_first c d ≡ true) cs
    → ((m : ℕ) (d : Coming) → m < n → StandsAt m d cs → comes_first d c ≡ false) → first_of cs ≡ Some (record { place = n; coming = c })
unfolding first_of
first-is n [] s all before = absurd s
first-is zero {c} (x ∷ xs) s all before =
    subst (λ c. first_of (x ∷ xs) ≡ Some (record { place = 0; coming = c })) s (is-first x xs (subst (λ c. Every (λ d. comes_first c d ≡ true) (x ∷ xs)) (sym s) all).1)
first-is (suc n) {c} (x ∷ xs) s all before =
    let q : Placed = record { place = n; coming = c } in
    ap (λ o. Some (first_with x o)) (first-is n xs s all.1 (λ m d lt at. before (suc m) d (omega (arith, lt)) at))
    ∙ ap (λ b. Some (pick x q b)) (before 0 x (omega arith) refl)

-- arrivals that come later leave the first one
pub first-append : (cs more : List Coming) (p : Placed) → first_of cs ≡ Some p → Every (λ d. p.coming.time < d.time) more → first_of (cs ++ more) ≡ Some p
unfolding first_of
first-append [] more p e later = cc
first-append (c ∷ cs) more p e later = by (first_of cs) refl (first-append cs more)
  where
    alone : Every (λ d. comes_first c d ≡ true) cs → p ≡ record { place = 0; coming = c } → first_of (c ∷ (cs ++ more)) ≡ Some p
    alone all is =
        is-first c (cs ++ more)
        (every-append (λ d. comes_first c d ≡ true) cs more all
        (every-weaker (λ d. p.coming.time < d.time) (λ d. comes_first c d ≡ true)
        (λ d lt. earlier-first c d (subst (λ (p : Placed). p.coming.time < d.time) is lt)) more later)) ∙ ap Some (sym is)

    inner : (q : Placed) (b : Bool) → first_of cs ≡ Some q → comes_first c q.coming ≡ b → ((q : Placed) → first_of cs ≡ Some q → Every (λ d. q.coming.time < d.time) more → first_of (cs ++ more) ≡ Some q)
        → first_of (c ∷ (cs ++ more)) ≡ Some p
    inner q true h f rest =
        alone (every-weaker (λ d. comes_first q.coming d ≡ true) (λ d. comes_first c d ≡ true) (λ d. first-so-on c q.coming d f) cs (first-least cs q h))
        (same_Some p (pick c q true) (sym e ∙ ap (λ o. Some (first_with c o)) h ∙ ap (λ b. Some (pick c q b)) f))
    inner q false h f rest =
        let is : p ≡ pick c q false = same_Some p (pick c q false) (sym e ∙ ap (λ o. Some (first_with c o)) h ∙ ap (λ b. Some (pick c q b)) f) in
        ap (λ o. Some (first_with c o)) (rest q h (every-weaker (λ d. p.coming.time < d.time) (λ d. q.coming.time < d.time) (λ d lt. subst (λ (p : Placed). p.coming.time < d.time) is lt) more later))
        ∙ ap (λ b. Some (pick c q b)) f ∙ ap Some (sym is)

    by : (o : Option Placed) → first_of cs ≡ o → ((q : Placed) → first_of cs ≡ Some q → Every (λ d. q.coming.time < d.time) more → first_of (cs ++ more) ≡ Some q)
        → first_of (c ∷ (cs ++ more)) ≡ Some p
    by None h rest = alone (none-there (λ d. comes_first c d ≡ true) cs h) (same_Some p (record { place = 0; coming = c }) (sym e ∙ ap (λ o. Some (first_with c o)) h))
    by (Some q) h rest = inner q (comes_first c q.coming) h refl rest

-- Either the first comes before a time, or nothing does.
pub which-first : (until : ℕ) (cs : List Coming) → ((p : Placed) × ((first_of cs ≡ Some p) × (p.coming.time < until))) ⊎ Every (λ c. until ≤ c.time) cs
which-first until cs = by (first_of cs) refl
  where
    by : (o : Option Placed) → first_of cs ≡ o → ((p : Placed) × ((first_of cs ≡ Some p) × (p.coming.time < until))) ⊎ Every (λ c. until ≤ c.time) cs
    by None h = inr (none-there (λ c. until ≤ c.time) cs h)
    by (Some p) h = elim (cases_lt p.coming.time until) [
      | inl lt ↦ inl (p, (h, lt))
      | inr ge ↦ inr (every-weaker (λ d. comes_first p.coming d ≡ true) (λ c. until ≤ c.time) (λ d f. let le = not-later p.coming d f in omega (arith, le, ge)) cs (first-least cs p h))
    ]

-- An item that is taken out.

pub length-without : (n : ℕ) (c : Coming) (cs : List Coming) → StandsAt n c cs → length cs ≡ suc (length (remove cs n))
length-without n c [] s = absurd s
length-without zero c (x ∷ xs) s = refl
length-without (suc n) c (x ∷ xs) s = ap suc (length-without n c xs s)

pub without-append : (n : ℕ) (c : Coming) (cs more : List Coming) → StandsAt n c cs → remove (cs ++ more) n ≡ remove cs n ++ more
without-append n c [] more s = absurd s
without-append zero c (x ∷ xs) more s = refl
without-append (suc n) c (x ∷ xs) more s = ap (λ l. x ∷ l) (without-append n c xs more s)
