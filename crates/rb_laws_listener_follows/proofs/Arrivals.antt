-- What there is of one RMU among all that came with the stamps of a window.
use Rattle.std.proofs.{Common.{◌≡◌, ℕ, zero, suc, ◌+◌, ◌<◌, ◌==◌, nat_lt, Bool, true, false, List, [], ◌∷◌, ◌++◌, Some, slice_get, inl, inr, refl, sym, ◌∙◌, ap, subst, arith}, lemmas.Bool.{cases_lt, eqb-true, false_from_ne_true, lt-ltb}, lemmas.Option.same_Some}
use Rattle.rb_base.specs.Sizes.{Sizes}
use Rattle.rb_base.proofs.Plain.{eq_self}
use Rattle.rb_rules.specs.{Core.of_source, Hearing.Coming, Sense.Arrival}
use Rattle.rb_rules.proofs.Slots.{source-append}
use Rattle.rb_laws_listener_follows.proofs.FollowerRuns.{arrivals, collected}

pub of-more : (x : ℕ × Arrival) (xs : List (ℕ × Arrival)) (j : ℕ) → (x.0 == j) ≡ true → of_source (x ∷ xs) j ≡ x.1 ∷ of_source xs j
of-more x xs j e = rw e refl

pub of-other : (x : ℕ × Arrival) (xs : List (ℕ × Arrival)) (j : ℕ) → (x.0 == j) ≡ false → of_source (x ∷ xs) j ≡ of_source xs j
of-other x xs j e = rw e refl

-- Arrivals of one stamp.

arrivals-other : (sizes : Sizes) (k : ℕ) (c : Coming) (cs : List Coming) (j : ℕ) → (c.from == j) ≡ false → of_source (arrivals sizes k (c ∷ cs)) j ≡ of_source (arrivals sizes k cs) j
unfolding arrivals
arrivals-other sizes k c cs j e = go (nat_lt c.from sizes.rmus)
  where
    go : (b : Bool)
        → of_source (elim b as (λ _. List (ℕ × Arrival)) [ true ↦ (c.from, record { stamp = k; bytes = c.bytes }) ∷ arrivals sizes k cs | false ↦ arrivals sizes k cs ]) j
        ≡ of_source (arrivals sizes k cs) j
    go true = of-other (c.from, record { stamp = k; bytes = c.bytes }) (arrivals sizes k cs) j e
    go false = refl

arrivals-mine : (sizes : Sizes) (k : ℕ) (c : Coming) (cs : List Coming) {j : ℕ} → j < sizes.rmus → c.from ≡ j
    → of_source (arrivals sizes k (c ∷ cs)) j ≡ record { stamp = k; bytes = c.bytes } ∷ of_source (arrivals sizes k cs) j
unfolding arrivals
arrivals-mine sizes k c cs {j} below from =
    go (nat_lt c.from sizes.rmus) (subst (λ i. nat_lt i sizes.rmus ≡ true) (sym from) (lt-ltb j sizes.rmus below))
  where
    go : (b : Bool) → b ≡ true
        → of_source (elim b as (λ _. List (ℕ × Arrival)) [ true ↦ (c.from, record { stamp = k; bytes = c.bytes }) ∷ arrivals sizes k cs | false ↦ arrivals sizes k cs ]) j
        ≡ record { stamp = k; bytes = c.bytes } ∷ of_source (arrivals sizes k cs) j
    go true h = of-more (c.from, record { stamp = k; bytes = c.bytes }) (arrivals sizes k cs) j (subst (λ i. (i == j) ≡ true) (sym from) (eq_self j))
    go false h = cc

pub none_with_stamp : (sizes : Sizes) (k : ℕ) (cs : List Coming) (j : ℕ) → ((nth : ℕ) (c : Coming) → slice_get cs nth ≡ Some c → c.from ≡ j → ⊥) → of_source (arrivals sizes k cs) j ≡ []
unfolding arrivals
none_with_stamp sizes k [] j none = refl
none_with_stamp sizes k (c ∷ cs) j none =
    arrivals-other sizes k c cs j (false_from_ne_true (c.from == j) (λ e. none 0 c refl (eqb-true c.from j e)))
    ∙ none_with_stamp sizes k cs j (λ nth d is. none (suc nth) d is)

pub one_with_stamp : (sizes : Sizes) (k : ℕ) (cs : List Coming) {j : ℕ} (nth : ℕ) {c : _} → j < sizes.rmus → slice_get cs nth ≡ Some c → c.from ≡ j
    → ((a : ℕ) (d : Coming) → slice_get cs a ≡ Some d → d.from ≡ j → a ≡ nth) → of_source (arrivals sizes k cs) j ≡ record { stamp = k; bytes = c.bytes } ∷ []
one_with_stamp sizes k [] nth below there from sole = cc
one_with_stamp sizes k (x ∷ xs) {j} zero {c} below there from sole =
    let same : x ≡ c = same_Some x c there in
    arrivals-mine sizes k x xs below (ap (λ (y : Coming). y.from) same ∙ from)
    ∙ ap (λ l. record { stamp = k; bytes = x.bytes } ∷ l) (none_with_stamp sizes k xs j (λ a d is mine. let e : suc a ≡ 0 = sole (suc a) d is mine in absurd (omega (arith, e))))
    ∙ ap (λ (y : Coming). record { stamp = k; bytes = y.bytes } ∷ []) same
one_with_stamp sizes k (x ∷ xs) {j} (suc nth) below there from sole =
    arrivals-other sizes k x xs j (false_from_ne_true (x.from == j) (λ e. let zero_is : 0 ≡ suc nth = sole 0 x refl (eqb-true x.from j e) in absurd (omega (arith, zero_is))))
    ∙ one_with_stamp sizes k xs nth below there from (λ a d is mine. let e : suc a ≡ suc nth = sole (suc a) d is mine in omega (arith, e))

-- Arrivals of all stamps of a window.

pub none_collected : (sizes : Sizes) (heard : ℕ → List Coming) (first n j : ℕ) → ((i : ℕ) → i < n → of_source (arrivals sizes (first + i) (heard (first + i))) j ≡ [])
    → of_source (collected sizes heard first n) j ≡ []
unfolding collected
none_collected sizes heard first zero j none = refl
none_collected sizes heard first (suc n) j none =
    source-append (collected sizes heard first n) (arrivals sizes (first + n) (heard (first + n))) j
    ∙ ap (λ l. l ++ of_source (arrivals sizes (first + n) (heard (first + n))) j) (none_collected sizes heard first n j (λ i lt. none i (omega arith)))
    ∙ none n (omega arith)

append-none : {X : Type 0} (x : X) → (x ∷ []) ++ [] ≡ x ∷ []
append-none x = refl

pub one_collected : (sizes : Sizes) (heard : ℕ → List Coming) (first n j at : ℕ) (x : Arrival) → at < n → of_source (arrivals sizes (first + at) (heard (first + at))) j ≡ x ∷ []
    → ((i : ℕ) → i < n → (i ≡ at → ⊥) → of_source (arrivals sizes (first + i) (heard (first + i))) j ≡ []) → of_source (collected sizes heard first n) j ≡ x ∷ []
unfolding collected
one_collected sizes heard first zero j at x within one none = absurd (omega arith)
one_collected sizes heard first (suc n) j at x within one none =
    source-append (collected sizes heard first n) (arrivals sizes (first + n) (heard (first + n))) j
    ∙ elim (cases_lt at n) [
      | inl before ↦
          ap (λ l. l ++ of_source (arrivals sizes (first + n) (heard (first + n))) j)
          (one_collected sizes heard first n j at x before one (λ i lt apart. none i (omega arith) apart))
          ∙ ap (λ l. (x ∷ []) ++ l) (none n (omega arith) (λ e. absurd (omega (arith, e, before))))
      | inr late ↦
          let same : at ≡ n = omega arith in
          ap (λ l. l ++ of_source (arrivals sizes (first + n) (heard (first + n))) j)
          (none_collected sizes heard first n j (λ i lt. none i (omega arith) (λ e. absurd (omega (arith, e, same, lt)))))
          ∙ subst (λ t. of_source (arrivals sizes (first + t) (heard (first + t))) j ≡ x ∷ []) same one
    ]
