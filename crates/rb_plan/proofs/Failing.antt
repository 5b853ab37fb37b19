-- The first inequality that fails.
use Rattle.std.proofs.{Common.{◌≡◌, ℕ, zero, suc, ◌+◌, ◌-◌, ◌<◌, ◌≤◌, Bool, true, false, Option, Some, None, List, [], ◌∷◌, length, get_or, refl, ap, ◌∙◌, arith, inl, inr, nat_lt}, lemmas.Bool.{cases_lt, lt-ltb}, lemmas.List.Sums.position_or_len_is}
use Rattle.std.specs.{Prelude.{int_lt, slice_get, position, option_map}, List.position_or_len}
use Rattle.rb_base.specs.Sizes.{Sizes}
use Rattle.rb_rules.specs.{declared.plan.Plan.Plan, Plan.{Sides, inequalities_of, first_failing, IsFeasible}}
use Rattle.rb_rules.proofs.Feasibility.{not_less, feasible_exactly}

-- an item that a list has at an index is the one there, and the index is below the length
pub item_at : {X : Type 0} (xs : List X) (i : ℕ) (x d : X) → slice_get xs i ≡ Some x → (i < length xs) × (get_or xs i d ≡ x)
item_at [] i x d is = absurd (cc)
item_at (y ∷ ys) zero x d is = (omega arith, cc)
item_at (y ∷ ys) (suc i) x d is = let rest = item_at ys i x d is in (omega (arith, rest.0), rest.1)

-- the first item that passes
pub first_at : {X : Type 0} (p : X → Bool) (xs : List X) (i : ℕ) (x : X) → slice_get xs i ≡ Some x → p x ≡ true
    → ((k : ℕ) (d : X) → k < i → p (get_or xs k d) ≡ false) → position p xs ≡ Some i
first_at p xs i x is passes before =
    let here = item_at xs i x x is in
    let at : position_or_len p xs ≡ i = position_or_len_is p xs i x (omega (arith, here.0)) (λ k h. before k x h) (λ h. rw here.1 passes) in
    let inside : nat_lt i (length xs) ≡ true = lt-ltb i (length xs) here.0 in
    rw (at, inside) refl

-- the inequality fails
abbrev pub fails : Sides → Bool
fails sides = int_lt sides.left sides.right

-- the windows before the nth hold
abbrev pub HoldBefore : Sizes → Plan → ℕ → Type 0
HoldBefore sizes plan n = (k : ℕ) (d : Sides) → k + 1 < n → fails (get_or (inequalities_of sizes plan) k d) ≡ false

counted : (found : Option ℕ) (i n : ℕ) → found ≡ Some i → suc i ≡ n → option_map suc found ≡ Some n
counted found i n is e = rw is (ap (λ m. Some m) e)

-- the nth is the first that fails
pub fails_first : (sizes : Sizes) (plan : Plan) (n : ℕ) (x : Sides) → 1 ≤ n → slice_get (inequalities_of sizes plan) (n - 1) ≡ Some x → fails x ≡ true
    → HoldBefore sizes plan n → first_failing sizes plan ≡ Some n
fails_first sizes plan n x some is here before =
    counted _ (n - 1) n (first_at fails (inequalities_of sizes plan) (n - 1) x is here (λ k d h. before k d (omega arith))) (omega arith)

-- if the inequality after those that hold does not fail, it holds too
pub holds_next : (sizes : Sizes) (plan : Plan) (n : ℕ) (x : Sides) → 1 ≤ n → slice_get (inequalities_of sizes plan) (n - 1) ≡ Some x → fails x ≡ false
    → HoldBefore sizes plan n → HoldBefore sizes plan (n + 1)
holds_next sizes plan n x some is here before k d h =
    elim (cases_lt (k + 1) n) [
      | inl lt ↦ before k d lt
      | inr ge ↦
          let e : k ≡ n - 1 = omega arith in
          let item : get_or (inequalities_of sizes plan) k d ≡ x = rw e (item_at (inequalities_of sizes plan) (n - 1) x d is).1 in
          ap fails item ∙ here
    ]

-- if none of the inequalities fails, the plan is feasible
pub all_hold : (sizes : Sizes) (plan : Plan) → HoldBefore sizes plan 8 → IsFeasible sizes plan
all_hold sizes plan all = λ k d h.
    not_less (get_or (inequalities_of sizes plan) k d).left (get_or (inequalities_of sizes plan) k d).right (all k d (omega arith))

pub none_fails : (sizes : Sizes) (plan : Plan) → HoldBefore sizes plan 8 → first_failing sizes plan ≡ None
none_fails sizes plan all = (feasible_exactly sizes plan).1 (all_hold sizes plan all)
