-- What the number of the first inequality that fails says of the seven.
use Rattle.std.proofs.{Common.{◌≡◌, ◌↔◌, ℕ, suc, ◌-◌, ◌<◌, ◌≤◌, Bool, true, false, Option, Some, None, List, length, get_or, refl, ap, arith, inl, inr, nat_lt}, lemmas.Bool.{cases_lt, lt-ltb, le-ltb}, lemmas.Int.ints, lemmas.List.Sums.{position_or_len_is, fails_before_first}, lemmas.List.Quantifiers.position-Some, lemmas.Option.slice_get-get_or}
use Rattle.std.specs.{Prelude.{ℤ, pos, ◌≤ℤ◌, ◌<ℤ◌, int_lt, position, option_map}, List.position_or_len}
use Rattle.rb_base.specs.Sizes.{Sizes}
use Rattle.rb_rules.specs.{declared.plan.Plan.Plan, Plan.{Sides, inequalities_of, sides_of, first_failing, IsFeasible}}

-- ---- the first item that passes

-- if no item passes, `position` finds none
none_passes : {X : Type 0} (p : X → Bool) (xs : List X) (d : X) → ((k : ℕ) → k < length xs → p (get_or xs k d) ≡ false) → position p xs ≡ None
none_passes p xs d all =
    let at : position_or_len p xs ≡ length xs = position_or_len_is p xs (length xs) d (omega arith) all (λ h. absurd (omega arith)) in
    let past : nat_lt (length xs) (length xs) ≡ false = le-ltb (length xs) (length xs) (omega arith) in
    rw (at, past) refl

-- if `position` finds no item, none passes
none_found : {X : Type 0} (p : X → Bool) (xs : List X) → position p xs ≡ None → (k : ℕ) (d : X) → k < length xs → p (get_or xs k d) ≡ false
none_found p xs none k d h =
    elim (cases_lt (position_or_len p xs) (length xs)) [
      | inl lt ↦
          let inside : nat_lt (position_or_len p xs) (length xs) ≡ true = lt-ltb (position_or_len p xs) (length xs) lt in
          let found : position p xs ≡ Some (position_or_len p xs) = rw inside refl in
          absurd (cc)
      | inr ge ↦ fails_before_first p xs k d (omega arith)
    ]

-- ---- an inequality

left_less : (a b : ℤ) → int_lt a b ≡ true → a <ℤ b
left_less a b h = grind (arith, ints)

pub not_less : (a b : ℤ) → int_lt a b ≡ false → b ≤ℤ a
not_less a b h = grind (arith, ints)

no_less : (a b : ℤ) → b ≤ℤ a → int_lt a b ≡ false
no_less a b h = grind (arith, ints)

-- inequality `n` of the plan fails
pub record Fails (sizes : Sizes) (plan : Plan) (n : ℕ) : Type 0 where
  pub sides : Sides
  pub nth : sides_of sizes plan n ≡ Some sides
  pub less : sides.left <ℤ sides.right

-- the nth holds
pub record Holds (sizes : Sizes) (plan : Plan) (n : ℕ) : Type 0 where
  pub sides : Sides
  pub nth : sides_of sizes plan n ≡ Some sides
  pub enough : sides.right ≤ℤ sides.left

-- inequality `n` of the seven fails, and those before it hold
pub record FailsFirst (sizes : Sizes) (plan : Plan) (n : ℕ) : Type 0 where
  pub one : 1 ≤ n
  pub seven : n ≤ 7
  pub here : Fails sizes plan n
  pub before : (m : ℕ) → 1 ≤ m → m < n → Holds sizes plan m

-- ---- the seven

no_number : (found : Option ℕ) → option_map suc found ≡ None → found ≡ None
no_number None h = refl
no_number (Some i) h = absurd (cc)

a_number : (found : Option ℕ) (n : ℕ) → option_map suc found ≡ Some n → (i : ℕ) × (found ≡ Some i) × (suc i ≡ n)
a_number None n h = absurd (cc)
a_number (Some i) n h = (i, refl, cc)

-- `first_failing` is none if and only if all seven inequalities hold
pub feasible_exactly : (sizes : Sizes) (plan : Plan) → (first_failing sizes plan ≡ None) ↔ IsFeasible sizes plan
feasible_exactly sizes plan =
    let rows : List Sides = inequalities_of sizes plan in
    let zero_sides : Sides = record { left = pos 0; right = pos 0 } in
    let hold : first_failing sizes plan ≡ None → IsFeasible sizes plan =
    λ none k d h. not_less (get_or rows k d).left (get_or rows k d).right
    (none_found (λ sides. int_lt sides.left sides.right) rows (no_number (position (λ sides. int_lt sides.left sides.right) rows) none) k d h) in
    let none : IsFeasible sizes plan → first_failing sizes plan ≡ None =
    λ all. ap (option_map suc) (none_passes (λ sides. int_lt sides.left sides.right) rows zero_sides
    (λ k h. no_less (get_or rows k zero_sides).left (get_or rows k zero_sides).right (all k zero_sides h))) in
    (hold, none)

-- the number that is given is that of the first that fails
pub first_failing_is : (sizes : Sizes) (plan : Plan) (n : ℕ) → first_failing sizes plan ≡ Some n → FailsFirst sizes plan n
first_failing_is sizes plan n some =
    let rows : List Sides = inequalities_of sizes plan in
    let test : Sides → Bool = λ sides. int_lt sides.left sides.right in
    let zero_sides : Sides = record { left = pos 0; right = pos 0 } in
    let number : (i : ℕ) × (position test rows ≡ Some i) × (suc i ≡ n) = a_number (position test rows) n some in
    let at : n - 1 ≡ number.0 = omega (arith, number.2) in
    let found : (number.0 < length rows) × (test (get_or rows number.0 zero_sides) ≡ true)
    × ((k : ℕ) → k < number.0 → test (get_or rows k zero_sides) ≡ false) =
    position-Some test rows number.0 zero_sides number.1 in
    record {
      one = omega (arith, number.2);
      seven = omega (arith, number.2, found.0);
      here = record {
        sides = get_or rows number.0 zero_sides;
        nth = rw at (slice_get-get_or rows number.0 zero_sides found.0);
        less = left_less (get_or rows number.0 zero_sides).left (get_or rows number.0 zero_sides).right found.1;
      };
      before = λ m low high. record {
        sides = get_or rows (m - 1) zero_sides;
        nth = slice_get-get_or rows (m - 1) zero_sides (omega (arith, number.2, found.0));
        enough = not_less (get_or rows (m - 1) zero_sides).left (get_or rows (m - 1) zero_sides).right (found.2 (m - 1) (omega (arith, number.2)));
      };
    }
