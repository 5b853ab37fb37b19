-- As many passes as there are data slots are enough: more of them give the same owners.
use Rattle.std.proofs.{Common.{◌≡◌, ℕ, zero, suc, ◌+◌, ◌≤◌, Bool, true, false, ◌&&◌, nat_lt, List, [], ◌∷◌, ◌++◌, take, get_or, refl, sym, ◌∙◌, ap, arith}, lemmas.Bool.Decides.nat_tests}
use Rattle.std.specs.List.{flat_map, range_with_len}
use Rattle.rb_base.specs.{Counting.numbers, Nodes.has, Sizes.Sizes, declared.values.Heard.Heard, declared.values.Heard.TheVariants.Fault}
use Rattle.rb_base.proofs.Plain.{filter-fewer}
use Rattle.rb_rules.specs.Owners.{request_in, owners_in_pass, owners_in_passes, owners_of}

-- if `ys` and `zs` have the same first e items for each e up to d, then `xs ++ ys` and `xs ++ zs`
-- have the same first d items
same_beginning : {X : Type 0} (xs ys zs : List X) (d : ℕ) → ((e : ℕ) → e ≤ d → take e ys ≡ take e zs) → take d (xs ++ ys) ≡ take d (xs ++ zs)
same_beginning [] ys zs d same = same d (omega arith)
same_beginning (x ∷ xs) ys zs zero same = refl
same_beginning (x ∷ xs) ys zs (suc d) same = ap (λ l. x ∷ l) (same_beginning xs ys zs d (λ e le. same e (omega arith)))

-- an empty pass is followed by empty passes alone
abbrev Stops : (ℕ → List ℕ) → Type 0
Stops pass = (p : ℕ) → pass p ≡ [] → pass (p + 1) ≡ []

nothing_after : (pass : ℕ → List ℕ) → Stops pass → (n p : ℕ) → pass p ≡ [] → flat_map pass (range_with_len p n) ≡ []
nothing_after pass stops zero p empty = refl
nothing_after pass stops (suc n) p empty = ap (λ l. l ++ flat_map pass (range_with_len (p + 1) n)) empty ∙ nothing_after pass stops n (p + 1) (stops p empty)

-- the first d owners are the same after n passes and after m, both at least d
same_first : (pass : ℕ → List ℕ) → Stops pass → (n m p d : ℕ) → d ≤ n → d ≤ m
    → take d (flat_map pass (range_with_len p n)) ≡ take d (flat_map pass (range_with_len p m))
same_first pass stops zero m p zero le_n le_m = refl
same_first pass stops zero m p (suc d) le_n le_m = absurd (omega arith)
same_first pass stops (suc n) zero p zero le_n le_m = refl
same_first pass stops (suc n) zero p (suc d) le_n le_m = absurd (omega arith)
same_first pass stops (suc n) (suc m) p zero le_n le_m = refl
same_first pass stops (suc n) (suc m) p (suc d) le_n le_m =
    let go : (l : List ℕ) → pass p ≡ l
    → take (suc d) (l ++ flat_map pass (range_with_len (p + 1) n)) ≡ take (suc d) (l ++ flat_map pass (range_with_len (p + 1) m)) =
    λ l. elim l as (λ l. pass p ≡ l → take (suc d) (l ++ flat_map pass (range_with_len (p + 1) n)) ≡ take (suc d) (l ++ flat_map pass (range_with_len (p + 1) m))) [
      | [] ↦ λ empty.
          let left : flat_map pass (range_with_len (p + 1) n) ≡ [] = nothing_after pass stops n (p + 1) (stops p empty) in
          let right : flat_map pass (range_with_len (p + 1) m) ≡ [] = nothing_after pass stops m (p + 1) (stops p empty) in
          ap (take (suc d)) (left ∙ sym right)
      | x ∷ xs ↦ λ is.
          ap (λ l. x ∷ l) (same_beginning xs (flat_map pass (range_with_len (p + 1) n)) (flat_map pass (range_with_len (p + 1) m)) d
          (λ e le. same_first pass stops n m (p + 1) e (omega arith) (omega arith)))
    ] in
    go (pass p) refl

-- a BIU that asks for more than p + 1 slots asks for more than p
asks_for_more : (a : Bool) (p asked : ℕ) → (a && nat_lt (p + 1) asked) ≡ true → (a && nat_lt p asked) ≡ true
asks_for_more true p asked h = grind (arith, nat_tests)
asks_for_more false p asked h = h

pub enough_passes : (sizes : Sizes) (trusted : ℕ) (requests : List Heard) (n : ℕ) → sizes.data_slots ≤ n
    → owners_in_passes sizes trusted requests n ≡ owners_of sizes trusted requests
enough_passes sizes trusted requests n le =
    same_first (owners_in_pass sizes trusted requests)
    (λ p. filter-fewer (λ i. has trusted i && nat_lt p (request_in (get_or requests i Fault))) (λ i. has trusted i && nat_lt (p + 1) (request_in (get_or requests i Fault)))
    (λ i. asks_for_more (has trusted i) p (request_in (get_or requests i Fault))) (numbers sizes.bius))
    n sizes.data_slots 0 sizes.data_slots le (omega arith)
