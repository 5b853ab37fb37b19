-- A vote over values of which more than half are alike.
use Rattle.std.proofs.Common.{◌≡◌, ℕ, suc, ◌+◌, ◌*◌, ◌<◌, ◌≤◌, Bool, true, false, cond, Option, Some, None, unwrap_or, List, [], ◌∷◌, length, get_or, refl, sym, ◌∙◌, ap, arith}
use Rattle.std.specs.List.{range_with_len}
use Rattle.rb_base.specs.{Counting.count_if, Nodes.{has, size}, declared.values.Heard.Heard, declared.values.Heard.TheVariants.Fault}
use Rattle.rb_rules.specs.{ExactStage.present, Majority.{majority_of, same_heard, times}}
use Rattle.rb_rules.proofs.Majorities.{majority_is, same_heard_self}

one_more : (v : Heard) (b : Bool) (x : Option Heard) (taken : List (Option Heard)) (n : ℕ) → (b ≡ true → x ≡ Some v) → n ≤ times v (present taken) → cond b 1 0 + n ≤ times v (present (x ∷ taken))
one_more v false None taken n is most = omega (arith, most)
one_more v false (Some y) taken n is most = omega (arith, most)
one_more v true None taken n is most = let e : None ≡ Some v = is refl in absurd cc
one_more v true (Some y) taken n is most =
    let e : Some y ≡ Some v = is refl in
    let same : y ≡ v = cc in
    let counts : ◌≡◌ {A = ℕ} (cond (same_heard v y) 1 0) 1 = ap (λ z. cond (same_heard v z) 1 0) same ∙ ap (λ b. cond b 1 0) (same_heard_self v) in
    omega (arith, most, counts)

-- at most as many nodes from `k` on pass as values `v` are present there
times_held : (p : ℕ → Bool) (v : Heard) (taken : List (Option Heard)) (k : ℕ) → ((j i : ℕ) → j ≡ k + i → i < length taken → p j ≡ true → get_or taken i None ≡ Some v)
    → count_if p (range_with_len k (length taken)) ≤ times v (present taken)
times_held p v [] k held = omega arith
times_held p v (x ∷ taken) k held =
    one_more v (p k) x taken (count_if p (range_with_len (k + 1) (length taken))) (λ e. held k 0 (omega arith) (omega arith) e)
    (times_held p v taken (k + 1) (λ j i is less e. held j (suc i) (omega (arith, is)) (omega (arith, less)) e))

one_less : (b : Bool) (x : Option Heard) (taken : List (Option Heard)) (n : ℕ) → (b ≡ false → x ≡ None) → length (present taken) ≤ n → length (present (x ∷ taken)) ≤ cond b 1 0 + n
one_less true None taken n is most = omega (arith, most)
one_less true (Some y) taken n is most = omega (arith, most)
one_less false None taken n is most = omega (arith, most)
one_less false (Some y) taken n is most = let e : Some y ≡ None = is refl in absurd cc

-- there are at most as many values as nodes from which one may have been taken
present_held : (p : ℕ → Bool) (taken : List (Option Heard)) (k : ℕ) → ((j i : ℕ) → j ≡ k + i → i < length taken → p j ≡ false → get_or taken i None ≡ None)
    → length (present taken) ≤ count_if p (range_with_len k (length taken))
present_held p [] k held = omega arith
present_held p (x ∷ taken) k held =
    one_less (p k) x taken (count_if p (range_with_len (k + 1) (length taken))) (λ e. held k 0 (omega arith) (omega arith) e)
    (present_held p taken (k + 1) (λ j i is less e. held j (suc i) (omega (arith, is)) (omega (arith, less)) e))

size_is : (s n : ℕ) → n ≡ 16 → count_if (has s) (range_with_len 0 n) ≡ size s
unfolding size
size_is s n all = ap (λ n. count_if (has s) (range_with_len 0 n)) all

held_is : (candidate : Option Heard) (x : Option Heard) → (h : Heard) × ((x ≡ Some h) × (candidate ≡ Some h)) → x ≡ Some (unwrap_or candidate Fault)
held_is candidate x found = found.1.0 ∙ ap (λ c. Some (unwrap_or c Fault)) (sym found.1.1)

-- a candidate that more than half of the sources say is the majority of what was taken
pub leading_vote : (candidate : Option Heard) (ones same : ℕ) (taken : List (Option Heard)) → length taken ≡ 16
    → ((j : ℕ) → j < 16 → has same j ≡ true → (h : Heard) × ((get_or taken j None ≡ Some h) × (candidate ≡ Some h)))
    → ((j : ℕ) → j < 16 → has ones j ≡ false → get_or taken j None ≡ None)
    → size ones < 2 * size same → majority_of (present taken) ≡ unwrap_or candidate Fault
leading_vote candidate ones same taken all are_same are_ones leads =
    let v = unwrap_or candidate Fault in
    let many : count_if (has same) (range_with_len 0 (length taken)) ≤ times v (present taken) =
    times_held (has same) v taken 0 (λ j i is less e. let at : j ≡ i = omega (arith, is) in ap (λ n. get_or taken n None) (sym at) ∙ held_is candidate (get_or taken j None) (are_same j (omega (arith, at, less, all)) e)) in
    let few : length (present taken) ≤ count_if (has ones) (range_with_len 0 (length taken)) =
    present_held (has ones) taken 0 (λ j i is less e. let at : j ≡ i = omega (arith, is) in ap (λ n. get_or taken n None) (sym at) ∙ are_ones j (omega (arith, at, less, all)) e) in
    majority_is v (present taken) (omega (arith, leads, many, few, size_is same (length taken) all, size_is ones (length taken) all))
