-- How many slots the passes over the requests give to one BIU.
use Rattle.std.proofs.{Common.{◌≡◌, ℕ, zero, suc, ◌+◌, ◌-◌, ◌*◌, ◌/◌, ◌<◌, ◌≤◌, ◌==◌, ◌&&◌, nat_lt, min, Bool, true, false, cond, inl, inr, List, [], ◌∷◌, ◌++◌, length, filter, take, get_or, sym, ◌∙◌, ap, subst, arith}, lemmas.Bool.{and_from, cases_lt, lt-ltb}, lemmas.List.FromFn.length-range_with_len, Math.Nat.{add-sub_of_le, div-mul-le_self, mul-le-mul_right, min-le_left, min-le_right, mul-suc, suc-mul}, Math.Seq.take-append-add}
use Rattle.std.specs.List.{flat_map, range_with_len}
use Rattle.rb_base.specs.{Counting.{count_if, numbers}, Nodes.has, Sizes.Sizes, declared.values.Heard.Heard, declared.values.Heard.TheVariants.Fault}
use Rattle.rb_base.proofs.{Counts.count_if-append, Plain.eq_self}
use Rattle.rb_rules.specs.Owners.{owners_in_pass, owners_of, request_in}
use Rattle.rb_laws_promise.specs.Shares.{slots_of}

-- Lists.

take-more : (n : ℕ) (xs ys : List ℕ) → length xs ≤ n → take n (xs ++ ys) ≡ xs ++ take (n - length xs) ys
take-more n xs ys le =
    ap (λ k. take k (xs ++ ys)) (sym (add-sub_of_le le)) ∙ take-append-add xs ys (n - length xs)

filter-length : (t : ℕ → Bool) (xs : List ℕ) → length (filter t xs) ≤ length xs
filter-length t [] = omega arith
filter-length t (x ∷ xs) = by (t x) (filter-length t xs)
  where
    by : (b : Bool) → length (filter t xs) ≤ length xs → length (cond b (x ∷ filter t xs) (filter t xs)) ≤ length (x ∷ xs)
    by true h = omega (arith, h)
    by false h = omega (arith, h)

-- a number that passes the test is found among the numbers that do
found-once : (t : ℕ → Bool) (i : ℕ) → t i ≡ true → (from n : ℕ) → from ≤ i → i < from + n → 1 ≤ count_if (λ o. o == i) (filter t (range_with_len from n))
found-once t i passes from zero low high = absurd (omega (arith, low, high))
found-once t i passes from (suc n) low high =
    elim (cases_lt from i) [
      | inl less ↦ by (t from) (found-once t i passes (from + 1) n (omega (arith, less)) (omega (arith, high)))
      | inr more ↦ here (let e : from ≡ i = omega (arith, low, more) in e)
    ]
  where
    by : (b : Bool) → 1 ≤ count_if (λ o. o == i) (filter t (range_with_len (from + 1) n))
        → 1 ≤ count_if (λ o. o == i) (cond b (from ∷ filter t (range_with_len (from + 1) n)) (filter t (range_with_len (from + 1) n)))
    by true h = omega (arith, h)
    by false h = h

    here : from ≡ i → 1 ≤ count_if (λ o. o == i) (cond (t from) (from ∷ filter t (range_with_len (from + 1) n)) (filter t (range_with_len (from + 1) n)))
    here e =
        let pass : t from ≡ true = ap t e ∙ passes in
        let same : (from == i) ≡ true = ap (λ k. k == i) e ∙ eq_self i in
        rw pass (rw same (omega arith))

-- Passes.

-- `m` passes of at most `n` slots each, which fit into `d` slots, give at least `m` slots to a BIU
-- for which each of them has one
least : (f : ℕ → List ℕ) (p : ℕ → Bool) (n : ℕ) → ((k : ℕ) → length (f k) ≤ n) → (m rest from d : ℕ)
    → ((k : ℕ) → from ≤ k → k < from + m → 1 ≤ count_if p (f k)) → m * n ≤ d
    → m ≤ count_if p (take d (flat_map f (range_with_len from (m + rest))))
least f p n short zero rest from d each fits = omega arith
least f p n short (suc m) rest from d each fits =
    let more : suc m + rest ≡ suc (m + rest) = omega arith in
    let others : List ℕ = flat_map f (range_with_len (from + 1) (m + rest)) in
    let here : 1 ≤ count_if p (f from) = each from (omega arith) (omega arith) in
    let some : length (f from) ≤ n = short from in
    let product : suc m * n ≡ m * n + n = suc-mul m n in
    let later : m ≤ count_if p (take (d - length (f from)) others) =
    least f p n short m rest (from + 1) (d - length (f from)) (λ k low high. each k (omega (arith, low)) (omega (arith, high))) (omega (arith, fits, product, some)) in
    let both : count_if p (take d (f from ++ others)) ≡ count_if p (f from) + count_if p (take (d - length (f from)) others) =
    ap (count_if p) (take-more d (f from) others (omega (arith, fits, product, some))) ∙ count_if-append p (f from) (take (d - length (f from)) others) in
    let all : suc m ≤ count_if p (take d (f from ++ others)) = omega (arith, here, later, both) in
    subst (λ k. suc m ≤ count_if p (take d (flat_map f (range_with_len from k)))) (sym more) all

-- Owners.

-- a trusted BIU that asks for `request` slots owns at least as many, up to an equal share
pub owners-share : (sizes : Sizes) (trusted : ℕ) (requests : List Heard) (i : ℕ) {request : ℕ} → 1 ≤ sizes.bius → i < sizes.bius → has trusted i ≡ true
    → request_in (get_or requests i Fault) ≡ request → min request (sizes.data_slots / sizes.bius) ≤ slots_of i (owners_of sizes trusted requests)
owners-share sizes trusted requests i {request} some inside trust asks =
    let m : ℕ = min request (sizes.data_slots / sizes.bius) in
    let asked : m ≤ request = min-le_left request (sizes.data_slots / sizes.bius) in
    let shared : m ≤ sizes.data_slots / sizes.bius = min-le_right request (sizes.data_slots / sizes.bius) in
    let fits : m * sizes.bius ≤ sizes.data_slots = fit m (sizes.data_slots / sizes.bius) shared (div-mul-le_self sizes.data_slots sizes.bius) in
    let few : m ≤ sizes.data_slots = less m fits in
    subst (λ k. m ≤ slots_of i (take sizes.data_slots (flat_map (owners_in_pass sizes trusted requests) (numbers k)))) (add-sub_of_le few)
    (least (owners_in_pass sizes trusted requests) (λ owner. owner == i) sizes.bius short m (sizes.data_slots - m) 0 sizes.data_slots
    (λ k low high. has-one k (omega (arith, high, asked))) fits)
  where
    fit : (m q : ℕ) → m ≤ q → q * sizes.bius ≤ sizes.data_slots → m * sizes.bius ≤ sizes.data_slots
    fit m q le h = let more : m * sizes.bius ≤ q * sizes.bius = mul-le-mul_right sizes.bius le in omega (arith, more, h)

    less : (m : ℕ) → m * sizes.bius ≤ sizes.data_slots → m ≤ sizes.data_slots
    less m h = by sizes.bius some h
      where
        by : (n : ℕ) → 1 ≤ n → m * n ≤ sizes.data_slots → m ≤ sizes.data_slots
        by zero one le = absurd (omega (arith, one))
        by (suc n) one le = let e : m * suc n ≡ m * n + m = mul-suc m n in omega (arith, e, le)

    short : (k : ℕ) → length (owners_in_pass sizes trusted requests k) ≤ sizes.bius
    short k =
        subst (λ n. length (owners_in_pass sizes trusted requests k) ≤ n) (length-range_with_len 0 sizes.bius)
        (filter-length (λ i. has trusted i && nat_lt k (request_in (get_or requests i Fault))) (numbers sizes.bius))

    has-one : (k : ℕ) → k < request → 1 ≤ slots_of i (owners_in_pass sizes trusted requests k)
    has-one k below =
        found-once (λ i. has trusted i && nat_lt k (request_in (get_or requests i Fault))) i
        (and_from (has trusted i) (nat_lt k (request_in (get_or requests i Fault))) trust (ap (nat_lt k) asks ∙ lt-ltb k request below))
        0 sizes.bius (omega arith) (omega (arith, inside))
