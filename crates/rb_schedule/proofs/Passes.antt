-- Owners pass by pass, and BIU by BIU in a pass.
use Rattle.std.proofs.{Common.{◌≡◌, ℕ, zero, suc, ◌+◌, ◌-◌, ◌<◌, ◌≤◌, ◌⊎◌, Bool, true, false, cond, ◌&&◌, nat_lt, List, [], ◌∷◌, ◌++◌, length, take, get_or, inl, inr, refl, sym, ◌∙◌, ap, arith}, lemmas.Bool.cases_lt, lemmas.Bool.Decides.nat_tests, lemmas.List.{append-nil, append_assoc, length-append, length-take, take_all, take-append-le, nil_from_length}, lemmas.List.Concat.flat_map-append, lemmas.List.Elements.filter-append}
use Rattle.std.specs.{Prelude.filter, List.flat_map}
use Rattle.rb_base.specs.{Counting.numbers, Nodes.has, Sizes.Sizes, declared.values.Heard.Heard, declared.values.Heard.TheVariants.Fault}
use Rattle.rb_base.proofs.Plain.{filter-fewer, numbers-more}
use Rattle.rb_schedule.specs.Asking.{asks}
use Rattle.rb_rules.specs.Owners.{owners_in_pass, owners_of, request_in}

-- ---- lists

-- what is cut already may be cut again
pub take_after_take : {X : Type 0} (n : ℕ) (xs ys : List X) → take n (take n xs ++ ys) ≡ take n (xs ++ ys)
take_after_take zero xs ys = refl
take_after_take (suc n) [] ys = refl
take_after_take (suc n) (x ∷ xs) ys = ap (λ l. x ∷ l) (take_after_take n xs ys)

filter_numbers_more : (p : ℕ → Bool) (n : ℕ) → filter p (numbers (n + 1)) ≡ filter p (numbers n) ++ cond (p n) (n ∷ []) []
filter_numbers_more p n = ap (filter p) (numbers-more n) ∙ filter-append p (numbers n) (n ∷ [])

-- what is full stays as it is
full_stays : {X : Type 0} (n : ℕ) (xs ys : List X) → length xs ≡ n → take n (xs ++ ys) ≡ xs
full_stays n xs ys full = take-append-le n xs ys (omega arith) ∙ take_all n xs (omega arith)

-- ---- in a pass

-- the owners after the BIUs below `k` were asked in a pass
abbrev pub given : ℕ → List ℕ → (ℕ → Bool) → ℕ → List ℕ
given slots before gets k = take slots (before ++ filter gets (numbers k))

pub given_none : (slots : ℕ) (before : List ℕ) (gets : ℕ → Bool) → length before ≤ slots → before ≡ given slots before gets 0
given_none slots before gets fits = sym (ap (take slots) (append-nil before) ∙ take_all slots before fits)

given_next : (slots : ℕ) (before : List ℕ) (gets : ℕ → Bool) (k : ℕ) (now : List ℕ) → now ≡ given slots before gets k
    → take slots (now ++ cond (gets k) (k ∷ []) []) ≡ given slots before gets (k + 1)
given_next slots before gets k now so_far =
    ap (λ l. take slots (l ++ cond (gets k) (k ∷ []) [])) so_far
    ∙ take_after_take slots (before ++ filter gets (numbers k)) (cond (gets k) (k ∷ []) [])
    ∙ ap (take slots) (append_assoc before (filter gets (numbers k)) (cond (gets k) (k ∷ []) []))
    ∙ ap (λ l. take slots (before ++ l)) (sym (filter_numbers_more gets k))

-- if BIU `k` gets a slot, it is the next owner
pub given_more : (slots : ℕ) (before : List ℕ) (gets : ℕ → Bool) (k : ℕ) (now : List ℕ) → now ≡ given slots before gets k → length now < slots → gets k ≡ true
    → now ++ k ∷ [] ≡ given slots before gets (k + 1)
given_more slots before gets k now so_far room yes_k =
    sym (take_all slots (now ++ k ∷ []) (omega (arith, length-append now (k ∷ []))))
    ∙ ap (λ b. take slots (now ++ cond b (k ∷ []) [])) (sym yes_k)
    ∙ given_next slots before gets k now so_far

-- if BIU `k` gets no slot, the owners stay
pub given_same : (slots : ℕ) (before : List ℕ) (gets : ℕ → Bool) (k : ℕ) (now : List ℕ) → now ≡ given slots before gets k → length now ≤ slots → gets k ≡ false
    → now ≡ given slots before gets (k + 1)
given_same slots before gets k now so_far fits no_k =
    sym (ap (take slots) (append-nil now) ∙ take_all slots now fits)
    ∙ ap (λ b. take slots (now ++ cond b (k ∷ []) [])) (sym no_k)
    ∙ given_next slots before gets k now so_far

-- once all slots are given, the owners stay to the end of the pass
pub given_all : (slots : ℕ) (before : List ℕ) (gets : ℕ → Bool) (k : ℕ) (now : List ℕ) (m n : ℕ) → now ≡ given slots before gets k → length now ≡ slots → k + m ≡ n
    → now ≡ given slots before gets n
given_all slots before gets k now zero n so_far full e = so_far ∙ ap (given slots before gets) (let f : k ≡ n = omega arith in f)
given_all slots before gets k now (suc m) n so_far full e =
    let next : now ≡ given slots before gets (k + 1) =
    sym (full_stays slots now (cond (gets k) (k ∷ []) []) full) ∙ given_next slots before gets k now so_far in
    given_all slots before gets (k + 1) now m n next full (omega arith)

-- ---- pass by pass

-- the owners after k passes
abbrev pub granted : ℕ → (ℕ → List ℕ) → ℕ → List ℕ
granted slots pass k = take slots (flat_map pass (numbers k))

pub granted_none : (slots : ℕ) (pass : ℕ → List ℕ) → [] ≡ granted slots pass 0
granted_none slots pass = sym (take_all slots [] (omega arith))

pub granted_more : (slots : ℕ) (pass : ℕ → List ℕ) (k : ℕ) (now : List ℕ) → now ≡ granted slots pass k → take slots (now ++ pass k) ≡ granted slots pass (k + 1)
granted_more slots pass k now so_far =
    ap (λ l. take slots (l ++ pass k)) so_far
    ∙ take_after_take slots (flat_map pass (numbers k)) (pass k)
    ∙ ap (λ l. take slots (flat_map pass (numbers k) ++ l)) (sym (append-nil (pass k)))
    ∙ ap (take slots) (sym (flat_map-append pass (numbers k) (k ∷ [])))
    ∙ ap (λ l. take slots (flat_map pass l)) (sym (numbers-more k))

pub granted_fits : (slots : ℕ) (pass : ℕ → List ℕ) (k : ℕ) (now : List ℕ) → now ≡ granted slots pass k → length now ≤ slots
granted_fits slots pass k now so_far = omega (arith, ap length so_far, length-take slots (flat_map pass (numbers k)))

-- no later pass gives a slot: all are given, or nobody asks
abbrev pub IsOver : ℕ → (ℕ → List ℕ) → ℕ → List ℕ → Type 0
IsOver slots pass k now = (length now ≡ slots) ⊎ ((j : ℕ) → k ≤ j → pass j ≡ [])

adds_nothing : (slots : ℕ) (pass : ℕ → List ℕ) (k : ℕ) (now : List ℕ) → length now ≤ slots → IsOver slots pass k now → take slots (now ++ pass k) ≡ now
adds_nothing slots pass k now fits over =
    elim over [
      | inl full ↦ full_stays slots now (pass k) full
      | inr nobody ↦ ap (λ l. take slots (now ++ l)) (nobody k (omega arith)) ∙ ap (take slots) (append-nil now) ∙ take_all slots now fits
    ]

still_over : (slots : ℕ) (pass : ℕ → List ℕ) (k : ℕ) (now : List ℕ) → IsOver slots pass k now → IsOver slots pass (k + 1) now
still_over slots pass k now over = elim over [ inl full ↦ inl full | inr nobody ↦ inr (λ j h. nobody j (omega arith)) ]

granted_rest : (slots : ℕ) (pass : ℕ → List ℕ) (k : ℕ) (now : List ℕ) (m n : ℕ) → now ≡ granted slots pass k → length now ≤ slots → IsOver slots pass k now → k + m ≡ n
    → now ≡ granted slots pass n
granted_rest slots pass k now zero n so_far fits over e = so_far ∙ ap (granted slots pass) (let f : k ≡ n = omega arith in f)
granted_rest slots pass k now (suc m) n so_far fits over e =
    let next : now ≡ granted slots pass (k + 1) = sym (adds_nothing slots pass k now fits over) ∙ granted_more slots pass k now so_far in
    granted_rest slots pass (k + 1) now m n next fits (still_over slots pass k now over) (omega arith)

-- a pass that adds no owner is empty, or all slots are given
quiet : (slots : ℕ) (pass : ℕ → List ℕ) (k : ℕ) (now : List ℕ) → length now ≤ slots → length (take slots (now ++ pass k)) ≡ length now
    → (length now ≡ slots) ⊎ (pass k ≡ [])
quiet slots pass k now fits same =
    elim (cases_lt (length now) slots) [
      | inr most ↦ inl (omega arith)
      | inl less ↦ inr (nil_from_length (pass k) (omega (arith, length-take slots (now ++ pass k), length-append now (pass k))))
    ]

-- ---- who asks in a pass

asks_earlier : (t : Bool) (k j r : ℕ) → k ≤ j → (t && nat_lt j r) ≡ true → (t && nat_lt k r) ≡ true
asks_earlier true k j r h e = grind (arith, nat_tests)
asks_earlier false k j r h e = e

-- if nobody asks in a pass, nobody asks in a later one
pub nobody_later : (sizes : Sizes) (trusted : ℕ) (requests : List Heard) (k j : ℕ) → k ≤ j → owners_in_pass sizes trusted requests k ≡ []
    → owners_in_pass sizes trusted requests j ≡ []
nobody_later sizes trusted requests k j h none =
    filter-fewer (asks trusted requests k) (asks trusted requests j)
    (λ i. asks_earlier (has trusted i) k j (request_in (get_or requests i Fault)) h)
    (numbers sizes.bius)
    none

-- after a pass that added no owner the owners are those of the schedule
pub granted_all : (sizes : Sizes) (trusted : ℕ) (requests : List Heard) (k : ℕ) (before now : List ℕ) → k < sizes.data_slots
    → before ≡ granted sizes.data_slots (owners_in_pass sizes trusted requests) k
    → now ≡ take sizes.data_slots (before ++ owners_in_pass sizes trusted requests k)
    → length now ≡ length before
    → now ≡ owners_of sizes trusted requests
granted_all sizes trusted requests k before now within so_far is same =
    let slots = sizes.data_slots in
    let pass = owners_in_pass sizes trusted requests in
    let fits : length before ≤ slots = granted_fits slots pass k before so_far in
    let over : IsOver slots pass k before =
    elim (quiet slots pass k before fits (sym (ap length is) ∙ same)) [
      | inl full ↦ inl full
      | inr none ↦ inr (λ j h. nobody_later sizes trusted requests k j h none)
    ] in
    let stays : now ≡ before = is ∙ adds_nothing slots pass k before fits over in
    stays ∙ granted_rest slots pass k before (slots - k) slots so_far fits over (omega arith)
