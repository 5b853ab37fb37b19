-- The schedule: equal votes give equal owners, and each owner is trusted.
use Rattle.std.proofs.{Common.{◌≡◌, ℕ, zero, suc, ◌+◌, ◌<◌, ◌≤◌, ◌&&◌, nat_lt, Bool, true, false, cond, List, [], ◌∷◌, ◌++◌, length, map, take, filter, Some, slice_get, get_or, refl, sym, ◌∙◌, ap, subst, arith}, lemmas.Option.same_Some}
use Rattle.std.specs.List.{flat_map, range_with_len}
use Rattle.rb_base.specs.{Counting.numbers, Nodes.has, Sizes.Sizes, declared.values.Heard.Heard, declared.values.Heard.TheVariants.Fault}
use Rattle.rb_base.proofs.Plain.{and_first}
use Rattle.rb_rules.specs.{Owners.{request_in, owners_in_pass, owners_of}, Slots.{role_of, sender_in}}
use Rattle.rb_rules.proofs.Slots.{schedule_role}

-- `P` holds for each item of the list
abbrev pub AllIn : (ℕ → Type 0) → List ℕ → Type 0
AllIn P xs = (k p : ℕ) → slice_get xs k ≡ Some p → P p

pub all-nil : (P : ℕ → Type 0) → AllIn P []
all-nil P k p h = cc

all-cons : (P : ℕ → Type 0) (x : ℕ) (xs : List ℕ) → P x → AllIn P xs → AllIn P (x ∷ xs)
all-cons P x xs here rest zero p h = subst P (same_Some x p h) here
all-cons P x xs here rest (suc k) p h = rest k p h

all-tail : (P : ℕ → Type 0) (x : ℕ) (xs : List ℕ) → AllIn P (x ∷ xs) → AllIn P xs
all-tail P x xs all k p h = all (suc k) p h

all-append : (P : ℕ → Type 0) (xs ys : List ℕ) → AllIn P xs → AllIn P ys → AllIn P (xs ++ ys)
all-append P [] ys a b = b
all-append P (x ∷ xs) ys a b = all-cons P x (xs ++ ys) (a 0 x refl) (all-append P xs ys (all-tail P x xs a) b)

all-take : (P : ℕ → Type 0) (n : ℕ) (xs : List ℕ) → AllIn P xs → AllIn P (take n xs)
all-take P zero xs a = all-nil P
all-take P (suc n) [] a = all-nil P
all-take P (suc n) (x ∷ xs) a = all-cons P x (take n xs) (a 0 x refl) (all-take P n xs (all-tail P x xs a))

all-filter : (P : ℕ → Type 0) (t : ℕ → Bool) → ((x : ℕ) → t x ≡ true → P x) → (xs : List ℕ) → AllIn P (filter t xs)
all-filter P t gives [] = all-nil P
all-filter P t gives (x ∷ xs) = go (t x) refl (all-filter P t gives xs)
  where
    go : (b : Bool) → t x ≡ b → AllIn P (filter t xs) → AllIn P (cond b (x ∷ filter t xs) (filter t xs))
    go true e rest = all-cons P x (filter t xs) (gives x e) rest
    go false e rest = rest

all-flat : (P : ℕ → Type 0) (f : ℕ → List ℕ) → ((x : ℕ) → AllIn P (f x)) → (xs : List ℕ) → AllIn P (flat_map f xs)
all-flat P f each [] = all-nil P
all-flat P f each (x ∷ xs) = all-append P (f x) (flat_map f xs) (each x) (all-flat P f each xs)

-- each owner is trusted
pub owners_are_trusted : (sizes : Sizes) (trusted : ℕ) (requests : List Heard) → AllIn (λ p. has trusted p ≡ true) (owners_of sizes trusted requests)
owners_are_trusted sizes trusted requests =
    let P : ℕ → Type 0 = λ p. has trusted p ≡ true in
    all-take P sizes.data_slots (flat_map (owners_in_pass sizes trusted requests) (numbers sizes.data_slots))
    (all-flat P (owners_in_pass sizes trusted requests)
    (λ pass. all-filter P (λ i. has trusted i && nat_lt pass (request_in (get_or requests i Fault)))
    (λ i h. and_first (has trusted i) (nat_lt pass (request_in (get_or requests i Fault))) h) (numbers sizes.bius))
    (numbers sizes.data_slots))

-- the first of a list, item by item
take-range : (f : ℕ → Heard) (k from : ℕ) (xs : List Heard) → k ≤ length xs → ((t : ℕ) → t < k → get_or xs t Fault ≡ f (from + t))
    → take k xs ≡ map f (range_with_len from k)
take-range f zero from xs long each = refl
take-range f (suc k) from [] long each = absurd (omega arith)
take-range f (suc k) from (x ∷ xs) long each =
    let e : from + 0 ≡ from = omega arith in
    let first : x ≡ f from = each 0 (omega arith) ∙ ap f e in
    let rest : take k xs ≡ map f (range_with_len (from + 1) k) =
    take-range f k (from + 1) xs (omega arith) (λ t h. each (suc t) (omega arith) ∙ ap f (let g : from + suc t ≡ from + 1 + t = omega arith in g)) in
    ap (λ y. y ∷ take k xs) first ∙ ap (λ l. f from ∷ l) rest

pub take-are : (f : ℕ → Heard) (k : ℕ) (xs : List Heard) → k ≤ length xs → ((t : ℕ) → t < k → get_or xs t Fault ≡ f t) → take k xs ≡ map f (numbers k)
take-are f k xs long each = take-range f k 0 xs long (λ t h. each t h ∙ ap f (let g : t ≡ 0 + t = omega arith in g))

-- the sender of a schedule slot is the same whatever the owners are
pub same_requester : (sizes : Sizes) (bius rmus : ℕ) (a b : List ℕ) (t : ℕ) → t < sizes.bius
    → sender_in bius rmus a (role_of sizes t) ≡ sender_in bius rmus b (role_of sizes t)
same_requester sizes bius rmus a b t h =
    ap (sender_in bius rmus a) (schedule_role sizes t h) ∙ ap (sender_in bius rmus b) (sym (schedule_role sizes t h))
