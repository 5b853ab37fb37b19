-- The latest deliveries, the newest last, beside the faults of all deliveries, the newest first.
use Rattle.std.proofs.{Common.{◌≡◌, ℕ, zero, suc, ◌-◌, min, Bool, List, [], ◌∷◌, ◌++◌, length, map, reverse, take, drop, count_by, refl, sym, ◌∙◌, ap, arith}, Math.Seq.take-append_seam, lemmas.List.{length-drop, length-reverse, reverse-append, take-append-drop, take-map, take_min}}
use Rattle.circular_buffer.specs.Buffer.{keep_last}
use Rattle.rb_base.specs.{Counting.count_if, declared.values.Delivery.Delivery}
use Rattle.rb_base.proofs.Counts.{count_if-append, count_if-count_by, count_if-map}
use Rattle.rb_rules.specs.Ports.{is_fault}
use Rattle.rb_port.specs.Keeping.{is_lost}

reverse_drop : {X : Type 0} (k : ℕ) (xs : List X) → reverse (drop k xs) ≡ take (length (drop k xs)) (reverse xs)
reverse_drop {X} k xs =
    let parts : reverse xs ≡ reverse (drop k xs) ++ reverse (take k xs) = ap reverse (sym (take-append-drop k xs)) ∙ reverse-append (take k xs) (drop k xs) in
    sym (
    ap (take (length (drop k xs))) parts
    ∙ ap (λ n. take n (reverse (drop k xs) ++ reverse (take k xs))) (sym (length-reverse (drop k xs)))
    ∙ take-append_seam (reverse (drop k xs)) (reverse (take k xs)))

-- the last `n` items, the newest first, are the first `n` of the reversed list
reverse_kept : {X : Type 0} (n : ℕ) (xs : List X) → reverse (keep_last n xs) ≡ take n (reverse xs)
reverse_kept {X} n xs =
    let so_many : length (drop (length xs - n) xs) ≡ min n (length (reverse xs)) = omega (arith, length-drop (length xs - n) xs, length-reverse xs) in
    reverse_drop (length xs - n) xs ∙ ap (λ k. take k (reverse xs)) so_many ∙ take_min n (reverse xs)

take_fewer : {X : Type 0} (n : ℕ) (xs : List X) → take n (take (suc n) xs) ≡ take n xs
take_fewer zero xs = refl
take_fewer (suc n) [] = refl
take_fewer (suc n) (x ∷ xs) = ap (λ ys. x ∷ ys) (take_fewer n xs)

one_more : (n : ℕ) (latest : List Delivery) (d : Delivery) (faults : List Bool) → map is_lost (reverse latest) ≡ take (suc n) faults
    → map is_lost (reverse (keep_last (suc n) (latest ++ d ∷ []))) ≡ take (suc n) (is_fault d.value ∷ faults)
one_more n latest d faults same =
    ap (map is_lost) (reverse_kept (suc n) (latest ++ d ∷ []) ∙ ap (take (suc n)) (reverse-append latest (d ∷ [])))
    ∙ ap (λ ys. is_fault d.value ∷ ys) (sym (take-map is_lost n (reverse latest)) ∙ ap (take n) same ∙ take_fewer n faults)

-- whether one more delivery is Fault is the first of the 64 newest tests
pub faults_more : (latest : List Delivery) (d : Delivery) (faults : List Bool) → map is_lost (reverse latest) ≡ take 64 faults
    → map is_lost (reverse (keep_last 64 (latest ++ d ∷ []))) ≡ take 64 (is_fault d.value ∷ faults)
faults_more latest d faults same = one_more 63 latest d faults same

count_if-reverse : {X : Type 0} (p : X → Bool) (xs : List X) → count_if p (reverse xs) ≡ count_if p xs
count_if-reverse p [] = refl
count_if-reverse p (x ∷ xs) =
    let e = ap (count_if p) (reverse-append (x ∷ []) xs) ∙ count_if-append p (reverse xs) (x ∷ []) in
    e ∙ omega (arith, count_if-reverse p xs)

-- as many deliveries are lost as faults are noted
pub losses_are : (latest : List Delivery) (faults : List Bool) → map is_lost (reverse latest) ≡ faults → count_by is_lost latest ≡ count_if (λ fault. fault) faults
losses_are latest faults same =
    sym (count_if-count_by is_lost latest)
    ∙ sym (count_if-reverse is_lost latest)
    ∙ sym (count_if-map (λ fault. fault) is_lost (reverse latest))
    ∙ ap (count_if (λ fault. fault)) same
