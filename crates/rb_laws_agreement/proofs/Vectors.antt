-- The vectors of a frame: their slots, and whom they convict.
use Rattle.std.proofs.{Common.{◌≡◌, ℕ, ◌+◌, ◌-◌, ◌*◌, ◌<◌, ◌&&◌, nat_lt, not, Bool, true, false, refl, sym, ◌∙◌, ap, arith}, lemmas.Bool.{le-ltb, lt-ltb}}
use Rattle.rb_base.specs.{Counting.{count_if, numbers}, Nodes.{Side, has, size}, Nodes.Side.{Biu, Rmu}, Sizes.{Sizes, sync_slot_of}, declared.values.Heard.Heard}
use Rattle.rb_base.proofs.{Sets.same_set_of, SetSizes.size-set_of}
use Rattle.rb_rules.specs.{declared.role.Role.Role, declared.role.Role.TheVariants.{DiagBiu, DiagRmu}, Conviction.{is_valid, names, naming, sparing, convicted_by}, Slots.{count_of, first_diagnosis_of, role_of}}

-- the slot of a node's vector
abbrev pub vector_slot : Sizes → Side → ℕ → ℕ
vector_slot sizes kind i = first_diagnosis_of kind sizes + i

abbrev pub vector_role : Side → ℕ → Role
vector_role Biu i = DiagBiu i
vector_role Rmu i = DiagRmu i

pub vector_slot-role : (sizes : Sizes) (kind : Side) (i : ℕ) → i < count_of kind sizes → role_of sizes (vector_slot sizes kind i) ≡ vector_role kind i
vector_slot-role sizes Biu i h =
    let slot : ℕ = sizes.bius + sizes.data_slots + i in
    let a : nat_lt slot sizes.bius ≡ false = le-ltb slot sizes.bius (omega arith) in
    let b : nat_lt slot (sizes.bius + sizes.data_slots) ≡ false = le-ltb slot (sizes.bius + sizes.data_slots) (omega arith) in
    let c : nat_lt slot (2 * sizes.bius + sizes.data_slots) ≡ true = lt-ltb slot (2 * sizes.bius + sizes.data_slots) (omega arith) in
    let e : slot - (sizes.bius + sizes.data_slots) ≡ i = omega arith in
    rw (a, b, c) (ap (λ n. DiagBiu n) e)
vector_slot-role sizes Rmu i h =
    let slot : ℕ = 2 * sizes.bius + sizes.data_slots + i in
    let a : nat_lt slot sizes.bius ≡ false = le-ltb slot sizes.bius (omega arith) in
    let b : nat_lt slot (sizes.bius + sizes.data_slots) ≡ false = le-ltb slot (sizes.bius + sizes.data_slots) (omega arith) in
    let c : nat_lt slot (2 * sizes.bius + sizes.data_slots) ≡ false = le-ltb slot (2 * sizes.bius + sizes.data_slots) (omega arith) in
    let d : nat_lt slot (sync_slot_of sizes) ≡ true = lt-ltb slot (sync_slot_of sizes) (omega arith) in
    let e : slot - (2 * sizes.bius + sizes.data_slots) ≡ i = omega arith in
    rw (a, b, c, d) (ap (λ n. DiagRmu n) e)

pub vector_slot-lt : (sizes : Sizes) (kind : Side) (i : ℕ) → i < count_of kind sizes → vector_slot sizes kind i < sync_slot_of sizes
vector_slot-lt sizes Biu i h = omega arith
vector_slot-lt sizes Rmu i h = omega arith

-- counts of tests that agree below 16
pub count_same : (p q : ℕ → Bool) → ((i : ℕ) → i < 16 → p i ≡ q i) → count_if p (numbers 16) ≡ count_if q (numbers 16)
count_same p q same = sym (size-set_of p) ∙ ap size (same_set_of p q same) ∙ size-set_of q

-- the vectors of the senders alone count
pub convicted_same : (others senders trusted : ℕ) (v w : ℕ → Heard) → ((i : ℕ) → i < 16 → has senders i ≡ true → v i ≡ w i)
    → convicted_by others senders trusted v ≡ convicted_by others senders trusted w
unfolding convicted_by
convicted_same others senders trusted v w same =
    same_set_of (λ j. has trusted j && nat_lt (sparing others senders v j) (naming others senders v j))
    (λ j. has trusted j && nat_lt (sparing others senders w j) (naming others senders w j))
    (λ j below.
    ap (λ n. has trusted j && nat_lt n (naming others senders v j)) (spares j) ∙ ap (λ n. has trusted j && nat_lt (sparing others senders w j) n) (names_it j))
  where
    three : (a b c d e : Bool) → (a ≡ true → (b && c) ≡ (d && e)) → (a && b && c) ≡ (a && d && e)
    three true b c d e h = h refl
    three false b c d e h = refl

    names_it : (j : ℕ) → naming others senders v j ≡ naming others senders w j
    names_it j =
        count_same (λ i. has senders i && is_valid others (v i) && names j (v i)) (λ i. has senders i && is_valid others (w i) && names j (w i))
        (λ i below. three (has senders i) (is_valid others (v i)) (names j (v i)) (is_valid others (w i)) (names j (w i))
        (λ sent. ap (λ x. is_valid others x && names j x) (same i below sent)))

    spares : (j : ℕ) → sparing others senders v j ≡ sparing others senders w j
    spares j =
        count_same (λ i. has senders i && is_valid others (v i) && not (names j (v i))) (λ i. has senders i && is_valid others (w i) && not (names j (w i)))
        (λ i below. three (has senders i) (is_valid others (v i)) (not (names j (v i))) (is_valid others (w i)) (not (names j (w i)))
        (λ sent. ap (λ x. is_valid others x && not (names j x)) (same i below sent)))
