-- Idle slots, and closes that differ only in how it is said who is expected.
use Rattle.std.proofs.Common.{◌≡◌, ℕ, zero, suc, ◌+◌, ◌<◌, arith, Bool, true, false, ◌&&◌, ◌||◌, if◌then◌else◌, Option, None, List, [], ◌∷◌, map, refl, ap}
use Rattle.std.specs.List.{range_with_len}
use Rattle.rb_base.specs.{Counting.numbers, Nodes.{Side, has, set_of}, declared.values.Heard.TheVariants.Fault}
use Rattle.rb_rules.specs.{declared.role.Role.Role, declared.sense.Sense.Sense, Majority.majority_of, NodeState.NodeState, ExactStage.{present, each_node, closing_of, says_of}, Sense.value_in, Slots.{listens, expects}, Slots.Sender.Nobody, Standing.{Standing, is_eligible, taken_of, does_wrong, has_evidence, with_evidence}}
use Rattle.rb_base.proofs.Sets.{has-set_of, same_set_of}
use Rattle.rb_rules.proofs.Standings.{unexpected_not_taken}

-- An idle slot needs no rule of its own: nobody is expected, nothing is taken, and the vote over
-- nothing is Fault.

pub idle_expects_nobody : (me : Side) (role : Role) (trusted stage j : ℕ) → expects me role Nobody trusted stage j ≡ false
idle_expects_nobody me role trusted stage j =
    let go : (b : Bool) → (b && false) ≡ false = λ b. elim b as (λ b. (b && false) ≡ false) [ true ↦ refl | false ↦ refl ] in
    go (listens me role stage)

pub idle_is_silent : (me : Side) (index : ℕ) (st : NodeState) (slot : ℕ) (role : Role) (stage word : ℕ)
    → says_of me index st slot role Nobody stage word ≡ None
idle_is_silent me index st slot role stage word = refl

-- if no number gives a value, no value is present
none_present : {X : Type 0} (f : ℕ → Option X) → ((j : ℕ) → f j ≡ None) → (js : List ℕ) → present (map f js) ≡ []
none_present f none [] = refl
none_present f none (j ∷ js) = rw (none j) (none_present f none js)

-- if nobody is expected, the vote is Fault
pub vote_over_nothing : (s : Standing) (expected : ℕ → Bool) (sense : ℕ → Sense)
    → ((j : ℕ) → expected j ≡ false) → (closing_of s expected sense).voted ≡ Fault
vote_over_nothing s expected sense nobody =
    ap majority_of (none_present (taken_of value_in s expected sense) (λ j. unexpected_not_taken value_in s expected sense j (nobody j)) (numbers 16))

-- Only the nodes below 16 count.

same_on_range : {X : Type 0} (f g : ℕ → X) (from n : ℕ) → ((j : ℕ) → j < from + n → f j ≡ g j)
    → map f (range_with_len from n) ≡ map g (range_with_len from n)
same_on_range f g from zero same = refl
same_on_range f g from (suc n) same =
    rw (same from (omega arith)) (ap (λ xs. g from ∷ xs) (same_on_range f g (from + 1) n (λ j h. same j (omega arith))))

pub same_each_node : {X : Type 0} (f g : ℕ → X) → ((j : ℕ) → j < 16 → f j ≡ g j) → each_node f ≡ each_node g
same_each_node f g same = same_on_range f g 0 16 (λ j h. same j (omega arith))

-- two tests that agree below 16 give the same close
pub same_closing : (s : Standing) (p q : ℕ → Bool) (sense : ℕ → Sense) → ((j : ℕ) → j < 16 → p j ≡ q j)
    → closing_of s p sense ≡ closing_of s q sense
same_closing s p q sense same =
    let taken : each_node (taken_of value_in s p sense) ≡ each_node (taken_of value_in s q sense) =
    same_each_node (taken_of value_in s p sense) (taken_of value_in s q sense)
    (λ j h. ap (λ b. if b && is_eligible s j then value_in (sense j) else None) (same j h)) in
    ap (λ taken. record { taken = taken; voted = majority_of (present taken) }) taken

-- two tests that agree below 16 give the same evidence
pub same_evidence : (s : Standing) (p q : ℕ → Bool) (sense : ℕ → Sense) → ((j : ℕ) → j < 16 → p j ≡ q j)
    → with_evidence (has_evidence s p sense) s ≡ with_evidence (has_evidence s q sense) s
same_evidence s p q sense same =
    let bit : (set j : ℕ) → j < 16 → (has set j || has_evidence s p sense j) ≡ (has set j || has_evidence s q sense j) =
    λ set j h. ap (λ b. has set j || has s.trusted j && does_wrong b (sense j)) (same j h) in
    let direct : set_of (λ j. has s.direct j || has_evidence s p sense j) ≡ set_of (λ j. has s.direct j || has_evidence s q sense j) =
    same_set_of (λ j. has s.direct j || has_evidence s p sense j) (λ j. has s.direct j || has_evidence s q sense j) (bit s.direct) in
    let fresh : set_of (λ j. has s.fresh j || has_evidence s p sense j) ≡ set_of (λ j. has s.fresh j || has_evidence s q sense j) =
    same_set_of (λ j. has s.fresh j || has_evidence s p sense j) (λ j. has s.fresh j || has_evidence s q sense j) (bit s.fresh) in
    rw (direct, fresh) refl

-- a close by the set of the nodes that are expected is the close by the test
pub closing_by_set : (s : Standing) (p : ℕ → Bool) (sense : ℕ → Sense) → closing_of s (has (set_of p)) sense ≡ closing_of s p sense
closing_by_set s p sense = same_closing s (has (set_of p)) p sense (λ j below. has-set_of j p below)

pub evidence_by_set : (s : Standing) (p : ℕ → Bool) (sense : ℕ → Sense)
    → with_evidence (has_evidence s (has (set_of p)) sense) s ≡ with_evidence (has_evidence s p sense) s
evidence_by_set s p sense = same_evidence s (has (set_of p)) p sense (λ j below. has-set_of j p below)
