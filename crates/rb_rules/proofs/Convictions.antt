-- For the laws of agreement: who is convicted, and who is not.
use Rattle.std.proofs.{Common.{◌≡◌, ℕ, ◌<◌, ◌≤◌, true, false, ◌&&◌, nat_lt, ◌∙◌, ap, arith}, lemmas.Bool.Decides.nat_tests}
use Rattle.rb_base.specs.{Nodes.has, declared.values.Heard.Heard}
use Rattle.rb_base.proofs.{Sets.has-set_of, Plain.and-false}
use Rattle.rb_rules.specs.Conviction.{naming, sparing, convicted_by}

-- a node below 16 is convicted by the test that the definition names
pub convicted_is : (others senders trusted : ℕ) (vector : ℕ → Heard) (j : ℕ) → j < 16
    → has (convicted_by others senders trusted vector) j ≡ (has trusted j && nat_lt (sparing others senders vector j) (naming others senders vector j))
unfolding convicted_by
convicted_is others senders trusted vector j below =
    has-set_of j (λ j. has trusted j && nat_lt (sparing others senders vector j) (naming others senders vector j)) below

-- a trusted node that more vectors name than spare is convicted
pub named_is_convicted : (others senders trusted : ℕ) (vector : ℕ → Heard) (j : ℕ) → j < 16 → has trusted j ≡ true
    → sparing others senders vector j < naming others senders vector j → has (convicted_by others senders trusted vector) j ≡ true
named_is_convicted others senders trusted vector j below t more =
    let test : nat_lt (sparing others senders vector j) (naming others senders vector j) ≡ true = grind (arith, nat_tests) in
    convicted_is others senders trusted vector j below ∙ ap (λ b. has trusted j && b) test ∙ ap (λ b. b && true) t

-- a node that at most as many vectors name as spare is not convicted
pub spared_is_not_convicted : (others senders trusted : ℕ) (vector : ℕ → Heard) (j : ℕ) → j < 16
    → naming others senders vector j ≤ sparing others senders vector j → has (convicted_by others senders trusted vector) j ≡ false
spared_is_not_convicted others senders trusted vector j below few =
    let test : nat_lt (sparing others senders vector j) (naming others senders vector j) ≡ false = grind (arith, nat_tests) in
    convicted_is others senders trusted vector j below ∙ ap (λ b. has trusted j && b) test ∙ and-false (has trusted j)
