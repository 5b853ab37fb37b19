-- The BIUs of some pairs.
use Rattle.std.proofs.{Common.{◌≡◌, ℕ, ◌+◌, ◌<◌, ◌==◌, ◌||◌, List, [], get_or, length, take, sym, ◌∙◌, ap, arith}, lemmas.List.Folds.list_any_more}
use Rattle.std.specs.List.{list_any}
use Rattle.rb_base.specs.Nodes.{has, set_of}
use Rattle.rb_base.proofs.{Plain.eq-either_way, Sets.{has-set_of, has_none, is_set_of, same_set_of}}
use Rattle.rb_rules_bridge.specs.{declared.bank.Bank.Bank, declared.bank.Pair.Pair, Bridges.biu_on}

pub no-members : (bank : Bank) (m : ℕ) → m ≡ 0 → m ≡ set_of (λ i. list_any (λ pair. biu_on bank pair == i) [])
no-members bank m none = none ∙ is_set_of 0 (λ i. list_any (λ pair. biu_on bank pair == i) []) (omega arith) (λ i lt. has_none i)

-- the BIUs of k + 1 pairs are those of the first `k` pairs and that of pair `k`
pub more-members : (bank : Bank) (pairs : List Pair) (k : ℕ) (d : Pair) (m n node : ℕ) → k < length pairs → m ≡ set_of (λ i. list_any (λ pair. biu_on bank pair == i) (take k pairs))
    → node ≡ biu_on bank (get_or pairs k d) → n ≡ set_of (λ i. has m i || (i == node)) → n ≡ set_of (λ i. list_any (λ pair. biu_on bank pair == i) (take (k + 1) pairs))
more-members bank pairs k d m n node below before this is =
    is ∙ same_set_of (λ i. has m i || (i == node)) (λ i. list_any (λ pair. biu_on bank pair == i) (take (k + 1) pairs))
    (λ i small.
    ap (λ s. has s i || (i == node)) before
    ∙ ap (λ b. b || (i == node)) (has-set_of i (λ i. list_any (λ pair. biu_on bank pair == i) (take k pairs)) small)
    ∙ ap (λ b. list_any (λ pair. biu_on bank pair == i) (take k pairs) || b) (eq-either_way i node ∙ ap (λ n. n == i) this)
    ∙ sym (list_any_more (λ pair. biu_on bank pair == i) pairs k d below))
