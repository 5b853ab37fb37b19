-- The middle of small numbers is small.
use Rattle.std.proofs.{Common.{◌≡◌, ℕ, ◌+◌, ◌*◌, ◌^◌, ◌<◌, ◌≤◌, true, Option, inl, inr, Some, None, IfSome, All, List, [], ◌∷◌, ◌++◌, length, nat_lt, subst, sym, arith}, lemmas.Bool.{cases_lt, lt-ltb}, lemmas.List.Elements.{All-append, All-cons, All-nil, All-weaker}}
use Rattle.rb_base.proofs.Counts.{count_if-all}
use Rattle.rb_base.specs.{declared.values.Heard.Heard, declared.values.Heard.TheVariants.{Word, Fault}}
use Rattle.rb_rules.specs.Middle.{IsMiddle, below}
use Rattle.rb_group.specs.Groups.{words_in}

-- the middle is below what all numbers are below
pub middle_below : (n m : ℕ) (stamps : List ℕ) → All (λ s. s < n) stamps → IsMiddle m stamps → m < n
middle_below n m stamps small is =
    elim (cases_lt m n) [
      | inl less ↦ less
      | inr past ↦
          let all : below m stamps ≡ length stamps = count_if-all (λ s. nat_lt s m) stamps (All-weaker (λ s. s < n) (λ s. nat_lt s m ≡ true) (λ s h. lt-ltb s m (omega (arith, h, past))) stamps small) in
          absurd (omega (arith, is.few_below, all))
    ]

pub found_below : (n : ℕ) (stamps : List ℕ) (m : Option ℕ) → All (λ s. s < n) stamps → IfSome m (λ m. IsMiddle m stamps) → IfSome m (λ m. m < n)
found_below n stamps None small is = tt
found_below n stamps (Some m) small is = middle_below n m stamps small is

pub one_small : (n word : ℕ) (words : List ℕ) → All (λ s. s < n) words → word < n → All (λ s. s < n) (words ++ word ∷ [])
one_small n word words small less = All-append (λ s. s < n) words (word ∷ []) small (All-cons (λ s. s < n) word [] less (All-nil (λ s. s < n)))
