-- The close of a stage, and mismatch accusations.
use Rattle.std.proofs.Common.{◌≡◌, ℕ, ◌<◌, Bool, Option, None, List, [], replicate, refl, sym, ◌∙◌, ap}
use Rattle.rb_base.specs.{declared.values.Heard.TheVariants.Fault, declared.values.Heard.Heard}
use Rattle.rb_rules.proofs.ExactStages.{same_each_node}
use Rattle.rb_rules.specs.{Majority.majority_of, ExactStage.{closing_of, each_node, present}, declared.closing.Closing.Closing, declared.sense.Sense.Sense, Sense.value_in, Standing.{Standing, taken_of}}

-- the close is what was taken from all sources, and the vote over it
pub closing_is : (s : Standing) (expected : ℕ → Bool) (sense : ℕ → Sense) (taken : List (Option Heard)) (values : List Heard) (voted : Heard)
    → taken ≡ each_node (taken_of value_in s expected sense) → values ≡ present taken → voted ≡ majority_of values
    → ◌≡◌ {A = Closing} (record { taken = taken; voted = voted }) (closing_of s expected sense)
closing_is s expected sense taken values voted taken_is values_are voted_is =
    let vote : voted ≡ majority_of (present (each_node (taken_of value_in s expected sense))) =
    voted_is ∙ ap majority_of values_are ∙ ap (λ t. majority_of (present t)) taken_is in
    rw (taken_is, vote) refl

-- if nothing is taken from any source, the closing is that of nothing
pub nothing_closing : (s : Standing) (expected : ℕ → Bool) (sense : ℕ → Sense) → ((j : ℕ) → j < 16 → taken_of value_in s expected sense j ≡ None)
    → ◌≡◌ {A = Closing} (record { taken = replicate 16 None; voted = Fault }) (closing_of s expected sense)
nothing_closing s expected sense none =
    let taken : each_node (taken_of value_in s expected sense) ≡ replicate 16 None = same_each_node (taken_of value_in s expected sense) (λ j. None) none in
    closing_is s expected sense (replicate 16 None) [] Fault (sym taken) refl refl
