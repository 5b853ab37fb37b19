-- The votes of one stage, under the premise: good nodes that hear one value of all good sources
-- vote for it.
use Rattle.std.proofs.{Common.{◌≡◌, ℕ, ◌<◌, ◌≤◌, ◌&&◌, not, Bool, true, false, List, Some, is_some, ◌∙◌, arith}, lemmas.Bool.{and_from, not_from_false}}
use Rattle.rb_base.specs.{Counting.{count_if, numbers}, Nodes.{Side, has}, declared.values.Heard.Heard}
use Rattle.rb_base.proofs.{SetSizes.size-set_of, Plain.{and_first, and_second, less-same, not_both}}
use Rattle.rb_rules.specs.{declared.sense.Sense.Sense, ExactStage.closing_of, Goodness.is_good, Judging.{JudgedStage, is_benign}, Sense.value_in, Standing.{Standing, taken_of}}
use Rattle.rb_rules.proofs.Votes.{closing_vote_is}
use Rattle.rb_laws_agreement.proofs.{Numbers.{how_many, how_many-is, how_many-le}, Premises.{Premise, is_active, is_sound}}

pub how_many-count : (p : ℕ → Bool) → how_many p ≡ count_if p (numbers 16)
how_many-count p = how_many-is p ∙ size-set_of p

-- a source of which something was taken is trusted, and not benign
pub record IsSeen (trusted : Side → ℕ) (kind : Side) (stages : List JudgedStage) (j : ℕ) : Type 0 where
  pub trusts : has (trusted kind) j ≡ true
  pub seen : is_benign kind stages j ≡ false

-- if all good nodes of a kind are heard to say one value, this is the vote
pub one_voice : {sc frame slot trusted stages : _} (kind : Side) (s : Standing) (expected : ℕ → Bool) (sense : ℕ → Sense) (value : Heard)
    → Premise sc frame slot trusted stages
    → ((j : ℕ) → has (trusted kind) j ≡ true → is_good sc kind j frame slot ≡ true → taken_of value_in s expected sense j ≡ Some value)
    → ((j : ℕ) → j < 16 → is_some (taken_of value_in s expected sense j) ≡ true → IsSeen trusted kind stages j)
    → (closing_of s expected sense).voted ≡ value
one_voice {sc} {frame} {slot} {trusted} {stages} kind s expected sense value premise said seen =
    let good : ℕ → Bool = is_sound sc kind frame slot trusted in
    let others : ℕ → Bool = λ j. not (good j) && is_some (taken_of value_in s expected sense j) in
    let few : how_many others ≤ how_many (is_active sc kind frame slot trusted stages) =
    how_many-le others (is_active sc kind frame slot trusted stages) (λ j below is.
    let some : is_some (taken_of value_in s expected sense j) ≡ true = and_second (not (good j)) (is_some (taken_of value_in s expected sense j)) is in
    let known : IsSeen trusted kind stages j = seen j below some in
    let faulty : is_good sc kind j frame slot ≡ false =
    not_both (has (trusted kind) j) (is_good sc kind j frame slot) known.trusts (and_first (not (good j)) (is_some (taken_of value_in s expected sense j)) is) in
    and_from (has (trusted kind) j && not (is_good sc kind j frame slot)) (not (is_benign kind stages j))
    (and_from (has (trusted kind) j) (not (is_good sc kind j frame slot)) known.trusts (not_from_false (is_good sc kind j frame slot) faulty))
    (not_from_false (is_benign kind stages j) known.seen)) in
    let more : how_many others < how_many good = omega (arith, few, premise.most kind) in
    closing_vote_is s expected sense good value
    (λ j g. said j (and_first (has (trusted kind) j) (is_good sc kind j frame slot) g) (and_second (has (trusted kind) j) (is_good sc kind j frame slot) g))
    (less-same (how_many others) (count_if others (numbers 16)) (how_many good) (count_if good (numbers 16)) (how_many-count others) (how_many-count good) more)
