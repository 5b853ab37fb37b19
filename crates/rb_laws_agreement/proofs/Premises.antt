-- What a verdict that gives no cause says of the frame so far: of each kind the trusted good nodes
-- outnumber the others of which something was taken, and of one kind none of these others was seen
-- unlike.
use Rattle.std.proofs.{Common.{◌≡◌, ℕ, ◌+◌, ◌<◌, ◌≤◌, Bool, true, false, ◌&&◌, ◌||◌, not, if◌then◌else◌, Option, Some, None, List, refl, sym, ◌∙◌, ap, nat_lt, ◌⊎◌, inl, inr, arith}, lemmas.Bool.{and_from, not_from_false}, lemmas.Bool.Decides.nat_tests}
use Rattle.rb_base.specs.{Nodes.{Side, has, set_of, size}, Nodes.Side.{Biu, Rmu}}
use Rattle.rb_base.proofs.{Plain.none_below, Sets.{has-set_of, same_set_of}, SetSizes.{size_some, size_within_two}}
use Rattle.rb_rules.specs.{declared.cause.Cause.Cause, declared.cause.Cause.TheVariants.{FewGoodBiu, FewGoodRmu, TwoSided}, Goodness.{Scenario, is_good, good_at}, Judging.{JudgedStage, ClassSets, good_now, trusted_now, is_suspect, is_asymmetric, is_benign, classes_of, are_few_good, some_asymmetric, cause_of, verdict_of}}
use Rattle.rb_laws_agreement.proofs.{Tests.true_or_false, Numbers.{how_many, how_many-is}}

-- a trusted node that is not good and of which something was taken in the frame
abbrev pub is_active : Scenario → Side → ℕ → ℕ → (Side → ℕ) → List JudgedStage → ℕ → Bool
is_active sc kind frame slot trusted stages j =
    has (trusted kind) j && not (is_good sc kind j frame slot) && not (is_benign kind stages j)

-- the node is trusted and good
abbrev pub is_sound : Scenario → Side → ℕ → ℕ → (Side → ℕ) → ℕ → Bool
is_sound sc kind frame slot trusted j = has (trusted kind) j && is_good sc kind j frame slot

-- the premise on faults, as it holds after a slot's stage
pub record Premise (sc : Scenario) (frame slot : ℕ) (trusted : Side → ℕ) (stages : List JudgedStage) : Type 0 where
  pub most : (kind : Side) → how_many (is_active sc kind frame slot trusted stages) < how_many (is_sound sc kind frame slot trusted)
  pub side : Side
  pub alike : (j : ℕ) → j < 16 → has (trusted side) j ≡ true → is_good sc side j frame slot ≡ false → is_asymmetric side stages j ≡ false

lt-from : (a b : ℕ) → not (nat_lt a b) ≡ false → a < b
lt-from a b h = grind (arith, nat_tests)

-- the parts of a verdict that gives no cause
pub record NoCause (biu rmu : ClassSets) : Type 0 where
  pub bius : are_few_good biu ≡ false
  pub rmus : are_few_good rmu ≡ false
  pub one_side : (some_asymmetric biu ≡ false) ⊎ (some_asymmetric rmu ≡ false)

caused : Bool → Bool → Bool → Bool → Option Cause
caused a b c d = if a then Some FewGoodBiu else (if b then Some FewGoodRmu else (if c && d then Some TwoSided else None))

no_cause : (biu rmu : ClassSets) → cause_of biu rmu ≡ None → NoCause biu rmu
unfolding caused
no_cause biu rmu h = go (are_few_good biu) refl (are_few_good rmu) refl (some_asymmetric biu) refl (some_asymmetric rmu) refl h
  where
    go : (a : Bool) → are_few_good biu ≡ a → (b : Bool) → are_few_good rmu ≡ b → (c : Bool) → some_asymmetric biu ≡ c → (d : Bool) → some_asymmetric rmu ≡ d
        → caused a b c d ≡ None → NoCause biu rmu
    go true p b q c r d s h = cc
    go false p true q c r d s h = cc
    go false p false q true r true s h = cc
    go false p false q true r false s h = record { bius = p; rmus = q; one_side = inr s }
    go false p false q false r d s h = record { bius = p; rmus = q; one_side = inl r }

class_case : (s b u : Bool) → (s && not b) ≡ true → ((s && not b && not u) || (s && u)) ≡ true
class_case true true u h = cc
class_case true false true h = refl
class_case true false false h = refl
class_case false b u h = cc

-- the good nodes of a kind outnumber the trusted ones that are neither good nor benign
most_of : (kind : Side) (stages : List JudgedStage) → are_few_good (classes_of kind stages) ≡ false
    → size (set_of (λ j. is_suspect kind stages j && not (is_benign kind stages j)))
    < size (set_of (λ j. has (trusted_now kind stages) j && has (good_now kind stages) j))
unfolding classes_of
most_of kind stages h =
    let c : ClassSets = classes_of kind stages in
    let more : size c.symmetric + size c.asymmetric < size c.good = lt-from (size c.symmetric + size c.asymmetric) (size c.good) h in
    let split : size (set_of (λ j. is_suspect kind stages j && not (is_benign kind stages j))) ≤ size c.symmetric + size c.asymmetric =
    size_within_two (set_of (λ j. is_suspect kind stages j && not (is_benign kind stages j))) c.symmetric c.asymmetric
    (λ j below is.
    ap (λ b. b || has c.asymmetric j) (has-set_of j (λ j. is_suspect kind stages j && not (is_benign kind stages j) && not (is_asymmetric kind stages j)) below)
    ∙ ap (λ b. is_suspect kind stages j && not (is_benign kind stages j) && not (is_asymmetric kind stages j) || b) (has-set_of j (λ j. is_suspect kind stages j && is_asymmetric kind stages j) below)
    ∙ class_case (is_suspect kind stages j) (is_benign kind stages j) (is_asymmetric kind stages j) (sym (has-set_of j (λ j. is_suspect kind stages j && not (is_benign kind stages j)) below) ∙ is)) in
    omega arith

-- if a kind has no asymmetric node, none of its suspects is asymmetric
alike_of : (kind : Side) (stages : List JudgedStage) → some_asymmetric (classes_of kind stages) ≡ false
    → (j : ℕ) → j < 16 → is_suspect kind stages j ≡ true → is_asymmetric kind stages j ≡ false
unfolding classes_of
alike_of kind stages h j below suspect =
    let c : ClassSets = classes_of kind stages in
    let none : size c.asymmetric ≡ 0 = none_below (size c.asymmetric) h in
    elim (true_or_false (is_asymmetric kind stages j)) [
      | inl is ↦
          let here : has c.asymmetric j ≡ true =
          has-set_of j (λ j. is_suspect kind stages j && is_asymmetric kind stages j) below ∙ and_from (is_suspect kind stages j) (is_asymmetric kind stages j) suspect is in
          absurd (omega (arith, size_some c.asymmetric j below here))
      | inr is ↦ is
    ]

-- the premise by the sets of the newest stage
pub premise_holds : (sc : Scenario) (frame slot : ℕ) (trusted : Side → ℕ) (stages : List JudgedStage)
    → ((kind : Side) → trusted_now kind stages ≡ trusted kind) → ((kind : Side) → good_now kind stages ≡ good_at sc kind frame slot)
    → verdict_of stages ≡ None → Premise sc frame slot trusted stages
unfolding verdict_of
premise_holds sc frame slot trusted stages same_trusted same_good h =
    let parts : NoCause (classes_of Biu stages) (classes_of Rmu stages) = no_cause (classes_of Biu stages) (classes_of Rmu stages) h in
    let good : (kind : Side) (j : ℕ) → j < 16 → has (good_now kind stages) j ≡ is_good sc kind j frame slot =
    λ kind j below. ap (λ s. has s j) (same_good kind) ∙ has-set_of j (λ i. is_good sc kind i frame slot) below in
    let held : (kind : Side) (j : ℕ) → has (trusted_now kind stages) j ≡ has (trusted kind) j = λ kind j. ap (λ s. has s j) (same_trusted kind) in
    let suspect : (kind : Side) (j : ℕ) → j < 16 → is_suspect kind stages j ≡ (has (trusted kind) j && not (is_good sc kind j frame slot)) =
    λ kind j below. ap (λ b. b && not (has (good_now kind stages) j)) (held kind j) ∙ ap (λ b. has (trusted kind) j && not b) (good kind j below) in
    let few : (kind : Side) → are_few_good (classes_of kind stages) ≡ false = λ kind. elim kind as (λ kind. are_few_good (classes_of kind stages) ≡ false) [ Biu ↦ parts.bius | Rmu ↦ parts.rmus ] in
    let most : (kind : Side) → how_many (is_active sc kind frame slot trusted stages) < how_many (is_sound sc kind frame slot trusted) =
    λ kind.
    let left : size (set_of (λ j. is_suspect kind stages j && not (is_benign kind stages j))) ≡ how_many (is_active sc kind frame slot trusted stages) =
    ap size (same_set_of (λ j. is_suspect kind stages j && not (is_benign kind stages j)) (is_active sc kind frame slot trusted stages) (λ j below. ap (λ b. b && not (is_benign kind stages j)) (suspect kind j below)))
    ∙ sym (how_many-is (is_active sc kind frame slot trusted stages)) in
    let right : size (set_of (λ j. has (trusted_now kind stages) j && has (good_now kind stages) j)) ≡ how_many (is_sound sc kind frame slot trusted) =
    ap size (same_set_of (λ j. has (trusted_now kind stages) j && has (good_now kind stages) j) (is_sound sc kind frame slot trusted)
    (λ j below. ap (λ b. b && has (good_now kind stages) j) (held kind j) ∙ ap (λ b. has (trusted kind) j && b) (good kind j below)))
    ∙ sym (how_many-is (is_sound sc kind frame slot trusted)) in
    omega (arith, most_of kind stages (few kind)) in
    let alike : (kind : Side) → some_asymmetric (classes_of kind stages) ≡ false → (j : ℕ) → j < 16 → has (trusted kind) j ≡ true → is_good sc kind j frame slot ≡ false → is_asymmetric kind stages j ≡ false =
    λ kind none j below t g.
    alike_of kind stages none j below (suspect kind j below ∙ and_from (has (trusted kind) j) (not (is_good sc kind j frame slot)) t (not_from_false (is_good sc kind j frame slot) g)) in
    elim parts.one_side [
      | inl none ↦ record { most = most; side = Biu; alike = alike Biu none }
      | inr none ↦ record { most = most; side = Rmu; alike = alike Rmu none }
    ]
