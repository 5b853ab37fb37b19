-- What the premise with a listener says if it holds: of one kind no node that is not good was seen
-- unlike, by the listener neither.
use Rattle.std.proofs.{Common.{◌≡◌, ℕ, ◌<◌, ◌&&◌, ◌⊎◌, inl, inr, not, Bool, true, false, if◌then◌else◌, List, [], ◌∷◌, length, Option, Some, None, refl, sym, ◌∙◌, ap, arith}, lemmas.Bool.{and_from, not_from_false, or_from}}
use Rattle.std.specs.List.{list_any}
use Rattle.rb_base.specs.{Nodes.{Side, has, size}, Nodes.Side.{Biu, Rmu}, declared.values.See.See}
use Rattle.rb_base.proofs.{Sets.has-set_of, SetSizes.size_some, Plain.none_below}
use Rattle.rb_rules.specs.{declared.cause.Cause.TheVariants.{FewGoodBiu, FewGoodRmu, TwoSided}, Judging.{ClassSets, JudgedStage, are_alike, are_few_good, cause_of, is_suspect, some_asymmetric, was_unlike}}
use Rattle.rb_laws_agreement.proofs.Tests.{true_or_false, or_neither_first, or_neither_second, passes_at}
use Rattle.rb_laws_listener_near.specs.Judged.{HeardStage, classes_with, heard_stages, is_asymmetric_with, unlike_some, verdict_with, was_unlike_with}

-- a verdict that tells no cause finds one kind without asymmetric nodes
one_side : (biu rmu : ClassSets) → cause_of biu rmu ≡ None → (some_asymmetric biu ≡ false) ⊎ (some_asymmetric rmu ≡ false)
one_side biu rmu h = go (are_few_good biu) (are_few_good rmu) (some_asymmetric biu) (some_asymmetric rmu) h
  where
    go : (a b c d : Bool)
        → (if a then Some FewGoodBiu else (if b then Some FewGoodRmu else (if c && d then Some TwoSided else None))) ≡ None → (c ≡ false) ⊎ (d ≡ false)
    go true b c d h = cc
    go false true c d h = cc
    go false false true true h = cc
    go false false true false h = inr refl
    go false false false d h = inl refl

-- no trusted node of one kind that is not good was seen unlike
pub record SideAlike (seen : ℕ → JudgedStage → Option (ℕ → See)) (stages : List JudgedStage) : Type 0 where
  pub side : Side
  pub alike : (j : ℕ) → j < 16 → is_suspect side stages j ≡ true → is_asymmetric_with side (heard_stages seen stages) j ≡ false

alike_with : (kind : Side) (seen : ℕ → JudgedStage → Option (ℕ → See)) (stages : List JudgedStage) → some_asymmetric (classes_with kind seen stages) ≡ false
    → (j : ℕ) → j < 16 → is_suspect kind stages j ≡ true → is_asymmetric_with kind (heard_stages seen stages) j ≡ false
alike_with kind seen stages h j below suspect =
    let c : ClassSets = classes_with kind seen stages in
    let none : size c.asymmetric ≡ 0 = none_below (size c.asymmetric) h in
    elim (true_or_false (is_asymmetric_with kind (heard_stages seen stages) j)) [
      | inl is ↦
          let here : has c.asymmetric j ≡ true =
          has-set_of j (λ j. is_suspect kind stages j && is_asymmetric_with kind (heard_stages seen stages) j) below
          ∙ and_from (is_suspect kind stages j) (is_asymmetric_with kind (heard_stages seen stages) j) suspect is in
          absurd (omega (arith, size_some c.asymmetric j below here))
      | inr is ↦ is
    ]

pub side_alike : (seen : ℕ → JudgedStage → Option (ℕ → See)) (stages : List JudgedStage) → verdict_with seen stages ≡ None → SideAlike seen stages
unfolding verdict_with
side_alike seen stages h =
    elim (one_side (classes_with Biu seen stages) (classes_with Rmu seen stages) h) [
      | inl none ↦ record { side = Biu; alike = alike_with Biu seen stages none }
      | inr none ↦ record { side = Rmu; alike = alike_with Rmu seen stages none }
    ]

-- The listener is no receiver of the BIUs.
pub bius_alike : (seen : ℕ → JudgedStage → Option (ℕ → See)) (stages : List JudgedStage) (j : ℕ)
    → list_any (was_unlike_with Biu j) (heard_stages seen stages) ≡ false → list_any (was_unlike Biu j) stages ≡ false
bius_alike seen [] j h = refl
bius_alike seen (s ∷ earlier) j h =
    let heard : HeardStage = record { stage = s; seen = seen (length earlier) s } in
    let rest : List HeardStage = heard_stages seen earlier in
    or_from (was_unlike Biu j s) (list_any (was_unlike Biu j) earlier)
    (or_neither_first (was_unlike Biu j s) (unlike_some Biu j s heard.seen) (or_neither_first (was_unlike_with Biu j heard) (list_any (was_unlike_with Biu j) rest) h))
    (bius_alike seen earlier j (or_neither_second (was_unlike_with Biu j heard) (list_any (was_unlike_with Biu j) rest) h))

-- no good BIU saw RMU `j` unlike the listener
seen_alike : (s : JudgedStage) (sight : ℕ → See) (j : ℕ) → unlike_some Rmu j s (Some sight) ≡ false
    → (i : ℕ) → i < 16 → has (s.good Biu) i ≡ true → are_alike s.eps (s.sight Biu i j) (sight j) ≡ true
seen_alike s sight j none i small good =
    elim (true_or_false (are_alike s.eps (s.sight Biu i j) (sight j))) [
      | inl same ↦ same
      | inr differ ↦
          let found : unlike_some Rmu j s (Some sight) ≡ true =
          passes_at (λ i. has (s.good Biu) i && not (are_alike s.eps (s.sight Biu i j) (sight j))) i small
          (and_from (has (s.good Biu) i) (not (are_alike s.eps (s.sight Biu i j) (sight j))) good (not_from_false (are_alike s.eps (s.sight Biu i j) (sight j)) differ)) in
          cc
    ]

-- in a newest stage in which the listener is a receiver, it saw an RMU as each good BIU did
pub rmus_alike : (seen : ℕ → JudgedStage → Option (ℕ → See)) (s : JudgedStage) (earlier : List JudgedStage) (j : ℕ) {sight : _}
    → seen (length earlier) s ≡ Some sight → list_any (was_unlike_with Rmu j) (heard_stages seen (s ∷ earlier)) ≡ false
    → (i : ℕ) → i < 16 → has (s.good Biu) i ≡ true → are_alike s.eps (s.sight Biu i j) (sight j) ≡ true
rmus_alike seen s earlier j {sight} here h =
    let heard : HeardStage = record { stage = s; seen = seen (length earlier) s } in
    let rest : List HeardStage = heard_stages seen earlier in
    let first : was_unlike_with Rmu j heard ≡ false = or_neither_first (was_unlike_with Rmu j heard) (list_any (was_unlike_with Rmu j) rest) h in
    let none : unlike_some Rmu j s (seen (length earlier) s) ≡ false = or_neither_second (was_unlike Rmu j s) (unlike_some Rmu j s (seen (length earlier) s)) first in
    seen_alike s sight j (ap (unlike_some Rmu j s) (sym here) ∙ none)
