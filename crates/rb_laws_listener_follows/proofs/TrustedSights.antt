-- If all RMUs that are suspect are in a set, only what a listener saw of that set matters to the
-- verdict.
use Rattle.std.proofs.Common.{◌≡◌, ℕ, ◌&&◌, ◌||◌, not, Bool, true, false, List, [], ◌∷◌, Option, Some, None, length, if◌then◌else◌, refl, ◌∙◌, ap}
use Rattle.std.specs.List.{list_any}
use Rattle.rb_base.specs.{Nodes.{Side, has, set_of}, Nodes.Side.{Biu, Rmu}, declared.values.See.See, declared.values.See.TheVariants.Nothing}
use Rattle.rb_base.proofs.{Plain.and-same, Sets.same_set_of}
use Rattle.rb_rules.specs.Judging.{JudgedStage, are_alike, cause_of, good_now, is_something, is_suspect, some_receiver, trusted_now, was_taken, was_unlike}
use Rattle.rb_laws_listener_near.specs.Judged.{classes_with, heard_stages, is_asymmetric_with, is_benign_with, took_of, unlike_some, verdict_with, was_taken_with, was_unlike_with}

-- what was seen of node `j`, if it is in the set
abbrev pub sight_of : ℕ → (ℕ → See) → ℕ → See
sight_of set sight j = if has set j then sight j else Nothing

abbrev pub seen_of : ℕ → Option (ℕ → See) → Option (ℕ → See)
seen_of set None = None
seen_of set (Some sight) = Some (sight_of set sight)

abbrev pub only_of : ℕ → (ℕ → JudgedStage → Option (ℕ → See)) → ℕ → JudgedStage → Option (ℕ → See)
only_of set seen window s = seen_of set (seen window s)

-- all suspect RMUs are in the set
abbrev pub AllIn : ℕ → List JudgedStage → Type 0
AllIn set stages = (j : ℕ) → is_suspect Rmu stages j ≡ true → has set j ≡ true

-- the node is a BIU, or an RMU of the set
abbrev InSet : ℕ → Side → ℕ → Type 0
InSet set Biu j = true ≡ true
InSet set Rmu j = has set j ≡ true

sight-same : (set : ℕ) (sight : ℕ → See) (j : ℕ) → has set j ≡ true → sight_of set sight j ≡ sight j
sight-same set sight j h = ap (λ b. if b then sight j else Nothing) h

took-same : (set : ℕ) (kind : Side) (j : ℕ) → InSet set kind j → (o : Option (ℕ → See)) → took_of kind j (seen_of set o) ≡ took_of kind j o
took-same set kind j h None = refl
took-same set Biu j h (Some sight) = refl
took-same set Rmu j h (Some sight) = ap is_something (sight-same set sight j h)

unlike-same : (set : ℕ) (kind : Side) (j : ℕ) → InSet set kind j → (s : JudgedStage) (o : Option (ℕ → See)) → unlike_some kind j s (seen_of set o) ≡ unlike_some kind j s o
unlike-same set kind j h s None = refl
unlike-same set Biu j h s (Some sight) = refl
unlike-same set Rmu j h s (Some sight) = ap (λ x. some_receiver Rmu (λ i. not (are_alike s.eps (s.sight Biu i j) x)) s) (sight-same set sight j h)

taken-list : (set : ℕ) (seen : ℕ → JudgedStage → Option (ℕ → See)) (kind : Side) (j : ℕ) → InSet set kind j → (stages : List JudgedStage)
    → list_any (was_taken_with kind j) (heard_stages (only_of set seen) stages) ≡ list_any (was_taken_with kind j) (heard_stages seen stages)
taken-list set seen kind j h [] = refl
taken-list set seen kind j h (s ∷ earlier) =
    ap (λ b. (was_taken kind j s || b) || list_any (was_taken_with kind j) (heard_stages (only_of set seen) earlier)) (took-same set kind j h (seen (length earlier) s))
    ∙ ap (λ b. (was_taken kind j s || took_of kind j (seen (length earlier) s)) || b) (taken-list set seen kind j h earlier)

unlike-list : (set : ℕ) (seen : ℕ → JudgedStage → Option (ℕ → See)) (kind : Side) (j : ℕ) → InSet set kind j → (stages : List JudgedStage)
    → list_any (was_unlike_with kind j) (heard_stages (only_of set seen) stages) ≡ list_any (was_unlike_with kind j) (heard_stages seen stages)
unlike-list set seen kind j h [] = refl
unlike-list set seen kind j h (s ∷ earlier) =
    ap (λ b. (was_unlike kind j s || b) || list_any (was_unlike_with kind j) (heard_stages (only_of set seen) earlier)) (unlike-same set kind j h s (seen (length earlier) s))
    ∙ ap (λ b. (was_unlike kind j s || unlike_some kind j s (seen (length earlier) s)) || b) (unlike-list set seen kind j h earlier)

in-set : (set : ℕ) (stages : List JudgedStage) → AllIn set stages → (kind : Side) (j : ℕ) → is_suspect kind stages j ≡ true → InSet set kind j
in-set set stages all Biu j s = refl
in-set set stages all Rmu j s = all j s

two-same : (a x y u v : Bool) → (a ≡ true → x ≡ y) → (a ≡ true → u ≡ v) → (a && not x && not u) ≡ (a && not y && not v)
two-same true x y u v h k = ap (λ b. not b && not u) (h refl) ∙ ap (λ b. not y && not b) (k refl)
two-same false x y u v h k = refl

classes-same : (set : ℕ) (seen : ℕ → JudgedStage → Option (ℕ → See)) (stages : List JudgedStage) → AllIn set stages → (kind : Side) → classes_with kind (only_of set seen) stages ≡ classes_with kind seen stages
classes-same set seen stages all kind =
    ap (λ x. record { good = set_of (λ j. has (trusted_now kind stages) j && has (good_now kind stages) j); benign = x; symmetric = symmetric_now; asymmetric = asymmetric_now })
    (same_set_of (λ j. is_suspect kind stages j && is_benign_with kind (heard_stages (only_of set seen) stages) j) (λ j. is_suspect kind stages j && is_benign_with kind (heard_stages seen stages) j)
    (λ j below. and-same (is_suspect kind stages j) (is_benign_with kind (heard_stages (only_of set seen) stages) j) (is_benign_with kind (heard_stages seen stages) j) (λ s. ap not (took j s))))
    ∙ ap (λ x. record { good = set_of (λ j. has (trusted_now kind stages) j && has (good_now kind stages) j); benign = benign_then; symmetric = x; asymmetric = asymmetric_now })
    (same_set_of
    (λ j. is_suspect kind stages j && not (is_benign_with kind (heard_stages (only_of set seen) stages) j) && not (is_asymmetric_with kind (heard_stages (only_of set seen) stages) j))
    (λ j. is_suspect kind stages j && not (is_benign_with kind (heard_stages seen stages) j) && not (is_asymmetric_with kind (heard_stages seen stages) j))
    (λ j below.
    two-same (is_suspect kind stages j) (is_benign_with kind (heard_stages (only_of set seen) stages) j) (is_benign_with kind (heard_stages seen stages) j)
    (is_asymmetric_with kind (heard_stages (only_of set seen) stages) j) (is_asymmetric_with kind (heard_stages seen stages) j) (λ s. ap not (took j s)) (unlike j)))
    ∙ ap (λ x. record { good = set_of (λ j. has (trusted_now kind stages) j && has (good_now kind stages) j); benign = benign_then; symmetric = symmetric_then; asymmetric = x })
    (same_set_of (λ j. is_suspect kind stages j && is_asymmetric_with kind (heard_stages (only_of set seen) stages) j) (λ j. is_suspect kind stages j && is_asymmetric_with kind (heard_stages seen stages) j)
    (λ j below.
    and-same (is_suspect kind stages j) (is_asymmetric_with kind (heard_stages (only_of set seen) stages) j) (is_asymmetric_with kind (heard_stages seen stages) j) (unlike j)))
  where
    took : (j : ℕ) → is_suspect kind stages j ≡ true
        → list_any (was_taken_with kind j) (heard_stages (only_of set seen) stages) ≡ list_any (was_taken_with kind j) (heard_stages seen stages)
    took j s = taken-list set seen kind j (in-set set stages all kind j s) stages

    unlike : (j : ℕ) → is_suspect kind stages j ≡ true
        → list_any (was_unlike_with kind j) (heard_stages (only_of set seen) stages) ≡ list_any (was_unlike_with kind j) (heard_stages seen stages)
    unlike j s = unlike-list set seen kind j (in-set set stages all kind j s) stages

    symmetric_now : ℕ
    symmetric_now = set_of (λ j. is_suspect kind stages j && not (is_benign_with kind (heard_stages (only_of set seen) stages) j) && not (is_asymmetric_with kind (heard_stages (only_of set seen) stages) j))

    asymmetric_now : ℕ
    asymmetric_now = set_of (λ j. is_suspect kind stages j && is_asymmetric_with kind (heard_stages (only_of set seen) stages) j)

    benign_then : ℕ
    benign_then = set_of (λ j. is_suspect kind stages j && is_benign_with kind (heard_stages seen stages) j)

    symmetric_then : ℕ
    symmetric_then = set_of (λ j. is_suspect kind stages j && not (is_benign_with kind (heard_stages seen stages) j) && not (is_asymmetric_with kind (heard_stages seen stages) j))

pub verdict_same : (set : ℕ) (seen : ℕ → JudgedStage → Option (ℕ → See)) (stages : List JudgedStage) → AllIn set stages → verdict_with (only_of set seen) stages ≡ verdict_with seen stages
unfolding verdict_with
verdict_same set seen stages all =
    ap (λ b. cause_of b (classes_with Rmu (only_of set seen) stages)) (classes-same set seen stages all Biu)
    ∙ ap (cause_of (classes_with Biu seen stages)) (classes-same set seen stages all Rmu)
