-- Stages that agree on the suspects have one verdict: so what is seen of a source that is good to
-- the frame's end need not be told.
use Rattle.std.proofs.Common.{◌≡◌, ℕ, ◌<◌, Bool, true, false, not, ◌&&◌, List, refl, ◌∙◌, ap}
use Rattle.std.specs.List.{list_any}
use Rattle.rb_base.specs.{Nodes.{Side, has}, Nodes.Side.{Biu, Rmu}}
use Rattle.rb_base.proofs.{Plain.and-same, Sets.same_set_of}
use Rattle.rb_rules.specs.Judging.{JudgedStage, cause_of, classes_of, good_now, is_asymmetric, is_benign, is_suspect, trusted_now, verdict_of, was_taken, was_unlike}

-- the newest stages have the same sets of the kind, and all stages show the same of its suspects
pub record AgreeOnSuspects (kind : Side) (xs ys : List JudgedStage) : Type 0 where
  pub good : good_now kind xs ≡ good_now kind ys
  pub trusted : trusted_now kind xs ≡ trusted_now kind ys
  pub unlike : (j : ℕ) → j < 16 → is_suspect kind xs j ≡ true → list_any (was_unlike kind j) xs ≡ list_any (was_unlike kind j) ys
  pub taken : (j : ℕ) → j < 16 → is_suspect kind xs j ≡ true → list_any (was_taken kind j) xs ≡ list_any (was_taken kind j) ys

under_both : (s a b c d : Bool) → (s ≡ true → a ≡ b) → (s ≡ true → c ≡ d) → ((s && a) && c) ≡ ((s && b) && d)
under_both true a b c d first second = ap (λ v. v && c) (first refl) ∙ ap (λ v. b && v) (second refl)
under_both false a b c d first second = refl

pub same_classes : (kind : Side) (xs ys : List JudgedStage) → AgreeOnSuspects kind xs ys → classes_of kind xs ≡ classes_of kind ys
unfolding classes_of
same_classes kind xs ys agree =
    let suspect : (j : ℕ) → is_suspect kind xs j ≡ is_suspect kind ys j =
    λ j. ap (λ m. has m j && not (has (good_now kind xs) j)) agree.trusted ∙ ap (λ m. has (trusted_now kind ys) j && not (has m j)) agree.good in
    let good : (classes_of kind xs).good ≡ (classes_of kind ys).good =
    same_set_of _ _ (λ j h. ap (λ m. has m j && has (good_now kind xs) j) agree.trusted ∙ ap (λ m. has (trusted_now kind ys) j && has m j) agree.good) in
    let benign : (classes_of kind xs).benign ≡ (classes_of kind ys).benign =
    same_set_of _ _ (λ j h.
    and-same (is_suspect kind xs j) (is_benign kind xs j) (is_benign kind ys j) (λ s. ap not (agree.taken j h s))
    ∙ ap (λ s. s && is_benign kind ys j) (suspect j)) in
    let symmetric : (classes_of kind xs).symmetric ≡ (classes_of kind ys).symmetric =
    same_set_of _ _ (λ j h.
    under_both (is_suspect kind xs j) (not (is_benign kind xs j)) (not (is_benign kind ys j)) (not (is_asymmetric kind xs j)) (not (is_asymmetric kind ys j))
    (λ s. ap (λ v. not (not v)) (agree.taken j h s)) (λ s. ap not (agree.unlike j h s))
    ∙ ap (λ s. (s && not (is_benign kind ys j)) && not (is_asymmetric kind ys j)) (suspect j)) in
    let asymmetric : (classes_of kind xs).asymmetric ≡ (classes_of kind ys).asymmetric =
    same_set_of _ _ (λ j h.
    and-same (is_suspect kind xs j) (is_asymmetric kind xs j) (is_asymmetric kind ys j) (λ s. agree.unlike j h s)
    ∙ ap (λ s. s && is_asymmetric kind ys j) (suspect j)) in
    rw (good, benign, symmetric, asymmetric) refl

pub same_verdict : (xs ys : List JudgedStage) → AgreeOnSuspects Biu xs ys → AgreeOnSuspects Rmu xs ys → verdict_of xs ≡ verdict_of ys
unfolding verdict_of
same_verdict xs ys bius rmus =
    ap (λ c. cause_of c (classes_of Rmu xs)) (same_classes Biu xs ys bius) ∙ ap (cause_of (classes_of Biu ys)) (same_classes Rmu xs ys rmus)
