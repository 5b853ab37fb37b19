-- The verdict does not depend on what was seen of nodes that are good to the end of the frame.
use Rattle.std.proofs.{Common.{◌≡◌, ℕ, ◌≤◌, ◌&&◌, ◌||◌, not, nat_lt, Bool, true, false, List, [], ◌∷◌, map, get_or, Option, Some, None, refl, ◌∙◌, ap, arith}, lemmas.Bool.Decides.nat_tests}
use Rattle.std.specs.List.{list_any}
use Rattle.rb_base.specs.{Counting.numbers, Nodes.{Side, has, other}, Nodes.Side.{Biu, Rmu}, Sizes.sync_slot_of, declared.values.Place.Place, declared.values.See.See, declared.values.See.TheVariants.Nothing}
use Rattle.rb_rules.specs.{Book.{Each, Row, judged_of}, Goodness.{Scenario, is_before, is_good, onsets_of}, Judging.{JudgedStage, are_alike, is_something, is_suspect, verdict_of, was_taken, was_unlike}, Slots.count_of}
use Rattle.rb_rules.proofs.Slots.{other_twice}
use Rattle.rb_judge.proofs.SameVerdicts.{AgreeOnSuspects, same_verdict}
use Rattle.rb_world_book.specs.Holding.{without_lasting}
use Rattle.rb_world_book.proofs.Rows.{good-is}

any-same : (p q : ℕ → Bool) (xs : List ℕ) → ((i : ℕ) → p i ≡ q i) → list_any p xs ≡ list_any q xs
any-same p q [] same = refl
any-same p q (x ∷ xs) same = ap (λ b. b || list_any p xs) (same x) ∙ ap (λ b. q x || b) (any-same p q xs same)

-- what was seen of a node that does not last is left as it was
seen-same : (sc : Scenario) (frame : ℕ) (kind : Side) (j : ℕ) (s : JudgedStage) → is_good sc kind j frame (sync_slot_of sc.sizes) ≡ false
    → (i : ℕ) → (without_lasting sc frame s).sight (other kind) i j ≡ s.sight (other kind) i j
seen-same sc frame kind j s e i =
    ap (λ b. elim b as (λ _. See) [ true ↦ Nothing | false ↦ s.sight (other kind) i j ]) (ap (λ k. is_good sc k j frame (sync_slot_of sc.sizes)) (other_twice kind) ∙ e)

taken-same : (sc : Scenario) (frame : ℕ) (kind : Side) (j : ℕ) (s : JudgedStage) → is_good sc kind j frame (sync_slot_of sc.sizes) ≡ false
    → was_taken kind j (without_lasting sc frame s) ≡ was_taken kind j s
taken-same sc frame kind j s e =
    any-same (λ i. has (s.good (other kind)) i && is_something ((without_lasting sc frame s).sight (other kind) i j)) (λ i. has (s.good (other kind)) i && is_something (s.sight (other kind) i j)) (numbers 16)
    (λ i. ap (λ v. has (s.good (other kind)) i && is_something v) (seen-same sc frame kind j s e i))

unlike-same : (sc : Scenario) (frame : ℕ) (kind : Side) (j : ℕ) (s : JudgedStage) → is_good sc kind j frame (sync_slot_of sc.sizes) ≡ false
    → was_unlike kind j (without_lasting sc frame s) ≡ was_unlike kind j s
unlike-same sc frame kind j s e =
    let good : ℕ = s.good (other kind) in
    let x : ℕ → See = λ i. (without_lasting sc frame s).sight (other kind) i j in
    let y : ℕ → See = λ i. s.sight (other kind) i j in
    let same : (i : ℕ) → x i ≡ y i = seen-same sc frame kind j s e in
    any-same (λ a. has good a && list_any (λ b. has good b && not (are_alike s.eps (x a) (x b))) (numbers 16))
    (λ a. has good a && list_any (λ b. has good b && not (are_alike s.eps (y a) (y b))) (numbers 16)) (numbers 16)
    (λ a. ap (λ v. has good a && v)
    (any-same (λ b. has good b && not (are_alike s.eps (x a) (x b))) (λ b. has good b && not (are_alike s.eps (y a) (y b))) (numbers 16)
    (λ b. ap (λ v. has good b && not (are_alike s.eps v (x b))) (same a) ∙ ap (λ v. has good b && not (are_alike s.eps (y a) v)) (same b))))

any-stage : (p : JudgedStage → Bool) (f : JudgedStage → JudgedStage) (xs : List JudgedStage) → ((s : JudgedStage) → p (f s) ≡ p s) → list_any p (map f xs) ≡ list_any p xs
any-stage p f [] same = refl
any-stage p f (x ∷ xs) same = ap (λ b. b || list_any p (map f xs)) (same x) ∙ ap (λ b. p x || b) (any-stage p f xs same)

-- a node that lasts is good at each place of the frame
lasts-good : (sc : Scenario) (kind : Side) (j : ℕ) (place : Place) → place.slot ≤ sync_slot_of sc.sizes → is_good sc kind j place.frame (sync_slot_of sc.sizes) ≡ true
    → is_good sc kind j place.frame place.slot ≡ true
lasts-good sc kind j place h e = by (nat_lt j (count_of kind sc.sizes)) (get_or (onsets_of kind sc) j None) e
  where
    by : (b : Bool) (o : Option (ℕ × ℕ)) → (b && is_before o place.frame (sync_slot_of sc.sizes)) ≡ true → (b && is_before o place.frame place.slot) ≡ true
    by false o e = absurd (cc)
    by true None e = refl
    by true (Some onset) e = grind (arith, nat_tests)

pub same-judged : (sc : Scenario) (place : Place) (rows : Each (Option Row)) (stages : List JudgedStage) → (kind : Side) → place.slot ≤ sync_slot_of sc.sizes
    → count_of kind sc.sizes ≤ 16
    → AgreeOnSuspects kind (map (without_lasting sc place.frame) (judged_of sc place rows ∷ stages)) (judged_of sc place rows ∷ stages)
same-judged sc place rows stages kind slot most =
    let thin : JudgedStage → JudgedStage = without_lasting sc place.frame in
    let all : List JudgedStage = judged_of sc place rows ∷ stages in
    let out : (j : ℕ) → is_suspect kind (map thin all) j ≡ true → is_good sc kind j place.frame (sync_slot_of sc.sizes) ≡ false =
    λ j e. by j (is_good sc kind j place.frame (sync_slot_of sc.sizes)) refl e in
    record {
      good = refl;
      trusted = refl;
      unlike = λ j h e. any-stage (was_unlike kind j) thin all (λ s. unlike-same sc place.frame kind j s (out j e));
      taken = λ j h e. any-stage (was_taken kind j) thin all (λ s. taken-same sc place.frame kind j s (out j e));
    }
  where
    not-good : (trusted good : Bool) → good ≡ true → (trusted && not good) ≡ true → false ≡ true
    not-good true true g e = e
    not-good true false g e = absurd (cc)
    not-good false good g e = absurd (cc)

    by : (j : ℕ) (b : Bool) → is_good sc kind j place.frame (sync_slot_of sc.sizes) ≡ b
        → is_suspect kind (map (without_lasting sc place.frame) (judged_of sc place rows ∷ stages)) j ≡ true → is_good sc kind j place.frame (sync_slot_of sc.sizes) ≡ false
    by j false e s = e
    by j true e s =
        absurd (let f : false ≡ true = not-good _ _ (good-is sc kind place.frame place.slot j most ∙ lasts-good sc kind j place slot e) s in cc)

pub verdict-is : (sc : Scenario) (place : Place) (rows : Each (Option Row)) (stages : List JudgedStage) → place.slot ≤ sync_slot_of sc.sizes → sc.sizes.bius ≤ 16 → sc.sizes.rmus ≤ 16
    → verdict_of (map (without_lasting sc place.frame) (judged_of sc place rows ∷ stages)) ≡ verdict_of (judged_of sc place rows ∷ stages)
verdict-is sc place rows stages slot bius rmus =
    same_verdict _ _ (same-judged sc place rows stages Biu slot bius) (same-judged sc place rows stages Rmu slot rmus)
