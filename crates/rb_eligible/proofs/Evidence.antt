-- A loop over the sources that writes down what is taken of each, and who did wrong.
use Rattle.std.proofs.{Common.{◌≡◌, ℕ, ◌+◌, ◌<◌, ◌≤◌, Bool, true, false, not, ◌&&◌, ◌||◌, if◌then◌else◌, Option, Some, None, List, [], ◌∷◌, ◌++◌, length, take, set, get_or, refl, sym, ◌∙◌, ap, arith, length-append}, lemmas.List.{take_all, take_more_set}, lemmas.List.Elements.filter_map-append, lemmas.List.FromFn.fill_by_all}
use Rattle.rb_base.specs.Nodes.{has, set_of}
use Rattle.rb_base.proofs.Sets.{has-is, same_set_of}
use Rattle.rb_rules.specs.{ExactStage.{each_node, present}, declared.sense.Sense.Sense, Sense.{is_one, is_silent}, Standing.{Standing, does_wrong, has_evidence, is_eligible, with_evidence}}

-- one more source adds at most one value
pub few_more : {X : Type 0} (v : Option X) (values after : List X) (i : ℕ) → length values ≤ i → after ≡ values ++ present (v ∷ []) → length after ≤ i + 1
few_more None values after i few more = let n : length after ≡ length values + 0 = ap length more ∙ length-append values [] in omega arith
few_more (Some x) values after i few more = let n : length after ≡ length values + 1 = ap length more ∙ length-append values (x ∷ []) in omega arith

-- the value of source `i` comes after those of the sources before it
pub present_more : {X : Type 0} (taken : List (Option X)) (i : ℕ) (v : Option X) (values after : List X) → i < length taken
    → values ≡ present (take i taken) → after ≡ values ++ present (v ∷ []) → after ≡ present (take (i + 1) (set taken i v))
present_more taken i v values after inside held more =
    more ∙ ap (λ vs. vs ++ present (v ∷ [])) held ∙ sym (filter_map-append (λ v. v) (take i taken) (v ∷ []))
    ∙ ap present (sym (take_more_set taken i v inside))

-- tests that agree accuse alike
pub same_accused : (p q : ℕ → Bool) (s : Standing) → ((j : ℕ) → j < 16 → p j ≡ q j) → with_evidence p s ≡ with_evidence q s
same_accused p q s same =
    let direct : set_of (λ j. has s.direct j || p j) ≡ set_of (λ j. has s.direct j || q j) = same_set_of _ _ (λ j h. ap (λ b. has s.direct j || b) (same j h)) in
    let fresh : set_of (λ j. has s.fresh j || p j) ≡ set_of (λ j. has s.fresh j || q j) = same_set_of _ _ (λ j h. ap (λ b. has s.fresh j || b) (same j h)) in
    rw (direct, fresh) refl

-- the nodes that the masks give are accused on evidence
evidence_at : (t e : Bool) (one came : Bool) (sense : Sense) → came ≡ not (is_silent sense) → (t ≡ true → e ≡ true → one ≡ is_one sense)
    → (t && (if e then not one else came)) ≡ (t && does_wrong e sense)
evidence_at false e one came sense came_is one_is = refl
evidence_at true false one came sense came_is one_is = came_is
evidence_at true true one came sense came_is one_is = ap not (one_is refl refl)

pub evidence_is : (s : Standing) (expected ones came evidence : ℕ) (sense : ℕ → Sense)
    → evidence ≡ set_of (λ j. has s.trusted j && (if has expected j then not (has ones j) else has came j))
    → ((j : ℕ) → j < 16 → has came j ≡ not (is_silent (sense j)))
    → ((j : ℕ) → j < 16 → has s.trusted j ≡ true → has expected j ≡ true → has ones j ≡ is_one (sense j))
    → with_evidence (has evidence) s ≡ with_evidence (has_evidence s (has expected) sense) s
evidence_is s expected ones came evidence sense is came_is one_is =
    same_accused (has evidence) (has_evidence s (has expected) sense) s (λ j h.
    has-is evidence j (λ j. has s.trusted j && (if has expected j then not (has ones j) else has came j)) is h
    ∙ evidence_at (has s.trusted j) (has expected j) (has ones j) (has came j) (sense j) (came_is j h) (one_is j h))

-- all is written down
pub taken_all : {X : Type 0} (f : ℕ → Option X) (taken : List (Option X)) (k : ℕ) → k ≡ 16 → length taken ≡ 16
    → ((j : ℕ) → j < k → get_or taken j None ≡ f j) → taken ≡ each_node f
taken_all f taken k last all so_far = fill_by_all f taken 16 None all (λ j h. so_far j (omega arith))

pub present_all : {X : Type 0} (taken : List (Option X)) (values : List X) (k : ℕ) → k ≡ 16 → length taken ≡ 16 → values ≡ present (take k taken) → values ≡ present taken
present_all taken values k last all held = held ∙ ap present (take_all k taken (omega arith))

-- for each trusted and expected node it is known whether it passes, even if it is accused directly
pub either_one : (s : Standing) (expected barred ones others all j : ℕ) (passes : ℕ → Bool) → j < 16 → has s.trusted j ≡ true → has expected j ≡ true
    → barred ≡ set_of (λ j. has expected j && has s.direct j) → all ≡ set_of (λ j. has ones j || has others j) → has ones j ≡ ((has expected j && is_eligible s j) && passes j)
    → others ≡ set_of (λ j. has barred j && passes j) → has all j ≡ passes j
either_one s expected barred ones others all j passes h trusted is_expected barred_is all_is ones_is others_are =
    let first : has ones j ≡ (not (has s.direct j) && passes j) = ones_is ∙ rw (is_expected, trusted) refl in
    let in_barred : has barred j ≡ has s.direct j = has-is barred j (λ j. has expected j && has s.direct j) barred_is h ∙ rw is_expected refl in
    let rest : has others j ≡ (has s.direct j && passes j) = has-is others j (λ j. has barred j && passes j) others_are h ∙ ap (λ b. b && passes j) in_barred in
    has-is all j (λ j. has ones j || has others j) all_is h ∙ rw (first, rest) (split (has s.direct j) (passes j))
  where
    split : (d p : Bool) → ((not d && p) || (d && p)) ≡ p
    split true p = refl
    split false p = elim p as (λ p. (p || false) ≡ p) [ true ↦ refl | false ↦ refl ]
