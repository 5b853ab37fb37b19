-- The sets that a standing holds, as the code makes them and as the rules have them.
use Rattle.std.proofs.Common.{◌≡◌, ℕ, ◌+◌, Bool, true, false, not, ◌&&◌, ◌||◌, ◌==◌, if◌then◌else◌, refl, ◌∙◌, ap, subst}
use Rattle.rb_base.specs.Nodes.{has, set_of}
use Rattle.rb_base.proofs.{Sets.{has-is, same_set_of}, SetLoops.{passing_below, passing_more, passing_same}}
use Rattle.rb_rules.specs.{Probation.{HasNewest, StandsForNewest, newest_with}, Standing.{Standing, with_evidence, with_mismatch}}

-- `s & t` has the nodes of `s` that pass, if `t` has all nodes that pass
pub common_of : (s t r : ℕ) (p : ℕ → Bool) → r ≡ set_of (λ i. has s i && has t i) → t ≡ set_of p → r ≡ set_of (λ i. has s i && p i)
common_of s t r p is those_are = is ∙ same_set_of _ _ (λ j h. ap (λ b. has s j && b) (has-is t j p those_are h))

-- `s & !t` has the nodes of `s` that do not pass, if `t` has all nodes that pass
pub without_those : (s t r : ℕ) (p : ℕ → Bool) → r ≡ set_of (λ i. has s i && not (has t i)) → t ≡ set_of p → r ≡ set_of (λ i. has s i && not (p i))
without_those s t r p is those_are = is ∙ same_set_of _ _ (λ j h. ap (λ b. has s j && not b) (has-is t j p those_are h))

-- number k joins if and only if it passes
pub passing_next : (p : ℕ → Bool) (s t k : ℕ) → s ≡ passing_below k p → t ≡ (if p k then set_of (λ i. has s i || (i == k)) else s) → t ≡ passing_below (k + 1) p
passing_next p s t k so_far is =
    let go : (b : Bool) → p k ≡ b → t ≡ (if b then set_of (λ i. has s i || (i == k)) else s) → t ≡ passing_below (k + 1) p =
    λ b. elim b as (λ b. p k ≡ b → t ≡ (if b then set_of (λ i. has s i || (i == k)) else s) → t ≡ passing_below (k + 1) p) [
      | true ↦ λ e h. h ∙ passing_more p s k k so_far refl e
      | false ↦ λ e h. h ∙ passing_same p s k so_far e
    ] in
    go (p k) refl is

-- the trusted nodes that are in one of two sets: the expected ones that sent no message, and the
-- others that sent something
pub wrong_is : (t e o c missed unasked wrong evidence : ℕ) → missed ≡ set_of (λ j. has e j && not (has o j)) → unasked ≡ set_of (λ j. has c j && not (has e j))
    → wrong ≡ set_of (λ j. has missed j || has unasked j) → evidence ≡ set_of (λ j. has t j && has wrong j)
    → evidence ≡ set_of (λ j. has t j && (if has e j then not (has o j) else has c j))
wrong_is t e o c missed unasked wrong evidence missed_are unasked_are either evidence_are =
    evidence_are ∙ same_set_of _ _ (λ j h.
    ap (λ b. has t j && b)
    (has-is wrong j (λ j. has missed j || has unasked j) either h
    ∙ ap (λ b. b || has unasked j) (has-is missed j (λ j. has e j && not (has o j)) missed_are h)
    ∙ ap (λ b. (has e j && not (has o j)) || b) (has-is unasked j (λ j. has c j && not (has e j)) unasked_are h)
    ∙ one_way (has e j) (has o j) (has c j)))
  where
    one_way : (e o c : Bool) → ((e && not o) || (c && not e)) ≡ (if e then not o else c)
    one_way true true c = elim c as (λ c. (false || (c && false)) ≡ false) [ true ↦ refl | false ↦ refl ]
    one_way true false c = refl
    one_way false o c = elim c as (λ c. (false || (c && true)) ≡ c) [ true ↦ refl | false ↦ refl ]

-- evidence against the nodes of a set, and mismatch accusations of them, by the test that makes the
-- set
pub evidence_of : (t : ℕ) (p : ℕ → Bool) (s : Standing) → t ≡ set_of p → with_evidence (has t) s ≡ with_evidence p s
evidence_of t p s is =
    let joined : (a : ℕ) → set_of (λ j. has a j || has t j) ≡ set_of (λ j. has a j || p j) =
    λ a. same_set_of _ _ (λ j h. ap (λ b. has a j || b) (has-is t j p is h)) in
    rw (joined s.direct, joined s.fresh) refl

pub mismatch_of : (t : ℕ) (p : ℕ → Bool) (s : Standing) → t ≡ set_of p → with_mismatch (has t) s ≡ with_mismatch p s
mismatch_of t p s is =
    ap (λ (m : ℕ). record s { mismatch = m }) (same_set_of _ _ (λ j h. ap (λ b. has s.mismatch j || b) (has-is t j p is h)))

pub newest_of : (t : ℕ) (p : ℕ → Bool) (s : Standing) (frame : ℕ) (newest : ℕ → ℕ) → t ≡ set_of p
    → HasNewest s frame (newest_with (has t) frame newest) → HasNewest s frame (newest_with p frame newest)
newest_of t p s frame newest is kept =
    λ j below accused. subst (StandsForNewest s frame j) (ap (λ b. if b then frame else newest j) (has-is t j p is below)) (kept j below accused)
