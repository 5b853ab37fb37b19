-- What is kept of what receivers saw of a source, one receiver after another.
use Rattle.std.proofs.{Common.{◌≡◌, ℕ, ◌<◌, ◌^◌, ◌&&◌, ◌==◌, nat_lt, not, Bool, true, false, inl, inr, refl, sym, ◌∙◌, ap, if◌then◌else◌}, lemmas.Bool.cases_lt}
use Rattle.rb_base.specs.{Nodes.{TakesFirst, has, set_of}, declared.values.See.See, declared.values.See.TheVariants.Nothing}
use Rattle.rb_base.proofs.{Plain.{and-false, and-same, eq_self}, Sets.{first_gone, has-is, has_above, has_none}}
use Rattle.rb_rules.specs.Judging.{are_alike, is_something}
use Rattle.rb_judge.specs.{Sights.{ShowsSource, some_node}, declared.seen.SourceSights.SourceSights}
use Rattle.rb_judge.proofs.{Sides.heard_is, Sights.same_sights, SomeNode.some_same}
use Rattle.rb_world_book.specs.Waiting.{some_good}
use Rattle.rb_world_book.proofs.Popped.{is_below, joined, left-before, same_or_not, stays}

-- what receiver `i` saw, if it is one of these and is not left
abbrev pub seen_so_far : ℕ → ℕ → (ℕ → See) → ℕ → See
seen_so_far among left sight i = if has among i && not (has left i) then sight i else Nothing

pub record KeptSoFar (eps among left : ℕ) (sight : ℕ → See) (kept : SourceSights) : Type 0 where
  pub within : (i : ℕ) → i < 16 → has left i ≡ true → has among i ≡ true
  pub shows : ShowsSource eps among (seen_so_far among left sight) kept

pub all_are_left : (eps among : ℕ) (sight : ℕ → See) (kept : SourceSights) → ShowsSource eps among (λ i. Nothing) kept → KeptSoFar eps among among sight kept
all_are_left eps among sight kept none = record {
  within = λ i h e. e;
  shows = same_sights eps among (λ i. Nothing) (seen_so_far among among sight) kept (λ i. by (has among i) (sight i)) none;
}
  where
    by : (b : Bool) (x : See) → (if b && not b then x else Nothing) ≡ Nothing
    by true x = refl
    by false x = refl

-- nothing was noted for a receiver that is left
pub not_yet : (eps among left i : ℕ) (sight : ℕ → See) (kept : SourceSights) → KeptSoFar eps among left sight kept → i < 16 → has left i ≡ true → has kept.by i ≡ false
not_yet eps among left i sight kept so_far h e =
    so_far.shows.by i h ∙ ap (λ b. is_something (if has among i && not b then sight i else Nothing)) e
    ∙ ap (λ b. is_something (if b then sight i else Nothing)) (and-false (has among i))

pub one_noted : (eps among before after r : ℕ) (x : See) (sight : ℕ → See) (kept more : SourceSights) → among < 2 ^ 16 → KeptSoFar eps among before sight kept
    → TakesFirst before after r → r < 16 → x ≡ sight r
    → ((f : ℕ → See) → ShowsSource eps among f kept → ShowsSource eps among (λ i. if i == r then x else f i) more) → KeptSoFar eps among after sight more
one_noted eps among before after r x sight kept more few so_far takes hr seen step = record {
  within = λ i h e. so_far.within i h (left-before before after r i h takes e);
  shows = same_sights eps among (λ i. if i == r then x else seen_so_far among before sight i) (seen_so_far among after sight) more at
      (step (seen_so_far among before sight) so_far.shows);
}
  where
    same : (i : ℕ) → (i == r) ≡ false → seen_so_far among after sight i ≡ seen_so_far among before sight i
    same i apart = elim (cases_lt i 16) [
      | inl below ↦ ap (λ b. if has among i && not b then sight i else Nothing) (stays before after r i below takes apart)
      | inr above ↦
          let out : has among i ≡ false = has_above among i few above in
          ap (λ b. if b && not (has after i) then sight i else Nothing) out ∙ sym (ap (λ b. if b && not (has before i) then sight i else Nothing) out)
    ]

    at : (i : ℕ) → seen_so_far among after sight i ≡ (if i == r then x else seen_so_far among before sight i)
    at i = elim (same_or_not i r) [
      | inl here ↦ ap (λ b. if b && not (has after i) then sight i else Nothing) (ap (has among) here ∙ so_far.within r hr takes.inside)
          ∙ ap (λ b. if true && not b then sight i else Nothing) (ap (has after) here ∙ first_gone before after r hr takes) ∙ ap sight here ∙ sym seen
          ∙ sym (ap (λ b. if b then x else seen_so_far among before sight i) (ap (λ n. n == r) here ∙ eq_self r))
      | inr apart ↦ same i apart ∙ sym (ap (λ b. if b then x else seen_so_far among before sight i) apart)
    ]

-- No receiver is left.

seen_all : (among left : ℕ) (sight : ℕ → See) (i : ℕ) → left ≡ 0 → has among i ≡ true → seen_so_far among left sight i ≡ sight i
seen_all among left sight i none e =
    ap (λ b. if b && not (has left i) then sight i else Nothing) e
    ∙ ap (λ b. if true && not b then sight i else Nothing) (ap (λ s. has s i) none ∙ has_none i)

-- some node of `among` passes if and only if some good one of the first `count` nodes does
among_good : (count good among : ℕ) (p q : ℕ → Bool) → among ≡ set_of (is_below count good) → ((i : ℕ) → has among i ≡ true → p i ≡ q i)
    → some_node (λ i. has among i && p i) ≡ some_good count good q
unfolding some_good
among_good count good among p q is same =
    some_same _ _ (λ i h. and-same (has among i) (p i) (q i) (same i) ∙ ap (λ b. b && q i) (has-is among i (is_below count good) is h) ∙ joined (nat_lt i count) (has good i) (q i))

pub heard_all : (eps count good among left : ℕ) (sight : ℕ → See) (kept : SourceSights) → among ≡ set_of (is_below count good) → KeptSoFar eps among left sight kept → left ≡ 0
    → kept.heard ≡ some_good count good (λ i. is_something (sight i))
heard_all eps count good among left sight kept is so_far none =
    heard_is eps among (seen_so_far among left sight) kept so_far.shows
    ∙ among_good count good among _ _ is (λ i e. ap is_something (seen_all among left sight i none e))

pub unlike_all : (eps count good among left : ℕ) (sight : ℕ → See) (kept : SourceSights) → among ≡ set_of (is_below count good) → KeptSoFar eps among left sight kept → left ≡ 0
    → kept.unlike ≡ some_good count good (λ a. some_good count good (λ b. not (are_alike eps (sight a) (sight b))))
unlike_all eps count good among left sight kept is so_far none =
    so_far.shows.unlike
    ∙ among_good count good among _ _ is (λ a ea. among_good count good among _ _ is (λ b eb.
    ap (λ x. not (are_alike eps x (seen_so_far among left sight b))) (seen_all among left sight a none ea)
    ∙ ap (λ y. not (are_alike eps (sight a) y)) (seen_all among left sight b none eb)))
