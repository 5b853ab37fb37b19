-- The counters of a standing keep the frame of the newest evidence against each node that is
-- accused directly.
use Rattle.std.proofs.{Common.{◌≡◌, ℕ, ◌+◌, ◌-◌, ◌<◌, ◌≤◌, min, Bool, true, false, not, ◌&&◌, ◌||◌, nat_le, slice_index, if◌then◌else◌, refl, sym, ◌∙◌, ap, arith, zero-add}, lemmas.Bool.Decides.nat_tests, lemmas.List.FromFn.get_or-map-range_with_len}
use Rattle.rb_base.specs.Nodes.{has}
use Rattle.rb_base.proofs.{Plain.{or-false, or-true}, Sets.{has-set_of, has_none}}
use Rattle.rb_rules.specs.{Probation.{has_lapsed, newest_with, StandsForNewest, HasNewest, LapsesByFrames}, Standing.{Standing, calm_after, first_standing, lapses, next_calm, standing_at_end, with_evidence}}

-- at first nobody is accused
pub nobody_is_accused : (count : ℕ) (newest : ℕ → ℕ) → HasNewest (first_standing count) 0 newest
nobody_is_accused count newest j below accused = let none : false ≡ true = sym (has_none j) ∙ accused in cc

-- new evidence is of the frame in which it comes
pub evidence_is_newest : (evidence : ℕ → Bool) (s : Standing) (frame : ℕ) (newest : ℕ → ℕ) → HasNewest s frame newest
    → HasNewest (with_evidence evidence s) frame (newest_with evidence frame newest)
evidence_is_newest evidence s frame newest is j below accused =
    go (evidence j) refl (sym (has-set_of j (λ j. has s.direct j || evidence j) below) ∙ accused) (has-set_of j (λ j. has s.fresh j || evidence j) below)
  where
    go : (b : Bool) → evidence j ≡ b → (has s.direct j || b) ≡ true → has (with_evidence evidence s).fresh j ≡ (has s.fresh j || b)
        → StandsForNewest (with_evidence evidence s) frame j (if b then frame else newest j)
    go true e direct fresh = record {
      fresh = λ h. refl;
      earlier = λ h. let no : true ≡ false = sym (or-true (has s.fresh j)) ∙ sym fresh ∙ h in cc;
      calm = λ h. let no : true ≡ false = sym (or-true (has s.fresh j)) ∙ sym fresh ∙ h in cc;
    }
    go false e direct fresh =
        let was : StandsForNewest s frame j (newest j) = is j below (sym (or-false (has s.direct j)) ∙ direct) in
        let same : has s.fresh j ≡ has (with_evidence evidence s).fresh j = sym (fresh ∙ or-false (has s.fresh j)) in
        record { fresh = λ h. was.fresh (same ∙ h); earlier = λ h. was.earlier (same ∙ h); calm = λ h. was.calm (same ∙ h) }

-- the calm after a frame counts the frames since that of the newest evidence, and that is not a
-- later one
counted : (f : Bool) (frame e calm : ℕ) → (f ≡ true → e ≡ frame) → (f ≡ false → calm ≡ min (frame - (e + 1)) 4096) → (f ≡ false → e < frame)
    → (if f then 0 else min (calm + 1) 4096) ≡ min (frame + 1 - (e + 1)) 4096
counted true frame e calm now counts earlier = let is : e ≡ frame = now refl in omega (arith, is)
counted false frame e calm now counts earlier = let is : calm ≡ min (frame - (e + 1)) 4096 = counts refl in omega (arith, is, earlier refl)

not_later : (f : Bool) (frame e : ℕ) → (f ≡ true → e ≡ frame) → (f ≡ false → e < frame) → e < frame + 1
not_later true frame e now earlier = omega (arith, now refl)
not_later false frame e now earlier = omega (arith, earlier refl)

-- the count reaches the probation if and only if the accusation has lapsed by its frames
reaches : (q n frame e : ℕ) → q ≤ 4096 → e < frame + 1 → n ≡ min (frame + 1 - (e + 1)) 4096
    → (nat_le 1 q && nat_le q n) ≡ has_lapsed q e (frame + 1)
reaches q n frame e most past is = ap (λ b. nat_le 1 q && b) (rw is (grind (arith, nat_tests)))

-- an accusation with fresh evidence has no calm frame
early : (f p : Bool) (q calm : ℕ) → p ≡ nat_le 1 q → f ≡ true → (p && nat_le q (if f then 0 else min (calm + 1) 4096)) ≡ false
early true p q calm is h = rw is (grind (arith, nat_tests))
early false p q calm is h = let no : false ≡ true = h in cc

accused_stays : (d f x y : Bool) → (d ≡ true → f ≡ true → x ≡ false) → (d ≡ true → x ≡ y) → (d && not (d && not f && x)) ≡ (d && not y)
accused_stays true true x y fresh same = let no : x ≡ false = fresh refl refl in rw (sym (same refl), no) refl
accused_stays true false x y fresh same = ap not (same refl)
accused_stays false f x y fresh same = refl

both : (a b c d : Bool) → (a && b && c && d) ≡ (a && b && (c && d))
both true true c d = refl
both true false c d = refl
both false b c d = refl

-- an accusation that stays was there, and has not lapsed
stays_accused : (d l : Bool) → (d && not l) ≡ true → (d ≡ true) × (l ≡ false)
stays_accused true true h = let no : false ≡ true = h in cc
stays_accused true false h = (refl, refl)
stays_accused false l h = let no : false ≡ true = h in cc

-- the end of a frame lets those accusations lapse that have lapsed by the frames
pub lapses_by_frames : (q frame : ℕ) (newest : ℕ → ℕ) (s : Standing) → q ≤ 4096 → HasNewest s frame newest
    → LapsesByFrames q (frame + 1) newest s (standing_at_end q s)
lapses_by_frames q frame newest s most is = record {
  accused = λ j below.
      accused_is j below
      ∙ ap (λ l. has s.direct j && not l) (both (has s.direct j) (not (has s.fresh j)) (nat_le 1 q) (nat_le q (calm_after s j)))
      ∙ accused_stays (has s.direct j) (has s.fresh j) (nat_le 1 q && nat_le q (calm_after s j)) (has_lapsed q (newest j) (frame + 1))
      (λ accused fresh. early (has s.fresh j) (nat_le 1 q) q (slice_index s.calm j) refl fresh)
      (λ accused. reaches q (calm_after s j) frame (newest j) most (no_later j below accused) (count_is j below accused));
  newest_stays = λ j below accused.
      let was : (has s.direct j ≡ true) × (lapses q s j ≡ false) = stays_accused (has s.direct j) (lapses q s j) (sym (accused_is j below) ∙ accused) in
      record {
        fresh = λ h. let no : false ≡ true = sym (has_none j) ∙ h in cc;
        earlier = λ h. no_later j below was.0;
        calm = λ h. calm_is j below ∙ stays_calm (has s.direct j) (lapses q s j) (slice_index s.calm j) (calm_after s j) was.0 was.1 ∙ count_is j below was.0;
      };
}
  where
    accused_is : (j : ℕ) → j < 16 → has (standing_at_end q s).direct j ≡ (has s.direct j && not (lapses q s j))
    accused_is j below = has-set_of j (λ j. has s.direct j && not (lapses q s j)) below

    calm_is : (j : ℕ) → j < 16 → slice_index (standing_at_end q s).calm j ≡ next_calm q s j
    calm_is j below = get_or-map-range_with_len (next_calm q s) 0 16 j j 0 below (zero-add j)

    stays_calm : (d l : Bool) (before after : ℕ) → d ≡ true → l ≡ false → (if not d then before else (if l then 0 else after)) ≡ after
    stays_calm d l before after accused stands = rw (accused, stands) refl

    no_later : (j : ℕ) → j < 16 → has s.direct j ≡ true → newest j < frame + 1
    no_later j below accused = not_later (has s.fresh j) frame (newest j) (is j below accused).fresh (is j below accused).earlier

    count_is : (j : ℕ) → j < 16 → has s.direct j ≡ true → calm_after s j ≡ min (frame + 1 - (newest j + 1)) 4096
    count_is j below accused =
        counted (has s.fresh j) frame (newest j) (slice_index s.calm j) (is j below accused).fresh (is j below accused).calm (is j below accused).earlier

-- convictions at the end of the same frame do not matter to which accusations lapse
pub lapses_beside_convictions : (q frame trusted : ℕ) (newest : ℕ → ℕ) (s : Standing) → q ≤ 4096 → HasNewest s frame newest
    → LapsesByFrames q (frame + 1) newest s (standing_at_end q (record s { trusted = trusted }))
lapses_beside_convictions q frame trusted newest s most is =
    let kept : HasNewest (record s { trusted = trusted }) frame newest =
    λ j below accused. let of : StandsForNewest s frame j (newest j) = is j below accused in record { fresh = of.fresh; earlier = of.earlier; calm = of.calm } in
    let ends : LapsesByFrames q (frame + 1) newest (record s { trusted = trusted }) (standing_at_end q (record s { trusted = trusted })) =
    lapses_by_frames q frame newest (record s { trusted = trusted }) most kept in
    record { accused = ends.accused; newest_stays = ends.newest_stays }
