-- A standing that follows the evidence against each source goes on to do so, through a window and
-- over the end of a frame.
use Rattle.std.proofs.{Common.{◌≡◌, ℕ, ◌+◌, ◌<◌, ◌≤◌, ◌⊎◌, inl, inr, Bool, true, false, not, ◌&&◌, ◌||◌, if◌then◌else◌, refl, sym, ◌∙◌, arith}, lemmas.Bool.{and_parts, not-true, or_left, or_right}, lemmas.Bool.Decides.nat_tests}
use Rattle.rb_base.specs.Nodes.{has}
use Rattle.rb_base.proofs.{Plain.or-false, Sets.{has-set_of, has_none}}
use Rattle.rb_rules.specs.{Probation.{has_lapsed, newest_with, StandsForNewest, HasNewest, LapsesByFrames}, Standing.{Standing, first_standing, standing_at_end, with_evidence}}
use Rattle.rb_rules.proofs.Probation.{nobody_is_accused, evidence_is_newest, lapses_beside_convictions}
use Rattle.rb_laws_promise.specs.Evidence.{FollowsEvidence}

-- the newest evidence is of frame f, and it has not lapsed in this frame
pub record IsNewest (q frame : ℕ) (IsOf : ℕ → Type 0) (f : ℕ) : Type 0 where
  pub is_of : IsOf f
  pub newest : (e : ℕ) → IsOf e → e ≤ f
  pub lasts : has_lapsed q f frame ≡ false

-- the standing follows the evidence, and `newest` gives the frame of the newest against each source
pub record Keeps (q frame : ℕ) (s : Standing) (Against : ℕ → ℕ → Type 0) : Type 0 where
  pub newest : ℕ → ℕ
  pub says : HasNewest s frame newest
  pub is : (j : ℕ) → j < 16 → has s.direct j ≡ true → IsNewest q frame (Against j) (newest j)
  pub accused : (j f : ℕ) → j < 16 → Against j f → has_lapsed q f frame ≡ false → has s.direct j ≡ true
  pub fresh_is : (j : ℕ) → j < 16 → has s.fresh j ≡ true → Against j frame
  pub is_fresh : (j : ℕ) → j < 16 → Against j frame → has s.fresh j ≡ true
  pub trusted : (j : ℕ) → Against j frame → has s.trusted j ≡ true
  pub past : (j f : ℕ) → Against j f → f ≤ frame

pub follows : {q frame s : _} (Against : ℕ → ℕ → Type 0) → Keeps q frame s Against → FollowsEvidence q frame s Against
follows {q} {frame} Against k = record {
  direct = λ j below. (
    λ h. let is : IsNewest q frame (Against j) (k.newest j) = k.is j below h in record { f = k.newest j; is_of = is.is_of; lasts = is.lasts },
    λ some. k.accused j some.f below some.is_of some.lasts,
  );
  fresh = λ j below. (k.fresh_is j below, k.is_fresh j below);
  calm = λ j below h.
      let is : IsNewest q frame (Against j) (k.newest j) = k.is j below h in
      record { f = k.newest j; is_of = is.is_of; newest = is.newest; stands = k.says j below h };
  trusted = k.trusted;
}

-- Lapsing.

-- evidence of this frame has not lapsed, and what lasts in a frame lasted in the one before, and
-- with newer evidence too
lasts-now : (q frame : ℕ) → has_lapsed q frame frame ≡ false
lasts-now q frame = grind (arith, nat_tests)

lasted : (q f frame : ℕ) → has_lapsed q f (frame + 1) ≡ false → has_lapsed q f frame ≡ false
lasted q f frame h = grind (arith, nat_tests)

lasts-newer : (q f newer frame : ℕ) → f ≤ newer → has_lapsed q f frame ≡ false → has_lapsed q newer frame ≡ false
lasts-newer q f newer frame up h = grind (arith, nat_tests)

-- The first standing, and one that stays.

pub first-keeps : (q count : ℕ) (Against : ℕ → ℕ → Type 0) → ((j f : ℕ) → Against j f → ⊥) → Keeps q 0 (first_standing count) Against
first-keeps q count Against none = record {
  newest = λ j. 0;
  says = nobody_is_accused count (λ j. 0);
  is = λ j below h. let no : false ≡ true = sym (has_none j) ∙ h in cc;
  accused = λ j f below a. absurd (none j f a);
  fresh_is = λ j below h. let no : false ≡ true = sym (has_none j) ∙ h in cc;
  is_fresh = λ j below a. absurd (none j 0 a);
  trusted = λ j a. absurd (none j 0 a);
  past = λ j f a. absurd (none j f a);
}

pub same-keeps : {q frame s : _} (Before After : ℕ → ℕ → Type 0) → ((j f : ℕ) → Before j f → After j f) → ((j f : ℕ) → After j f → Before j f)
    → Keeps q frame s Before → Keeps q frame s After
same-keeps {q} {frame} Before After on back k = record {
  newest = k.newest;
  says = k.says;
  is = λ j below h.
      let is : IsNewest q frame (Before j) (k.newest j) = k.is j below h in
      record { is_of = on j (k.newest j) is.is_of; newest = λ e a. is.newest e (back j e a); lasts = is.lasts };
  accused = λ j f below a. k.accused j f below (back j f a);
  fresh_is = λ j below h. on j frame (k.fresh_is j below h);
  is_fresh = λ j below a. k.is_fresh j below (back j frame a);
  trusted = λ j a. k.trusted j (back j frame a);
  past = λ j f a. k.past j f (back j f a);
}

-- A window.

-- a window adds evidence of its frame against some sources, and no other
pub record Adds (evidence : ℕ → Bool) (frame : ℕ) (Before After : ℕ → ℕ → Type 0) : Type 0 where
  pub kept : (j f : ℕ) → Before j f → After j f
  pub added : (j : ℕ) → evidence j ≡ true → After j frame
  pub only : (j f : ℕ) → After j f → Before j f ⊎ ((f ≡ frame) × (evidence j ≡ true))

pub window-keeps : {q frame : ℕ} {s : Standing} {evidence : ℕ → Bool} (mismatch : ℕ) (Before After : ℕ → ℕ → Type 0)
    → ((j : ℕ) → evidence j ≡ true → has s.trusted j ≡ true) → Adds evidence frame Before After → Keeps q frame s Before
    → Keeps q frame (record (with_evidence evidence s) { mismatch = mismatch }) After
window-keeps {q} {frame} {s} {evidence} mismatch Before After against adds k = record {
  newest = newest_with evidence frame k.newest;
  says = λ j below h.
      let of : StandsForNewest (with_evidence evidence s) frame j (newest_with evidence frame k.newest j) =
      evidence_is_newest evidence s frame k.newest k.says j below h in
      record { fresh = of.fresh; earlier = of.earlier; calm = of.calm };
  is = λ j below h. newest-is j below (evidence j) refl (sym (direct-is j below) ∙ h);
  accused = λ j f below a lasts. direct-is j below ∙ accused-by j f below lasts (adds.only j f a);
  fresh_is = λ j below h. found-in j below (evidence j) refl (sym (fresh-is j below) ∙ h);
  is_fresh = λ j below a. fresh-is j below ∙ fresh-by j below (adds.only j frame a);
  trusted = λ j a. elim (adds.only j frame a) [ inl old ↦ k.trusted j old | inr new ↦ against j new.1 ];
  past = λ j f a. past-by j f (adds.only j f a);
}
  where
    direct-is : (j : ℕ) → j < 16 → has (with_evidence evidence s).direct j ≡ (has s.direct j || evidence j)
    direct-is j below = has-set_of j (λ j. has s.direct j || evidence j) below

    fresh-is : (j : ℕ) → j < 16 → has (with_evidence evidence s).fresh j ≡ (has s.fresh j || evidence j)
    fresh-is j below = has-set_of j (λ j. has s.fresh j || evidence j) below

    past-by : (j f : ℕ) → Before j f ⊎ ((f ≡ frame) × (evidence j ≡ true)) → f ≤ frame
    past-by j f (inl old) = k.past j f old
    past-by j f (inr new) = let e : f ≡ frame = new.0 in omega arith

    accused-by : (j f : ℕ) → j < 16 → has_lapsed q f frame ≡ false → Before j f ⊎ ((f ≡ frame) × (evidence j ≡ true)) → (has s.direct j || evidence j) ≡ true
    accused-by j f below lasts (inl old) = or_left (has s.direct j) (evidence j) (k.accused j f below old lasts)
    accused-by j f below lasts (inr new) = or_right (has s.direct j) (evidence j) new.1

    fresh-by : (j : ℕ) → j < 16 → Before j frame ⊎ ((frame ≡ frame) × (evidence j ≡ true)) → (has s.fresh j || evidence j) ≡ true
    fresh-by j below (inl old) = or_left (has s.fresh j) (evidence j) (k.is_fresh j below old)
    fresh-by j below (inr new) = or_right (has s.fresh j) (evidence j) new.1

    not-new : (j f : ℕ) → evidence j ≡ false → Before j f ⊎ ((f ≡ frame) × (evidence j ≡ true)) → Before j f
    not-new j f none (inl old) = old
    not-new j f none (inr new) = let no : false ≡ true = sym none ∙ new.1 in cc

    found-in : (j : ℕ) → j < 16 → (b : Bool) → evidence j ≡ b → (has s.fresh j || b) ≡ true → After j frame
    found-in j below true e h = adds.added j e
    found-in j below false e h = adds.kept j frame (k.fresh_is j below (sym (or-false (has s.fresh j)) ∙ h))

    newest-is : (j : ℕ) → j < 16 → (b : Bool) → evidence j ≡ b → (has s.direct j || b) ≡ true → IsNewest q frame (After j) (if b then frame else k.newest j)
    newest-is j below true e h = record { is_of = adds.added j e; newest = λ f a. past-by j f (adds.only j f a); lasts = lasts-now q frame }
    newest-is j below false e h =
        let is : IsNewest q frame (Before j) (k.newest j) = k.is j below (sym (or-false (has s.direct j)) ∙ h) in
        record { is_of = adds.kept j (k.newest j) is.is_of; newest = λ f a. is.newest f (not-new j f e (adds.only j f a)); lasts = is.lasts }

-- The end of a frame.

pub turn-keeps : {q frame : ℕ} (trusted : ℕ) {s : _} (Against : ℕ → ℕ → Type 0) → q ≤ 4096 → Keeps q frame s Against
    → Keeps q (frame + 1) (standing_at_end q (record s { trusted = trusted })) Against
turn-keeps {q} {frame} trusted {s} Against most k = record {
  newest = k.newest;
  says = ends.newest_stays;
  is = λ j below h.
      let both : (has s.direct j ≡ true) × (not (has_lapsed q (k.newest j) (frame + 1)) ≡ true) =
      and_parts (has s.direct j) (not (has_lapsed q (k.newest j) (frame + 1))) (sym (ends.accused j below) ∙ h) in
      let is : IsNewest q frame (Against j) (k.newest j) = k.is j below both.0 in
      record { is_of = is.is_of; newest = is.newest; lasts = not-true (has_lapsed q (k.newest j) (frame + 1)) both.1 };
  accused = λ j f below a lasts.
      let before : has s.direct j ≡ true = k.accused j f below a (lasted q f frame lasts) in
      let newer : has_lapsed q (k.newest j) (frame + 1) ≡ false = lasts-newer q f (k.newest j) (frame + 1) ((k.is j below before).newest f a) lasts in
      ends.accused j below ∙ stays (has s.direct j) (has_lapsed q (k.newest j) (frame + 1)) before newer;
  fresh_is = λ j below h. let no : false ≡ true = sym (has_none j) ∙ h in cc;
  is_fresh = λ j below a. absurd (later j a);
  trusted = λ j a. absurd (later j a);
  past = λ j f a. let old : f ≤ frame = k.past j f a in omega arith;
}
  where
    ends : LapsesByFrames q (frame + 1) k.newest s (standing_at_end q (record s { trusted = trusted }))
    ends = lapses_beside_convictions q frame trusted k.newest s most k.says

    later : (j : ℕ) → Against j (frame + 1) → ⊥
    later j a = let old : frame + 1 ≤ frame = k.past j (frame + 1) a in omega arith

    stays : (d l : Bool) → d ≡ true → l ≡ false → (d && not l) ≡ true
    stays d l accused lasts = rw (accused, lasts) refl
