-- Records are only added to a book, and none after its last. So a run that stops there has all
-- records.
use Rattle.std.proofs.{Common.{◌≡◌, ℕ, zero, suc, ◌+◌, ◌-◌, ◌≤◌, ◌==◌, Bool, true, false, List, [], ◌∷◌, ◌++◌, length, append_assoc, refl, sym, ◌∙◌, ap, arith, Option, Some, None, nat_lt, if◌then◌else◌}, Math.Nat.add-sub_of_le, lemmas.List.append-nil, lemmas.Option.slice_get_past}
use Rattle.rb_base.specs.{Sizes.Sizes, declared.values.Place.Place}
use Rattle.rb_rules.specs.{declared.cause.Cause.Cause, declared.plan.Window.Window, Book.{Each, Record, Row, Begun, Book, judged_of, after_verdict, with_stage, frame_records, with_frame, with_end}, Book.Record.Ended, Book.Milestone.{Stage, End}, Goodness.Scenario, Judging.{JudgedStage, verdict_of}, Ports.HandIn, Rounds.{Moment, Result, results_of, book_after, after_window, begin_frame, next_frame, first_moment, step, moment, until_end, steps_of, windows_in, records_of}, WorldStep.{IsPrefix, World, record_since}}

pub prefix-refl : (xs : List Record) → IsPrefix xs xs
prefix-refl xs = ([], sym (append-nil xs))

pub prefix-trans : (xs ys zs : List Record) → IsPrefix xs ys → IsPrefix ys zs → IsPrefix xs zs
prefix-trans xs ys zs a b = (a.0 ++ b.0, b.1 ∙ ap (λ l. l ++ b.0) a.1 ∙ append_assoc xs a.0 b.0)

-- how a book may go on: records are added, and one that has ended stays
pub record GoesOn (a b : Book) : Type 0 where
  pub more : IsPrefix a.given b.given
  pub over : a.ended ≡ true → b ≡ a

pub on-refl : (a : Book) → GoesOn a a
on-refl a = record { more = prefix-refl a.given; over = λ h. refl }

pub on-trans : (a b c : Book) → GoesOn a b → GoesOn b c → GoesOn a c
on-trans a b c x y = record {
  more = prefix-trans a.given b.given c.given x.more y.more;
  over = λ h. let e : b ≡ a = x.over h in y.over (ap (λ z. z.ended) e ∙ h) ∙ e;
}

-- a book that has ended stays, another becomes x
abbrev guarded : Bool → Book → Book → Book
guarded ended b x = elim ended [ true ↦ b | false ↦ x ]

guarded-on : (b x : Book) (e : Bool) → b.ended ≡ e → IsPrefix b.given x.given → GoesOn b (guarded e b x)
guarded-on b x true is p = on-refl b
guarded-on b x false is p = record { more = p; over = λ h. cc }

judged-more : (sizes : Sizes) (place : Place) (rows : Each (Option Row)) (stages : List JudgedStage) (b : Book) (v : Option Cause)
    → IsPrefix b.given (after_verdict sizes place rows stages b v).given
judged-more sizes place rows stages b None = (_, refl)
judged-more sizes place rows stages b (Some cause) = (_, refl)

pub stage-on : (sc : Scenario) (place : Place) (rows : Each (Option Row)) (b : Book) → GoesOn b (with_stage sc place rows b)
unfolding with_stage
stage-on sc place rows b =
    let stages : List JudgedStage = judged_of sc place rows ∷ b.stages in
    guarded-on b (after_verdict sc.sizes place rows stages b (verdict_of stages)) b.ended refl
    (judged-more sc.sizes place rows stages b (verdict_of stages))

pub frame-on : (sc : Scenario) (frame : ℕ) (begun : List Begun) (b : Book) → GoesOn b (with_frame sc frame begun b)
unfolding with_frame
frame-on sc frame begun b =
    guarded-on b (record {
      upcoming = if frame == sc.frames then End else Stage (record { frame = frame; slot = 0; stage = 1 });
      stages = [];
      lines = [];
      given = b.given ++ frame_records frame begun;
      ended = false;
    }) b.ended refl (frame_records frame begun, refl)

pub end-on : (b : Book) → GoesOn b (with_end b)
end-on b = guarded-on b (record b { given = b.given ++ Ended ∷ []; ended = true }) b.ended refl (Ended ∷ [], refl)

after-on : (sc : Scenario) (frame : ℕ) (w : Option Window) (rows : Each (Option Row)) (b : Book) → GoesOn b (book_after sc frame w rows b)
after-on sc frame None rows b = on-refl b
after-on sc frame (Some w) rows b = stage-on sc _ rows b

window-on : (sc : Scenario) (m : Moment) (results : Each Result) → GoesOn m.book (after_window sc m results).book
unfolding after_window
window-on sc m results = after-on sc m.frame _ _ m.book

next-on : (sc : Scenario) (hands : List HandIn) (m : Moment) → GoesOn m.book (next_frame sc hands m).book
unfolding begin_frame
next-on sc hands m = frame-on sc (m.frame + 1) _ m.book

-- a moment after one step, by whether the run is over and whether the window is one of the frame
abbrev pub stepped : Scenario → List HandIn → Moment → Bool → Bool → Moment
stepped sc hands m over in_frame =
    let next : Moment = elim in_frame [ true ↦ after_window sc m (results_of sc m) | false ↦ next_frame sc hands m ] in
    record next { book = elim over [ true ↦ with_end m.book | false ↦ next.book ] }

stepped-on : (sc : Scenario) (hands : List HandIn) (m : Moment) (over in_frame : Bool) → GoesOn m.book (stepped sc hands m over in_frame).book
stepped-on sc hands m true in_frame = end-on m.book
stepped-on sc hands m false true = window-on sc m (results_of sc m)
stepped-on sc hands m false false = next-on sc hands m

pub step-on : (sc : Scenario) (hands : List HandIn) (m : Moment) → GoesOn m.book (step sc hands m).book
unfolding step
step-on sc hands m = stepped-on sc hands m (m.frame == sc.frames) (nat_lt m.window (windows_in sc.sizes))

-- the book of a later moment is that of an earlier one gone on
pub moments-on : (sc : Scenario) (hands : List HandIn) (n k : ℕ) → GoesOn (moment sc hands n).book (moment sc hands (n + k)).book
moments-on sc hands n zero = let e : n + 0 ≡ n = omega arith in rw e (on-refl (moment sc hands n).book)
moments-on sc hands n (suc k) =
    let e : n + suc k ≡ suc (n + k) = omega arith in
    rw e
    (on-trans (moment sc hands n).book (moment sc hands (n + k)).book (step sc hands (moment sc hands (n + k))).book (moments-on sc hands n k)
    (step-on sc hands (moment sc hands (n + k))))

-- the moment n steps after a moment
abbrev pub steps_from : Scenario → List HandIn → ℕ → Moment → Moment
steps_from sc hands zero m = m
steps_from sc hands (suc n) m = steps_from sc hands n (step sc hands m)

pub steps-are : (sc : Scenario) (hands : List HandIn) (n k : ℕ) → steps_from sc hands n (moment sc hands k) ≡ moment sc hands (n + k)
steps-are sc hands zero k = let e : 0 + k ≡ k = omega arith in rw e refl
steps-are sc hands (suc n) k =
    let e : suc n + k ≡ n + suc k = omega arith in
    steps-are sc hands n (suc k) ∙ ap (moment sc hands) (sym e)

steps-ended : (sc : Scenario) (hands : List HandIn) (n : ℕ) (m : Moment) → m.book.ended ≡ true → (steps_from sc hands n m).book ≡ m.book
steps-ended sc hands zero m h = refl
steps-ended sc hands (suc n) m h =
    let e : (step sc hands m).book ≡ m.book = (step-on sc hands m).over h in
    steps-ended sc hands n (step sc hands m) (ap (λ b. b.ended) e ∙ h) ∙ e

-- one step of the computed run, by whether the book has ended
abbrev stopped : Scenario → List HandIn → ℕ → Moment → Bool → Moment
stopped sc hands n m ended = elim ended [ true ↦ m | false ↦ until_end sc hands n (step sc hands m) ]

stopped-is : (sc : Scenario) (hands : List HandIn) (n : ℕ) (m : Moment) (e : Bool) → m.book.ended ≡ e
    → ((x : Moment) → (until_end sc hands n x).book ≡ (steps_from sc hands n x).book)
    → (stopped sc hands n m e).book ≡ (steps_from sc hands (suc n) m).book
stopped-is sc hands n m true h rest = sym (steps-ended sc hands (suc n) m h)
stopped-is sc hands n m false h rest = rest (step sc hands m)

until-is : (sc : Scenario) (hands : List HandIn) (n : ℕ) (m : Moment) → (until_end sc hands n m).book ≡ (steps_from sc hands n m).book
until-is sc hands zero m = refl
until-is sc hands (suc n) m = stopped-is sc hands n m m.book.ended refl (until-is sc hands n)

-- the records are those of the moment after all steps: that the computed run stops at its end
-- changes nothing
pub records-are : (sc : Scenario) (hands : List HandIn) → records_of sc hands ≡ (moment sc hands (steps_of sc)).book.given
records-are sc hands =
    let e : steps_of sc + 0 ≡ steps_of sc = omega arith in
    ap (λ b. b.given) (until-is sc hands (steps_of sc) (first_moment sc hands))
    ∙ ap (λ m. m.book.given) (steps-are sc hands (steps_of sc) 0)
    ∙ ap (λ n. (moment sc hands n).book.given) e

-- the book of a moment has the first of the records
pub given-are : (sc : Scenario) (hands : List HandIn) (n : ℕ) (b : Book) → b ≡ (moment sc hands n).book → n ≤ steps_of sc → IsPrefix b.given (records_of sc hands)
given-are sc hands n b is le =
    let k : ℕ = steps_of sc - n in
    let e : n + k ≡ steps_of sc = add-sub_of_le le in
    let p : IsPrefix (moment sc hands n).book.given (moment sc hands (n + k)).book.given = (moments-on sc hands n k).more in (
      p.0,
      records-are sc hands ∙ ap (λ m. (moment sc hands m).book.given) (sym e) ∙ p.1 ∙ ap (λ x. x.given ++ p.0) (sym is),
    )

-- the book of a moment that has ended has all records
pub all-given : (sc : Scenario) (hands : List HandIn) (n : ℕ) → (moment sc hands n).book.ended ≡ true → n ≤ steps_of sc → (moment sc hands n).book.given ≡ records_of sc hands
all-given sc hands n h le =
    let k : ℕ = steps_of sc - n in
    let e : n + k ≡ steps_of sc = add-sub_of_le le in
    let same : (moment sc hands (n + k)).book ≡ (moment sc hands n).book = (moments-on sc hands n k).over h in
    ap (λ b. b.given) (sym same) ∙ ap (λ m. (moment sc hands m).book.given) e ∙ sym (records-are sc hands)

pub begun-open : (sc : Scenario) (frame : ℕ) (begun : List Begun) (b : Book) → b.ended ≡ false → (with_frame sc frame begun b).ended ≡ false
unfolding with_frame
begun-open sc frame begun b h = rw (h, with_frame) refl

pub record-same : (w : World) → record_since w w ≡ None
record-same w = slice_get_past w.book.given (length w.book.given) (omega arith)
