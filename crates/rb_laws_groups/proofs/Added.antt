-- What a step adds to the records of a run: nothing, a record that is not of a slot, or the record
-- of a slot that the step completes; and what it adds to the deliveries of a port.
use Rattle.std.specs.Prelude.{⊤}
use Rattle.std.proofs.{Common.{◌≡◌, ℕ, ◌+◌, ◌-◌, ◌*◌, ◌/◌, ◌%◌, ◌<◌, ◌==◌, ◌&&◌, nat_lt, Bool, true, false, ◌⊎◌, inl, inr, Option, Some, None, List, [], ◌∷◌, ◌++◌, if◌then◌else◌, refl, ◌∙◌, ap, arith}, lemmas.Bool.{and_from, and_right, cases_lt, eqb-true, ltb-true}, lemmas.Grind.flat_map-append, lemmas.List.append-nil}
use Rattle.rb_base.specs.{Sizes.sync_slot_of, declared.values.Delivery.Delivery, declared.values.Place.Place}
use Rattle.rb_rules.specs.{declared.cause.Cause.Cause, Book.{Begun, Book, Each, Record, Row, after_verdict, fresh_book, frame_records, judged_of, with_end, with_frame, with_stage}, Book.Milestone.{End, Stage}, Book.Record.{Frame, Slot, Ended, Breach}, Goodness.Scenario, Judging.{JudgedStage, verdict_of}, Ports.HandIn, Rounds.{Moment, begin_frame, moment, step, windows_in}}
use Rattle.rb_rules.proofs.Books.{stepped}
use Rattle.rb_laws_agreement.proofs.{JudgedWindows.rows_of, NextMoments.{next, book_exact}, SyncAgrees.{book_sync, book_tail}}
use Rattle.rb_group.specs.Portions.{port_deliveries, told_of}

-- the record is not that of a slot
abbrev pub IsPlain : Record → Type 0
IsPlain (Frame frame nodes ports) = ⊤
IsPlain (Slot frame slot lines) = ⊥
IsPlain Ended = ⊤
IsPlain (Breach place cause) = ⊤

-- the second list is the first with one record more, which is not that of a slot
pub record OneMore (xs ys : List Record) : Type 0 where
  pub added : Record
  pub is : ys ≡ xs ++ added ∷ []
  pub plain : IsPlain added

-- `ys` is `xs`, or `xs` with one more record that is not of a slot
abbrev pub AddsNoSlot : List Record → List Record → Type 0
AddsNoSlot xs ys = (ys ≡ xs) ⊎ OneMore xs ys

-- A stage.

-- a stage gives the record of its slot
record GivesSlot (sc : Scenario) (place : Place) (a b : Book) : Type 0 where
  pub third : (place.stage == 3) ≡ true
  pub below : nat_lt place.slot (sync_slot_of sc.sizes) ≡ true
  pub running : b.ended ≡ false
  pub given : b.given ≡ a.given ++ Slot place.frame place.slot a.lines ∷ []

stage-adds : (sc : Scenario) (place : Place) (rows : Each (Option Row)) (b : Book)
    → AddsNoSlot b.given (with_stage sc place rows b).given ⊎ GivesSlot sc place b (with_stage sc place rows b)
unfolding with_stage
stage-adds sc place rows b = by b.ended (verdict_of stages)
  where
    stages : List JudgedStage
    stages = judged_of sc place rows ∷ b.stages

    Adds : Book → Type 0
    Adds x = AddsNoSlot b.given x.given ⊎ GivesSlot sc place b x

    with_slot : Bool → List Record
    with_slot c = b.given ++ (if c then Slot place.frame place.slot b.lines ∷ [] else [])

    without : ((place.stage == 3) && nat_lt place.slot (sync_slot_of sc.sizes)) ≡ false → Adds (after_verdict sc.sizes place rows stages b None)
    without e = inl (inl (ap with_slot e ∙ append-nil b.given))

    judged : (t s : Bool) → (place.stage == 3) ≡ t → nat_lt place.slot (sync_slot_of sc.sizes) ≡ s → Adds (after_verdict sc.sizes place rows stages b None)
    judged true true p q = inr (record {
      third = p;
      below = q;
      running = refl;
      given = ap with_slot (and_from (place.stage == 3) (nat_lt place.slot (sync_slot_of sc.sizes)) p q);
    })
    judged true false p q = without (and_right (place.stage == 3) (nat_lt place.slot (sync_slot_of sc.sizes)) q)
    judged false s p q = without (ap (λ c. c && nat_lt place.slot (sync_slot_of sc.sizes)) p)

    by : (e : Bool) (v : Option Cause) → Adds (elim e as (λ _. Book) [ true ↦ b | false ↦ after_verdict sc.sizes place rows stages b v ])
    by true v = inl (inl refl)
    by false (Some cause) = inl (inr (record { added = Breach place cause; is = refl; plain = tt }))
    by false None = judged (place.stage == 3) (nat_lt place.slot (sync_slot_of sc.sizes)) refl refl

-- A window, a frame, the end.

-- with `b` as the book after it, the window of moment `m` is the last stage of a slot and gives its
-- record
pub record AddsSlot (sc : Scenario) (m : Moment) (b : Book) : Type 0 where
  pub slot : ℕ
  pub below : slot < sync_slot_of sc.sizes
  pub at : m.window ≡ 3 * slot + 2
  pub running : b.ended ≡ false
  pub given : b.given ≡ m.book.given ++ Slot m.frame slot m.book.lines ∷ []

window-adds : (sc : Scenario) (m : Moment) → m.window < windows_in sc.sizes
    → AddsNoSlot m.book.given (next sc m).book.given ⊎ AddsSlot sc m (next sc m).book
window-adds sc m inside =
    elim (cases_lt m.window (3 * sync_slot_of sc.sizes)) [
      | inl exact ↦
          let slot : ℕ = m.window / 3 in
          let q : ℕ = m.window % 3 in
          let is : (next sc m).book ≡ with_stage sc (record { frame = m.frame; slot = slot; stage = q + 1 }) (rows_of sc m) m.book =
          book_exact sc m slot q (omega arith) (omega arith) (omega arith) in
          elim (stage-adds sc (record { frame = m.frame; slot = slot; stage = q + 1 }) (rows_of sc m) m.book) [
            | inl none ↦ inl (as-is is none)
            | inr gives ↦
                let third : q + 1 ≡ 3 = eqb-true (q + 1) 3 gives.third in
                inr (record {
                  slot = slot;
                  below = ltb-true slot (sync_slot_of sc.sizes) gives.below;
                  at = omega arith;
                  running = ap (λ b. b.ended) is ∙ gives.running;
                  given = ap (λ b. b.given) is ∙ gives.given;
                })
          ]
      | inr late ↦ elim (cases_lt m.window (3 * sync_slot_of sc.sizes + 3)) [
        | inl stage ↦
            let q : ℕ = m.window - 3 * sync_slot_of sc.sizes in
            let is : (next sc m).book ≡ with_stage sc (record { frame = m.frame; slot = sync_slot_of sc.sizes; stage = q + 1 }) (rows_of sc m) m.book =
            book_sync sc m q (omega arith) (omega arith) in
            elim (stage-adds sc (record { frame = m.frame; slot = sync_slot_of sc.sizes; stage = q + 1 }) (rows_of sc m) m.book) [
              | inl none ↦ inl (as-is is none)
              | inr gives ↦ let less : sync_slot_of sc.sizes < sync_slot_of sc.sizes = ltb-true (sync_slot_of sc.sizes) (sync_slot_of sc.sizes) gives.below in absurd (omega arith)
            ]
        | inr tail ↦ inl (inl (ap (λ b. b.given) (book_tail sc m (omega arith))))
      ]
    ]
  where
    as-is : {b : Book} → (next sc m).book ≡ b → AddsNoSlot m.book.given b.given → AddsNoSlot m.book.given (next sc m).book.given
    as-is {b} is (inl same) = inl (ap (λ b. b.given) is ∙ same)
    as-is {b} is (inr one) = inr (record { added = one.added; is = ap (λ b. b.given) is ∙ one.is; plain = one.plain })

frame-adds : (sc : Scenario) (begins : ℕ) (begun : List Begun) (b : Book) → AddsNoSlot b.given (with_frame sc begins begun b).given
unfolding with_frame
frame-adds sc begins begun b = by b.ended
  where
    nodes : (xs : List Begun) → AddsNoSlot b.given (b.given ++ frame_records begins xs)
    nodes [] = inl (append-nil b.given)
    nodes (x ∷ xs) = inr (record { added = Frame begins _ _; is = refl; plain = tt })

    by : (e : Bool) → AddsNoSlot b.given (elim e as (λ _. Book) [
      | true ↦ b
      | false ↦ record {
        upcoming = if begins == sc.frames then End else Stage (record { frame = begins; slot = 0; stage = 1 });
        stages = [];
        lines = [];
        given = b.given ++ frame_records begins begun;
        ended = false;
      }
    ]).given
    by true = inl refl
    by false = nodes begun

end-adds : (b : Book) → AddsNoSlot b.given (with_end b).given
end-adds b = by b.ended
  where
    by : (e : Bool) → AddsNoSlot b.given (elim e as (λ _. Book) [ true ↦ b | false ↦ record b { given = b.given ++ Ended ∷ []; ended = true } ]).given
    by true = inl refl
    by false = inr (record { added = Ended; is = refl; plain = tt })

-- A step.

stepped-adds : (sc : Scenario) (hands : List HandIn) (m : Moment) (over in_frame : Bool) → nat_lt m.window (windows_in sc.sizes) ≡ in_frame
    → AddsNoSlot m.book.given (stepped sc hands m over in_frame).book.given ⊎ AddsSlot sc m (stepped sc hands m over in_frame).book
unfolding begin_frame
stepped-adds sc hands m true in_frame e = inl (end-adds m.book)
stepped-adds sc hands m false true e = window-adds sc m (ltb-true m.window (windows_in sc.sizes) e)
stepped-adds sc hands m false false e = inl (frame-adds sc (m.frame + 1) _ m.book)

pub step-adds : (sc : Scenario) (hands : List HandIn) (m : Moment)
    → AddsNoSlot m.book.given (step sc hands m).book.given ⊎ AddsSlot sc m (step sc hands m).book
unfolding step
step-adds sc hands m = stepped-adds sc hands m (m.frame == sc.frames) (nat_lt m.window (windows_in sc.sizes)) refl

-- the first frame gives no record of a slot
pub first-adds : (sc : Scenario) (hands : List HandIn) → AddsNoSlot [] (moment sc hands 0).book.given
unfolding begin_frame
first-adds sc hands = frame-adds sc 0 _ fresh_book

-- The deliveries of a port.

-- what a receiver delivered in a frame, as far as a book tells
abbrev pub told_in : ℕ → ℕ → Book → List Delivery
told_in frame receiver b = port_deliveries frame receiver b.given

-- the second book tells no more of the frame than the first
abbrev pub TellsNoMore : ℕ → Book → Book → Type 0
TellsNoMore frame a b = (receiver : ℕ) → told_in frame receiver b ≡ told_in frame receiver a

pub told-more : (frame receiver : ℕ) (given : List Record) (r : Record) → port_deliveries frame receiver (given ++ r ∷ []) ≡ port_deliveries frame receiver given ++ told_of frame receiver r
told-more frame receiver given r =
    flat_map-append (told_of frame receiver) given (r ∷ [])
    ∙ ap (λ l. port_deliveries frame receiver given ++ l) (append-nil (told_of frame receiver r))

plain-told : (frame receiver : ℕ) (r : Record) → IsPlain r → told_of frame receiver r ≡ []
plain-told frame receiver (Frame begins nodes ports) plain = refl
plain-told frame receiver (Slot f slot lines) plain = absurd plain
plain-told frame receiver Ended plain = refl
plain-told frame receiver (Breach place cause) plain = refl

no-more-told : (frame : ℕ) (a b : Book) → AddsNoSlot a.given b.given → TellsNoMore frame a b
no-more-told frame a b (inl same) receiver = ap (port_deliveries frame receiver) same
no-more-told frame a b (inr one) receiver =
    ap (port_deliveries frame receiver) one.is ∙ told-more frame receiver a.given one.added
    ∙ ap (λ l. told_in frame receiver a ++ l) (plain-told frame receiver one.added one.plain)
    ∙ append-nil (told_in frame receiver a)

pub step-tells : (sc : Scenario) (hands : List HandIn) (m : Moment) (frame : ℕ)
    → TellsNoMore frame m.book (step sc hands m).book ⊎ AddsSlot sc m (step sc hands m).book
step-tells sc hands m frame =
    elim (step-adds sc hands m) [
      | inl none ↦ inl (no-more-told frame m.book (step sc hands m).book none)
      | inr adds ↦ inr adds
    ]

-- the first frame tells no delivery
pub first-told : (sc : Scenario) (hands : List HandIn) (frame receiver : ℕ) → told_in frame receiver (moment sc hands 0).book ≡ []
first-told sc hands frame receiver = no-more-told frame fresh_book (moment sc hands 0).book (first-adds sc hands) receiver
