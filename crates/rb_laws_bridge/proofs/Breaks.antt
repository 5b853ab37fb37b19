-- What is handed in for later frames changes no breach of a frame.
use Rattle.std.proofs.{Common.{◌≡◌, ℕ, zero, suc, ◌+◌, ◌-◌, ◌*◌, ◌/◌, ◌%◌, ◌<◌, ◌≤◌, ◌==◌, ◌&&◌, nat_lt, Bool, true, false, inl, inr, Option, Some, None, List, [], ◌∷◌, ◌++◌, if◌then◌else◌, refl, sym, ◌∙◌, ap, arith}, Math.Nat.add-sub_of_le, lemmas.Bool.{cases_lt, eqb-true, ltb-true}}
use Rattle.std.specs.Option.{option_or}
use Rattle.rb_base.specs.{Sizes.sync_slot_of, declared.values.Place.Place}
use Rattle.rb_base.proofs.Plain.{option_or-joined, option_or-none}
use Rattle.rb_rules.specs.{declared.cause.Cause.Cause, Book.{Begun, Book, Each, Record, Row, after_verdict, frame_records, judged_of, slot_records, with_end, with_frame, with_stage}, Book.Milestone.{End, Stage}, Book.Record.{Slot, Ended}, Goodness.Scenario, Judging.{JudgedStage, verdict_of}, Ports.HandIn, Rounds.{Moment, begin_frame, moment, records_of, step, steps_of, windows_in}}
use Rattle.rb_rules.proofs.Books.{records-are, stepped}
use Rattle.rb_laws_events.proofs.MomentBooks.{number-of}
use Rattle.rb_laws_agreement.proofs.{JudgedWindows.rows_of, NextMoments.{next, book_exact}, SyncAgrees.{book_sync, book_tail}}
use Rattle.rb_rules_bridge.specs.{declared.bank.Bank.Bank, Texts.{Break, break_in, break_told}}
use Rattle.rb_laws_bridge.specs.Laws.{LaterHandInsTellNothing}
use Rattle.rb_laws_bridge.proofs.Later.{AreLater, are-later, deliveries-alike, moments-alike, past_frame}

-- Records.

abbrev pub broken_in : Bank → ℕ → Book → Option Break
broken_in bank frame b = break_in bank frame b.given

-- the second book tells no other breach of the frame
abbrev pub BreaksAlike : Bank → ℕ → Book → Book → Type 0
BreaksAlike bank frame a b = broken_in bank frame b ≡ broken_in bank frame a

pub break_in-append : (bank : Bank) (frame : ℕ) (xs ys : List Record) → break_in bank frame (xs ++ ys) ≡ option_or (break_in bank frame xs) (break_in bank frame ys)
break_in-append bank frame [] ys = refl
break_in-append bank frame (x ∷ xs) ys =
    ap (option_or (break_told bank frame x)) (break_in-append bank frame xs ys)
    ∙ option_or-joined (break_told bank frame x) (break_in bank frame xs) (break_in bank frame ys)

-- records without a breach of the frame
with-others : (bank : Bank) (frame : ℕ) (given more : List Record) → break_in bank frame more ≡ None → break_in bank frame (given ++ more) ≡ break_in bank frame given
with-others bank frame given more none =
    break_in-append bank frame given more ∙ ap (option_or (break_in bank frame given)) none ∙ option_or-none (break_in bank frame given)

-- A stage, a frame, the end.

stage-breaks : (sc : Scenario) (place : Place) (rows : Each (Option Row)) (b : Book) (bank : Bank) (frame : ℕ) → (place.frame == frame) ≡ false
    → BreaksAlike bank frame b (with_stage sc place rows b)
unfolding with_stage
stage-breaks sc place rows b bank frame other = by b.ended (verdict_of stages)
  where
    stages : List JudgedStage
    stages = judged_of sc place rows ∷ b.stages

    slots : (c : Bool) → break_in bank frame (if c then Slot place.frame place.slot b.lines ∷ [] else []) ≡ None
    slots true = refl
    slots false = refl

    by : (e : Bool) (v : Option Cause) → BreaksAlike bank frame b (elim e as (λ _. Book) [ true ↦ b | false ↦ after_verdict sc.sizes place rows stages b v ])
    by true v = refl
    by false None = with-others bank frame b.given (slot_records sc.sizes place b.lines) (slots ((place.stage == 3) && nat_lt place.slot (sync_slot_of sc.sizes)))
    by false (Some cause) =
        with-others bank frame b.given _ (ap (λ c. option_or (if c then Some (record { bank = bank; place = place; cause = cause }) else None) None) other)

frame-breaks : (sc : Scenario) (begins : ℕ) (begun : List Begun) (b : Book) (bank : Bank) (frame : ℕ) → BreaksAlike bank frame b (with_frame sc begins begun b)
unfolding with_frame
frame-breaks sc begins begun b bank frame = by b.ended
  where
    nodes : (xs : List Begun) → break_in bank frame (frame_records begins xs) ≡ None
    nodes [] = refl
    nodes (x ∷ xs) = refl

    by : (e : Bool) → BreaksAlike bank frame b (elim e as (λ _. Book) [
      | true ↦ b
      | false ↦ record {
        upcoming = if begins == sc.frames then End else Stage (record { frame = begins; slot = 0; stage = 1 });
        stages = [];
        lines = [];
        given = b.given ++ frame_records begins begun;
        ended = false;
      }
    ])
    by true = refl
    by false = with-others bank frame b.given (frame_records begins begun) (nodes begun)

end-breaks : (b : Book) (bank : Bank) (frame : ℕ) → BreaksAlike bank frame b (with_end b)
end-breaks b bank frame = by b.ended
  where
    by : (e : Bool) → BreaksAlike bank frame b (elim e as (λ _. Book) [ true ↦ b | false ↦ record b { given = b.given ++ Ended ∷ []; ended = true } ])
    by true = refl
    by false = with-others bank frame b.given (Ended ∷ []) refl

-- A step.

window-breaks : (sc : Scenario) (m : Moment) (bank : Bank) (frame : ℕ) → m.window < windows_in sc.sizes → (m.frame == frame) ≡ false
    → BreaksAlike bank frame m.book (next sc m).book
window-breaks sc m bank frame inside other =
    elim (cases_lt m.window (3 * sync_slot_of sc.sizes)) [
      | inl exact ↦
          let slot : ℕ = m.window / 3 in
          let q : ℕ = m.window % 3 in
          ap (broken_in bank frame) (book_exact sc m slot q (omega arith) (omega arith) (omega arith))
          ∙ stage-breaks sc (record { frame = m.frame; slot = slot; stage = q + 1 }) (rows_of sc m) m.book bank frame other
      | inr late ↦ elim (cases_lt m.window (3 * sync_slot_of sc.sizes + 3)) [
        | inl stage ↦
            let q : ℕ = m.window - 3 * sync_slot_of sc.sizes in
            ap (broken_in bank frame) (book_sync sc m q (omega arith) (omega arith))
            ∙ stage-breaks sc (record { frame = m.frame; slot = sync_slot_of sc.sizes; stage = q + 1 }) (rows_of sc m) m.book bank frame other
        | inr tail ↦ ap (broken_in bank frame) (book_tail sc m (omega arith))
      ]
    ]

stepped-breaks : (sc : Scenario) (hands : List HandIn) (m : Moment) (bank : Bank) (frame : ℕ) (over in_frame : Bool) → nat_lt m.window (windows_in sc.sizes) ≡ in_frame
    → (in_frame ≡ true → (m.frame == frame) ≡ false) → BreaksAlike bank frame m.book (stepped sc hands m over in_frame).book
unfolding begin_frame
stepped-breaks sc hands m bank frame true in_frame e other = end-breaks m.book bank frame
stepped-breaks sc hands m bank frame false true e other = window-breaks sc m bank frame (ltb-true m.window (windows_in sc.sizes) e) (other refl)
stepped-breaks sc hands m bank frame false false e other = frame-breaks sc (m.frame + 1) _ m.book bank frame

step-breaks : (sc : Scenario) (hands : List HandIn) (m : Moment) (bank : Bank) (frame : ℕ) → (m.window < windows_in sc.sizes → (m.frame == frame) ≡ false)
    → BreaksAlike bank frame m.book (step sc hands m).book
unfolding step
step-breaks sc hands m bank frame other =
    stepped-breaks sc hands m bank frame (m.frame == sc.frames) (nat_lt m.window (windows_in sc.sizes)) refl (λ e. other (ltb-true m.window (windows_in sc.sizes) e))

-- Once the frame has ended there is no breach of it.

break-still : (sc : Scenario) (hands : List HandIn) (bank : Bank) (frame p : ℕ) → past_frame sc frame ≤ p + 1
    → BreaksAlike bank frame (moment sc hands p).book (moment sc hands (suc p)).book
break-still sc hands bank frame p past =
    step-breaks sc hands (moment sc hands p) bank frame (λ inside.
    let size : ℕ = windows_in sc.sizes + 1 in
    let number = number-of sc hands p in
    let next : past_frame sc frame ≡ frame * size + size = one-more frame size in
    not-here ((moment sc hands p).frame == frame) (λ e.
    let same : (moment sc hands p).frame * size ≡ frame * size = ap (λ f. f * size) (eqb-true (moment sc hands p).frame frame e) in
    omega (arith, number.0, same, next, past, inside)))
  where
    one-more : (a n : ℕ) → (a + 1) * n ≡ a * n + n
    one-more a n = omega arith

    not-here : (b : Bool) → (b ≡ true → ⊥) → b ≡ false
    not-here true h = absurd (h refl)
    not-here false h = refl

pub break-after : (sc : Scenario) (hands : List HandIn) (bank : Bank) (frame p k : ℕ) → past_frame sc frame ≤ p + 1
    → BreaksAlike bank frame (moment sc hands p).book (moment sc hands (p + k)).book
break-after sc hands bank frame p zero past = ap (λ n. broken_in bank frame (moment sc hands n).book) (same p)
  where
    same : (p : ℕ) → p + 0 ≡ p
    same p = omega arith
break-after sc hands bank frame p (suc k) past =
    ap (λ n. broken_in bank frame (moment sc hands n).book) (same p k)
    ∙ break-still sc hands bank frame (p + k) (omega (arith, past)) ∙ break-after sc hands bank frame p k past
  where
    same : (p k : ℕ) → p + suc k ≡ suc (p + k)
    same p k = omega arith

pub breaks-alike : (sc : Scenario) (hands more : List HandIn) (frame : ℕ) → AreLater frame more → (bank : Bank)
    → break_in bank frame (records_of sc (hands ++ more)) ≡ break_in bank frame (records_of sc hands)
breaks-alike sc hands more frame late bank =
    ap (break_in bank frame) (records-are sc (hands ++ more))
    ∙ elim (cases_lt (steps_of sc) (past_frame sc frame)) [
      | inl early ↦ ap (λ m. broken_in bank frame m.book) (moments-alike sc more hands frame late (steps_of sc) early)
      | inr past ↦
          let last : ℕ = past_frame sc frame - 1 in
          let some : 1 ≤ past_frame sc frame = positive frame (windows_in sc.sizes) in
          let is : last + (steps_of sc - last) ≡ steps_of sc = add-sub_of_le (omega (arith, past)) in
          ap (λ n. broken_in bank frame (moment sc (hands ++ more) n).book) (sym is)
          ∙ break-after sc (hands ++ more) bank frame last (steps_of sc - last) (omega arith)
          ∙ ap (λ m. broken_in bank frame m.book) (moments-alike sc more hands frame late last (omega (arith, some)))
          ∙ sym (break-after sc hands bank frame last (steps_of sc - last) (omega arith))
          ∙ ap (λ n. broken_in bank frame (moment sc hands n).book) is
    ]
    ∙ ap (break_in bank frame) (sym (records-are sc hands))
  where
    positive : (a n : ℕ) → 1 ≤ (a + 1) * (n + 1)
    positive a n = omega arith

pub later-tell-nothing : LaterHandInsTellNothing
later-tell-nothing sc hands more frame all = record {
  deliveries = λ receiver. deliveries-alike sc hands more frame (are-later frame more all) receiver;
  breach = λ bank. breaks-alike sc hands more frame (are-later frame more all) bank;
}
