-- For the law that events are rounds: what waits is not settled, and a stage and a frame's start
-- that are settled give the records that they give.
use Rattle.std.proofs.{Common.{◌≡◌, ℕ, zero, suc, ◌+◌, ◌*◌, ◌≤◌, ◌==◌, ◌&&◌, nat_lt, Bool, true, false, List, [], ◌∷◌, ◌++◌, length, refl, ap, sym, ◌∙◌, subst, arith, Option, Some, None, slice_get, if◌then◌else◌}, lemmas.Bool.le-ltb, lemmas.List.append-nil}
use Rattle.rb_base.specs.{Nodes.Side, Sizes.sync_slot_of, declared.values.Place.Place}
use Rattle.rb_base.proofs.Plain.{true-false}
use Rattle.rb_rules.specs.{declared.cause.Cause.Cause, Book.{Begun, Book, Each, Record, Row, after_verdict, frame_records, judged_of, of_kind, with_frame, with_stage}, Book.Milestone.{Begin, Stage, End}, Book.Record.{Breach, Slot}, Goodness.Scenario, Judging.verdict_of, Ports.HandIn, Rounds.windows_in, WorldStep.{Site, Way, World, begun_for, book_with, comes_so, frame_in, is_complete, record_since, settle, settle_next}, WorldStep.Way.ByAnEvent}
use Rattle.rb_rules.proofs.Books.{record-same}
use Rattle.rb_laws_events.proofs.{Waiting.{AfterRecord, Waits, begun-there, good-told}, WorldBooks.{last-one, next-on, none-past, settle_rest}}

-- Settling.

pub next-eta : (sc : Scenario) (way : Way) (w : World) → settle_next sc way w ≡ record w { book = (settle_next sc way w).book }
next-eta sc way w = by (comes_so sc way w.book.upcoming && is_complete sc w.sites w.book.upcoming)
  where
    by : (b : Bool) → (elim b as (λ _. World) [ true ↦ record w { book = book_with sc w.sites w.book w.book.upcoming } | false ↦ w ])
        ≡ record w { book = (elim b as (λ _. World) [ true ↦ record w { book = book_with sc w.sites w.book w.book.upcoming } | false ↦ w ]).book }
    by true = refl
    by false = refl

-- a book that has ended stays
pub ended-still : (sc : Scenario) (way : Way) (w : World) → w.book.ended ≡ true → settle_next sc way w ≡ w
ended-still sc way w e = next-eta sc way w ∙ ap (λ b. record w { book = b }) ((next-on sc way w).over e)

-- what waits is not settled
pub waits-still : (sc : Scenario) {w : _} → Waits sc w → settle_next sc ByAnEvent w ≡ w
waits-still sc {w} waits = by w.book.ended refl
  where
    by : (b : Bool) → w.book.ended ≡ b → settle_next sc ByAnEvent w ≡ w
    by true e = ended-still sc ByAnEvent w e
    by false e = ap (λ b. elim b as (λ _. World) [ true ↦ record w { book = book_with sc w.sites w.book w.book.upcoming } | false ↦ w ]) (waits e)

pub settle-still : (sc : Scenario) (way : Way) (n : ℕ) {w : _} → settle_next sc way w ≡ w → settle sc way n w ≡ record w { turn = None }
settle-still sc way zero still = refl
settle-still sc way (suc n) {w} still =
    ap (λ next. settle_rest sc way n next (record_since w next)) still ∙ ap (settle_rest sc way n w) (record-same w) ∙ settle-still sc way n still

pub rest-still : (sc : Scenario) (way : Way) (n : ℕ) {w : _} (o : Option Record) → settle_next sc way w ≡ w → settle_rest sc way n w o ≡ record w { turn = o }
rest-still sc way n None still = settle-still sc way n still
rest-still sc way n (Some r) still = refl

-- a world in which what comes next waits, and while a frame's record is the turn all nodes are near
-- its start
pub record Settled (sc : Scenario) (at : Side → ℕ → ℕ) (w : World) : Type 0 where
  pub waits : Waits sc w
  pub turn : (frame : ℕ) → frame_in w.turn ≡ Some frame → AfterRecord sc at w frame

pub none-turn : {P : Type 0} {frame : ℕ} → None ≡ Some frame → P
none-turn e = absurd (cc)

pub still-settled : {sc : _} (at : Side → ℕ → ℕ) (w : World) → Waits sc w → Settled sc at (record w { turn = None })
still-settled at w waits = record { waits = waits; turn = λ frame e. none-turn e }

-- The books.

pub stage-silent : (sc : Scenario) (place : Place) (rows : Each (Option Row)) (b : Book) → frame_in (slice_get (with_stage sc place rows b).given (length b.given)) ≡ None
unfolding with_stage
stage-silent sc place rows b = by b.ended
  where
    slot : (c : Bool) → frame_in (slice_get (b.given ++ (if c then Slot place.frame place.slot b.lines ∷ [] else [])) (length b.given)) ≡ None
    slot true = ap frame_in (last-one b.given (Slot place.frame place.slot b.lines) refl)
    slot false = ap frame_in (none-past b.given (append-nil b.given))

    judged : (v : Option Cause) → frame_in (slice_get (after_verdict sc.sizes place rows (judged_of sc place rows ∷ b.stages) b v).given (length b.given)) ≡ None
    judged None = slot ((place.stage == 3) && nat_lt place.slot (sync_slot_of sc.sizes))
    judged (Some cause) = ap frame_in (last-one b.given (Breach place cause) refl)

    by : (e : Bool) → frame_in (slice_get (elim e as (λ _. Book) [
      | true ↦ b
      | false ↦ after_verdict sc.sizes place rows (judged_of sc place rows ∷ b.stages) b (verdict_of (judged_of sc place rows ∷ b.stages))
    ]).given (length b.given)) ≡ None
    by true = ap frame_in (none-past b.given refl)
    by false = judged (verdict_of (judged_of sc place rows ∷ b.stages))

-- the last stage of the sync slot gives no record, unless it is a breach
pub sync-silent : (sc : Scenario) (place : Place) (rows : Each (Option Row)) (b : Book) → sync_slot_of sc.sizes ≤ place.slot → (with_stage sc place rows b).ended ≡ false
    → slice_get (with_stage sc place rows b).given (length b.given) ≡ None
unfolding with_stage
sync-silent sc place rows b late = by b.ended refl
  where
    and-none : (a : Bool) → (a && false) ≡ false
    and-none true = refl
    and-none false = refl

    judged : (v : Option Cause) → (after_verdict sc.sizes place rows (judged_of sc place rows ∷ b.stages) b v).ended ≡ false
        → slice_get (after_verdict sc.sizes place rows (judged_of sc place rows ∷ b.stages) b v).given (length b.given) ≡ None
    judged None e =
        none-past b.given
        (ap (λ t. b.given ++ (if (place.stage == 3) && t then Slot place.frame place.slot b.lines ∷ [] else [])) (le-ltb place.slot (sync_slot_of sc.sizes) late)
        ∙ ap (λ t. b.given ++ (if t then Slot place.frame place.slot b.lines ∷ [] else [])) (and-none (place.stage == 3)) ∙ append-nil b.given)
    judged (Some cause) e = true-false e

    by : (e : Bool) → b.ended ≡ e → (elim e as (λ _. Book) [
      | true ↦ b
      | false ↦ after_verdict sc.sizes place rows (judged_of sc place rows ∷ b.stages) b (verdict_of (judged_of sc place rows ∷ b.stages))
    ]).ended ≡ false → slice_get (elim e as (λ _. Book) [
      | true ↦ b
      | false ↦ after_verdict sc.sizes place rows (judged_of sc place rows ∷ b.stages) b (verdict_of (judged_of sc place rows ∷ b.stages))
    ]).given (length b.given) ≡ None
    by true f e = none-past b.given refl
    by false f e = judged (verdict_of (judged_of sc place rows ∷ b.stages)) e

-- the start of a frame gives its record, and goes on to the first stage or the end
pub record FrameGiven (sc : Scenario) (frame : ℕ) (begun : List Begun) (b x : Book) : Type 0 where
  pub next : x.upcoming ≡ (if frame == sc.frames then End else Stage (record { frame = frame; slot = 0; stage = 1 }))
  pub going : x.ended ≡ false
  pub given : x.given ≡ b.given ++ frame_records frame begun

pub frame-given : (sc : Scenario) (frame : ℕ) (begun : List Begun) (b : Book) → b.ended ≡ false → FrameGiven sc frame begun b (with_frame sc frame begun b)
unfolding with_frame
frame-given sc frame begun b going = subst (λ e. FrameGiven sc frame begun b (elim e as (λ _. Book) [
  | true ↦ b
  | false ↦ record {
    upcoming = if frame == sc.frames then End else Stage (record { frame = frame; slot = 0; stage = 1 });
    stages = [];
    lines = [];
    given = b.given ++ frame_records frame begun;
    ended = false;
  }
])) (sym going) (record { next = refl; going = refl; given = refl })

pub frame-record : (frame : ℕ) {its : ℕ} (begun : List Begun) (xs : List Record) → frame_in (slice_get (xs ++ frame_records frame begun) (length xs)) ≡ Some its → its ≡ frame
frame-record frame [] xs e = none-turn (sym (ap frame_in (none-past xs (append-nil xs))) ∙ e)
frame-record frame {its} (b ∷ bs) xs e = one (sym (ap frame_in (last-one xs _ refl)) ∙ e)
  where
    one : Some frame ≡ Some its → its ≡ frame
    one e = cc

-- while the record of a frame is the turn, `AfterRecord` holds for that frame
pub after-frame : (sc : Scenario) (hands : List HandIn) (at : Side → ℕ → ℕ) (w : World) (frame : ℕ) {its : ℕ} (begun : List Begun) (b : Book) → b.ended ≡ false → w.book ≡ with_frame sc frame begun b
    → is_complete sc w.sites (Begin frame) ≡ true
    → ((me : Side) (i : ℕ) (s : Site) → slice_get (of_kind me w.sites) i ≡ Some s → at me i ≤ frame * (windows_in sc.sizes + 1) + 1)
    → frame_in (slice_get w.book.given (length b.given)) ≡ Some its → AfterRecord sc at w its
after-frame sc hands at w frame {its} begun b going is complete near record_is =
    let x : FrameGiven sc frame begun b w.book = subst (FrameGiven sc frame begun b) (sym is) (frame-given sc frame begun b going) in
    let same : its ≡ frame = frame-record frame begun b.given (sym (ap (λ given. frame_in (slice_get given (length b.given))) x.given) ∙ record_is) in
    subst (AfterRecord sc at w) (sym same) (record {
      begun = λ me i s there good.
          let one = begun-there frame s.begun (good-told sc frame 0 (λ s. begun_for frame s.begun) w.sites complete me i there good) in
          (one.0, (one.1.0, omega (arith, one.1.1)));
      near = near;
      going = x.going;
      next = x.next;
    })
