-- Once a run has ended, the last turn is its last record, and the last turn is always the record
-- that was given last.
use Rattle.std.proofs.{Common.{◌≡◌, ℕ, zero, suc, ◌==◌, ◌&&◌, ◌||◌, nat_lt, Bool, true, false, Option, Some, None, List, [], ◌∷◌, ◌++◌, flat_map, fold, length, slice_get, if◌then◌else◌, inl, inr, refl, sym, ap, ◌∙◌, subst}, lemmas.List.append-nil}
use Rattle.rb_base.specs.{Sizes.{Sizes, sync_slot_of}, declared.values.Place.Place}
use Rattle.rb_rules.specs.{declared.cause.Cause.Cause, Book.{Begun, Book, Each, Milestone, Record, Row, after_verdict, frame_records, judged_of, in_order, with_end, with_frame, with_stage}, Book.Milestone.{Begin, Stage, End}, Book.Record.{Slot, Ended, Breach}, Goodness.Scenario, Judging.{JudgedStage, verdict_of}, WorldStep.{Choice, Due, Site, Way, World, book_with, choose, comes_so, due_at, due_of, first_world, go_on, hand, happens, is_complete, least, needs_no_event, record_since, settle, settle_next, take, take_if_due, times_of}, WorldStep.Choice.{Take, GoOn, Hand}, WorldStep.Way.{ByAnEvent, ByItself}}
use Rattle.rb_laws_events.proofs.WorldBooks.{IsTurn, go-on-turn, hand-leaves, happens-book, last-one, none-past, settle_rest, take-turn}
use Rattle.rb_world.specs.{Nexts.is_last, Worlds.IsReached}
use Rattle.rb_world.proofs.GoingOn.{ended-stays}

not-both : {P : Type 0} (b : Bool) → b ≡ true → b ≡ false → P
not-both b t f = absurd (cc)

-- the book has ended if and only if the record after `given` is the last of a run
abbrev Ends : List Record → Book → Type 0
Ends given x = x.ended ≡ is_last (slice_get x.given (length given))

one-last : (given : List Record) (r : Record) → is_last (slice_get (given ++ r ∷ []) (length given)) ≡ is_last (Some r)
one-last given r = ap is_last (last-one given r refl)

none-last : (given : List Record) → is_last (slice_get (given ++ []) (length given)) ≡ false
none-last given = ap is_last (none-past given (append-nil given))

guarded-ends : (b x : Book) (e : Bool) → e ≡ false → Ends b.given x → Ends b.given (elim e as (λ _. Book) [ true ↦ b | false ↦ x ])
guarded-ends b x true running h = not-both true refl running
guarded-ends b x false running h = h

if-ends : (given : List Record) (r : Record) (b : Bool) → is_last (Some r) ≡ false → false ≡ is_last (slice_get (given ++ (if b then r ∷ [] else [])) (length given))
if-ends given r true e = sym (one-last given r ∙ e)
if-ends given r false e = sym (none-last given)

judged-ends : (sizes : Sizes) (place : Place) (rows : Each (Option Row)) (stages : List JudgedStage) (b : Book) (v : Option Cause)
    → Ends b.given (after_verdict sizes place rows stages b v)
judged-ends sizes place rows stages b None =
    if-ends b.given (Slot place.frame place.slot b.lines) ((place.stage == 3) && nat_lt place.slot (sync_slot_of sizes)) refl
judged-ends sizes place rows stages b (Some cause) = sym (one-last b.given (Breach place cause))

stage-ends : (sc : Scenario) (place : Place) (rows : Each (Option Row)) (b : Book) → b.ended ≡ false → Ends b.given (with_stage sc place rows b)
unfolding with_stage
stage-ends sc place rows b running =
    let stages : List JudgedStage = judged_of sc place rows ∷ b.stages in
    guarded-ends b (after_verdict sc.sizes place rows stages b (verdict_of stages)) b.ended running (judged-ends sc.sizes place rows stages b (verdict_of stages))

begun-ends : (given : List Record) (frame : ℕ) (begun : List Begun) → false ≡ is_last (slice_get (given ++ frame_records frame begun) (length given))
begun-ends given frame [] = sym (none-last given)
begun-ends given frame (b ∷ bs) = sym (one-last given _)

frame-ends : (sc : Scenario) (frame : ℕ) (begun : List Begun) (b : Book) → b.ended ≡ false → Ends b.given (with_frame sc frame begun b)
unfolding with_frame
frame-ends sc frame begun b running =
    guarded-ends b (record {
      upcoming = if frame == sc.frames then End else Stage (record { frame = frame; slot = 0; stage = 1 });
      stages = [];
      lines = [];
      given = b.given ++ frame_records frame begun;
      ended = false;
    }) b.ended running (begun-ends b.given frame begun)

end-ends : (b : Book) → b.ended ≡ false → Ends b.given (with_end b)
end-ends b running = guarded-ends b (record b { given = b.given ++ Ended ∷ []; ended = true }) b.ended running (sym (one-last b.given Ended))

book-ends : (sc : Scenario) (sites : Each Site) (b : Book) (m : Milestone) → b.ended ≡ false → Ends b.given (book_with sc sites b m)
book-ends sc sites b (Begin frame) running = frame-ends sc frame _ b running
book-ends sc sites b (Stage place) running = stage-ends sc place _ b running
book-ends sc sites b End running = end-ends b running

next-ends : (sc : Scenario) (way : Way) (w : World) → w.book.ended ≡ false → Ends w.book.given (settle_next sc way w).book
next-ends sc way w going = by (comes_so sc way w.book.upcoming && is_complete sc w.sites w.book.upcoming)
  where
    by : (b : Bool) → Ends w.book.given (elim b as (λ _. World) [ true ↦ record w { book = book_with sc w.sites w.book w.book.upcoming } | false ↦ w ]).book
    by true = book-ends sc w.sites w.book w.book.upcoming going
    by false = going ∙ sym (ap is_last (none-past w.book.given refl))

-- the run has ended if and only if the last turn is the last record of a run
abbrev pub EndsWell : World → Type 0
EndsWell w = w.book.ended ≡ is_last w.turn

settle-ends : (sc : Scenario) (way : Way) (n : ℕ) (w : World) → w.book.ended ≡ false → EndsWell (settle sc way n w)
settle-ends sc way zero w going = going
settle-ends sc way (suc n) w going =
    let next : World = settle_next sc way w in
    one next (record_since w next) (next-ends sc way w going) (settle-ends sc way n next)
  where
    one : (next : World) (o : Option Record) → next.book.ended ≡ is_last o → (next.book.ended ≡ false → EndsWell (settle sc way n next)) → EndsWell (settle_rest sc way n next o)
    one next None ends more = more ends
    one next (Some r) ends more = ends

go-on-ends : (sc : Scenario) (w : World) → EndsWell w → EndsWell (go_on sc w)
unfolding go_on
go-on-ends sc w well = by w.book.ended refl
  where
    by : (b : Bool) → w.book.ended ≡ b → EndsWell (elim b as (λ _. World) [ true ↦ w | false ↦ settle sc ByItself 2 w ])
    by true e = well
    by false e = settle-ends sc ByItself 2 w e

-- if something is due, the run has not ended
due-going : (sc : Scenario) (w : World) (i : ℕ) (d : Due) → slice_get (due_of sc w) i ≡ Some d → w.book.ended ≡ false
unfolding due_of
due-going sc w i d = by w.book.ended (needs_no_event sc w.book.upcoming)
  where
    by : (b c : Bool) → slice_get (elim (b || c) as (λ _. List Due) [ true ↦ [] | false ↦ due_at sc w (least (flat_map times_of (in_order w.sites))) ]) i ≡ Some d → b ≡ false
    by true c e = cc
    by false c e = refl

take-ends : (sc : Scenario) (w : World) (i : ℕ) → EndsWell w → EndsWell (take sc w i)
unfolding take
take-ends sc w i well = by (slice_get (due_of sc w) i) refl
  where
    by : (o : Option Due) → slice_get (due_of sc w) i ≡ o → EndsWell (take_if_due sc w o)
    by None e = well
    by (Some d) e = settle-ends sc ByAnEvent 2 (happens sc w d) (ap (λ b. b.ended) (happens-book sc w d) ∙ due-going sc w i d e)

hand-ends : (sc : Scenario) (w : World) (biu state : ℕ) → EndsWell w → EndsWell (hand sc w biu state)
hand-ends sc w biu state well = hand-leaves EndsWell sc w biu state (λ ports hands. well) well

choose-ends : (sc : Scenario) (w : World) (c : Choice) → EndsWell w → EndsWell (choose sc w c)
choose-ends sc w (Take i) well = take-ends sc w i well
choose-ends sc w GoOn well = go-on-ends sc w well
choose-ends sc w (Hand biu state) well = hand-ends sc w biu state well

all-end : (sc : Scenario) (w : World) (cs : List Choice) → EndsWell w → EndsWell (fold (choose sc) w cs)
all-end sc w [] well = well
all-end sc w (c ∷ cs) well = all-end sc (choose sc w c) cs (choose-ends sc w c well)

first-ends : (sc : Scenario) → EndsWell (first_world sc)
unfolding first_world
first-ends sc = refl

pub reached-ended : (sc : Scenario) (w : World) → IsReached sc w → EndsWell w
reached-ended sc w reached = subst EndsWell (sym reached.is) (all-end sc (first_world sc) reached.choices (first-ends sc))

pub reached-ends : (sc : Scenario) (w : World) → IsReached sc w → w.book.ended ≡ true → is_last w.turn ≡ true
reached-ends sc w reached e = sym (reached-ended sc w reached) ∙ e

-- What was given last.

-- the last turn, if it is a record, is the record that was given last
abbrev pub GaveLast : World → Type 0
GaveLast w = (r : Record) → w.turn ≡ Some r → (others : List Record) × (w.book.given ≡ others ++ r ∷ [])

some-same : (a b : Record) → Some a ≡ Some b → a ≡ b
some-same a b e = cc

turn-gave : (before : List Record) (w : World) → IsTurn before w → GaveLast w
turn-gave before w (inl none) = λ r some. absurd (let never : None ≡ Some r = sym none.1 ∙ some in cc)
turn-gave before w (inr one) = λ r some. (before, one.1.0 ∙ ap (λ x. before ++ x ∷ []) (some-same one.0 r (sym one.1.1 ∙ some)))

go-on-gave : (sc : Scenario) (w : World) → GaveLast w → GaveLast (go_on sc w)
go-on-gave sc w gave = by w.book.ended refl
  where
    by : (b : Bool) → w.book.ended ≡ b → GaveLast (go_on sc w)
    by true e = subst GaveLast (sym (ended-stays sc w e)) gave
    by false e = turn-gave w.book.given (go_on sc w) (go-on-turn sc w e)

take-gave : (sc : Scenario) (w : World) (i : ℕ) → GaveLast w → GaveLast (take sc w i)
unfolding take
take-gave sc w i gave = by (slice_get (due_of sc w) i)
  where
    by : (o : Option Due) → GaveLast (take_if_due sc w o)
    by None = gave
    by (Some d) = turn-gave w.book.given (take_if_due sc w (Some d)) (take-turn sc w d)

hand-gave : (sc : Scenario) (w : World) (biu state : ℕ) → GaveLast w → GaveLast (hand sc w biu state)
hand-gave sc w biu state gave = hand-leaves GaveLast sc w biu state (λ ports hands. gave) gave

choose-gave : (sc : Scenario) (w : World) (c : Choice) → GaveLast w → GaveLast (choose sc w c)
choose-gave sc w (Take i) gave = take-gave sc w i gave
choose-gave sc w GoOn gave = go-on-gave sc w gave
choose-gave sc w (Hand biu state) gave = hand-gave sc w biu state gave

all-gave : (sc : Scenario) (w : World) (cs : List Choice) → GaveLast w → GaveLast (fold (choose sc) w cs)
all-gave sc w [] gave = gave
all-gave sc w (c ∷ cs) gave = all-gave sc (choose sc w c) cs (choose-gave sc w c gave)

first-gave : (sc : Scenario) → GaveLast (first_world sc)
unfolding first_world
first-gave sc = λ r some. absurd (cc)

pub reached-gave : (sc : Scenario) (w : World) → IsReached sc w → GaveLast w
reached-gave sc w reached = subst GaveLast (sym reached.is) (all-gave sc (first_world sc) reached.choices (first-gave sc))
