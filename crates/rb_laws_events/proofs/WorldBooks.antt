-- The book of the world only grows, by at most one record a call, and that record is the turn.
use Rattle.std.proofs.{Common.{◌≡◌, ℕ, zero, suc, ◌+◌, ◌==◌, ◌&&◌, ◌⊎◌, inl, inr, nat_lt, Bool, true, false, List, [], ◌∷◌, ◌++◌, length, refl, subst, sym, ◌∙◌, ap, arith, Option, Some, None, slice_get, if◌then◌else◌}, lemmas.List.append-nil, lemmas.Option.slice_get_past}
use Rattle.rb_base.specs.{Nodes.Side, Nodes.Side.Biu, Sizes.{Sizes, sync_slot_of}, declared.values.Place.Place}
use Rattle.rb_base.proofs.Plain.{slice_get-back}
use Rattle.rb_rules.specs.{declared.cause.Cause.Cause, Book.{Each, Record, Row, Begun, Milestone, Book, judged_of, after_verdict, with_stage, frame_records, with_frame, with_end}, Book.Milestone.{Begin, Stage, End}, Book.Record.{Slot, Ended, Breach}, Goodness.{Scenario, is_good}, Judging.{JudgedStage, verdict_of}, Ports.{HandIn, PortState, with_state}, WorldStep.{Site, World, Pending, Due, Way, with_pending, with_act, happens, is_complete, book_with, comes_so, settle_next, record_since, settle, take_if_due, take, go_on, hand, frame_in, Choice, choose}, WorldStep.Choice.{Take, GoOn, Hand}, WorldStep.Pending.{Tick, Arrival}, WorldStep.Way.{ByAnEvent, ByItself}}
use Rattle.rb_rules.proofs.Books.{GoesOn, on-refl, on-trans, stage-on, frame-on, end-on}

-- ys is xs, or xs and one record more
abbrev pub AtMostOneMore : List Record → List Record → Type 0
AtMostOneMore xs ys = (ys ≡ xs) ⊎ ((r : Record) × (ys ≡ xs ++ r ∷ []))

none-more : (xs : List Record) → AtMostOneMore xs (xs ++ [])
none-more xs = inl (append-nil xs)

if-more : (xs : List Record) (r : Record) (b : Bool) → AtMostOneMore xs (xs ++ (if b then r ∷ [] else []))
if-more xs r true = inr (r, refl)
if-more xs r false = none-more xs

-- a book that has ended stays, and another one has at most one more record
guarded-more : (b x : Book) (e : Bool) → AtMostOneMore b.given x.given → AtMostOneMore b.given (elim e as (λ _. Book) [ true ↦ b | false ↦ x ]).given
guarded-more b x true h = inl refl
guarded-more b x false h = h

judged-more : (sizes : Sizes) (place : Place) (rows : Each (Option Row)) (stages : List JudgedStage) (b : Book) (v : Option Cause)
    → AtMostOneMore b.given (after_verdict sizes place rows stages b v).given
judged-more sizes place rows stages b None =
    if-more b.given (Slot place.frame place.slot b.lines) ((place.stage == 3) && nat_lt place.slot (sync_slot_of sizes))
judged-more sizes place rows stages b (Some cause) = inr (Breach place cause, refl)

pub stage-more : (sc : Scenario) (place : Place) (rows : Each (Option Row)) (b : Book) → AtMostOneMore b.given (with_stage sc place rows b).given
unfolding with_stage
stage-more sc place rows b =
    let stages : List JudgedStage = judged_of sc place rows ∷ b.stages in
    guarded-more b (after_verdict sc.sizes place rows stages b (verdict_of stages)) b.ended (judged-more sc.sizes place rows stages b (verdict_of stages))

begun-more : (xs : List Record) (frame : ℕ) (begun : List Begun) → AtMostOneMore xs (xs ++ frame_records frame begun)
begun-more xs frame [] = none-more xs
begun-more xs frame (b ∷ bs) = inr (_, refl)

pub frame-more : (sc : Scenario) (frame : ℕ) (begun : List Begun) (b : Book) → AtMostOneMore b.given (with_frame sc frame begun b).given
unfolding with_frame
frame-more sc frame begun b =
    guarded-more b (record {
      upcoming = if frame == sc.frames then End else Stage (record { frame = frame; slot = 0; stage = 1 });
      stages = [];
      lines = [];
      given = b.given ++ frame_records frame begun;
      ended = false;
    }) b.ended (begun-more b.given frame begun)

pub end-more : (b : Book) → AtMostOneMore b.given (with_end b).given
end-more b = guarded-more b (record b { given = b.given ++ Ended ∷ []; ended = true }) b.ended (inr (Ended, refl))

book-more : (sc : Scenario) (sites : Each Site) (b : Book) (m : Milestone) → AtMostOneMore b.given (book_with sc sites b m).given
book-more sc sites b (Begin frame) = frame-more sc frame _ b
book-more sc sites b (Stage place) = stage-more sc place _ b
book-more sc sites b End = end-more b

pub book-on : (sc : Scenario) (sites : Each Site) (b : Book) (m : Milestone) → GoesOn b (book_with sc sites b m)
book-on sc sites b (Begin frame) = frame-on sc frame _ b
book-on sc sites b (Stage place) = stage-on sc place _ b
book-on sc sites b End = end-on b

-- the world after a milestone, which is settled if `b` holds
abbrev after_test : Scenario → World → Bool → World
after_test sc w b = elim b [ true ↦ record w { book = book_with sc w.sites w.book w.book.upcoming } | false ↦ w ]

test-on : (sc : Scenario) (w : World) (b : Bool) → GoesOn w.book (after_test sc w b).book
test-on sc w true = book-on sc w.sites w.book w.book.upcoming
test-on sc w false = on-refl w.book

test-more : (sc : Scenario) (w : World) (b : Bool) → AtMostOneMore w.book.given (after_test sc w b).book.given
test-more sc w true = book-more sc w.sites w.book w.book.upcoming
test-more sc w false = inl refl

pub next-on : (sc : Scenario) (way : Way) (w : World) → GoesOn w.book (settle_next sc way w).book
next-on sc way w = test-on sc w (comes_so sc way w.book.upcoming && is_complete sc w.sites w.book.upcoming)

next-more : (sc : Scenario) (way : Way) (w : World) → AtMostOneMore w.book.given (settle_next sc way w).book.given
next-more sc way w = test-more sc w (comes_so sc way w.book.upcoming && is_complete sc w.sites w.book.upcoming)

-- the world after a milestone that gave `r`: without a record, the milestones after it are settled
-- too
abbrev pub settle_rest : Scenario → Way → ℕ → World → Option Record → World
settle_rest sc way others next r = elim r [ None ↦ settle sc way others next | Some r ↦ record next { turn = Some r } ]

rest-on : (sc : Scenario) (way : Way) (n : ℕ) (w next : World) → GoesOn w.book next.book → GoesOn next.book (settle sc way n next).book
    → (r : Option Record) → GoesOn w.book (settle_rest sc way n next r).book
rest-on sc way n w next one rest None = on-trans w.book next.book (settle sc way n next).book one rest
rest-on sc way n w next one rest (Some r) = one

pub settle-on : (sc : Scenario) (way : Way) (n : ℕ) (w : World) → GoesOn w.book (settle sc way n w).book
settle-on sc way zero w = on-refl w.book
settle-on sc way (suc n) w =
    rest-on sc way n w (settle_next sc way w) (next-on sc way w) (settle-on sc way n (settle_next sc way w))
    (record_since w (settle_next sc way w))

-- an event by itself leaves the book alone
pending-book : (sc : Scenario) (w : World) (me : Side) (i : ℕ) (s : Site) (p : Pending) → (with_pending sc w me i s p).book ≡ w.book
unfolding with_act
pending-book sc w me i s (Tick k) = refl
pending-book sc w me i s (Arrival place c) = refl

happens-by : (sc : Scenario) (w : World) (d : Due) (o : Option Site) → (elim o as (λ _. World) [ None ↦ w | Some s ↦ with_pending sc w d.side d.node s d.pending ]).book ≡ w.book
happens-by sc w d None = refl
happens-by sc w d (Some s) = pending-book sc w d.side d.node s d.pending

pub happens-book : (sc : Scenario) (w : World) (d : Due) → (happens sc w d).book ≡ w.book
unfolding happens
happens-book sc w d = happens-by sc w d _

-- the turn is the record that came after `before`, if one came
abbrev pub IsTurn : List Record → World → Type 0
IsTurn before w =
    ((w.book.given ≡ before) × (w.turn ≡ None)) ⊎ ((r : Record) × ((w.book.given ≡ before ++ r ∷ []) × (w.turn ≡ Some r)))

pub none-past : (xs : List Record) {ys : _} → ys ≡ xs → slice_get ys (length xs) ≡ None
none-past xs e = ap (λ l. slice_get l (length xs)) e ∙ slice_get_past xs (length xs) (omega arith)

pub last-one : (xs : List Record) {ys : _} (r : Record) → ys ≡ xs ++ r ∷ [] → slice_get ys (length xs) ≡ Some r
last-one xs r e =
    let z : length xs + 0 ≡ length xs = omega arith in
    ap (λ l. slice_get l (length xs)) e ∙ ap (slice_get (xs ++ r ∷ [])) (sym z) ∙ slice_get-back xs (r ∷ []) 0

-- what is settled gives one record at most, which is the turn
settle-turn : (sc : Scenario) (way : Way) (n : ℕ) (w : World) → IsTurn w.book.given (settle sc way n w)
settle-turn sc way zero w = inl (refl, refl)
settle-turn sc way (suc n) w =
    let next : World = settle_next sc way w in
    elim (next-more sc way w) [
      | inl same ↦
          let none : record_since w next ≡ None = none-past w.book.given same in
          let rest : IsTurn next.book.given (settle sc way n next) = settle-turn sc way n next in
          subst (λ r. IsTurn w.book.given (settle_rest sc way n next r)) (sym none)
          (subst (λ given. IsTurn given (settle sc way n next)) same rest)
      | inr added ↦
          let one : record_since w next ≡ Some added.0 = last-one w.book.given added.0 added.1 in
          subst (λ r. IsTurn w.book.given (settle_rest sc way n next r)) (sym one) (inr (added.0, (added.1, refl)))
    ]

-- an event that is taken gives one record at most, which is the turn
pub take-turn : (sc : Scenario) (w : World) (d : Due) → IsTurn w.book.given (take_if_due sc w (Some d))
take-turn sc w d =
    let same : (happens sc w d).book ≡ w.book = happens-book sc w d in
    subst (λ b. IsTurn b.given (take_if_due sc w (Some d))) same (settle-turn sc ByAnEvent 2 (happens sc w d))

pub go-on-turn : (sc : Scenario) (w : World) → w.book.ended ≡ false → IsTurn w.book.given (go_on sc w)
unfolding go_on
go-on-turn sc w h =
    subst (λ b. IsTurn w.book.given (elim b as (λ _. World) [ true ↦ w | false ↦ settle sc ByItself 2 w ])) (sym h)
    (settle-turn sc ByItself 2 w)

take-on-due : (sc : Scenario) (w : World) (o : Option Due) → GoesOn w.book (take_if_due sc w o).book
take-on-due sc w None = on-refl w.book
take-on-due sc w (Some d) =
    subst (λ b. GoesOn b (take_if_due sc w (Some d)).book) (happens-book sc w d) (settle-on sc ByAnEvent 2 (happens sc w d))

-- whatever is chosen, the book only grows
pub take-on : (sc : Scenario) (w : World) (i : ℕ) → GoesOn w.book (take sc w i).book
unfolding take
take-on sc w i = take-on-due sc w _

go-on-by : (sc : Scenario) (w : World) (b : Bool)
    → GoesOn w.book (elim b as (λ _. World) [ true ↦ w | false ↦ settle sc ByItself 2 w ]).book
go-on-by sc w true = on-refl w.book
go-on-by sc w false = settle-on sc ByItself 2 w

pub go-on-on : (sc : Scenario) (w : World) → GoesOn w.book (go_on sc w).book
unfolding go_on
go-on-on sc w = go-on-by sc w w.book.ended

-- a hand-in changes the ports and the hand-ins alone
pub hand-leaves : (P : World → Type 0) (sc : Scenario) (w : World) (biu state : ℕ) → ((ports : List PortState) (hands : List HandIn) → P (record w { ports = ports; hands = hands }))
    → P w → P (hand sc w biu state)
unfolding hand
hand-leaves P sc w biu state changed same = by (frame_in w.turn)
  where
    inner : (x : World) (b : Bool) → P x → P (elim b as (λ _. World) [ true ↦ x | false ↦ w ])
    inner x true h = h
    inner x false h = same

    by : (o : Option ℕ) → P (elim o as (λ _. World) [
      | None ↦ w
      | Some frame ↦ elim (is_good sc Biu biu frame 0) [
        | true ↦ record w { ports = with_state biu state w.ports; hands = w.hands ++ record { frame = frame; biu = biu; state = state } ∷ [] }
        | false ↦ w
      ]
    ])
    by None = same
    by (Some frame) =
        inner (record w { ports = with_state biu state w.ports; hands = w.hands ++ record { frame = frame; biu = biu; state = state } ∷ [] }) (is_good sc Biu biu frame 0)
        (changed (with_state biu state w.ports) (w.hands ++ record { frame = frame; biu = biu; state = state } ∷ []))

-- a hand-in leaves the book as it is
pub hand-book : (sc : Scenario) (w : World) (biu state : ℕ) → (hand sc w biu state).book ≡ w.book
hand-book sc w biu state = hand-leaves (λ x. x.book ≡ w.book) sc w biu state (λ ports hands. refl) refl

pub choose-on : (sc : Scenario) (w : World) (c : Choice) → GoesOn w.book (choose sc w c).book
choose-on sc w (Take place) = take-on sc w place
choose-on sc w GoOn = go-on-on sc w
choose-on sc w (Hand biu state) = subst (λ b. GoesOn b (hand sc w biu state).book) (hand-book sc w biu state) (on-refl (hand sc w biu state).book)
