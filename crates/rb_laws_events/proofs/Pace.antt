-- For the law that events are rounds: no node is beyond the stage after that which the book waits
-- for, and what it waits for is not complete. Whatever is settled keeps it so.
use Rattle.std.proofs.{Common.{◌≡◌, ℕ, zero, suc, ◌+◌, ◌*◌, ◌<◌, ◌≤◌, ◌==◌, ◌&&◌, ◌⊎◌, not, nat_lt, if◌then◌else◌, Bool, true, false, List, [], ◌∷◌, ◌++◌, length, refl, ap, sym, ◌∙◌, subst, arith, inl, inr, Option, Some, None, slice_get}, lemmas.Bool.{and_parts, eqb-true, le-ltb, ltb-true}, lemmas.List.append-nil}
use Rattle.std.specs.Prelude.{⊤}
use Rattle.rb_base.specs.{Nodes.Side, Sizes.{IsShape, Sizes, sync_slot_of}, declared.values.Place.Place}
use Rattle.rb_base.proofs.Plain.{true-false}
use Rattle.rb_rules.specs.{Book.{Begun, Book, Each, Milestone, Record, Row, after_stage, after_verdict, frame_records, judged_of, of_kind, with_frame, with_stage}, Book.Milestone.{Begin, Stage, End}, declared.cause.Cause.Cause, Judging.verdict_of, Goodness.Scenario, Ports.HandIn, Rounds.windows_in, Slots.count_of, WorldStep.{Site, Way, World, book_with, comes_so, is_complete, needs_no_event, nobody_good, record_since, row_for, settle, settle_next}, WorldStep.Way.{ByAnEvent, ByItself}}
use Rattle.rb_rules.proofs.Books.{GoesOn}
use Rattle.rb_laws_agreement.proofs.{Agreement.ended-end, Goodnesses.{good_before, good_counts}}
use Rattle.rb_laws_events.proofs.{MomentBooks.stage-book-next, RoundNodes.item-at, ToldInOrder.{AllTold, number_at}, Untold.{no-row, nobody, somebody}, Waiting.untold, WorldBooks.{book-on, none-past}, WorldNodes.next-sites}

-- Numbers.

-- the number of the moment of a milestone
abbrev pub number_of : Sizes → Milestone → ℕ
number_of sizes (Begin frame) = frame * (windows_in sizes + 1)
number_of sizes (Stage place) = number_at sizes place
number_of sizes End = 0

-- a node in moment p is not beyond the stage after a milestone: none has closed what comes after it
abbrev pub IsWithin : Sizes → Milestone → ℕ → Type 0
IsWithin sizes (Begin frame) p = p ≤ number_of sizes (Begin frame)
IsWithin sizes (Stage place) p = p ≤ number_of sizes (after_stage sizes place)
IsWithin sizes End p = ⊤

-- the milestone after a stage
abbrev pub then_stage : Sizes → Place → Bool → Bool → Milestone
then_stage sizes place early last =
    if early then Stage (record place { stage = place.stage + 1 })
    else (if last then Begin (place.frame + 1) else Stage (record { frame = place.frame; slot = place.slot + 1; stage = 1 }))

-- the number of a stage is at most that of the milestone after it
rises : (sizes : Sizes) (place : Place) → place.stage ≤ 3 → number_at sizes place ≤ number_of sizes (after_stage sizes place)
rises sizes place few = by (nat_lt place.stage 3) (place.slot == sync_slot_of sizes) refl
  where
    one-more : (a n : ℕ) → (a + 1) * n ≡ a * n + n
    one-more a n = omega arith

    by : (early last : Bool) → (place.slot == sync_slot_of sizes) ≡ last → number_at sizes place ≤ number_of sizes (then_stage sizes place early last)
    by true last e = omega arith
    by false true e =
        let same : place.slot ≡ sync_slot_of sizes = eqb-true place.slot (sync_slot_of sizes) e in
        let more : (place.frame + 1) * (windows_in sizes + 1) ≡ place.frame * (windows_in sizes + 1) + (windows_in sizes + 1) = one-more place.frame (windows_in sizes + 1) in
        omega (arith, same, more, few)
    by false false e = omega (arith, few)

-- a node up to the number of the milestone after a stage is within that milestone
after-within : (sizes : Sizes) (place : Place) (p : ℕ) → p ≤ number_of sizes (after_stage sizes place) → IsWithin sizes (after_stage sizes place) p
after-within sizes place p = by (nat_lt place.stage 3) (place.slot == sync_slot_of sizes) refl
  where
    up : (place : Place) → place.stage ≤ 3 → p ≤ number_at sizes place → p ≤ number_of sizes (after_stage sizes place)
    up place few le = let rise : number_at sizes place ≤ number_of sizes (after_stage sizes place) = rises sizes place few in omega arith

    by : (early last : Bool) → nat_lt place.stage 3 ≡ early → p ≤ number_of sizes (then_stage sizes place early last) → IsWithin sizes (then_stage sizes place early last) p
    by true last e le = let lt : place.stage < 3 = ltb-true place.stage 3 e in up (record place { stage = place.stage + 1 }) (omega arith) le
    by false true e le = le
    by false false e le = up (record { frame = place.frame; slot = place.slot + 1; stage = 1 }) (omega arith) le

frame-within : (sc : Scenario) (frame p : ℕ) → p ≤ frame * (windows_in sc.sizes + 1)
    → IsWithin sc.sizes (if frame == sc.frames then End else Stage (record { frame = frame; slot = 0; stage = 1 })) p
frame-within sc frame p le = by (frame == sc.frames)
  where
    by : (b : Bool) → IsWithin sc.sizes (if b then End else Stage (record { frame = frame; slot = 0; stage = 1 })) p
    by true = tt
    by false =
        let one : number_of sc.sizes (Stage (record { frame = frame; slot = 0; stage = 2 })) ≡ frame * (windows_in sc.sizes + 1) + 1 = omega arith in
        omega (arith, le, one)

-- Books.

-- each node is within the upcoming milestone
abbrev pub Bound : Scenario → (Side → ℕ → ℕ) → Each Site → Book → Type 0
Bound sc at sites b = b.ended ≡ false → (me : Side) (i : ℕ) (s : Site) → slice_get (of_kind me sites) i ≡ Some s → IsWithin sc.sizes b.upcoming (at me i)

-- what the book waits for is not complete
abbrev pub Waits : Scenario → Each Site → Book → Type 0
Waits sc sites b = b.ended ≡ false → needs_no_event sc b.upcoming ≡ false → is_complete sc sites b.upcoming ≡ false

still-running : {b x : _} → GoesOn b x → x.ended ≡ false → b.ended ≡ false
still-running {b} on h = by b.ended refl
  where
    by : (e : Bool) → b.ended ≡ e → e ≡ false
    by true e = true-false (sym e ∙ sym (ap (λ (b : Book). b.ended) (on.over e)) ∙ h)
    by false e = refl

frame-upcoming : (sc : Scenario) (frame : ℕ) (begun : List Begun) (b : Book) → (with_frame sc frame begun b).ended ≡ false
    → (with_frame sc frame begun b).upcoming ≡ (if frame == sc.frames then End else Stage (record { frame = frame; slot = 0; stage = 1 }))
unfolding with_frame
frame-upcoming sc frame begun b = by b.ended refl
  where
    by : (e : Bool) → b.ended ≡ e → (elim e as (λ _. Book) [
      | true ↦ b
      | false ↦ record {
        upcoming = if frame == sc.frames then End else Stage (record { frame = frame; slot = 0; stage = 1 });
        stages = [];
        lines = [];
        given = b.given ++ frame_records frame begun;
        ended = false;
      }
    ]).ended ≡ false → (elim e as (λ _. Book) [
      | true ↦ b
      | false ↦ record {
        upcoming = if frame == sc.frames then End else Stage (record { frame = frame; slot = 0; stage = 1 });
        stages = [];
        lines = [];
        given = b.given ++ frame_records frame begun;
        ended = false;
      }
    ]).upcoming ≡ (if frame == sc.frames then End else Stage (record { frame = frame; slot = 0; stage = 1 }))
    by true e h = true-false (sym e ∙ h)
    by false e h = refl

-- a milestone that is settled leaves all within the next
pub settled-bound : (sc : Scenario) (at : Side → ℕ → ℕ) {sites : _} (b : Book) (m : Milestone) → b.upcoming ≡ m → Bound sc at sites b → Bound sc at sites (book_with sc sites b m)
settled-bound sc at {sites} b (Begin frame) e bound going me i s there =
    let was : IsWithin sc.sizes b.upcoming (at me i) = bound (still-running (book-on sc sites b (Begin frame)) going) me i s there in
    let le : at me i ≤ frame * (windows_in sc.sizes + 1) = subst (λ m. IsWithin sc.sizes m (at me i)) e was in
    subst (λ m. IsWithin sc.sizes m (at me i)) (sym (frame-upcoming sc frame _ b going)) (frame-within sc frame (at me i) le)
settled-bound sc at {sites} b (Stage place) e bound going me i s there =
    let was : IsWithin sc.sizes b.upcoming (at me i) = bound (still-running (book-on sc sites b (Stage place)) going) me i s there in
    let le : at me i ≤ number_of sc.sizes (after_stage sc.sizes place) = subst (λ m. IsWithin sc.sizes m (at me i)) e was in
    subst (λ m. IsWithin sc.sizes m (at me i)) (sym (stage-book-next sc place _ b going)) (after-within sc.sizes place (at me i) le)
settled-bound sc at b End e bound going me i s there = true-false (sym (ended-end b) ∙ going)

-- a stage that nobody has closed is not complete
pub stage-waits : {sc : Scenario} {hands : List HandIn} {at : Side → ℕ → ℕ} {sites : Each Site} (place : Place) → ((me : Side) → length (of_kind me sites) ≡ count_of me sc.sizes)
    → AllTold sc hands at sites → ((me : Side) (i : ℕ) (s : Site) → slice_get (of_kind me sites) i ≡ Some s → at me i ≤ number_at sc.sizes place)
    → needs_no_event sc (Stage place) ≡ false → is_complete sc sites (Stage place) ≡ false
stage-waits {sc} {at} {sites} place counts told before needs =
    let good = somebody sc place.frame place.slot needs in
    let me : Side = good.0 in
    let i : ℕ = good.1.0 in
    let counted : i < count_of me sc.sizes = good_counts sc me i place.frame place.slot good.1.1 in
    let long : length (of_kind me sites) ≡ count_of me sc.sizes = counts me in
    let site = item-at (of_kind me sites) i (omega arith) in
    untold sc place.frame place.slot (λ (s : Site). row_for place s.row) sites me i site.1 good.1.1
    (no-row sc.sizes place site.0.row (λ row e.
    let lt : number_at sc.sizes row.place < at me i = (told me i site.0 site.1).row row e in
    let le : at me i ≤ number_at sc.sizes place = before me i site.0 site.1 in
    omega arith))

-- the start of a frame after which the book waits for the first stage
begin-waits : {sc : Scenario} {hands : List HandIn} {at : Side → ℕ → ℕ} {sites : Each Site} (frame : ℕ) → ((me : Side) → length (of_kind me sites) ≡ count_of me sc.sizes)
    → AllTold sc hands at sites → ((me : Side) (i : ℕ) (s : Site) → slice_get (of_kind me sites) i ≡ Some s → at me i ≤ frame * (windows_in sc.sizes + 1))
    → {m : Milestone} → m ≡ (if frame == sc.frames then End else Stage (record { frame = frame; slot = 0; stage = 1 })) → needs_no_event sc m ≡ false → is_complete sc sites m ≡ false
begin-waits {sc} {at} {sites} frame counts told before {m} e =
    subst (λ m. needs_no_event sc m ≡ false → is_complete sc sites m ≡ false) (sym e) (by (frame == sc.frames))
  where
    by : (b : Bool) → needs_no_event sc (if b then End else Stage (record { frame = frame; slot = 0; stage = 1 })) ≡ false
        → is_complete sc sites (if b then End else Stage (record { frame = frame; slot = 0; stage = 1 })) ≡ false
    by true h = true-false h
    by false h =
        stage-waits (record { frame = frame; slot = 0; stage = 1 }) counts told
        (λ me i s there. let le : at me i ≤ frame * (windows_in sc.sizes + 1) = before me i s there in omega arith) h

-- `place` is the last stage of a frame
pub record IsLastStage (sc : Scenario) (place : Place) : Type 0 where
  pub stage : nat_lt place.stage 3 ≡ false
  pub slot : (place.slot == sync_slot_of sc.sizes) ≡ true

-- after any milestone but the last stage of a frame the book waits for what is not complete
pub settled-waits : {sc : Scenario} {hands : List HandIn} {at : Side → ℕ → ℕ} {sites : Each Site} (b : Book) (m : Milestone) → b.upcoming ≡ m
    → ((me : Side) → length (of_kind me sites) ≡ count_of me sc.sizes) → AllTold sc hands at sites → Bound sc at sites b
    → Waits sc sites (book_with sc sites b m) ⊎ ((place : Place) × ((m ≡ Stage place) × IsLastStage sc place))
settled-waits b End e counts told bound = inl (λ going. true-false (sym (ended-end b) ∙ going))
settled-waits {sc} {at} {sites} b (Begin frame) e counts told bound =
    inl (λ going needs.
    begin-waits frame counts told
    (λ me i s there. subst (λ m. IsWithin sc.sizes m (at me i)) e (bound (still-running (book-on sc sites b (Begin frame)) going) me i s there)) (frame-upcoming sc frame _ b going) needs)
settled-waits {sc} {at} {sites} b (Stage place) e counts told bound = by (nat_lt place.stage 3) (place.slot == sync_slot_of sc.sizes) refl refl
  where
    after : (early last : Bool) → nat_lt place.stage 3 ≡ early → (place.slot == sync_slot_of sc.sizes) ≡ last → (place2 : Place) → then_stage sc.sizes place early last ≡ Stage place2
        → Waits sc sites (book_with sc sites b (Stage place))
    after early last f g place2 is going needs =
        let up : (book_with sc sites b (Stage place)).upcoming ≡ Stage place2 =
        stage-book-next sc place _ b going ∙ ap (λ t. then_stage sc.sizes place t (place.slot == sync_slot_of sc.sizes)) f ∙ ap (then_stage sc.sizes place early) g ∙ is in
        subst (λ m. is_complete sc sites m ≡ false) (sym up)
        (stage-waits place2 counts told
        (λ me i s there.
        let le : at me i ≤ number_of sc.sizes (after_stage sc.sizes place) =
        subst (λ m. IsWithin sc.sizes m (at me i)) e (bound (still-running (book-on sc sites b (Stage place)) going) me i s there) in
        subst (λ m. at me i ≤ number_of sc.sizes m) (ap (λ t. then_stage sc.sizes place t (place.slot == sync_slot_of sc.sizes)) f ∙ ap (then_stage sc.sizes place early) g ∙ is) le)
        (ap (needs_no_event sc) (sym up) ∙ needs))

    by : (early last : Bool) → nat_lt place.stage 3 ≡ early → (place.slot == sync_slot_of sc.sizes) ≡ last
        → Waits sc sites (book_with sc sites b (Stage place)) ⊎ ((place2 : Place) × ((Stage place ≡ Stage place2) × IsLastStage sc place2))
    by true last f g = inl (after true last f g (record place { stage = place.stage + 1 }) refl)
    by false true f g = inr (place, (refl, record { stage = f; slot = g }))
    by false false f g = inl (after false false f g (record { frame = place.frame; slot = place.slot + 1; stage = 1 }) refl)

-- Settling.

-- the next milestone is settled, or not
pub record IsSettled (sc : Scenario) (way : Way) (w : World) : Type 0 where
  pub comes : comes_so sc way w.book.upcoming ≡ true
  pub complete : is_complete sc w.sites w.book.upcoming ≡ true
  pub book : (settle_next sc way w).book ≡ book_with sc w.sites w.book w.book.upcoming

pub record IsLeft (sc : Scenario) (way : Way) (w : World) : Type 0 where
  pub test : (comes_so sc way w.book.upcoming && is_complete sc w.sites w.book.upcoming) ≡ false
  pub book : (settle_next sc way w).book ≡ w.book

next-cases : (sc : Scenario) (way : Way) (w : World) → IsSettled sc way w ⊎ IsLeft sc way w
next-cases sc way w = by (comes_so sc way w.book.upcoming && is_complete sc w.sites w.book.upcoming) refl
  where
    pick : Bool → World
    pick b = elim b as (λ _. World) [ true ↦ record w { book = book_with sc w.sites w.book w.book.upcoming } | false ↦ w ]

    by : (b : Bool) → (comes_so sc way w.book.upcoming && is_complete sc w.sites w.book.upcoming) ≡ b → IsSettled sc way w ⊎ IsLeft sc way w
    by true e =
        let parts = and_parts (comes_so sc way w.book.upcoming) (is_complete sc w.sites w.book.upcoming) e in
        inl (record { comes = parts.0; complete = parts.1; book = ap (λ b. (pick b).book) e })
    by false e = inr (record { test = e; book = ap (λ b. (pick b).book) e })

-- what is kept of a world while milestones are settled
pub record Paced (sc : Scenario) (at : Side → ℕ → ℕ) (sites : Each Site) (b : Book) : Type 0 where
  pub bound : Bound sc at sites b
  pub waits : Waits sc sites b

next-bound : (sc : Scenario) (at : Side → ℕ → ℕ) (way : Way) (w : World) {sites : _} → w.sites ≡ sites → Bound sc at sites w.book → Bound sc at sites (settle_next sc way w).book
next-bound sc at way w {sites} same bound = elim (next-cases sc way w) [
  | inl on ↦ subst (Bound sc at sites) (sym on.book) (subst (λ x. Bound sc at sites (book_with sc x w.book w.book.upcoming)) (sym same) (settled-bound sc at w.book w.book.upcoming refl bound))
  | inr off ↦ subst (Bound sc at sites) (sym off.book) bound
]

ended-paced : (sc : Scenario) (at : Side → ℕ → ℕ) (sites : Each Site) (b : Book) → b.ended ≡ true → Paced sc at sites b
ended-paced sc at sites b e = record { bound = λ going. true-false (sym e ∙ going); waits = λ going. true-false (sym e ∙ going) }

-- a milestone that needs no event is settled: what comes after the last stage of a frame in which
-- nobody is good needs none either
nobody-then : (sc : Scenario) → IsShape sc.sizes → (frame slot : ℕ) → nobody_good sc frame slot ≡ true → nobody_good sc (frame + 1) 0 ≡ true
nobody-then sc shape frame slot h = by (nobody_good sc (frame + 1) 0) refl
  where
    by : (b : Bool) → nobody_good sc (frame + 1) 0 ≡ b → b ≡ true
    by true e = refl
    by false e =
        let good = somebody sc (frame + 1) 0 e in
        absurd (nobody sc shape frame slot h good.0 good.1.0 (good_before sc good.0 good.1.0 frame (frame + 1) slot 0 (omega arith) good.1.1))

then-begins : (sizes : Sizes) {sc place : _} → IsLastStage sc place → after_stage sc.sizes place ≡ Begin (place.frame + 1)
then-begins sizes {sc} {place} last =
    ap (λ t. then_stage sc.sizes place t (place.slot == sync_slot_of sc.sizes)) last.stage ∙ ap (then_stage sc.sizes place false) last.slot

-- one milestone keeps the pace, in whatever way it is settled
next-paced : {sc : Scenario} {hands : List HandIn} {at : Side → ℕ → ℕ} (way : Way) (w : World) {sites : Each Site} → IsShape sc.sizes → w.sites ≡ sites
    → ((me : Side) → length (of_kind me sites) ≡ count_of me sc.sizes) → AllTold sc hands at sites → Paced sc at sites w.book → Paced sc at sites (settle_next sc way w).book
next-paced {sc} {at} way w {sites} shape same counts told paced =
    let bound : Bound sc at sites (settle_next sc way w).book = next-bound sc at way w same paced.bound in
    elim (next-cases sc way w) [
      | inr off ↦ subst (Paced sc at sites) (sym off.book) paced
      | inl on ↦ by w.book.ended refl on bound
    ]
  where
    some-milestone : {P : Type 0} (needs : Bool) → not needs ≡ true → needs ≡ true → P
    some-milestone true a b = true-false (sym a)
    some-milestone false a b = true-false (sym b)

    needed : (way : Way) → comes_so sc way w.book.upcoming ≡ true → w.book.ended ≡ false → is_complete sc sites w.book.upcoming ≡ true → Waits sc sites w.book
        → needs_no_event sc w.book.upcoming ≡ true
    needed ByItself comes going complete waits = comes
    needed ByAnEvent comes going complete waits = go (needs_no_event sc w.book.upcoming) refl
      where
        go : (b : Bool) → needs_no_event sc w.book.upcoming ≡ b → b ≡ true
        go true e = refl
        go false e = true-false (sym complete ∙ waits going e)

    by : (b : Bool) → w.book.ended ≡ b → IsSettled sc way w → Bound sc at sites (settle_next sc way w).book → Paced sc at sites (settle_next sc way w).book
    by true e on bound =
        let over : book_with sc w.sites w.book w.book.upcoming ≡ w.book = (book-on sc w.sites w.book w.book.upcoming).over e in
        subst (Paced sc at sites) (sym (on.book ∙ over)) (ended-paced sc at sites w.book e)
    by false e on bound =
        let is : (settle_next sc way w).book ≡ book_with sc sites w.book w.book.upcoming = on.book ∙ ap (λ x. book_with sc x w.book w.book.upcoming) same in
        let complete : is_complete sc sites w.book.upcoming ≡ true = ap (λ x. is_complete sc x w.book.upcoming) (sym same) ∙ on.complete in
        let none : needs_no_event sc w.book.upcoming ≡ true = needed way on.comes e complete paced.waits in
        record {
          bound = bound;
          waits = subst (Waits sc sites) (sym is) (elim (settled-waits w.book w.book.upcoming refl counts told paced.bound) [
            | inl waits ↦ waits
            | inr last ↦ λ going needs.
                let empty : nobody_good sc last.0.frame last.0.slot ≡ true = ap (needs_no_event sc) (sym last.1.0) ∙ none in
                let running : (with_stage sc last.0 _ w.book).ended ≡ false = ap (λ m. (book_with sc sites w.book m).ended) (sym last.1.0) ∙ going in
                let up : (book_with sc sites w.book w.book.upcoming).upcoming ≡ Begin (last.0.frame + 1) =
                ap (λ m. (book_with sc sites w.book m).upcoming) last.1.0 ∙ stage-book-next sc last.0 _ w.book running ∙ then-begins sc.sizes last.1.1 in
                true-false (sym (nobody-then sc shape last.0.frame last.0.slot empty) ∙ ap (needs_no_event sc) (sym up) ∙ needs)
          ]);
        }

rest-paced : {sc at sites : _} (way : Way) (n : ℕ) (next : World) → Paced sc at sites next.book → Paced sc at sites (settle sc way n next).book
    → (r : Option Record) → Paced sc at sites (elim r as (λ _. World) [ None ↦ settle sc way n next | Some r ↦ record next { turn = Some r } ]).book
rest-paced way n next one rest None = rest
rest-paced way n next one rest (Some r) = one

pub settle-paced : {sc : Scenario} {hands : List HandIn} {at : Side → ℕ → ℕ} (way : Way) (n : ℕ) (w : World) {sites : Each Site} → IsShape sc.sizes → w.sites ≡ sites
    → ((me : Side) → length (of_kind me sites) ≡ count_of me sc.sizes) → AllTold sc hands at sites → Paced sc at sites w.book → Paced sc at sites (settle sc way n w).book
settle-paced way zero w shape same counts told paced = paced
settle-paced {sc} {at} way (suc n) w {sites} shape same counts told paced =
    let next : World = settle_next sc way w in
    let one : Paced sc at sites next.book = next-paced way w shape same counts told paced in
    rest-paced way n next one (settle-paced way n next shape (next-sites sc way w ∙ same) counts told one) (record_since w next)

-- After an event.

-- the last stage of a frame gives no record
last-given : {sc place : _} (rows : Each (Option Row)) (b : Book) → IsLastStage sc place → (with_stage sc place rows b).ended ≡ false → (with_stage sc place rows b).given ≡ b.given
unfolding with_stage
last-given {sc} {place} rows b last = by b.ended (verdict_of (judged_of sc place rows ∷ b.stages))
  where
    none : (a c : Bool) → c ≡ false → (if a && c then Record.Slot place.frame place.slot b.lines ∷ [] else []) ≡ []
    none true c e = ap (λ t. if t then Record.Slot place.frame place.slot b.lines ∷ [] else []) e
    none false c e = refl

    not-less : (a b : ℕ) → (a == b) ≡ true → nat_lt a b ≡ false
    not-less a b e = let same : a ≡ b = eqb-true a b e in le-ltb a b (omega arith)

    verdict : (v : Option Cause) → (after_verdict sc.sizes place rows (judged_of sc place rows ∷ b.stages) b v).ended ≡ false
        → (after_verdict sc.sizes place rows (judged_of sc place rows ∷ b.stages) b v).given ≡ b.given
    verdict None h = ap (λ l. b.given ++ l) (none (place.stage == 3) (nat_lt place.slot (sync_slot_of sc.sizes)) (not-less place.slot (sync_slot_of sc.sizes) last.slot)) ∙ append-nil b.given
    verdict (Some cause) h = true-false h

    by : (e : Bool) (v : Option Cause) → (elim e as (λ _. Book) [ true ↦ b | false ↦ after_verdict sc.sizes place rows (judged_of sc place rows ∷ b.stages) b v ]).ended ≡ false
        → (elim e as (λ _. Book) [ true ↦ b | false ↦ after_verdict sc.sizes place rows (judged_of sc place rows ∷ b.stages) b v ]).given ≡ b.given
    by true v h = refl
    by false v h = verdict v h

-- if an event completes nothing more, what the book waits for is not complete
left-waits : {sc : Scenario} {w : World} {sites : Each Site} → w.sites ≡ sites → IsLeft sc ByAnEvent w → Waits sc sites w.book
left-waits {sc} {w} {sites} same off going needs = by (needs_no_event sc w.book.upcoming) (is_complete sc sites w.book.upcoming) needs (ap (λ x. not (needs_no_event sc w.book.upcoming) && is_complete sc x w.book.upcoming) (sym same) ∙ off.test)
  where
    by : (a c : Bool) → a ≡ false → (not a && c) ≡ false → c ≡ false
    by true c e h = true-false e
    by false c e h = h

begin-stage : {P : Type 0} (frame : ℕ) (place : Place) → Begin frame ≡ Stage place → P
begin-stage frame place e = absurd (cc)

pub event-paced : {sc : Scenario} {hands : List HandIn} {at : Side → ℕ → ℕ} (w : World) {sites : Each Site} → IsShape sc.sizes → w.sites ≡ sites
    → ((me : Side) → length (of_kind me sites) ≡ count_of me sc.sizes) → AllTold sc hands at sites → Bound sc at sites w.book → Paced sc at sites (settle sc ByAnEvent 2 w).book
event-paced {sc} {at} w {sites} shape same counts told bound =
    let next : World = settle_next sc ByAnEvent w in
    let next_same : next.sites ≡ sites = next-sites sc ByAnEvent w ∙ same in
    let next_bound : Bound sc at sites next.book = next-bound sc at ByAnEvent w same bound in
    let finish : Paced sc at sites next.book → Paced sc at sites (settle sc ByAnEvent 2 w).book =
    λ one. rest-paced ByAnEvent 1 next one (settle-paced ByAnEvent 1 next shape next_same counts told one) (record_since w next) in
    elim (next-cases sc ByAnEvent w) [
      | inr off ↦ settle-paced ByAnEvent 2 w shape same counts told (record { bound = bound; waits = left-waits same off })
      | inl on ↦
          let is : next.book ≡ book_with sc sites w.book w.book.upcoming = on.book ∙ ap (λ x. book_with sc x w.book w.book.upcoming) same in
          elim (settled-waits w.book w.book.upcoming refl counts told bound) [
            | inl waits ↦ finish (record { bound = next_bound; waits = subst (Waits sc sites) (sym is) waits })
            | inr last ↦ by next.book.ended refl is last next_same next_bound finish
          ]
    ]
  where
    after-one : (next : World) → (r : Option Record) → (elim r as (λ _. World) [ None ↦ settle sc ByAnEvent 0 next | Some r ↦ record next { turn = Some r } ]).book ≡ next.book
    after-one next None = refl
    after-one next (Some r) = refl

    begun : (next : World) (frame : ℕ) → next.book.upcoming ≡ Begin frame → next.sites ≡ sites → Bound sc at sites next.book → Paced sc at sites (settle_next sc ByAnEvent next).book
    begun next frame up same bound =
        elim (next-cases sc ByAnEvent next) [
          | inr off ↦ subst (Paced sc at sites) (sym off.book) (record { bound = bound; waits = left-waits same off })
          | inl on ↦
              let is : (settle_next sc ByAnEvent next).book ≡ book_with sc sites next.book next.book.upcoming = on.book ∙ ap (λ x. book_with sc x next.book next.book.upcoming) same in
              record {
                bound = next-bound sc at ByAnEvent next same bound;
                waits = elim (settled-waits next.book next.book.upcoming refl counts told bound) [
                  | inl waits ↦ subst (Waits sc sites) (sym is) waits
                  | inr last ↦ begin-stage frame last.0 (sym up ∙ last.1.0)
                ];
              }
        ]

    by : (b : Bool) → (settle_next sc ByAnEvent w).book.ended ≡ b → (settle_next sc ByAnEvent w).book ≡ book_with sc sites w.book w.book.upcoming
        → ((place : Place) × ((w.book.upcoming ≡ Stage place) × IsLastStage sc place)) → (settle_next sc ByAnEvent w).sites ≡ sites → Bound sc at sites (settle_next sc ByAnEvent w).book
        → (Paced sc at sites (settle_next sc ByAnEvent w).book → Paced sc at sites (settle sc ByAnEvent 2 w).book) → Paced sc at sites (settle sc ByAnEvent 2 w).book
    by true e is last next_same next_bound finish = finish (ended-paced sc at sites (settle_next sc ByAnEvent w).book e)
    by false e is last next_same next_bound finish =
        let next : World = settle_next sc ByAnEvent w in
        let place : Place = last.0 in
        let stage_is : next.book ≡ book_with sc sites w.book (Stage place) = is ∙ ap (book_with sc sites w.book) last.1.0 in
        let running : (book_with sc sites w.book (Stage place)).ended ≡ false = ap (λ (b : Book). b.ended) (sym stage_is) ∙ e in
        let given : next.book.given ≡ w.book.given = ap (λ (b : Book). b.given) stage_is ∙ last-given _ w.book last.1.1 running in
        let none : record_since w next ≡ None = none-past w.book.given given in
        let up : next.book.upcoming ≡ Begin (place.frame + 1) = ap (λ (b : Book). b.upcoming) stage_is ∙ stage-book-next sc place _ w.book running ∙ then-begins sc.sizes last.1.1 in
        let one : Paced sc at sites (settle_next sc ByAnEvent next).book = begun next (place.frame + 1) up next_same next_bound in
        subst (λ r. Paced sc at sites (elim r as (λ _. World) [ None ↦ settle sc ByAnEvent 1 next | Some r ↦ record next { turn = Some r } ]).book) (sym none)
        (subst (Paced sc at sites) (sym (after-one (settle_next sc ByAnEvent next) (record_since next (settle_next sc ByAnEvent next)))) one)
