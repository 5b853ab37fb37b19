-- For the law of record and replay: up to a moment the records of the rounds have the lines of all
-- that a node tells, but for those of a slot whose record is still to come.
use Rattle.std.proofs.{Common.{◌≡◌, ℕ, zero, suc, ◌+◌, ◌*◌, ◌/◌, ◌%◌, ◌<◌, ◌≤◌, ◌==◌, ◌&&◌, min, nat_lt, not, Bool, true, false, List, [], ◌∷◌, ◌++◌, append_assoc, refl, ap, sym, ◌∙◌, subst, arith, inl, inr, Option, Some, None, slice_get, if◌then◌else◌}, lemmas.Bool.{and_from, and_left, and_right, cases_lt, cond-false, cond-true, eq-eqb, le-ltb, lt-ltb, ne_eqb}, lemmas.Bool.Decides.nat_tests, lemmas.List.append-nil}
use Rattle.std.specs.Prelude.{flat_map, filter_map, map}
use Rattle.rb_base.specs.{Counting.numbers, Nodes.Side, Sizes.{Sizes, sync_slot_of}, declared.node.NodeName.NodeName, declared.values.Place.Place}
use Rattle.rb_base.proofs.Plain.{true-false}
use Rattle.rb_rules.specs.{declared.cause.Cause.Cause, declared.plan.Window.Window, declared.record.SlotLine.SlotLine, Book.{Begun, Book, Each, Record, Row, after_verdict, frame_records, fresh_book, in_order, judged_of, line_in, map_each, of_kind, slot_records, with_frame, with_stage}, Book.Milestone.{End, Stage}, Book.Record.Slot, ExactStage.present, Goodness.{Scenario, is_good}, Hearing.{epoch_of, port_at}, Judging.{JudgedStage, verdict_of}, Lawful.kind_of, NodeState.NodeState, Rounds.{Moment, Result, after_window, begin_frame, begun_if_good, book_after, moment, next_frame, results_of, step, window_in, windows_in}, Windows.windows_of_frame}
use Rattle.rb_rules.proofs.{Books.{GoesOn, moments-on, stepped}, RoundStates.HasTicks}
use Rattle.rb_laws_events.specs.Closing.{stages_in}
use Rattle.rb_laws_events.proofs.{CloseOrder.{IsFrameLater, IsWindowLater, frame-later, window-later}, Invariant.is_good_at, MomentBooks.{no-window, stage-is-of, stage-window}, MomentSteps.good-state, RoundNodes.{AllStand, Stands, moments-stand, slot-is, slot_numbered}, SettlingFrames.{RunsIn, runs-in}, Telling.tail-stage}
use Rattle.rb_laws_agreement.proofs.{Agreement.ended-end, Goodnesses.good_before}
use Rattle.rb_laws_logs.specs.{Given.index_of, Laws.{IsGoodThroughout, delivered_by, lines_after}, Replays.epoch_lines}
use Rattle.rb_laws_logs.proofs.{Gathered.if_there, NodeLines.{FrameLines, block_text, frame-lines, lines-append, newest-append, newest_after, silent-window, slot-lines, state_of, step_text, told_up_to, window_text}}

-- A run that goes on.

pub still-running : (sc : Scenario) (p : ℕ) → (moment sc [] (suc p)).book.ended ≡ false → (moment sc [] p).book.ended ≡ false
still-running sc p h = by (moment sc [] p).book.ended refl
  where
    by : (b : Bool) → (moment sc [] p).book.ended ≡ b → b ≡ false
    by true e =
        let k : p + 1 ≡ suc p = omega arith in
        let on : GoesOn (moment sc [] p).book (moment sc [] (p + 1)).book = moments-on sc [] p 1 in
        sym e ∙ sym (ap (λ (b : Book). b.ended) (on.over e)) ∙ ap (λ n. (moment sc [] n).book.ended) k ∙ h
    by false e = refl

pub not-over : (sc : Scenario) (p : ℕ) → (moment sc [] (suc p)).book.ended ≡ false → ((moment sc [] p).frame == sc.frames) ≡ false
unfolding step
not-over sc p h = by ((moment sc [] p).frame == sc.frames) refl
  where
    by : (b : Bool) → ((moment sc [] p).frame == sc.frames) ≡ b → b ≡ false
    by false e = refl
    by true e =
        true-false (sym (ap (λ b. (stepped sc [] (moment sc [] p) b (nat_lt (moment sc [] p).window (windows_in sc.sizes))).book.ended) e ∙ ended-end (moment sc [] p).book) ∙ h)

-- a node that is good throughout is good at the start of each frame
pub good-begin : (sc : Scenario) (name : NodeName) (frame : ℕ) → IsGoodThroughout sc name → frame ≤ sc.frames → is_good sc (kind_of name) (index_of name) frame 0 ≡ true
good-begin sc name frame good le = elim (cases_lt frame sc.frames) [
  | inl lt ↦ good_before sc (kind_of name) (index_of name) frame sc.frames 0 0 lt good
  | inr ge ↦ let e : frame ≡ sc.frames = omega arith in ap (λ f. is_good sc (kind_of name) (index_of name) f 0) e ∙ good
]

pub good-moment : (sc : Scenario) (name : NodeName) (p : ℕ) → IsGoodThroughout sc name → (moment sc [] p).book.ended ≡ false
    → is_good_at sc (moment sc [] p) (kind_of name) (index_of name) ≡ true
good-moment sc name p good going =
    let m : Moment = moment sc [] p in
    let runs : RunsIn sc m = runs-in sc [] p going in
    let bound : m.frame ≤ sc.frames = runs.bound in
    elim (cases_lt m.frame sc.frames) [
      | inl lt ↦ good_before sc (kind_of name) (index_of name) m.frame sc.frames (slot_numbered sc.sizes m.window) 0 lt good
      | inr ge ↦
          let e : m.frame ≡ sc.frames = omega arith in
          let w : m.window ≡ 0 = runs.at_first e in
          let z : slot_numbered sc.sizes 0 ≡ 0 = omega arith in
          ap (λ f. is_good sc (kind_of name) (index_of name) f (slot_numbered sc.sizes m.window)) e
          ∙ ap (λ w. is_good sc (kind_of name) (index_of name) sc.frames (slot_numbered sc.sizes w)) w
          ∙ ap (is_good sc (kind_of name) (index_of name) sc.frames) z ∙ good
    ]

pub record HasState (sc : Scenario) (name : NodeName) (m : Moment) : Type 0 where
  pub st : NodeState
  pub there : state_of name m ≡ Some st
  pub frame : st.frame ≡ m.frame

pub has-state : (sc : Scenario) (name : NodeName) (p : ℕ) → HasTicks sc.plan → is_good_at sc (moment sc [] p) (kind_of name) (index_of name) ≡ true
    → HasState sc name (moment sc [] p)
has-state sc name p ticks good =
    let state = good-state sc [] p (kind_of name) (index_of name) ticks good in
    let stand : AllStand sc (moment sc [] p) = moments-stand sc [] p ticks in
    let known : Stands sc (moment sc [] p) (kind_of name) state.0 = stand.stands (kind_of name) (index_of name) state.0 state.1 good in
    record { st = state.0; there = state.1; frame = known.frame }

-- Windows that tell nothing.

-- the window is a second stage below the sync slot
abbrev pub is_second : Sizes → ℕ → Bool
is_second sizes n = nat_lt n (3 * sync_slot_of sizes) && (n % 3 == 1)

not-two : {n : ℕ} (k : ℕ) → n ≡ k % 3 + 1 → (k % 3 == 1) ≡ false → (n == 2) ≡ false
not-two k e h = grind (arith, nat_tests)

four-not-two : {n : ℕ} → n ≡ 4 → (n == 2) ≡ false
four-not-two e = grind (arith, nat_tests)

pub nothing-told : {sc name m : _} → HasState sc name m → m.window ≤ stages_in sc.sizes → is_second sc.sizes m.window ≡ false → window_text sc name m ≡ []
nothing-told {sc} {name} {m} state within not_second =
    silent-window sc m name state.there (elim (cases_lt m.window (stages_in sc.sizes)) [
      | inl lt ↦
          let is_stage : (window_in sc m (kind_of name) st).stage ≡ m.window % 3 + 1 = stage-is-of sc.sizes sc.plan (kind_of name) st m.window lt in
          by (nat_lt m.window (3 * sync_slot_of sc.sizes)) (m.window % 3 == 1) refl refl not_second is_stage
      | inr ge ↦ and_left stage_two slot_below (four-not-two (tail-stage sc.sizes sc.plan (kind_of name) st (omega arith)))
    ])
  where
    st : NodeState
    st = state.st

    stage_two : Bool
    stage_two = (window_in sc m (kind_of name) st).stage == 2

    slot_below : Bool
    slot_below = not ((window_in sc m (kind_of name) st).slot == sync_slot_of sc.sizes)

    in_sync : (n s : ℕ) → nat_lt n (3 * s) ≡ false → min (n / 3) s ≡ s
    in_sync n s h = let le : 3 * s ≤ n = grind (arith, nat_tests) in omega arith

    by : (b c : Bool) → nat_lt m.window (3 * sync_slot_of sc.sizes) ≡ b → (m.window % 3 == 1) ≡ c → (b && c) ≡ false
        → (window_in sc m (kind_of name) st).stage ≡ m.window % 3 + 1 → (stage_two && slot_below) ≡ false
    by true true e f h stage = cc
    by b false e f h stage = and_left stage_two slot_below (not-two m.window stage f)
    by false true e f h stage =
        and_right stage_two slot_below
        (ap not (eq-eqb (window_in sc m (kind_of name) st).slot (sync_slot_of sc.sizes)
        (slot-is sc.sizes sc.plan (kind_of name) st m.window ∙ in_sync m.window (sync_slot_of sc.sizes) e)))

-- Lines that wait.

-- a slot's lines wait for its third stage
abbrev pub waits_now : Sizes → ℕ → Bool
waits_now sizes n = nat_lt n (3 * sync_slot_of sizes) && (n % 3 == 2)

abbrev pub waiting : Scenario → NodeName → Moment → List ℕ
waiting sc name m = if waits_now sc.sizes m.window then flat_map (delivered_by name m.frame (slot_numbered sc.sizes m.window)) m.book.lines else []

-- in a moment the records have all that the node has told but for what waits
pub record AreTold (sc : Scenario) (name : NodeName) (p : ℕ) : Type 0 where
  pub lines : lines_after name 0 (moment sc [] p).book.given ++ waiting sc name (moment sc [] p) ≡ told_up_to sc name p
  pub newest : newest_after 0 (moment sc [] p).book.given ≡ (moment sc [] p).frame

-- a step adds what the node tells to the records, or to what waits for one
pub record Adds (sc : Scenario) (name : NodeName) (m next : Moment) : Type 0 where
  pub more : List Record
  pub given : next.book.given ≡ m.book.given ++ more
  pub lines : lines_after name (newest_after 0 m.book.given) more ++ waiting sc name next ≡ waiting sc name m ++ step_text sc name m next
  pub newest : newest_after (newest_after 0 m.book.given) more ≡ next.frame

adds-told : {sc name p : _} → Adds sc name (moment sc [] p) (moment sc [] (suc p)) → AreTold sc name p → AreTold sc name (suc p)
adds-told {sc} {name} {p} adds told =
    let given : List Record = (moment sc [] p).book.given in
    let before : List ℕ = lines_after name 0 given in
    let now : List ℕ = lines_after name (newest_after 0 given) adds.more in
    let then_waits : List ℕ = waiting sc name (moment sc [] (suc p)) in
    let waits : List ℕ = waiting sc name (moment sc [] p) in
    let text : List ℕ = step_text sc name (moment sc [] p) (moment sc [] (suc p)) in
    record {
      lines = ap (λ l. lines_after name 0 l ++ then_waits) adds.given ∙ ap (λ l. l ++ then_waits) (lines-append name 0 given adds.more)
          ∙ append_assoc before now then_waits ∙ ap (λ l. before ++ l) adds.lines ∙ sym (append_assoc before waits text) ∙ ap (λ l. l ++ text) told.lines;
      newest = ap (newest_after 0) adds.given ∙ newest-append 0 given adds.more ∙ adds.newest;
    }

-- Stages.

pub record StageBook (sc : Scenario) (place : Place) (rows : Each (Option Row)) (b after : Book) : Type 0 where
  pub given : after.given ≡ b.given ++ slot_records sc.sizes place b.lines
  pub lines : after.lines ≡ (if place.stage == 2 then filter_map line_in rows.bius else b.lines)

stage-book : (sc : Scenario) (place : Place) (rows : Each (Option Row)) (b : Book) → (with_stage sc place rows b).ended ≡ false → StageBook sc place rows b (with_stage sc place rows b)
unfolding with_stage
stage-book sc place rows b = by b.ended refl (verdict_of stages)
  where
    stages : List JudgedStage
    stages = judged_of sc place rows ∷ b.stages

    by : (e : Bool) → b.ended ≡ e → (v : Option Cause) → (elim e as (λ _. Book) [ true ↦ b | false ↦ after_verdict sc.sizes place rows stages b v ]).ended ≡ false
        → StageBook sc place rows b (elim e as (λ _. Book) [ true ↦ b | false ↦ after_verdict sc.sizes place rows stages b v ])
    by true e v h = true-false (sym e ∙ h)
    by false e (Some cause) h = true-false h
    by false e None h = record { given = refl; lines = refl }

all-empty : {a b c d : List ℕ} → a ≡ [] → b ≡ [] → c ≡ [] → d ≡ [] → a ++ b ≡ c ++ d
all-empty e f g h = rw (e, f, g, h) refl

-- the record of a slot adds its lines if it is given, and nothing else
slot-record : (name : NodeName) (newest frame slot : ℕ) (lines : List SlotLine) (b : Bool)
    → (lines_after name newest (if b then Slot frame slot lines ∷ [] else []) ≡ (if b then flat_map (delivered_by name frame slot) lines else []))
    × (newest_after newest (if b then Slot frame slot lines ∷ [] else []) ≡ newest)
slot-record name newest frame slot lines true = (append-nil (flat_map (delivered_by name frame slot) lines), refl)
slot-record name newest frame slot lines false = (refl, refl)

record Counts (sizes : Sizes) (n : ℕ) : Type 0 where
  waits : waits_now sizes n ≡ ((n % 3 + 1 == 3) && nat_lt (slot_numbered sizes n) (sync_slot_of sizes))

counts : (sizes : Sizes) (n : ℕ) → Counts sizes n
counts sizes n = record {
  waits = elim (cases_lt n (3 * sync_slot_of sizes)) [
    | inl lt ↦
        let below : slot_numbered sizes n < sync_slot_of sizes = small n (sync_slot_of sizes) lt in
        ap (λ b. b && (n % 3 == 2)) (lt-ltb n (3 * sync_slot_of sizes) lt) ∙ two-three n
        ∙ sym (ap (λ b. (n % 3 + 1 == 3) && b) (lt-ltb (slot_numbered sizes n) (sync_slot_of sizes) below) ∙ and-true (n % 3 + 1 == 3))
    | inr ge ↦
        let above : sync_slot_of sizes ≤ slot_numbered sizes n = large n (sync_slot_of sizes) ge in
        ap (λ b. b && (n % 3 == 2)) (le-ltb n (3 * sync_slot_of sizes) ge)
        ∙ sym (and_right (n % 3 + 1 == 3) (nat_lt (slot_numbered sizes n) (sync_slot_of sizes)) (le-ltb (slot_numbered sizes n) (sync_slot_of sizes) above))
  ];
}
  where
    small : (n s : ℕ) → n < 3 * s → min (n / 3) s < s
    small n s h = omega arith

    large : (n s : ℕ) → 3 * s ≤ n → s ≤ min (n / 3) s
    large n s h = omega arith

    two-three : (n : ℕ) → (n % 3 == 2) ≡ (n % 3 + 1 == 3)
    two-three n = grind (arith, nat_tests)

    and-true : (a : Bool) → (a && true) ≡ a
    and-true true = refl
    and-true false = refl

-- a stage adds what its window told
stage-adds : {sc name : _} (p : ℕ) → HasState sc name (moment sc [] p) → (moment sc [] p).window < stages_in sc.sizes
    → (moment sc [] (suc p)).book.ended ≡ false → newest_after 0 (moment sc [] p).book.given ≡ (moment sc [] p).frame
    → Adds sc name (moment sc [] p) (moment sc [] (suc p))
unfolding step after_window
stage-adds {sc} {name} p state stage going newest =
    record {
      more = more;
      given = ap (λ (b : Book). b.given) book_is ∙ book.given;
      lines = lines_are;
      newest = ap (λ l. newest_after (newest_after 0 m.book.given) l) more_is ∙ added.1 ∙ newest ∙ sym later.frame;
    }
  where
    m : Moment
    m = moment sc [] p

    next : Moment
    next = moment sc [] (suc p)

    n : ℕ
    n = m.window

    slot : ℕ
    slot = slot_numbered sc.sizes n

    rows : Each (Option Row)
    rows = map_each (λ (me : Side) (i : ℕ) (r : Result). r.row) (results_of sc m)

    w : (w : Window) × ((slice_get (windows_of_frame sc.sizes sc.plan) n ≡ Some w) × ((w.slot ≡ slot) × (w.stage ≡ n % 3 + 1)))
    w = stage-window sc.sizes sc.plan n stage

    place : Place
    place = record { frame = m.frame; slot = slot; stage = n % 3 + 1 }

    inside : n < windows_in sc.sizes
    inside = omega (arith, stage)

    later : IsWindowLater sc m next
    later = window-later sc [] m inside

    in_frame : nat_lt n (windows_in sc.sizes) ≡ true
    in_frame = lt-ltb n (windows_in sc.sizes) inside

    book_is : next.book ≡ with_stage sc place rows m.book
    book_is =
        ap (λ b. (stepped sc [] m b (nat_lt n (windows_in sc.sizes))).book) (not-over sc p going)
        ∙ ap (λ b. (stepped sc [] m false b).book) in_frame
        ∙ ap (λ o. book_after sc m.frame o rows m.book) w.1.0
        ∙ ap (λ s. with_stage sc (record { frame = m.frame; slot = s; stage = w.0.stage }) rows m.book) w.1.1.0
        ∙ ap (λ s. with_stage sc (record { frame = m.frame; slot = slot; stage = s }) rows m.book) w.1.1.1

    book : StageBook sc place rows m.book (with_stage sc place rows m.book)
    book = stage-book sc place rows m.book (ap (λ (b : Book). b.ended) (sym book_is) ∙ going)

    more : List Record
    more = slot_records sc.sizes place m.book.lines

    newest_now : ℕ
    newest_now = newest_after 0 m.book.given

    is_now : waits_now sc.sizes n ≡ ((n % 3 + 1 == 3) && nat_lt slot (sync_slot_of sc.sizes))
    is_now = (counts sc.sizes n).waits

    more_is : more ≡ (if waits_now sc.sizes n then Slot m.frame slot m.book.lines ∷ [] else [])
    more_is = ap (λ b. if b then Slot m.frame slot m.book.lines ∷ [] else []) (sym is_now)

    added : (lines_after name newest_now (if waits_now sc.sizes n then Slot m.frame slot m.book.lines ∷ [] else []) ≡ waiting sc name m)
        × (newest_after newest_now (if waits_now sc.sizes n then Slot m.frame slot m.book.lines ∷ [] else []) ≡ newest_now)
    added = slot-record name newest_now m.frame slot m.book.lines (waits_now sc.sizes n)

    text : step_text sc name m next ≡ window_text sc name m
    text = cond-true (nat_lt n (windows_in sc.sizes)) (window_text sc name m) (block_text sc name next) in_frame

    -- what waits then is what the window told
    waits : waiting sc name next ≡ window_text sc name m
    waits = elim (cases_lt n (3 * sync_slot_of sc.sizes)) [
      | inr ge ↦
          cond-false (waits_now sc.sizes next.window) _ [] (and_left (nat_lt next.window (3 * sync_slot_of sc.sizes)) (next.window % 3 == 2)
          (le-ltb next.window (3 * sync_slot_of sc.sizes) (let e : next.window ≡ n + 1 = later.window in omega (arith, e, ge))))
          ∙ sym (nothing-told state (omega (arith, stage)) (and_left (nat_lt n (3 * sync_slot_of sc.sizes)) (n % 3 == 1) (le-ltb n (3 * sync_slot_of sc.sizes) ge)))
      | inl lt ↦ by (n % 3 == 1) refl lt
    ]
      where
        next_two : (n k : ℕ) → k ≡ n + 1 → (n % 3 == 1) ≡ true → (k % 3 == 2) ≡ true
        next_two n k e h = let one : n % 3 ≡ 1 = grind (arith, nat_tests) in eq-eqb (k % 3) 2 (omega arith)

        next_not : (n k : ℕ) → k ≡ n + 1 → (n % 3 == 1) ≡ false → (k % 3 == 2) ≡ false
        next_not n k e h = ne_eqb (k % 3) 2 (λ f. let g : n % 3 ≡ 1 = omega (arith, e, f) in true-false (sym (eq-eqb (n % 3) 1 g) ∙ h))

        still_below : (n s : ℕ) → n < 3 * s → (n % 3 == 1) ≡ true → n + 1 < 3 * s
        still_below n s h g = let one : n % 3 ≡ 1 = grind (arith, nat_tests) in omega (arith, h, one)

        same_slot : (n s : ℕ) → (n % 3 == 1) ≡ true → min ((n + 1) / 3) s ≡ min (n / 3) s
        same_slot n s g = let one : n % 3 ≡ 1 = grind (arith, nat_tests) in let e : (n + 1) / 3 ≡ n / 3 = omega (arith, one) in ap (λ k. min k s) e

        by : (b : Bool) → (n % 3 == 1) ≡ b → n < 3 * sync_slot_of sc.sizes → waiting sc name next ≡ window_text sc name m
        by false e lt =
            cond-false (waits_now sc.sizes next.window) _ [] (and_right (nat_lt next.window (3 * sync_slot_of sc.sizes)) (next.window % 3 == 2) (next_not n next.window later.window e))
            ∙ sym (nothing-told state (omega (arith, stage)) (and_right (nat_lt n (3 * sync_slot_of sc.sizes)) (n % 3 == 1) e))
        by true e lt =
            let below : next.window < 3 * sync_slot_of sc.sizes = subst (λ k. k < 3 * sync_slot_of sc.sizes) (sym later.window) (still_below n (sync_slot_of sc.sizes) lt e) in
            let two : (n % 3 + 1 == 2) ≡ true = let one : n % 3 ≡ 1 = grind (arith, nat_tests) in eq-eqb (n % 3 + 1) 2 (omega arith) in
            let told : next.book.lines ≡ filter_map line_in rows.bius = ap (λ (b : Book). b.lines) book_is ∙ book.lines ∙ cond-true (n % 3 + 1 == 2) (filter_map line_in rows.bius) m.book.lines two in
            cond-true (waits_now sc.sizes next.window) _ [] (and_from (nat_lt next.window (3 * sync_slot_of sc.sizes)) (next.window % 3 == 2)
            (lt-ltb next.window (3 * sync_slot_of sc.sizes) below) (next_two n next.window later.window e))
            ∙ ap (flat_map (delivered_by name next.frame (slot_numbered sc.sizes next.window))) told
            ∙ ap (λ f. flat_map (delivered_by name f (slot_numbered sc.sizes next.window)) (filter_map line_in rows.bius)) later.frame
            ∙ ap (λ k. flat_map (delivered_by name m.frame (slot_numbered sc.sizes k)) (filter_map line_in rows.bius)) later.window
            ∙ ap (λ s. flat_map (delivered_by name m.frame s) (filter_map line_in rows.bius)) (same_slot n (sync_slot_of sc.sizes) e)
            ∙ slot-lines sc m name state.there

    lines_are : lines_after name newest_now more ++ waiting sc name next ≡ waiting sc name m ++ step_text sc name m next
    lines_are =
        ap (λ l. lines_after name newest_now l ++ waiting sc name next) more_is ∙ ap (λ l. l ++ waiting sc name next) added.0
        ∙ ap (λ l. waiting sc name m ++ l) (waits ∙ sym text)

-- what the tail adds: nothing
tail-adds : {sc name : _} (p : ℕ) → HasState sc name (moment sc [] p) → (moment sc [] p).window ≡ stages_in sc.sizes
    → (moment sc [] (suc p)).book.ended ≡ false → newest_after 0 (moment sc [] p).book.given ≡ (moment sc [] p).frame
    → Adds sc name (moment sc [] p) (moment sc [] (suc p))
unfolding step after_window
tail-adds {sc} {name} p state tail going newest =
    let m : Moment = moment sc [] p in
    let next : Moment = moment sc [] (suc p) in
    let inside : m.window < windows_in sc.sizes = omega (arith, tail) in
    let later : IsWindowLater sc m next = window-later sc [] m inside in
    let window : next.window ≡ m.window + 1 = later.window in
    let in_frame : nat_lt m.window (windows_in sc.sizes) ≡ true = lt-ltb m.window (windows_in sc.sizes) inside in
    let rows : Each (Option Row) = map_each (λ (me : Side) (i : ℕ) (r : Result). r.row) (results_of sc m) in
    let same : next.book ≡ m.book =
    ap (λ b. (stepped sc [] m b (nat_lt m.window (windows_in sc.sizes))).book) (not-over sc p going)
    ∙ ap (λ b. (stepped sc [] m false b).book) in_frame
    ∙ ap (λ o. book_after sc m.frame o rows m.book) (no-window sc.sizes sc.plan m.window (omega (arith, tail))) in
    let above : 3 * sync_slot_of sc.sizes ≤ m.window = omega (arith, tail) in
    record {
      more = [];
      given = ap (λ (b : Book). b.given) same ∙ sym (append-nil m.book.given);
      lines = all-empty refl
          (cond-false (waits_now sc.sizes next.window) _ [] (and_left (nat_lt next.window (3 * sync_slot_of sc.sizes)) (next.window % 3 == 2) (le-ltb next.window (3 * sync_slot_of sc.sizes) (omega (arith, window, above)))))
          (cond-false (waits_now sc.sizes m.window) _ [] (and_left (nat_lt m.window (3 * sync_slot_of sc.sizes)) (m.window % 3 == 2) (le-ltb m.window (3 * sync_slot_of sc.sizes) above)))
          (cond-true (nat_lt m.window (windows_in sc.sizes)) (window_text sc name m) (block_text sc name next) in_frame
          ∙ nothing-told state (omega (arith, tail)) (and_left (nat_lt m.window (3 * sync_slot_of sc.sizes)) (m.window % 3 == 1) (le-ltb m.window (3 * sync_slot_of sc.sizes) above)));
      newest = newest ∙ sym later.frame;
    }

-- Frames.

frame-book : (sc : Scenario) (frame : ℕ) (begun : List Begun) (b : Book) → (with_frame sc frame begun b).ended ≡ false → (with_frame sc frame begun b).given ≡ b.given ++ frame_records frame begun
unfolding with_frame
frame-book sc frame begun b = by b.ended refl
  where
    by : (e : Bool) → b.ended ≡ e → (elim e as (λ _. Book) [
      | true ↦ b
      | false ↦ record {
        upcoming = if frame == sc.frames then End else Stage (record { frame = frame; slot = 0; stage = 1 });
        stages = [];
        lines = [];
        given = b.given ++ frame_records frame begun;
        ended = false;
      }
    ]).ended ≡ false → (elim e as (λ _. Book) [
      | true ↦ b
      | false ↦ record {
        upcoming = if frame == sc.frames then End else Stage (record { frame = frame; slot = 0; stage = 1 });
        stages = [];
        lines = [];
        given = b.given ++ frame_records frame begun;
        ended = false;
      }
    ]).given ≡ b.given ++ frame_records frame begun
    by true e h = true-false (sym e ∙ h)
    by false e h = refl

-- at the first window of a frame nothing waits
pub none-waits : (sc : Scenario) (name : NodeName) (m : Moment) → m.window ≡ 0 → waiting sc name m ≡ []
none-waits sc name m first =
    cond-false (waits_now sc.sizes m.window) _ [] (and_right (nat_lt m.window (3 * sync_slot_of sc.sizes)) (m.window % 3 == 2) (ap (λ k. k % 3 == 2) first))

end-adds : {sc : Scenario} {name : NodeName} (p : ℕ) → HasTicks sc.plan → IsGoodThroughout sc name → windows_in sc.sizes ≤ (moment sc [] p).window
    → (moment sc [] (suc p)).book.ended ≡ false → newest_after 0 (moment sc [] p).book.given ≡ (moment sc [] p).frame
    → Adds sc name (moment sc [] p) (moment sc [] (suc p))
unfolding step begin_frame
end-adds {sc} {name} p ticks good over going newest =
    let m : Moment = moment sc [] p in
    let next : Moment = moment sc [] (suc p) in
    let later : IsFrameLater sc [] m next = frame-later sc [] m over in
    let window : next.window ≡ 0 = later.window in
    let frame : next.frame ≡ m.frame + 1 = later.frame in
    let runs : RunsIn sc next = runs-in sc [] (suc p) going in
    let bound : next.frame ≤ sc.frames = runs.bound in
    let outside : nat_lt m.window (windows_in sc.sizes) ≡ false = le-ltb m.window (windows_in sc.sizes) over in
    let state : HasState sc name next = has-state sc name (suc p) ticks (good-moment sc name (suc p) good going) in
    let bs : List Begun = present (in_order (map_each (begun_if_good sc (m.frame + 1) m.ports) (next_frame sc [] m).nodes)) in
    let book_is : next.book ≡ with_frame sc (m.frame + 1) bs m.book =
    ap (λ b. (stepped sc [] m b (nat_lt m.window (windows_in sc.sizes))).book) (not-over sc p going)
    ∙ ap (λ b. (stepped sc [] m false b).book) outside in
    let lines : FrameLines sc name (m.frame + 1) (newest_after 0 m.book.given) state.st (frame_records (m.frame + 1) bs) =
    frame-lines sc (newest_after 0 m.book.given) m.ports (next_frame sc [] m).nodes name
    (ap (λ nodes. slice_get (of_kind (kind_of name) nodes) (index_of name)) (sym later.nodes) ∙ state.there)
    (good-begin sc name (m.frame + 1) good (omega (arith, bound, frame))) (state.frame ∙ frame) in
    let above : 3 * sync_slot_of sc.sizes ≤ m.window = omega (arith, over) in
    record {
      more = frame_records (m.frame + 1) bs;
      given = ap (λ (b : Book). b.given) book_is ∙ frame-book sc (m.frame + 1) bs m.book (ap (λ (b : Book). b.ended) (sym book_is) ∙ going);
      lines = ap (λ l. lines_after name (newest_after 0 m.book.given) (frame_records (m.frame + 1) bs) ++ l) (none-waits sc name next window)
          ∙ append-nil (lines_after name (newest_after 0 m.book.given) (frame_records (m.frame + 1) bs)) ∙ lines.lines
          ∙ sym (ap (λ o. if_there (λ st. epoch_lines name (Some (epoch_of sc.sizes (kind_of name) st))) o) state.there)
          ∙ sym (cond-false (nat_lt m.window (windows_in sc.sizes)) (window_text sc name m) (block_text sc name next) outside)
          ∙ ap (λ l. l ++ step_text sc name m next) (sym (cond-false (waits_now sc.sizes m.window) _ [] (and_left (nat_lt m.window (3 * sync_slot_of sc.sizes)) (m.window % 3 == 2) (le-ltb m.window (3 * sync_slot_of sc.sizes) above))));
      newest = lines.newest_is ∙ sym frame;
    }

-- Moments.

first-told : {sc : Scenario} {name : NodeName} → HasTicks sc.plan → IsGoodThroughout sc name → (moment sc [] 0).book.ended ≡ false → AreTold sc name 0
unfolding begin_frame
first-told {sc} {name} ticks good going =
    let m : Moment = moment sc [] 0 in
    let state : HasState sc name m = has-state sc name 0 ticks (good-moment sc name 0 good going) in
    let bs : List Begun = present (in_order (map_each (begun_if_good sc 0 (map (port_at sc []) (numbers sc.sizes.bius))) m.nodes)) in
    let given : m.book.given ≡ frame_records 0 bs = frame-book sc 0 bs fresh_book going in
    let lines : FrameLines sc name 0 0 state.st (frame_records 0 bs) =
    frame-lines sc 0 (map (port_at sc []) (numbers sc.sizes.bius)) m.nodes name state.there (good-begin sc name 0 good (omega arith)) state.frame in
    record {
      lines = ap (λ l. lines_after name 0 m.book.given ++ l) (none-waits sc name m refl) ∙ append-nil (lines_after name 0 m.book.given)
          ∙ ap (lines_after name 0) given ∙ lines.lines ∙ sym (ap (λ o. if_there (λ st. epoch_lines name (Some (epoch_of sc.sizes (kind_of name) st))) o) state.there);
      newest = ap (newest_after 0) given ∙ lines.newest_is;
    }

-- `AreTold` holds in each moment of a run that goes on
pub are-told : {sc : Scenario} {name : NodeName} → HasTicks sc.plan → IsGoodThroughout sc name → (p : ℕ) → (moment sc [] p).book.ended ≡ false → AreTold sc name p
are-told ticks good zero going = first-told ticks good going
are-told {sc} {name} ticks good (suc p) going =
    let m : Moment = moment sc [] p in
    let now : m.book.ended ≡ false = still-running sc p going in
    let told : AreTold sc name p = are-told ticks good p now in
    let state : HasState sc name m = has-state sc name p ticks (good-moment sc name p good now) in
    let adds : Adds sc name m (moment sc [] (suc p)) = elim (cases_lt m.window (stages_in sc.sizes)) [
      | inl stage ↦ stage-adds p state stage going told.newest
      | inr past ↦ elim (cases_lt m.window (windows_in sc.sizes)) [
        | inl inside ↦ tail-adds p state (omega (arith, past, inside)) going told.newest
        | inr over ↦ end-adds p ticks good over going told.newest
      ]
    ] in
    adds-told adds told
