-- Each record of a slot is that of a complete slot: its lines are the last that are given with it.
use Rattle.std.proofs.{Common.{◌≡◌, ℕ, zero, suc, ◌+◌, ◌-◌, ◌*◌, ◌%◌, ◌<◌, ◌==◌, ◌&&◌, ◌⊎◌, nat_lt, All, Bool, true, false, Option, Some, None, List, [], ◌∷◌, ◌++◌, slice_get, if◌then◌else◌, inl, inr, refl, sym, ap, ◌∙◌, subst, arith}, lemmas.Bool.cases_lt, lemmas.Bool.Decides.nat_tests, lemmas.List.append-nil, lemmas.List.Elements.{All-append, All-cons, All-nil}}
use Rattle.std.specs.Prelude.{⊤}
use Rattle.rb_base.specs.{Sizes.{Sizes, sync_slot_of}, declared.values.Place.Place}
use Rattle.rb_rules.specs.{declared.cause.Cause.Cause, declared.plan.Window.Window, declared.record.SlotLine.SlotLine, Book.{Begun, Book, Each, Record, Row, after_verdict, frame_records, judged_of, with_end, with_frame, with_stage}, Book.Milestone.{End, Stage}, Book.Record.{Frame, Slot, Ended, Breach}, Goodness.Scenario, Judging.{JudgedStage, verdict_of}, Moments.{IsComplete, after_slot}, Ports.HandIn, Rounds.{Moment, after_window, begin_frame, book_after, moment, records_of, step, steps_of, windows_in}, Windows.windows_of_frame}
use Rattle.rb_rules.proofs.Books.{records-are, stepped}
use Rattle.rb_laws_events.specs.Closing.{stages_in}
use Rattle.rb_laws_events.proofs.{MomentBooks.{no-window, number-of, stage-window}, RoundNodes.slot_numbered}

-- What a step adds.

-- the last stage of the slot is window `n` of the frame, and the run goes on after it
record IsSlotOf (sizes : Sizes) (frame n : ℕ) (after : Book) (f s : ℕ) : Type 0 where
  frame_is : f ≡ frame
  window : n ≡ 3 * s + 2
  below : s < sync_slot_of sizes
  going : after.ended ≡ false

abbrev IsAdded : Sizes → ℕ → ℕ → Book → Record → Type 0
IsAdded sizes frame n after (Frame f nodes ports) = ⊤
IsAdded sizes frame n after (Slot f s lines) = IsSlotOf sizes frame n after f s
IsAdded sizes frame n after Ended = ⊤
IsAdded sizes frame n after (Breach place cause) = ⊤

abbrev Adds : Sizes → ℕ → ℕ → Book → Book → Type 0
Adds sizes frame n before after = (after.given ≡ before.given) ⊎ ((r : Record) × ((after.given ≡ before.given ++ r ∷ []) × IsAdded sizes frame n after r))

numbered : (sizes : Sizes) (n : ℕ) → n % 3 + 1 ≡ 3 → slot_numbered sizes n < sync_slot_of sizes → n ≡ 3 * slot_numbered sizes n + 2
numbered sizes n e lt = omega (arith, e, lt)

adds-verdict : (sizes : Sizes) (frame n : ℕ) (w : Window) (rows : Each (Option Row)) (stages : List JudgedStage) (b : Book) (v : Option Cause)
    → w.slot ≡ slot_numbered sizes n → w.stage ≡ n % 3 + 1
    → Adds sizes frame n b (after_verdict sizes (record { frame = frame; slot = w.slot; stage = w.stage }) rows stages b v)
adds-verdict sizes frame n w rows stages b None slot stage = by (w.stage == 3) (nat_lt w.slot (sync_slot_of sizes)) refl refl
  where
    place : Place
    place = record { frame = frame; slot = w.slot; stage = w.stage }

    after : Book
    after = after_verdict sizes place rows stages b None

    third : (m : ℕ) → (m == 3) ≡ true → m ≡ 3
    third m h = grind (arith, nat_tests)

    under : (m k : ℕ) → nat_lt m k ≡ true → m < k
    under m k h = grind (arith, nat_tests)

    by : (c d : Bool) → (w.stage == 3) ≡ c → nat_lt w.slot (sync_slot_of sizes) ≡ d → Adds sizes frame n b after
    by true true e f =
        let third_is : n % 3 + 1 ≡ 3 = sym stage ∙ third w.stage e in
        let lt : w.slot < sync_slot_of sizes = under w.slot (sync_slot_of sizes) f in
        let below : slot_numbered sizes n < sync_slot_of sizes = subst (λ s. s < sync_slot_of sizes) slot lt in
        inr (
          Slot frame w.slot b.lines,
          (
            ap (λ c. b.given ++ (if c && nat_lt w.slot (sync_slot_of sizes) then Slot frame w.slot b.lines ∷ [] else [])) e
                ∙ ap (λ d. b.given ++ (if true && d then Slot frame w.slot b.lines ∷ [] else [])) f,
            record { frame_is = refl; window = numbered sizes n third_is below ∙ ap (λ s. 3 * s + 2) (sym slot); below = lt; going = refl },
          ),
        )
    by true false e f =
        inl (ap (λ c. b.given ++ (if c && nat_lt w.slot (sync_slot_of sizes) then Slot frame w.slot b.lines ∷ [] else [])) e
        ∙ ap (λ d. b.given ++ (if true && d then Slot frame w.slot b.lines ∷ [] else [])) f ∙ append-nil b.given)
    by false d e f =
        inl (ap (λ c. b.given ++ (if c && nat_lt w.slot (sync_slot_of sizes) then Slot frame w.slot b.lines ∷ [] else [])) e ∙ append-nil b.given)
adds-verdict sizes frame n w rows stages b (Some cause) slot stage = inr (Breach (record { frame = frame; slot = w.slot; stage = w.stage }) cause, (refl, tt))

-- a book that has ended stays, another becomes x
abbrev guarded : Bool → Book → Book → Book
guarded ended b x = elim ended as (λ _. Book) [ true ↦ b | false ↦ x ]

adds-guarded : {sizes frame n : _} (b : Book) {x : _} (e : Bool) → Adds sizes frame n b x → Adds sizes frame n b (guarded e b x)
adds-guarded b true h = inl refl
adds-guarded b false h = h

adds-stage : (sc : Scenario) (frame n : ℕ) (w : Window) (rows : Each (Option Row)) (b : Book) → w.slot ≡ slot_numbered sc.sizes n → w.stage ≡ n % 3 + 1
    → Adds sc.sizes frame n b (with_stage sc (record { frame = frame; slot = w.slot; stage = w.stage }) rows b)
unfolding with_stage
adds-stage sc frame n w rows b slot stage =
    let place : Place = record { frame = frame; slot = w.slot; stage = w.stage } in
    let stages : List JudgedStage = judged_of sc place rows ∷ b.stages in
    adds-guarded b b.ended
    (adds-verdict sc.sizes frame n w rows stages b (verdict_of stages) slot stage)

adds-begun : (sizes : Sizes) (frame n f : ℕ) (begun : List Begun) (b x : Book) → x.given ≡ b.given ++ frame_records f begun → Adds sizes frame n b x
adds-begun sizes frame n f [] b x e = inl (e ∙ append-nil b.given)
adds-begun sizes frame n f (g ∷ gs) b x e = inr (_, (e, tt))

adds-frame : (sc : Scenario) (frame n f : ℕ) (begun : List Begun) (b : Book) → Adds sc.sizes frame n b (with_frame sc f begun b)
unfolding with_frame
adds-frame sc frame n f begun b =
    let x : Book = record {
      upcoming = if f == sc.frames then End else Stage (record { frame = f; slot = 0; stage = 1 });
      stages = [];
      lines = [];
      given = b.given ++ frame_records f begun;
      ended = false;
    } in
    adds-guarded b b.ended (adds-begun sc.sizes frame n f begun b x refl)

adds-end : (sizes : Sizes) (frame n : ℕ) (b : Book) → Adds sizes frame n b (with_end b)
adds-end sizes frame n b = adds-guarded b b.ended (inr (Ended, (refl, tt)))

adds-window : (sc : Scenario) (m : Moment) (rows : Each (Option Row)) (o : Option Window) → slice_get (windows_of_frame sc.sizes sc.plan) m.window ≡ o
    → Adds sc.sizes m.frame m.window m.book (book_after sc m.frame o rows m.book)
adds-window sc m rows None e = inl refl
adds-window sc m rows (Some w) e =
    elim (cases_lt m.window (stages_in sc.sizes)) [
      | inl lt ↦
          let x = stage-window sc.sizes sc.plan m.window lt in
          let same : w ≡ x.0 = some-same w x.0 (sym e ∙ x.1.0) in
          adds-stage sc m.frame m.window w rows m.book (ap (λ (w : Window). w.slot) same ∙ x.1.1.0) (ap (λ (w : Window). w.stage) same ∙ x.1.1.1)
      | inr ge ↦ absurd (none-some w (sym (no-window sc.sizes sc.plan m.window ge) ∙ e))
    ]
  where
    none-some : (w : Window) → None ≡ Some w → ⊥
    none-some w e = cc

    some-same : (a b : Window) → Some a ≡ Some b → a ≡ b
    some-same a b e = cc

adds-stepped : (sc : Scenario) (hands : List HandIn) (m : Moment) (over in_frame : Bool) → Adds sc.sizes m.frame m.window m.book (stepped sc hands m over in_frame).book
unfolding after_window begin_frame
adds-stepped sc hands m true in_frame = adds-end sc.sizes m.frame m.window m.book
adds-stepped sc hands m false true = adds-window sc m _ (slice_get (windows_of_frame sc.sizes sc.plan) m.window) refl
adds-stepped sc hands m false false = adds-frame sc m.frame m.window (m.frame + 1) _ m.book

adds-step : (sc : Scenario) (hands : List HandIn) (m : Moment) → Adds sc.sizes m.frame m.window m.book (step sc hands m).book
unfolding step
adds-step sc hands m = adds-stepped sc hands m (m.frame == sc.frames) (nat_lt m.window (windows_in sc.sizes))

-- All records.

-- the slot is complete, and its record with these lines is the last that is given with it
pub record IsRecorded (sc : Scenario) (hands : List HandIn) (frame slot : ℕ) (lines : List SlotLine) : Type 0 where
  pub below : slot < sync_slot_of sc.sizes
  pub complete : IsComplete sc hands frame slot
  pub before : List Record
  pub is : (after_slot sc hands frame slot).book.given ≡ before ++ Slot frame slot lines ∷ []

abbrev pub IsOfSlot : Scenario → List HandIn → Record → Type 0
IsOfSlot sc hands (Frame frame nodes ports) = ⊤
IsOfSlot sc hands (Slot frame slot lines) = IsRecorded sc hands frame slot lines
IsOfSlot sc hands Ended = ⊤
IsOfSlot sc hands (Breach place cause) = ⊤

added-is : (sc : Scenario) (hands : List HandIn) (p : ℕ) (r : Record)
    → (moment sc hands (suc p)).book.given ≡ (moment sc hands p).book.given ++ r ∷ []
    → IsAdded sc.sizes (moment sc hands p).frame (moment sc hands p).window (moment sc hands (suc p)).book r → IsOfSlot sc hands r
added-is sc hands p (Frame f nodes ports) e is = tt
added-is sc hands p (Slot f s lines) e is =
    let size : ℕ = windows_in sc.sizes + 1 in
    let number : p ≡ (moment sc hands p).frame * size + (moment sc hands p).window = (number-of sc hands p).0 in
    let frame_is : (moment sc hands p).frame * size ≡ f * size = ap (λ x. x * size) (sym is.frame_is) in
    let there : suc p ≡ f * size + 3 * s + 4 - 1 = place (f * size) ((moment sc hands p).frame * size) (moment sc hands p).window number frame_is is.window in
    record {
      below = is.below;
      complete = subst (λ n. (moment sc hands n).book.ended ≡ false) there is.going;
      before = (moment sc hands p).book.given;
      is = subst (λ n. (moment sc hands n).book.given ≡ (moment sc hands p).book.given ++ Slot f s lines ∷ []) there e;
    }
  where
    place : (a b w : ℕ) → p ≡ b + w → b ≡ a → w ≡ 3 * s + 2 → suc p ≡ a + 3 * s + 4 - 1
    place a b w h k l = omega (arith, h, k, l)
added-is sc hands p Ended e is = tt
added-is sc hands p (Breach place cause) e is = tt

all-of-moment : (sc : Scenario) (hands : List HandIn) (p : ℕ) → All (IsOfSlot sc hands) (moment sc hands p).book.given
unfolding begin_frame with_frame
all-of-moment sc hands zero = by _
  where
    by : (begun : List Begun) → All (IsOfSlot sc hands) ([] ++ frame_records 0 begun)
    by [] = All-nil (IsOfSlot sc hands)
    by (g ∷ gs) = All-cons (IsOfSlot sc hands) _ [] tt (All-nil (IsOfSlot sc hands))
all-of-moment sc hands (suc p) = by (adds-step sc hands (moment sc hands p)) (all-of-moment sc hands p)
  where
    by : Adds sc.sizes (moment sc hands p).frame (moment sc hands p).window (moment sc hands p).book (moment sc hands (suc p)).book
        → All (IsOfSlot sc hands) (moment sc hands p).book.given → All (IsOfSlot sc hands) (moment sc hands (suc p)).book.given
    by (inl same) before = subst (All (IsOfSlot sc hands)) (sym same) before
    by (inr added) before =
        subst (All (IsOfSlot sc hands)) (sym added.1.0)
        (All-append (IsOfSlot sc hands) (moment sc hands p).book.given (added.0 ∷ []) before
        (All-cons (IsOfSlot sc hands) added.0 [] (added-is sc hands p added.0 added.1.0 added.1.1) (All-nil (IsOfSlot sc hands))))

-- `IsOfSlot` holds for each record of the scenario
pub all-recorded : (sc : Scenario) (hands : List HandIn) → All (IsOfSlot sc hands) (records_of sc hands)
all-recorded sc hands = subst (All (IsOfSlot sc hands)) (sym (records-are sc hands)) (all-of-moment sc hands (steps_of sc))
