-- The stages of a frame as they are judged: one for each window, the newest first.
use Rattle.std.proofs.{Common.{◌≡◌, ℕ, zero, suc, ◌+◌, ◌-◌, ◌*◌, ◌/◌, ◌%◌, ◌<◌, ◌≤◌, not, Bool, true, false, Option, Some, None, List, [], ◌∷◌, ◌++◌, length, slice_get, inl, inr, refl, sym, ◌∙◌, ap, subst, arith}, lemmas.Bool.{and_from, cases_lt, not_from_false}}
use Rattle.std.specs.List.{list_any}
use Rattle.rb_base.specs.{Nodes.{Side, has}, Nodes.Side.Biu, Sizes.sync_slot_of, declared.values.Place.Place, declared.values.See.See}
use Rattle.rb_rules.specs.{Book.{Begun, Book, Row, in_order, of_kind, judged_of, trusted_by, with_frame, with_stage}, ExactStage.present, Goodness.{Scenario, is_good}, Judging.{JudgedStage, is_suspect, verdict_of}, Lawful.IsLawful, Moments.{IsComplete, IsRunning, after_slot}, NodeState.{NodeState, trusted_of}, Ports.HandIn, Rounds.{Moment, begin_frame, moment, next_frame, step, windows_in}}
use Rattle.rb_laws_agreement.proofs.{Agreement.running_before, FrameBegins.{IsTurn, frame_turns}, Goodnesses.slot_last, Invariant.IsGoodNode, JudgedWindows.{IsPassed, first_row_trusts, nobody_trusted, passed, rows_of}, NextMoments.{book_exact, next}, NodeWindows.{Windows, sync_windows_are}, Places.{IsPlaced, placed}, Premises.{Premise, premise_holds}, SlotRuns.{next-frame, next-window, step_through}, SyncAgrees.{book_sync, book_tail}, Tests.or_neither_second}
use Rattle.rb_base.proofs.Sets.{has-set_of}
use Rattle.rb_laws_listener_near.specs.Judged.{HeardStage, heard_stages}

-- A stage more.

-- the place of a moment's window
abbrev pub place_at : Scenario → Moment → Place
place_at sc m = record { frame = m.frame; slot = m.window / 3; stage = m.window % 3 + 1 }

-- the window is judged, and gives no cause
pub record IsJudged (sc : Scenario) (m : Moment) : Type 0 where
  pub none : verdict_of (judged_of sc (place_at sc m) (rows_of sc m) ∷ m.book.stages) ≡ None
  pub stages : (next sc m).book.stages ≡ judged_of sc (place_at sc m) (rows_of sc m) ∷ m.book.stages

pub judged : (sc : Scenario) (m : Moment) → m.window < 3 * sync_slot_of sc.sizes + 3 → (next sc m).book.ended ≡ false → IsJudged sc m
judged sc m below on =
    elim (cases_lt m.window (3 * sync_slot_of sc.sizes)) [ inl exact ↦ in-exact exact | inr late ↦ in-sync (m.window - 3 * sync_slot_of sc.sizes) (omega (arith, below, late)) (omega (arith, late)) ]
  where
    by : (next sc m).book ≡ with_stage sc (place_at sc m) (rows_of sc m) m.book → IsJudged sc m
    by is =
        let p : IsPassed sc (place_at sc m) (rows_of sc m) m.book = passed sc (place_at sc m) (rows_of sc m) m.book (ap (λ b. b.ended) (sym is) ∙ on) in
        record { none = p.no_cause; stages = ap (λ b. b.stages) is ∙ ap (λ b. b.stages) p.is }

    in-exact : m.window < 3 * sync_slot_of sc.sizes → IsJudged sc m
    in-exact exact = by (book_exact sc m (m.window / 3) (m.window % 3) (omega (arith, exact)) (omega arith) (omega arith))

    in-sync : (q : ℕ) → q < 3 → m.window ≡ 3 * sync_slot_of sc.sizes + q → IsJudged sc m
    in-sync q small at =
        let slot : sync_slot_of sc.sizes ≡ m.window / 3 = omega (arith, small, at) in
        let stage : q ≡ m.window % 3 = omega (arith, small, at) in
        by (book_sync sc m q small at
        ∙ ap (λ k. with_stage sc (record { frame = m.frame; slot = k; stage = q + 1 }) (rows_of sc m) m.book) slot
        ∙ ap (λ k. with_stage sc (record { frame = m.frame; slot = m.window / 3; stage = k + 1 }) (rows_of sc m) m.book) stage)

-- A frame after the first.

-- the number of a frame's first moment
abbrev pub first_of_frame : Scenario → ℕ → ℕ
first_of_frame sc frame = frame * (windows_in sc.sizes + 1) + 3 * 0 + 1 - 1

frame-stages : (sc : Scenario) (frame : ℕ) (begun : List Begun) (b : Book) → b.ended ≡ false → (with_frame sc frame begun b).stages ≡ []
unfolding with_frame
frame-stages sc frame begun b open_book = rw (open_book, with_frame) refl

begun-none : (sc : Scenario) (hands : List HandIn) (m : Moment) → m.book.ended ≡ false → (next_frame sc hands m).book.stages ≡ []
unfolding begin_frame
begun-none sc hands m open_book = frame-stages sc (m.frame + 1) _ m.book open_book

-- the moment before window `w` of the frame has `w` judged stages
pub record IsAtWindow (sc : Scenario) (hands : List HandIn) (frame w : ℕ) : Type 0 where
  pub window_is : (moment sc hands (w + first_of_frame sc frame)).window ≡ w
  pub frame_is : (moment sc hands (w + first_of_frame sc frame)).frame ≡ frame
  pub long : length (moment sc hands (w + first_of_frame sc frame)).book.stages ≡ w

first-window : {sc hands : _} → IsLawful sc → {f : ℕ} → IsComplete sc hands f (sync_slot_of sc.sizes) → IsAtWindow sc hands (suc f) 0
first-window {sc} {hands} law {f} complete =
    let t : IsTurn sc hands f = frame_turns law complete in
    let p : IsPlaced sc hands (suc f) 0 1 = placed hands law (suc f) 0 1 (omega arith) (omega arith) (omega arith) t.running in
    let e : first_of_frame sc (suc f) ≡ 0 + first_of_frame sc (suc f) = omega arith in
    let open_before : (next sc (after_slot sc hands f (sync_slot_of sc.sizes))).book.ended ≡ false = ap (λ b. b.ended) (book_tail sc (after_slot sc hands f (sync_slot_of sc.sizes)) (tail-window sc hands law f complete)) ∙ complete in
    record {
      window_is = ap (λ k. (moment sc hands k).window) (sym e) ∙ omega (arith, p.window_is);
      frame_is = ap (λ k. (moment sc hands k).frame) (sym e) ∙ p.frame_is;
      long = ap (λ k. length (moment sc hands k).book.stages) (sym e) ∙ ap (λ m. length m.book.stages) (sym t.turn)
          ∙ ap length (begun-none sc hands (next sc (after_slot sc hands f (sync_slot_of sc.sizes))) open_before);
    }
  where
    tail-window : (sc : Scenario) (hands : List HandIn) → IsLawful sc → (f : ℕ) → IsComplete sc hands f (sync_slot_of sc.sizes) → (after_slot sc hands f (sync_slot_of sc.sizes)).window ≡ 3 * sync_slot_of sc.sizes + 3
    tail-window sc hands law f complete = (placed hands law f (sync_slot_of sc.sizes) 4 (omega arith) (omega arith) (omega arith) complete).window_is

-- the step of moment `k` goes through a window below the tail
pub record IsStepped (sc : Scenario) (hands : List HandIn) (k : ℕ) : Type 0 where
  pub is : moment sc hands (suc k) ≡ next sc (moment sc hands k)
  pub judged : IsJudged sc (moment sc hands k)

pub stepped : (sc : Scenario) (hands : List HandIn) (k : ℕ) → (moment sc hands k).window < 3 * sync_slot_of sc.sizes + 3 → IsRunning (moment sc hands (suc k)) → IsStepped sc hands k
stepped sc hands k below running =
    let is : step sc hands (moment sc hands k) ≡ next sc (moment sc hands k) = step_through sc hands (moment sc hands k) (omega (arith, below)) running in
    record { is = is; judged = judged sc (moment sc hands k) below (ap (λ m. m.book.ended) (sym is) ∙ running) }

pub at-window : {sc hands : _} → IsLawful sc → {f : ℕ} → IsComplete sc hands f (sync_slot_of sc.sizes) → (w : ℕ) → w ≤ 3 * sync_slot_of sc.sizes + 3
    → IsRunning (moment sc hands (w + first_of_frame sc (suc f))) → IsAtWindow sc hands (suc f) w
at-window law complete zero few running = first-window law complete
at-window {sc} {hands} law {f} complete (suc w) few running =
    let e : suc (w + first_of_frame sc (suc f)) ≡ suc w + first_of_frame sc (suc f) = omega arith in
    let on : IsRunning (moment sc hands (suc (w + first_of_frame sc (suc f)))) = subst (λ k. IsRunning (moment sc hands k)) (sym e) running in
    let before : IsAtWindow sc hands (suc f) w =
    at-window law complete w (omega (arith, few)) (running_before sc hands (moment sc hands (w + first_of_frame sc (suc f))) on) in
    let s : IsStepped sc hands (w + first_of_frame sc (suc f)) = stepped sc hands (w + first_of_frame sc (suc f)) (omega (arith, few, before.window_is)) on in
    record {
      window_is = ap (λ k. (moment sc hands k).window) (sym e)
          ∙ omega (arith, ap (λ m. m.window) s.is, next-window sc (moment sc hands (w + first_of_frame sc (suc f))), before.window_is);
      frame_is = ap (λ k. (moment sc hands k).frame) (sym e) ∙ ap (λ m. m.frame) s.is ∙ next-frame sc (moment sc hands (w + first_of_frame sc (suc f))) ∙ before.frame_is;
      long = ap (λ k. length (moment sc hands k).book.stages) (sym e) ∙ ap (λ m. length m.book.stages) s.is ∙ ap length s.judged.stages ∙ ap suc before.long;
    }

-- moment `k` has the stages of moment `n`, with more before them
pub record Grows (sc : Scenario) (hands : List HandIn) (n k : ℕ) : Type 0 where
  pub more : List JudgedStage
  pub is : (moment sc hands k).book.stages ≡ more ++ (moment sc hands n).book.stages

pub grows : {sc hands : _} → IsLawful sc → (f : ℕ) → IsComplete sc hands f (sync_slot_of sc.sizes) → (d w : ℕ) → d + w ≤ 3 * sync_slot_of sc.sizes + 3
    → IsRunning (moment sc hands (d + (w + first_of_frame sc (suc f)))) → Grows sc hands (w + first_of_frame sc (suc f)) (d + (w + first_of_frame sc (suc f)))
grows {sc} {hands} law f complete zero w few running =
    let e : w + first_of_frame sc (suc f) ≡ 0 + (w + first_of_frame sc (suc f)) = omega arith in
    record { more = []; is = ap (λ k. (moment sc hands k).book.stages) (sym e) }
grows {sc} {hands} law f complete (suc d) w few running =
    let k : ℕ = d + (w + first_of_frame sc (suc f)) in
    let e : suc (d + (w + first_of_frame sc (suc f))) ≡ suc d + (w + first_of_frame sc (suc f)) = omega arith in
    let g : d + (w + first_of_frame sc (suc f)) ≡ d + w + first_of_frame sc (suc f) = omega arith in
    let on : IsRunning (moment sc hands (suc (d + (w + first_of_frame sc (suc f))))) = subst (λ k. IsRunning (moment sc hands k)) (sym e) running in
    let open_before : IsRunning (moment sc hands (d + (w + first_of_frame sc (suc f)))) = running_before sc hands (moment sc hands (d + (w + first_of_frame sc (suc f)))) on in
    let at : IsAtWindow sc hands (suc f) (d + w) =
    at-window law complete (d + w) (omega (arith, few)) (subst (λ k. IsRunning (moment sc hands k)) g open_before) in
    let s : IsStepped sc hands (d + (w + first_of_frame sc (suc f))) =
    stepped sc hands (d + (w + first_of_frame sc (suc f))) (omega (arith, few, ap (λ k. (moment sc hands k).window) g, at.window_is)) on in
    let before : Grows sc hands (w + first_of_frame sc (suc f)) (d + (w + first_of_frame sc (suc f))) = grows law f complete d w (omega (arith, few)) open_before in
    record {
      more = judged_of sc (place_at sc (moment sc hands (d + (w + first_of_frame sc (suc f))))) (rows_of sc (moment sc hands (d + (w + first_of_frame sc (suc f))))) ∷ before.more;
      is =
          ap (λ k. (moment sc hands k).book.stages) (sym e) ∙ ap (λ m. m.book.stages) s.is ∙ s.judged.stages
          ∙ ap (λ l. judged_of sc (place_at sc (moment sc hands (d + (w + first_of_frame sc (suc f))))) (rows_of sc (moment sc hands (d + (w + first_of_frame sc (suc f))))) ∷ l) before.is;
    }

-- What is so of none of the stages was so of none of fewer.
pub fewer-none : (p : HeardStage → Bool) (seen : ℕ → JudgedStage → Option (ℕ → See)) (more stages : List JudgedStage) → list_any p (heard_stages seen (more ++ stages)) ≡ false
    → list_any p (heard_stages seen stages) ≡ false
fewer-none p seen [] stages h = h
fewer-none p seen (s ∷ more) stages h =
    fewer-none p seen more stages (or_neither_second (p (record { stage = s; seen = seen (length (more ++ stages)) s })) (list_any p (heard_stages seen (more ++ stages))) h)

-- The last stage.

-- the judge is told whom all good nodes trust
pub told-now : {sc m slot stage : _} (ws : Windows sc m slot stage) (p : Place) (trusted : Side → ℕ)
    → ((me : Side) (i : ℕ) (st : NodeState) → slice_get (of_kind me m.nodes) i ≡ Some st → is_good sc me i m.frame slot ≡ true → (side : Side) → trusted_of side me st ≡ trusted side)
    → verdict_of (judged_of sc p (rows_of sc m) ∷ m.book.stages) ≡ None → (kind : Side) → (judged_of sc p (rows_of sc m)).trusted kind ≡ trusted kind
told-now {sc} {m} ws p trusted all none kind = go (present (in_order (rows_of sc m))) refl
  where
    go : (rows : List Row) → present (in_order (rows_of sc m)) ≡ rows → (judged_of sc p (rows_of sc m)).trusted kind ≡ trusted kind
    go [] is =
        let nobody : Premise sc p.frame p.slot (λ kind. 0) (judged_of sc p (rows_of sc m) ∷ m.book.stages) =
        premise_holds sc p.frame p.slot (λ kind. 0) (judged_of sc p (rows_of sc m) ∷ m.book.stages) (λ kind. ap (trusted_by kind) is) (λ kind. refl) none in
        absurd (nobody_trusted (λ j. is_good sc Biu j p.frame p.slot) (omega (arith, nobody.most Biu)))
    go (r ∷ rs) is = ap (trusted_by kind) is ∙ first_row_trusts ws trusted all r rs is kind

-- after the last stage of a frame a trusted node that is not good is suspect
pub last-suspects : {sc : _} (hands : List HandIn) → IsLawful sc → (k : ℕ) → (moment sc hands k).window ≡ 3 * sync_slot_of sc.sizes + 2 → IsRunning (moment sc hands (suc k)) → (kind : Side) (j : ℕ) → j < 16
    → (trusted : Side → ℕ) → ((me : Side) (i : ℕ) (st : NodeState) → IsGoodNode sc (moment sc hands k) me i st → (side : Side) → trusted_of side me st ≡ trusted side)
    → has (trusted kind) j ≡ true → is_good sc kind j (moment sc hands k).frame (sync_slot_of sc.sizes) ≡ false → is_suspect kind (moment sc hands (suc k)).book.stages j ≡ true
last-suspects {sc} hands law k at running kind j small trusted all t faulty =
    subst (λ l. is_suspect kind l j ≡ true) (sym (ap (λ m. m.book.stages) s.is ∙ s.judged.stages))
    (and_from (has newest_trusted j) (not (has newest_good j)) (ap (λ x. has x j) told ∙ t)
    (not_from_false (has newest_good j)
    (has-set_of j (λ i. is_good sc kind i (moment sc hands k).frame ((moment sc hands k).window / 3)) small ∙ ap (is_good sc kind j (moment sc hands k).frame) slot ∙ faulty)))
  where
    s : IsStepped sc hands k
    s = stepped sc hands k (omega (arith, at)) running

    newest_trusted : ℕ
    newest_trusted = (judged_of sc (place_at sc (moment sc hands k)) (rows_of sc (moment sc hands k))).trusted kind

    newest_good : ℕ
    newest_good = (judged_of sc (place_at sc (moment sc hands k)) (rows_of sc (moment sc hands k))).good kind

    slot : (moment sc hands k).window / 3 ≡ sync_slot_of sc.sizes
    slot = omega (arith, at)

    told : (judged_of sc (place_at sc (moment sc hands k)) (rows_of sc (moment sc hands k))).trusted kind ≡ trusted kind
    told =
        told-now (sync_windows_are sc (moment sc hands k) 2 (omega arith) at) (place_at sc (moment sc hands k)) trusted
        (λ me i st there good side.
        all me i st (record { there = there; good = ap (is_good sc me i (moment sc hands k).frame) (slot_last sc.sizes 2 at) ∙ good }) side) s.judged.none kind
