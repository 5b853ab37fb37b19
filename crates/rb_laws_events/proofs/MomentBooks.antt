-- For the law that events are rounds: the number of a moment, and what its book settles next.
use Rattle.std.proofs.{Common.{◌≡◌, ℕ, zero, suc, ◌+◌, ◌*◌, ◌-◌, ◌%◌, ◌<◌, ◌≤◌, ◌==◌, nat_lt, Bool, true, false, refl, ap, sym, ◌∙◌, subst, arith, inl, inr, List, [], ◌∷◌, ◌++◌, Option, Some, None, slice_get, if◌then◌else◌}, lemmas.Bool.{cases_lt, lt-ltb, le-ltb}, lemmas.Bool.Decides.nat_tests, lemmas.Option.slice_get_past}
use Rattle.rb_base.specs.{Sizes.{Sizes, sync_slot_of}, declared.values.Place.Place, Nodes.Side, Nodes.Side.Biu}
use Rattle.rb_rules.specs.{declared.cause.Cause.Cause, declared.plan.Plan.Plan, declared.plan.Window.Window, Book.{Begun, Book, Each, Milestone, Row, after_stage, after_verdict, fresh_book, frame_records, judged_of, with_frame, with_stage}, Book.Milestone.{Begin, Stage, End}, Goodness.Scenario, Judging.{JudgedStage, verdict_of}, NodeState.{NodeState, first_state}, Ports.HandIn, Rounds.{Moment, after_window, begin_frame, book_after, moment, step, windows_in}, Windows.windows_of_frame, Hearing.window_numbered}
use Rattle.rb_base.proofs.Plain.{true-false, less-differs}
use Rattle.rb_rules.proofs.{Books.stepped, WindowNumbers.{exact-numbered, sync-numbered}}
use Rattle.rb_laws_agreement.proofs.Agreement.{ended-end}
use Rattle.rb_laws_events.specs.Closing.{stages_in}
use Rattle.rb_laws_events.proofs.{CloseOrder.{IsFrameLater, IsWindowLater, frame-later, window-later}, RoundNodes.{slot-is, slot_numbered}, TickWindows.{get-window, how-many}}

-- Numbers.

-- the moments of each frame are its windows and its end
pub number-of : (sc : Scenario) (hands : List HandIn) (p : ℕ)
    → (p ≡ (moment sc hands p).frame * (windows_in sc.sizes + 1) + (moment sc hands p).window) × ((moment sc hands p).window ≤ windows_in sc.sizes)
unfolding begin_frame
number-of sc hands zero = (omega arith, omega arith)
number-of sc hands (suc p) =
    let m : Moment = moment sc hands p in
    let before = number-of sc hands p in
    let n : ℕ = windows_in sc.sizes + 1 in
    elim (cases_lt m.window (windows_in sc.sizes)) [
      | inl lt ↦
          let next : IsWindowLater sc m (moment sc hands (suc p)) = window-later sc hands m lt in
          let w : (moment sc hands (suc p)).window ≡ m.window + 1 = next.window in
          let f : (moment sc hands (suc p)).frame * n ≡ m.frame * n = ap (λ f. f * n) next.frame in
          (omega (arith, before.0, w, f), omega arith)
      | inr ge ↦
          let next : IsFrameLater sc hands m (moment sc hands (suc p)) = frame-later sc hands m ge in
          let w : (moment sc hands (suc p)).window ≡ 0 = next.window in
          let f : (moment sc hands (suc p)).frame * n ≡ (m.frame + 1) * n = ap (λ f. f * n) next.frame in
          let g : (m.frame + 1) * n ≡ m.frame * n + n = one-more m.frame n in
          (omega (arith, before.0, before.1, ge, w, f, g), omega arith)
    ]
  where
    one-more : (a n : ℕ) → (a + 1) * n ≡ a * n + n
    one-more a n = omega arith

-- a moment is known by its frame and its window
pub one-number : (sc : Scenario) (hands : List HandIn) (p q : ℕ) → (moment sc hands p).frame ≡ (moment sc hands q).frame
    → (moment sc hands p).window ≡ (moment sc hands q).window → p ≡ q
one-number sc hands p q e f =
    let a = number-of sc hands p in
    let b = number-of sc hands q in
    let g : (moment sc hands p).frame * (windows_in sc.sizes + 1) ≡ (moment sc hands q).frame * (windows_in sc.sizes + 1) = ap (λ x. x * (windows_in sc.sizes + 1)) e in
    omega (arith, a.0, b.0, g, f)

-- Places.

-- the place of a moment's stage
abbrev pub place_at : Sizes → Moment → Place
place_at sizes m = record { frame = m.frame; slot = slot_numbered sizes m.window; stage = m.window % 3 + 1 }

-- the slot and the stage of a moment fix its window
pub one-place : (sizes : Sizes) (m x : Moment) → m.window < stages_in sizes → x.window < stages_in sizes
    → slot_numbered sizes m.window ≡ slot_numbered sizes x.window → m.window % 3 + 1 ≡ x.window % 3 + 1 → m.window ≡ x.window
one-place sizes m x a b e f = omega arith

sync-stage : (sizes : Sizes) (plan : Plan) (st : NodeState) (r : ℕ) → r < 3 → (window_numbered sizes plan Biu st (3 * sync_slot_of sizes + r)).stage ≡ (3 * sync_slot_of sizes + r) % 3 + 1
sync-stage sizes plan st zero h = ap (λ w. w.stage) (sync-numbered sizes plan Biu st 0) ∙ omega arith
sync-stage sizes plan st (suc zero) h = ap (λ w. w.stage) (sync-numbered sizes plan Biu st 1) ∙ omega arith
sync-stage sizes plan st (suc (suc zero)) h = ap (λ w. w.stage) (sync-numbered sizes plan Biu st 2) ∙ omega arith
sync-stage sizes plan st (suc (suc (suc r))) h = absurd (omega arith)

stage-is : (sizes : Sizes) (plan : Plan) (st : NodeState) (n : ℕ) → n < stages_in sizes → (window_numbered sizes plan Biu st n).stage ≡ n % 3 + 1
stage-is sizes plan st n h =
    elim (cases_lt n (3 * sync_slot_of sizes)) [
      | inl lt ↦ ap (λ w. w.stage) (exact-numbered sizes plan Biu st n lt)
      | inr ge ↦
          let r : ℕ = n - 3 * sync_slot_of sizes in
          let e : 3 * sync_slot_of sizes + r ≡ n = omega arith in
          subst (λ n. (window_numbered sizes plan Biu st n).stage ≡ n % 3 + 1) e (sync-stage sizes plan st r (omega arith))
    ]

pub stage-is-of : (sizes : Sizes) (plan : Plan) (me : Side) (st : NodeState) (n : ℕ) → n < stages_in sizes → (window_numbered sizes plan me st n).stage ≡ n % 3 + 1
stage-is-of sizes plan me st n h =
    let a : slice_get (windows_of_frame sizes plan) n ≡ Some (window_numbered sizes plan me st n) = get-window sizes plan me st n h in
    let b : slice_get (windows_of_frame sizes plan) n ≡ Some (window_numbered sizes plan Biu st n) = get-window sizes plan Biu st n h in
    ap (λ (w : Window). w.stage) (one-window (window_numbered sizes plan me st n) (window_numbered sizes plan Biu st n) (sym a ∙ b)) ∙ stage-is sizes plan st n h
  where
    one-window : (a b : Window) → Some a ≡ Some b → a ≡ b
    one-window a b e = cc

-- the window of a stage in the list of windows, with its place
pub stage-window : (sizes : Sizes) (plan : Plan) (n : ℕ) → n < stages_in sizes
    → (w : Window) × ((slice_get (windows_of_frame sizes plan) n ≡ Some w) × ((w.slot ≡ slot_numbered sizes n) × (w.stage ≡ n % 3 + 1)))
stage-window sizes plan n h =
    let st : NodeState = first_state sizes Biu in
    (window_numbered sizes plan Biu st n, (get-window sizes plan Biu st n h, (slot-is sizes plan Biu st n, stage-is sizes plan st n h)))

pub no-window : (sizes : Sizes) (plan : Plan) (n : ℕ) → stages_in sizes ≤ n → slice_get (windows_of_frame sizes plan) n ≡ None
no-window sizes plan n h = let long = how-many sizes plan in slice_get_past (windows_of_frame sizes plan) n (omega (arith, long))

-- What a moment's book settles next.

abbrev pub next_of : Scenario → ℕ → ℕ → Milestone
next_of sc frame window =
    if nat_lt window (stages_in sc.sizes)
    then (if frame == sc.frames then End else Stage (record { frame = frame; slot = slot_numbered sc.sizes window; stage = window % 3 + 1 }))
    else Begin (frame + 1)

unfoldable pub SettlesNext : Scenario → Moment → Type 0
SettlesNext sc m = m.book.ended ≡ false → m.book.upcoming ≡ next_of sc m.frame m.window

frame-next : (sc : Scenario) (frame : ℕ) (begun : List Begun) (b : Book) → (with_frame sc frame begun b).ended ≡ false → (with_frame sc frame begun b).upcoming ≡ next_of sc frame 0
unfolding with_frame
frame-next sc frame begun b = by b.ended refl
  where
    by : (e : Bool) → b.ended ≡ e → (elim e as (λ _. Book) [
      | true ↦ b
      | false ↦ record {
        upcoming = if frame == sc.frames then End else Stage (record { frame = frame; slot = 0; stage = 1 });
        stages = [];
        lines = [];
        given = b.given ++ frame_records frame begun;
        ended = false;
      }
    ]).ended ≡ false → (elim e as (λ _. Book) [
      | true ↦ b
      | false ↦ record {
        upcoming = if frame == sc.frames then End else Stage (record { frame = frame; slot = 0; stage = 1 });
        stages = [];
        lines = [];
        given = b.given ++ frame_records frame begun;
        ended = false;
      }
    ]).upcoming ≡ next_of sc frame 0
    by true e h = true-false (sym e ∙ h)
    by false e h =
        let z : slot_numbered sc.sizes 0 ≡ 0 = omega arith in
        let one : 0 % 3 + 1 ≡ 1 = omega arith in
        ap (λ s. if frame == sc.frames then End else Stage (record { frame = frame; slot = s; stage = 1 })) (sym z)
        ∙ ap (λ s. if frame == sc.frames then End else Stage (record { frame = frame; slot = slot_numbered sc.sizes 0; stage = s })) (sym one)
        ∙ sym (ap (λ b. if b then (if frame == sc.frames then End else Stage (record { frame = frame; slot = slot_numbered sc.sizes 0; stage = 0 % 3 + 1 })) else Begin (frame + 1)) (lt-ltb 0 (stages_in sc.sizes) (omega arith)))

pub stage-next : (sc : Scenario) (frame n : ℕ) → n < stages_in sc.sizes → (frame == sc.frames) ≡ false
    → after_stage sc.sizes (record { frame = frame; slot = slot_numbered sc.sizes n; stage = n % 3 + 1 }) ≡ next_of sc frame (n + 1)
stage-next sc frame n below not_last =
    elim (cases_lt (n % 3 + 1) 3) [
      | inl early ↦
          let slot : slot_numbered sc.sizes n ≡ slot_numbered sc.sizes (n + 1) = omega arith in
          let stage : n % 3 + 1 + 1 ≡ (n + 1) % 3 + 1 = omega arith in
          ap (λ b. if b then Stage (record { frame = frame; slot = slot_numbered sc.sizes n; stage = n % 3 + 1 + 1 })
          else (if slot_numbered sc.sizes n == sync_slot_of sc.sizes then Begin (frame + 1) else Stage (record { frame = frame; slot = slot_numbered sc.sizes n + 1; stage = 1 }))) (lt-ltb (n % 3 + 1) 3 early)
          ∙ ap (λ s. Stage (record { frame = frame; slot = s; stage = n % 3 + 1 + 1 })) slot
          ∙ ap (λ s. Stage (record { frame = frame; slot = slot_numbered sc.sizes (n + 1); stage = s })) stage
          ∙ sym (ap (λ b. if b then End else Stage (record { frame = frame; slot = slot_numbered sc.sizes (n + 1); stage = (n + 1) % 3 + 1 })) not_last)
          ∙ sym (ap (λ b. if b then (if frame == sc.frames then End else Stage (record { frame = frame; slot = slot_numbered sc.sizes (n + 1); stage = (n + 1) % 3 + 1 })) else Begin (frame + 1)) (lt-ltb (n + 1) (stages_in sc.sizes) (omega arith)))
      | inr late ↦
          ap (λ b. if b then Stage (record { frame = frame; slot = slot_numbered sc.sizes n; stage = n % 3 + 1 + 1 })
          else (if slot_numbered sc.sizes n == sync_slot_of sc.sizes then Begin (frame + 1) else Stage (record { frame = frame; slot = slot_numbered sc.sizes n + 1; stage = 1 }))) (le-ltb (n % 3 + 1) 3 late)
          ∙ elim (cases_lt (n + 1) (stages_in sc.sizes)) [
            | inl inner ↦
                let differ : (slot_numbered sc.sizes n == sync_slot_of sc.sizes) ≡ false = less-differs (slot_numbered sc.sizes n) (sync_slot_of sc.sizes) (omega arith) in
                let slot : slot_numbered sc.sizes n + 1 ≡ slot_numbered sc.sizes (n + 1) = omega arith in
                let stage : 1 ≡ (n + 1) % 3 + 1 = omega arith in
                ap (λ b. if b then Begin (frame + 1) else Stage (record { frame = frame; slot = slot_numbered sc.sizes n + 1; stage = 1 })) differ
                ∙ ap (λ s. Stage (record { frame = frame; slot = s; stage = 1 })) slot
                ∙ ap (λ s. Stage (record { frame = frame; slot = slot_numbered sc.sizes (n + 1); stage = s })) stage
                ∙ sym (ap (λ b. if b then End else Stage (record { frame = frame; slot = slot_numbered sc.sizes (n + 1); stage = (n + 1) % 3 + 1 })) not_last)
                ∙ sym (ap (λ b. if b then (if frame == sc.frames then End else Stage (record { frame = frame; slot = slot_numbered sc.sizes (n + 1); stage = (n + 1) % 3 + 1 })) else Begin (frame + 1)) (lt-ltb (n + 1) (stages_in sc.sizes) inner))
            | inr outer ↦
                let same : (slot_numbered sc.sizes n == sync_slot_of sc.sizes) ≡ true = same-is (slot_numbered sc.sizes n) (sync_slot_of sc.sizes) (omega arith) in
                ap (λ b. if b then Begin (frame + 1) else Stage (record { frame = frame; slot = slot_numbered sc.sizes n + 1; stage = 1 })) same
                ∙ sym (ap (λ b. if b then (if frame == sc.frames then End else Stage (record { frame = frame; slot = slot_numbered sc.sizes (n + 1); stage = (n + 1) % 3 + 1 })) else Begin (frame + 1)) (le-ltb (n + 1) (stages_in sc.sizes) outer))
          ]
    ]
  where
    same-is : (a b : ℕ) → a ≡ b → (a == b) ≡ true
    same-is a b h = grind (arith, nat_tests)

judged-next : (sc : Scenario) (place : Place) (rows : Each (Option Row)) (stages : List JudgedStage) (b : Book) (v : Option Cause)
    → (after_verdict sc.sizes place rows stages b v).ended ≡ false → (after_verdict sc.sizes place rows stages b v).upcoming ≡ after_stage sc.sizes place
judged-next sc place rows stages b None h = refl
judged-next sc place rows stages b (Some cause) h = true-false h

pub stage-book-next : (sc : Scenario) (place : Place) (rows : Each (Option Row)) (b : Book)
    → (with_stage sc place rows b).ended ≡ false → (with_stage sc place rows b).upcoming ≡ after_stage sc.sizes place
unfolding with_stage
stage-book-next sc place rows b = by b.ended refl
  where
    by : (e : Bool) → b.ended ≡ e
        → (elim e as (λ _. Book) [ true ↦ b | false ↦ after_verdict sc.sizes place rows (judged_of sc place rows ∷ b.stages) b (verdict_of (judged_of sc place rows ∷ b.stages)) ]).ended ≡ false
        → (elim e as (λ _. Book) [ true ↦ b | false ↦ after_verdict sc.sizes place rows (judged_of sc place rows ∷ b.stages) b (verdict_of (judged_of sc place rows ∷ b.stages)) ]).upcoming
        ≡ after_stage sc.sizes place
    by true e h = true-false (sym e ∙ h)
    by false e h = judged-next sc place rows (judged_of sc place rows ∷ b.stages) b (verdict_of (judged_of sc place rows ∷ b.stages)) h

window-next : (sc : Scenario) (m : Moment) (rows : Each (Option Row)) (o : Option Window) → slice_get (windows_of_frame sc.sizes sc.plan) m.window ≡ o
    → (m.frame == sc.frames) ≡ false → SettlesNext sc m → (book_after sc m.frame o rows m.book).ended ≡ false
    → (book_after sc m.frame o rows m.book).upcoming ≡ next_of sc m.frame (m.window + 1)
unfolding SettlesNext
window-next sc m rows None e not_last h going =
    elim (cases_lt m.window (stages_in sc.sizes)) [
      | inl lt ↦ let w = stage-window sc.sizes sc.plan m.window lt in absurd (none-some w.0 (sym e ∙ w.1.0))
      | inr ge ↦
          h going
          ∙ ap (λ b. if b then (if m.frame == sc.frames then End else Stage (record { frame = m.frame; slot = slot_numbered sc.sizes m.window; stage = m.window % 3 + 1 })) else Begin (m.frame + 1)) (le-ltb m.window (stages_in sc.sizes) ge)
          ∙ sym (ap (λ b. if b then (if m.frame == sc.frames then End else Stage (record { frame = m.frame; slot = slot_numbered sc.sizes (m.window + 1); stage = (m.window + 1) % 3 + 1 })) else Begin (m.frame + 1)) (le-ltb (m.window + 1) (stages_in sc.sizes) (omega arith)))
    ]
  where
    none-some : (w : Window) → None ≡ Some w → ⊥
    none-some w e = cc
window-next sc m rows (Some w) e not_last h going =
    elim (cases_lt m.window (stages_in sc.sizes)) [
      | inl lt ↦
          let x = stage-window sc.sizes sc.plan m.window lt in
          let same : w ≡ x.0 = some-same w x.0 (sym e ∙ x.1.0) in
          stage-book-next sc (record { frame = m.frame; slot = w.slot; stage = w.stage }) rows m.book going
          ∙ ap (λ s. after_stage sc.sizes (record { frame = m.frame; slot = s; stage = w.stage })) (ap (λ (w : Window). w.slot) same ∙ x.1.1.0)
          ∙ ap (λ s. after_stage sc.sizes (record { frame = m.frame; slot = slot_numbered sc.sizes m.window; stage = s })) (ap (λ (w : Window). w.stage) same ∙ x.1.1.1)
          ∙ stage-next sc m.frame m.window lt not_last
      | inr ge ↦ absurd (none-some w (sym (no-window sc.sizes sc.plan m.window ge) ∙ e))
    ]
  where
    none-some : (w : Window) → None ≡ Some w → ⊥
    none-some w e = cc

    some-same : {X : Type 0} (a b : X) → Some a ≡ Some b → a ≡ b
    some-same a b e = cc

stepped-next : (sc : Scenario) (hands : List HandIn) (m : Moment) (over in_frame : Bool) → (m.frame == sc.frames) ≡ over → nat_lt m.window (windows_in sc.sizes) ≡ in_frame
    → SettlesNext sc m → SettlesNext sc (stepped sc hands m over in_frame)
unfolding SettlesNext after_window begin_frame
stepped-next sc hands m true in_frame e f h going = true-false (sym (ended-end m.book) ∙ going)
stepped-next sc hands m false true e f h going = window-next sc m _ (slice_get (windows_of_frame sc.sizes sc.plan) m.window) refl e h going
stepped-next sc hands m false false e f h going = frame-next sc (m.frame + 1) _ m.book going

pub settles-next : (sc : Scenario) (hands : List HandIn) (p : ℕ) → SettlesNext sc (moment sc hands p)
unfolding SettlesNext begin_frame step
settles-next sc hands zero going = frame-next sc 0 _ fresh_book going
settles-next sc hands (suc p) going =
    stepped-next sc hands (moment sc hands p) ((moment sc hands p).frame == sc.frames) (nat_lt (moment sc hands p).window (windows_in sc.sizes)) refl refl (settles-next sc hands p) going
