-- The moment after a window: its good nodes were good before, and each became what its close made
-- of it.
use Rattle.std.proofs.{Common.{◌≡◌, ℕ, ◌+◌, ◌*◌, ◌/◌, ◌%◌, ◌<◌, true, List, length, map, Some, option_map, slice_get, sym, ◌∙◌, ap, arith}, lemmas.Option.{same_Some, slice_get-map}, lemmas.List.FromFn.length-map-range_with_len}
use Rattle.rb_base.specs.{Counting.numbers, Nodes.Side, Sizes.{Sizes, sync_slot_of}}
use Rattle.rb_rules.specs.{declared.plan.Plan.Plan, declared.plan.Window.Window, Book.{of_kind, with_stage}, Goodness.Scenario, NodeState.NodeState, Rounds.{Moment, Result, window_in, sent_in, go_through, results_of, book_after, after_window}, Windows.{exact_window, sync_windows, windows_of_frame}}
use Rattle.rb_rules.proofs.{RoundStates.state-after, WindowNumbers.{get-number, length-each}}
use Rattle.rb_laws_agreement.proofs.{Tests.Present, JudgedWindows.rows_of, Invariant.{IsGoodNode, is_good_now, slot_numbered, IsVector, IsOwn, Agree}, Goodnesses.{good_earlier, slot_goes_on}, Settings.{Setting, stages_with, good_state, after}}
use Rattle.rb_base.proofs.Plain.{slice_get-back, slice_get-front}

abbrev pub next : Scenario → Moment → Moment
next sc m = after_window sc m (results_of sc m)

-- a node that is good after the window was good before it
pub was_good : (sc : Scenario) (m : Moment) (me : Side) (i : ℕ) → is_good_now sc (next sc m) me i ≡ true → is_good_now sc m me i ≡ true
unfolding after_window
was_good sc m me i good =
    good_earlier sc me i m.frame (slot_numbered sc.sizes m.window) (slot_numbered sc.sizes (m.window + 1)) (slot_goes_on sc.sizes m.window) good

-- a good node's state came from its state before
pub record CameFrom (sc : Scenario) (m : Moment) (me : Side) (i : ℕ) (now : NodeState) : Type 0 where
  pub st : NodeState
  pub was : IsGoodNode sc m me i st
  pub is : after sc m me i st ≡ now

pub came_from : {sc hands n m s : _} → Agree sc hands n m s
    → {me i now : _} → IsGoodNode sc (next sc m) me i now → CameFrom sc m me i now
came_from {sc} {m} agree {me} {i} {now} h =
    let good : is_good_now sc m me i ≡ true = was_good sc m me i h.good in
    let old : Present (slice_get (of_kind me m.nodes) i) = good_state agree me i good in
    record {
      st = old.value;
      was = record { there = old.is; good = good };
      is = same_Some (after sc m me i old.value) now (sym (state-after sc m me i old.value old.is) ∙ h.there);
    }

-- a window leaves as many nodes as there were
pub counts_after : (sc : Scenario) (m : Moment) (me : Side) → length (of_kind me (next sc m).nodes) ≡ length (of_kind me m.nodes)
unfolding after_window results_of
counts_after sc m me =
    length-each (λ me i (r : Result). r.state) (results_of sc m) me
    ∙ length-each (λ me i st. go_through sc m (sent_in sc m) me i st (window_in sc m me st)) m.nodes me

-- The book.

-- window `n` of a frame, if it is below the sync slot, is the exact window `n`
exact-there : (sizes : Sizes) (plan : Plan) (n : ℕ) → n < 3 * sync_slot_of sizes → slice_get (windows_of_frame sizes plan) n ≡ Some (exact_window plan n)
exact-there sizes plan n h =
    let front : List Window = map (exact_window plan) (numbers (3 * sync_slot_of sizes)) in
    let long : length front ≡ 3 * sync_slot_of sizes = length-map-range_with_len (exact_window plan) 0 (3 * sync_slot_of sizes) in
    slice_get-front front (sync_windows sizes plan) n (omega arith) ∙ slice_get-map (exact_window plan) (numbers (3 * sync_slot_of sizes)) n
    ∙ ap (option_map (exact_window plan)) (get-number (3 * sync_slot_of sizes) n h)

-- window `r` of the sync slot is window 3 * sync slot + r of the frame
pub sync-there : (sizes : Sizes) (plan : Plan) (r : ℕ) → slice_get (windows_of_frame sizes plan) (3 * sync_slot_of sizes + r) ≡ slice_get (sync_windows sizes plan) r
sync-there sizes plan r =
    let front : List Window = map (exact_window plan) (numbers (3 * sync_slot_of sizes)) in
    let long : length front ≡ 3 * sync_slot_of sizes = length-map-range_with_len (exact_window plan) 0 (3 * sync_slot_of sizes) in
    ap (λ m. slice_get (windows_of_frame sizes plan) (m + r)) (sym long) ∙ slice_get-back front (sync_windows sizes plan) r

-- a window below the sync slot adds its stage to the book
pub book_exact : (sc : Scenario) (m : Moment) (slot q : ℕ) → slot < sync_slot_of sc.sizes → q < 3 → m.window ≡ 3 * slot + q
    → (next sc m).book ≡ with_stage sc (record { frame = m.frame; slot = slot; stage = q + 1 }) (rows_of sc m) m.book
unfolding after_window
book_exact sc m slot q below small at =
    let e : m.window / 3 ≡ slot = omega arith in
    let f : m.window % 3 ≡ q = omega arith in
    ap (λ w. book_after sc m.frame w (rows_of sc m) m.book) (exact-there sc.sizes sc.plan m.window (omega arith))
    ∙ ap (λ k. with_stage sc (record { frame = m.frame; slot = k; stage = m.window % 3 + 1 }) (rows_of sc m) m.book) e
    ∙ ap (λ k. with_stage sc (record { frame = m.frame; slot = slot; stage = k + 1 }) (rows_of sc m) m.book) f

-- after the window the book has its stage before the earlier ones
pub stages_after : {sc hands n m s slot q : _} → Setting sc hands n m s slot q
    → (next sc m).book.stages ≡ stages_with sc m slot (q + 1)
stages_after {sc} {m} {slot} {q} c =
    ap (λ b. b.stages) (book_exact sc m slot q c.below c.small c.at) ∙ ap (λ b. b.stages) c.passed.is

-- What is known goes on.

pub vector_next : {sc m accused value : _} → IsVector sc m accused value → IsVector sc (next sc m) accused value
vector_next {sc} {m} {accused} v = record { valid = v.valid; spared = λ j good. v.spared j (was_good sc m accused j good) }

pub own_next : {sc hands m slot p value : _} → IsOwn sc hands m slot p value → IsOwn sc hands (next sc m) slot p value
unfolding after_window
own_next own = record {
  said = own.said;
  carried = own.carried;
  vector = λ d. vector_next (own.vector d);
}
