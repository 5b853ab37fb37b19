-- The window in which an offset lies, by a division.
use Rattle.std.proofs.{Common.{◌≡◌, ℕ, zero, suc, ◌+◌, ◌-◌, ◌*◌, ◌/◌, ◌%◌, ◌<◌, ◌≤◌, Bool, true, false, Some, None, List, [], ◌∷◌, map, refl, ap, sym, ◌∙◌, arith, inl, inr, nat_le}, lemmas.Bool.{cases_lt, le-leb, lt-leb}, lemmas.List.Folds.find-append, lemmas.Nat.{div_below, div-add-mod', mod_below}, Math.Nat.mul-le-mul_right}
use Rattle.std.specs.{Prelude.find, Option.option_or, List.range_with_len}
use Rattle.rb_base.specs.Sizes.{Sizes, sync_slot_of}
use Rattle.rb_rules.specs.{declared.plan.Plan.Plan, declared.plan.Window.Window, Plan.f0_of, Windows.{window_of, exact_window, sync_windows, holds_offset, window_at}}

-- ---- one window

inside : (offset slot stage first ticks : ℕ) → first ≤ offset → offset < first + ticks
    → holds_offset offset (window_of slot stage first ticks) ≡ true
inside offset slot stage first ticks from to =
    let a : nat_le first offset ≡ true = le-leb first offset from in
    let b : nat_le offset (first + ticks - 1) ≡ true = le-leb offset (first + ticks - 1) (omega arith) in
    rw (a, b) refl

past : (offset slot stage first ticks : ℕ) → 1 ≤ ticks → first + ticks ≤ offset
    → holds_offset offset (window_of slot stage first ticks) ≡ false
past offset slot stage first ticks some to =
    let a : nat_le first offset ≡ true = le-leb first offset (omega arith) in
    let b : nat_le offset (first + ticks - 1) ≡ false = lt-leb offset (first + ticks - 1) (omega arith) in
    rw (a, b) refl

find_here : {X : Type 0} (p : X → Bool) (x : X) (xs : List X) → p x ≡ true → find p (x ∷ xs) ≡ Some x
find_here p x xs h = rw h refl

find_next : {X : Type 0} (p : X → Bool) (x : X) (xs : List X) → p x ≡ false → find p (x ∷ xs) ≡ find p xs
find_next p x xs h = rw h refl

-- ---- the windows of one length

-- the window with this number is found among those from number `a` on
found_exact : (plan : Plan) (offset number a n : ℕ) → 1 ≤ plan.l → a ≤ number → number < a + n
    → number * plan.l ≤ offset → offset < number * plan.l + plan.l
    → find (holds_offset offset) (map (exact_window plan) (range_with_len a n)) ≡ Some (exact_window plan number)
found_exact plan offset number a zero some from to low high = absurd (omega arith)
found_exact plan offset number a (suc n) some from to low high =
    elim (cases_lt a number) [
      | inl lt ↦
          let times : (a + 1) * plan.l ≤ number * plan.l = mul-le-mul_right plan.l (omega arith) in
          find_next (holds_offset offset) (exact_window plan a) (map (exact_window plan) (range_with_len (a + 1) n))
          (past offset (a / 3) (a % 3 + 1) (a * plan.l) plan.l some (omega (arith, times)))
          ∙ found_exact plan offset number (a + 1) n some (omega arith) (omega arith) low high
      | inr ge ↦
          let same : a ≡ number = omega arith in
          let held : holds_offset offset (exact_window plan a) ≡ true =
          rw same (inside offset (number / 3) (number % 3 + 1) (number * plan.l) plan.l low high) in
          find_here (holds_offset offset) (exact_window plan a) (map (exact_window plan) (range_with_len (a + 1) n)) held
          ∙ ap (λ k. Some (exact_window plan k)) same
    ]

-- no window below the sync slot is found for an offset past all of them
none_exact : (plan : Plan) (offset a n : ℕ) → 1 ≤ plan.l → (a + n) * plan.l ≤ offset
    → find (holds_offset offset) (map (exact_window plan) (range_with_len a n)) ≡ None
none_exact plan offset a zero some to = refl
none_exact plan offset a (suc n) some to =
    let times : (a + 1) * plan.l ≤ (a + suc n) * plan.l = mul-le-mul_right plan.l (omega arith) in
    let all : a + 1 + n ≡ a + suc n = omega arith in
    find_next (holds_offset offset) (exact_window plan a) (map (exact_window plan) (range_with_len (a + 1) n))
    (past offset (a / 3) (a % 3 + 1) (a * plan.l) plan.l some (omega (arith, times)))
    ∙ none_exact plan offset (a + 1) n some (rw all to)

-- ---- the windows of a frame

-- the number of a window below the sync slot is less than three times that slot
pub number_below : (sizes : Sizes) (plan : Plan) (offset ticks : ℕ) → ticks ≡ plan.l → 1 ≤ plan.l → offset < f0_of sizes plan
    → offset / ticks < 3 * sync_slot_of sizes
number_below sizes plan offset ticks e some below = rw e (div_below offset plan.l (3 * sync_slot_of sizes) some below)

-- the window at an offset below the sync slot is the one with its number
pub found_below : (sizes : Sizes) (plan : Plan) (offset number : ℕ) → 1 ≤ plan.l → number < 3 * sync_slot_of sizes
    → number * plan.l ≤ offset → offset < number * plan.l + plan.l
    → window_at sizes plan offset ≡ Some (exact_window plan number)
found_below sizes plan offset number some below low high =
    find-append (holds_offset offset) (map (exact_window plan) (range_with_len 0 (3 * sync_slot_of sizes))) (sync_windows sizes plan)
    ∙ ap (λ found. option_or found (find (holds_offset offset) (sync_windows sizes plan)))
    (found_exact plan offset number 0 (3 * sync_slot_of sizes) some (omega arith) (omega arith) low high)

pub divided_below : (sizes : Sizes) (plan : Plan) (offset ticks : ℕ) → ticks ≡ plan.l → 1 ≤ plan.l → offset < f0_of sizes plan
    → Some (exact_window plan (offset / ticks)) ≡ window_at sizes plan offset
divided_below sizes plan offset ticks e some below =
    let number : offset / plan.l < 3 * sync_slot_of sizes = number_below sizes plan offset plan.l refl some below in
    let whole : offset / plan.l * plan.l + offset % plan.l ≡ offset = div-add-mod' offset plan.l in
    let rest : offset % plan.l < plan.l = mod_below offset plan.l some in
    rw e (sym (found_below sizes plan offset (offset / plan.l) some number (omega arith) (omega arith)))

-- the window at an offset from the sync slot on is one of the sync slot
from_sync : (sizes : Sizes) (plan : Plan) (offset : ℕ) → 1 ≤ plan.l → f0_of sizes plan ≤ offset
    → window_at sizes plan offset ≡ find (holds_offset offset) (sync_windows sizes plan)
from_sync sizes plan offset some from =
    let all : 0 + 3 * sync_slot_of sizes ≡ 3 * sync_slot_of sizes = omega arith in
    find-append (holds_offset offset) (map (exact_window plan) (range_with_len 0 (3 * sync_slot_of sizes))) (sync_windows sizes plan)
    ∙ ap (λ found. option_or found (find (holds_offset offset) (sync_windows sizes plan)))
    (none_exact plan offset 0 (3 * sync_slot_of sizes) some (rw all from))

-- the windows of the three stages of the sync slot
abbrev stage_1 : Sizes → Plan → Window
stage_1 sizes plan = window_of (sync_slot_of sizes) 1 (f0_of sizes plan) plan.l

abbrev stage_2 : Sizes → Plan → Window
stage_2 sizes plan = window_of (sync_slot_of sizes) 2 (f0_of sizes plan + plan.l) plan.v

abbrev stage_3 : Sizes → Plan → Window
stage_3 sizes plan = window_of (sync_slot_of sizes) 3 (f0_of sizes plan + plan.l + plan.v) plan.z

pub found_stage_1 : (sizes : Sizes) (plan : Plan) (offset : ℕ) → 1 ≤ plan.l → f0_of sizes plan ≤ offset
    → offset < f0_of sizes plan + plan.l → window_at sizes plan offset ≡ Some (stage_1 sizes plan)
found_stage_1 sizes plan offset some from to =
    from_sync sizes plan offset some from
    ∙ find_here (holds_offset offset) (stage_1 sizes plan) (stage_2 sizes plan ∷ stage_3 sizes plan ∷ [])
    (inside offset (sync_slot_of sizes) 1 (f0_of sizes plan) plan.l from to)

-- past stage 1 of the sync slot the window is that of stage 2 or 3
past_stage_1 : (sizes : Sizes) (plan : Plan) (offset : ℕ) → 1 ≤ plan.l → f0_of sizes plan + plan.l ≤ offset
    → window_at sizes plan offset ≡ find (holds_offset offset) (stage_2 sizes plan ∷ stage_3 sizes plan ∷ [])
past_stage_1 sizes plan offset some from =
    from_sync sizes plan offset some (omega arith)
    ∙ find_next (holds_offset offset) (stage_1 sizes plan) (stage_2 sizes plan ∷ stage_3 sizes plan ∷ [])
    (past offset (sync_slot_of sizes) 1 (f0_of sizes plan) plan.l some from)

pub found_stage_2 : (sizes : Sizes) (plan : Plan) (offset : ℕ) → 1 ≤ plan.l → f0_of sizes plan + plan.l ≤ offset
    → offset < f0_of sizes plan + plan.l + plan.v → window_at sizes plan offset ≡ Some (stage_2 sizes plan)
found_stage_2 sizes plan offset some from to =
    past_stage_1 sizes plan offset some from
    ∙ find_here (holds_offset offset) (stage_2 sizes plan) (stage_3 sizes plan ∷ [])
    (inside offset (sync_slot_of sizes) 2 (f0_of sizes plan + plan.l) plan.v from to)

-- past stage 2 of the sync slot the window is that of stage 3
past_stage_2 : (sizes : Sizes) (plan : Plan) (offset : ℕ) → 1 ≤ plan.l → 1 ≤ plan.v
    → f0_of sizes plan + plan.l + plan.v ≤ offset
    → window_at sizes plan offset ≡ find (holds_offset offset) (stage_3 sizes plan ∷ [])
past_stage_2 sizes plan offset some some_v from =
    past_stage_1 sizes plan offset some (omega arith)
    ∙ find_next (holds_offset offset) (stage_2 sizes plan) (stage_3 sizes plan ∷ [])
    (past offset (sync_slot_of sizes) 2 (f0_of sizes plan + plan.l) plan.v some_v from)

pub found_stage_3 : (sizes : Sizes) (plan : Plan) (offset : ℕ) → 1 ≤ plan.l → 1 ≤ plan.v
    → f0_of sizes plan + plan.l + plan.v ≤ offset → offset < f0_of sizes plan + plan.l + plan.v + plan.z
    → window_at sizes plan offset ≡ Some (stage_3 sizes plan)
found_stage_3 sizes plan offset some some_v from to =
    past_stage_2 sizes plan offset some some_v from
    ∙ find_here (holds_offset offset) (stage_3 sizes plan) []
    (inside offset (sync_slot_of sizes) 3 (f0_of sizes plan + plan.l + plan.v) plan.z from to)

-- from the tail on there is no window
pub found_none : (sizes : Sizes) (plan : Plan) (offset : ℕ) → 1 ≤ plan.l → 1 ≤ plan.v → 1 ≤ plan.z
    → f0_of sizes plan + plan.l + plan.v + plan.z ≤ offset → window_at sizes plan offset ≡ None
found_none sizes plan offset some some_v some_z from =
    past_stage_2 sizes plan offset some some_v (omega arith)
    ∙ find_next (holds_offset offset) (stage_3 sizes plan) []
    (past offset (sync_slot_of sizes) 3 (f0_of sizes plan + plan.l + plan.v) plan.z some_z from)
