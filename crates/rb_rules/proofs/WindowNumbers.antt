-- The windows of a frame by their numbers, and what is read of one node if something is made of
-- all.
use Rattle.std.proofs.{Common.{◌≡◌, ℕ, zero, suc, ◌+◌, ◌*◌, ◌/◌, ◌<◌, List, [], ◌∷◌, length, map, refl, sym, ◌∙◌, ap, arith, Some, slice_get, unwrap_or, option_map}, Math.Nat.div-lt_iff_lt-mul, lemmas.List.FromFn.{get_or-range_with_len, length-range_with_len, length-map-range_with_len}, lemmas.Option.{slice_get-get_or, slice_get-map}}
use Rattle.rb_base.specs.{Counting.numbers, Nodes.Side, Nodes.Side.{Biu, Rmu}, Sizes.{Sizes, sync_slot_of}}
use Rattle.rb_base.proofs.Plain.{slice_get-back, slice_get-front}
use Rattle.rb_rules.specs.{declared.plan.Plan.Plan, declared.plan.Window.Window, Book.{Each, of_kind, each_of, map_from, map_each}, Hearing.{tail_at, window_numbered}, NodeState.NodeState, Slots.count_of, Windows.{exact_window, sync_windows, windows_of_frame}}

-- Lists.

pub get-number : (n i : ℕ) → i < n → slice_get (numbers n) i ≡ Some i
get-number n i h =
    let long : length (numbers n) ≡ n = length-range_with_len 0 n in
    let within : i < length (numbers n) = omega arith in
    let e : 0 + i ≡ i = omega arith in
    slice_get-get_or (numbers n) i 0 within ∙ ap Some (get_or-range_with_len 0 n i 0 h ∙ e)

-- Each node.

get-from : {X Y : Type 0} (i : ℕ) (make : ℕ → X → Y) (xs : List X) (n : ℕ) → slice_get (map_from i make xs) n ≡ option_map (make (i + n)) (slice_get xs n)
get-from i make [] n = refl
get-from i make (x ∷ xs) zero = let e : i + 0 ≡ i = omega arith in rw e refl
get-from i make (x ∷ xs) (suc n) = let e : i + suc n ≡ i + 1 + n = omega arith in rw e (get-from (i + 1) make xs n)

-- what was made of each node was made of node `i`
pub get-each : {X Y : Type 0} (make : Side → ℕ → X → Y) (xs : Each X) (me : Side) (i : ℕ)
    → slice_get (of_kind me (map_each make xs)) i ≡ option_map (make me i) (slice_get (of_kind me xs) i)
get-each make xs Biu i = let e : 0 + i ≡ i = omega arith in get-from 0 (make Biu) xs.bius i ∙ ap (λ n. option_map (make Biu n) (slice_get xs.bius i)) e
get-each make xs Rmu i = let e : 0 + i ≡ i = omega arith in get-from 0 (make Rmu) xs.rmus i ∙ ap (λ n. option_map (make Rmu n) (slice_get xs.rmus i)) e

length-from : {X Y : Type 0} (i : ℕ) (make : ℕ → X → Y) (xs : List X) → length (map_from i make xs) ≡ length xs
length-from i make [] = refl
length-from i make (x ∷ xs) = ap suc (length-from (i + 1) make xs)

pub length-each : {X Y : Type 0} (make : Side → ℕ → X → Y) (xs : Each X) (me : Side) → length (of_kind me (map_each make xs)) ≡ length (of_kind me xs)
length-each make xs Biu = length-from 0 (make Biu) xs.bius
length-each make xs Rmu = length-from 0 (make Rmu) xs.rmus

-- what is made for each node of a bus is made for node `i`
pub get-made : {X : Type 0} (sizes : Sizes) (make : Side → ℕ → X) (me : Side) (i : ℕ) → i < count_of me sizes
    → slice_get (of_kind me (each_of sizes make)) i ≡ Some (make me i)
get-made sizes make Biu i h = slice_get-map (make Biu) (numbers sizes.bius) i ∙ ap (option_map (make Biu)) (get-number sizes.bius i h)
get-made sizes make Rmu i h = slice_get-map (make Rmu) (numbers sizes.rmus) i ∙ ap (option_map (make Rmu)) (get-number sizes.rmus i h)

-- Windows.

-- below the sync slot window `n` is the exact window of that number
pub exact-numbered : (sizes : Sizes) (plan : Plan) (me : Side) (st : NodeState) (n : ℕ) → n < 3 * sync_slot_of sizes
    → window_numbered sizes plan me st n ≡ exact_window plan n
exact-numbered sizes plan me st n h =
    let front : List Window = map (exact_window plan) (numbers (3 * sync_slot_of sizes)) in
    let long : length front ≡ 3 * sync_slot_of sizes = length-map-range_with_len (exact_window plan) 0 (3 * sync_slot_of sizes) in
    let within : n < length front = omega arith in
    ap (λ o. unwrap_or o (tail_at sizes plan me st))
    (slice_get-front front (sync_windows sizes plan) n within ∙ slice_get-map (exact_window plan) (numbers (3 * sync_slot_of sizes)) n
    ∙ ap (option_map (exact_window plan)) (get-number (3 * sync_slot_of sizes) n h))

-- a window below the sync slot is one of a slot below the sync slot
pub exact-slot : (sizes : Sizes) (n : ℕ) → n < 3 * sync_slot_of sizes → n / 3 < sync_slot_of sizes
exact-slot sizes n h =
    let e : 3 * sync_slot_of sizes ≡ sync_slot_of sizes * 3 = omega arith in
    let below : n < sync_slot_of sizes * 3 = omega arith in
    (div-lt_iff_lt-mul {k = 3} {x = n} {y = sync_slot_of sizes} (omega arith)).1 below

-- in the sync slot and past it a window is one of the sync slot or the tail
pub sync-numbered : (sizes : Sizes) (plan : Plan) (me : Side) (st : NodeState) (r : ℕ)
    → window_numbered sizes plan me st (3 * sync_slot_of sizes + r) ≡ unwrap_or (slice_get (sync_windows sizes plan) r) (tail_at sizes plan me st)
sync-numbered sizes plan me st r =
    let front : List Window = map (exact_window plan) (numbers (3 * sync_slot_of sizes)) in
    let long : length front ≡ 3 * sync_slot_of sizes = length-map-range_with_len (exact_window plan) 0 (3 * sync_slot_of sizes) in
    ap (λ o. unwrap_or o (tail_at sizes plan me st))
    (ap (λ m. slice_get (windows_of_frame sizes plan) (m + r)) (sym long) ∙ slice_get-back front (sync_windows sizes plan) r)
