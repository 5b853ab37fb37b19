-- For the law that events are rounds: which window of its frame a tick lies in, as the core finds
-- it.
use Rattle.std.proofs.{Common.{◌≡◌, ℕ, zero, suc, ◌+◌, ◌*◌, ◌-◌, ◌<◌, ◌≤◌, ◌==◌, nat_le, Bool, true, false, List, [], ◌∷◌, length, map, refl, ap, sym, ◌∙◌, subst, arith, inl, inr, Some, None, slice_get, get_or, unwrap_or, find, cond, length-append}, lemmas.Bool.{and_from, and_right, cases_lt}, lemmas.Bool.Decides.nat_tests, lemmas.List.FromFn.length-map-range_with_len, lemmas.Option.{same_Some, slice_get-get_or, slice_get_within}, Math.Nat.add-mul}
use Rattle.rb_base.specs.{Nodes.Side, Sizes.{Sizes, sync_slot_of}}
use Rattle.rb_rules.specs.{declared.plan.Plan.Plan, declared.plan.Window.Window, Core.{window_here, is_last}, Hearing.{window_numbered, tail_at}, NodeState.NodeState, Plan.{f0_of, tail_start_of}, Windows.{exact_window, sync_windows, windows_of_frame, holds_offset}}
use Rattle.std.specs.List.{range_with_len}
use Rattle.rb_rules.proofs.{RoundStates.HasTicks, WindowNumbers.{exact-numbered, sync-numbered}}
use Rattle.rb_laws_events.specs.Closing.{stages_in}
use Rattle.rb_laws_events.proofs.StageOrder.{last_of, last-same, last-second-call, last-third-call}

abbrev pub first_of : Sizes → Plan → Side → NodeState → ℕ → ℕ
first_of sizes plan me st n = (window_numbered sizes plan me st n).first

-- The windows of a frame follow one another.

pub first-same : (sizes : Sizes) (plan : Plan) (me : Side) (st : NodeState) (n : ℕ) → n ≤ 3 * sync_slot_of sizes → first_of sizes plan me st n ≡ n * plan.l
first-same sizes plan me st n h =
    elim (cases_lt n (3 * sync_slot_of sizes)) [
      | inl lt ↦ ap (λ w. w.first) (exact-numbered sizes plan me st n lt)
      | inr ge ↦
          let e : n ≡ 3 * sync_slot_of sizes + 0 = omega arith in
          let f : 3 * sync_slot_of sizes + 0 ≡ 3 * sync_slot_of sizes = omega arith in
          ap (first_of sizes plan me st) e ∙ ap (λ w. w.first) (sync-numbered sizes plan me st 0) ∙ ap (λ k. k * plan.l) (sym (e ∙ f))
    ]

pub record Tiles (sizes : Sizes) (plan : Plan) (me : Side) (st : NodeState) (n : ℕ) : Type 0 where
  pub some : first_of sizes plan me st n ≤ last_of sizes plan me st n
  pub next : first_of sizes plan me st (n + 1) ≡ last_of sizes plan me st n + 1

tiles-same : (sizes : Sizes) {plan : _} (me : Side) (st : NodeState) (n : ℕ) → HasTicks plan → n < 3 * sync_slot_of sizes → Tiles sizes plan me st n
tiles-same sizes {plan} me st n ticks h =
    let a : first_of sizes plan me st n ≡ n * plan.l = first-same sizes plan me st n (omega arith) in
    let b : last_of sizes plan me st n ≡ n * plan.l + plan.l - 1 = last-same sizes plan me st n (omega arith) in
    let c : first_of sizes plan me st (n + 1) ≡ (n + 1) * plan.l = first-same sizes plan me st (n + 1) (omega arith) in
    let e : (n + 1) * plan.l ≡ n * plan.l + 1 * plan.l = add-mul n 1 plan.l in
    let some : 1 ≤ plan.l = ticks.l in
    record { some = omega (arith, a, b, some); next = omega (arith, b, c, e, some) }

-- `Tiles` holds for each window of the sync slot
tiles-sync : (sizes : Sizes) {plan : _} (me : Side) (st : NodeState) (r : ℕ) → HasTicks plan → r < 3 → Tiles sizes plan me st (3 * sync_slot_of sizes + r)
tiles-sync sizes {plan} me st zero ticks h =
    let s : ℕ = 3 * sync_slot_of sizes in
    let a : first_of sizes plan me st (s + 0) ≡ f0_of sizes plan = ap (λ w. w.first) (sync-numbered sizes plan me st 0) in
    let b : last_of sizes plan me st (s + 0) ≡ f0_of sizes plan + plan.l - 1 = ap (λ w. w.last) (sync-numbered sizes plan me st 0) in
    let c : first_of sizes plan me st (s + 1) ≡ f0_of sizes plan + plan.l = ap (λ w. w.first) (sync-numbered sizes plan me st 1) in
    let e : s + 0 + 1 ≡ s + 1 = omega arith in
    let some : 1 ≤ plan.l = ticks.l in
    record { some = omega (arith, a, b, some); next = ap (first_of sizes plan me st) e ∙ omega (arith, b, c, some) }
tiles-sync sizes {plan} me st (suc zero) ticks h =
    let s : ℕ = 3 * sync_slot_of sizes in
    let a : first_of sizes plan me st (s + 1) ≡ f0_of sizes plan + plan.l = ap (λ w. w.first) (sync-numbered sizes plan me st 1) in
    let b : last_of sizes plan me st (s + 1) ≡ f0_of sizes plan + plan.l + plan.v - 1 = last-second-call sizes plan me st in
    let c : first_of sizes plan me st (s + 2) ≡ f0_of sizes plan + plan.l + plan.v = ap (λ w. w.first) (sync-numbered sizes plan me st 2) in
    let e : s + 1 + 1 ≡ s + 2 = omega arith in
    let some : 1 ≤ plan.v = ticks.v in
    record { some = omega (arith, a, b, some); next = ap (first_of sizes plan me st) e ∙ omega (arith, b, c, some) }
tiles-sync sizes {plan} me st (suc (suc zero)) ticks h =
    let s : ℕ = 3 * sync_slot_of sizes in
    let a : first_of sizes plan me st (s + 2) ≡ f0_of sizes plan + plan.l + plan.v = ap (λ w. w.first) (sync-numbered sizes plan me st 2) in
    let b : last_of sizes plan me st (s + 2) ≡ f0_of sizes plan + plan.l + plan.v + plan.z - 1 = last-third-call sizes plan me st in
    let c : first_of sizes plan me st (s + 3) ≡ tail_start_of sizes plan = ap (λ w. w.first) (sync-numbered sizes plan me st 3) in
    let e : s + 2 + 1 ≡ s + 3 = omega arith in
    let some : 1 ≤ plan.z = ticks.z in
    record { some = omega (arith, a, b, some); next = ap (first_of sizes plan me st) e ∙ omega (arith, b, c, some) }
tiles-sync sizes me st (suc (suc (suc r))) ticks h = absurd (omega arith)

-- each stage has a tick, and the window after it begins with the tick after its last
pub tiles : (sizes : Sizes) {plan : _} (me : Side) (st : NodeState) (n : ℕ) → HasTicks plan → n < stages_in sizes → Tiles sizes plan me st n
tiles sizes {plan} me st n ticks h =
    elim (cases_lt n (3 * sync_slot_of sizes)) [
      | inl lt ↦ tiles-same sizes me st n ticks lt
      | inr ge ↦
          let r : ℕ = n - 3 * sync_slot_of sizes in
          let e : 3 * sync_slot_of sizes + r ≡ n = omega arith in
          subst (Tiles sizes plan me st) e (tiles-sync sizes me st r ticks (omega arith))
    ]

-- an earlier window ends before a later one begins
pub ends-before : (sizes : Sizes) {plan : _} (me : Side) (st : NodeState) (m k : ℕ) → HasTicks plan → m + k < stages_in sizes
    → last_of sizes plan me st m < first_of sizes plan me st (m + k + 1)
ends-before sizes {plan} me st m zero ticks h =
    let e : m + 0 + 1 ≡ m + 1 = omega arith in
    let t : Tiles sizes plan me st m = tiles sizes me st m ticks (omega arith) in
    subst (λ j. last_of sizes plan me st m < first_of sizes plan me st j) (sym e) (omega (arith, t.next))
ends-before sizes {plan} me st m (suc k) ticks h =
    let before : last_of sizes plan me st m < first_of sizes plan me st (m + k + 1) = ends-before sizes me st m k ticks (omega arith) in
    let e : m + suc k ≡ m + k + 1 = omega arith in
    let t : Tiles sizes plan me st (m + k + 1) = tiles sizes me st (m + k + 1) ticks (omega arith) in
    subst (λ j. last_of sizes plan me st m < first_of sizes plan me st (j + 1)) (sym e) (omega (arith, before, t.some, t.next))

pub ends-before-later : (sizes : Sizes) {plan : _} (me : Side) (st : NodeState) (m n : ℕ) → HasTicks plan → m < n → n ≤ stages_in sizes
    → last_of sizes plan me st m < first_of sizes plan me st n
ends-before-later sizes {plan} me st m n ticks lt le =
    let e : m + (n - m - 1) + 1 ≡ n = omega arith in
    subst (λ j. last_of sizes plan me st m < first_of sizes plan me st j) e (ends-before sizes me st m (n - m - 1) ticks (omega arith))

-- The core finds the window of a tick.

find-at : {X : Type 0} (p : X → Bool) (xs : List X) (n : ℕ) {x : X} → slice_get xs n ≡ Some x → p x ≡ true
    → ((m : ℕ) (y : X) → m < n → slice_get xs m ≡ Some y → p y ≡ false) → find p xs ≡ Some x
find-at p [] n e t none = cc
find-at p (y ∷ ys) zero {x} e t none =
    let same : y ≡ x = cc in
    ap (λ b. cond b (Some y) (find p ys)) (ap p same ∙ t) ∙ ap Some same
find-at p (y ∷ ys) (suc n) e t none =
    ap (λ b. cond b (Some y) (find p ys)) (none 0 y (omega arith) refl)
    ∙ find-at p ys n e t (λ m z h g. none (suc m) z (omega arith) g)

find-none : {X : Type 0} (p : X → Bool) (xs : List X) → ((m : ℕ) (y : X) → slice_get xs m ≡ Some y → p y ≡ false) → find p xs ≡ None
find-none p [] none = refl
find-none p (y ∷ ys) none =
    ap (λ b. cond b (Some y) (find p ys)) (none 0 y refl) ∙ find-none p ys (λ m z g. none (suc m) z g)

pub how-many : (sizes : Sizes) (plan : Plan) → length (windows_of_frame sizes plan) ≡ stages_in sizes
how-many sizes plan =
    let a : length (map (exact_window plan) (range_with_len 0 (3 * sync_slot_of sizes))) ≡ 3 * sync_slot_of sizes =
    length-map-range_with_len (exact_window plan) 0 (3 * sync_slot_of sizes) in
    let b = length-append (map (exact_window plan) (range_with_len 0 (3 * sync_slot_of sizes))) (sync_windows sizes plan) in
    omega (arith, a, b)

pub get-window : (sizes : Sizes) (plan : Plan) (me : Side) (st : NodeState) (n : ℕ) → n < stages_in sizes
    → slice_get (windows_of_frame sizes plan) n ≡ Some (window_numbered sizes plan me st n)
get-window sizes plan me st n h =
    let long : length (windows_of_frame sizes plan) ≡ stages_in sizes = how-many sizes plan in
    let there : slice_get (windows_of_frame sizes plan) n ≡ Some (get_or (windows_of_frame sizes plan) n (tail_at sizes plan me st)) =
    slice_get-get_or (windows_of_frame sizes plan) n (tail_at sizes plan me st) (omega arith) in
    there ∙ ap (λ o. Some (unwrap_or o (tail_at sizes plan me st))) (sym there)

holds : (offset : ℕ) (w : Window) → w.first ≤ offset → offset ≤ w.last → holds_offset offset w ≡ true
holds offset w low high = and_from (nat_le w.first offset) (nat_le offset w.last) (grind (arith, nat_tests)) (grind (arith, nat_tests))

holds-not : (offset : ℕ) (w : Window) → w.last < offset → holds_offset offset w ≡ false
holds-not offset w high = and_right (nat_le w.first offset) (nat_le offset w.last) (grind (arith, nat_tests))

-- no window before window `n` holds an offset from the first one of window `n` on
none-before : (sizes : Sizes) {plan : _} (me : Side) (st : NodeState) (n offset : ℕ) → HasTicks plan → n ≤ stages_in sizes
    → first_of sizes plan me st n ≤ offset → (m : ℕ) {w : _} → m < n → slice_get (windows_of_frame sizes plan) m ≡ Some w
    → holds_offset offset w ≡ false
none-before sizes {plan} me st n offset ticks h low m {w} lt there =
    let same : window_numbered sizes plan me st m ≡ w = same_Some _ _ (sym (get-window sizes plan me st m (omega arith)) ∙ there) in
    let before : last_of sizes plan me st m < first_of sizes plan me st n = ends-before-later sizes me st m n ticks lt h in
    subst (λ w. holds_offset offset w ≡ false) same (holds-not offset (window_numbered sizes plan me st m) (omega arith))

-- tick `k` is one of window `n` of a node in the state `st`. The tail has no last tick of its own
-- here
pub record IsTickIn (sizes : Sizes) (plan : Plan) (me : Side) (st : NodeState) (n k : ℕ) : Type 0 where
  pub from : st.epoch + first_of sizes plan me st n ≤ k
  pub to : k ≤ st.epoch + last_of sizes plan me st n

stage-here : {sizes plan me st n k : _} → HasTicks plan → n < stages_in sizes → IsTickIn sizes plan me st n k
    → window_here sizes plan me st k ≡ window_numbered sizes plan me st n
stage-here {sizes} {plan} {me} {st} {n} {k} ticks below in_it =
    let from : st.epoch + first_of sizes plan me st n ≤ k = in_it.from in
    let to : k ≤ st.epoch + last_of sizes plan me st n = in_it.to in
    let w : Window = window_numbered sizes plan me st n in
    ap (λ o. unwrap_or o (tail_at sizes plan me st))
    (find-at (holds_offset (k - st.epoch)) (windows_of_frame sizes plan) n (get-window sizes plan me st n below)
    (holds (k - st.epoch) w (omega arith) (omega arith))
    (λ m y lt there. none-before sizes me st n (k - st.epoch) ticks (omega arith) (omega arith) m lt there))

pub tail-here : (sizes : Sizes) {plan : _} (me : Side) (st : NodeState) (k : ℕ) → HasTicks plan
    → st.epoch + first_of sizes plan me st (stages_in sizes) ≤ k → window_here sizes plan me st k ≡ window_numbered sizes plan me st (stages_in sizes)
tail-here sizes {plan} me st k ticks from =
    let long : length (windows_of_frame sizes plan) ≡ stages_in sizes = how-many sizes plan in
    ap (λ o. unwrap_or o (tail_at sizes plan me st))
    (find-none (holds_offset (k - st.epoch)) (windows_of_frame sizes plan)
    (λ m y there. let within : m < length (windows_of_frame sizes plan) = slice_get_within (windows_of_frame sizes plan) m y there in
    none-before sizes me st (stages_in sizes) (k - st.epoch) ticks (omega arith) (omega arith) m (omega arith) there))
    ∙ sym (sync-numbered sizes plan me st 3)

-- the window at a tick of window `n` is window `n`
pub here-is : {sizes plan : _} (me : Side) (st : NodeState) {n k : ℕ} → HasTicks plan → n ≤ stages_in sizes → IsTickIn sizes plan me st n k
    → window_here sizes plan me st k ≡ window_numbered sizes plan me st n
here-is {sizes} {plan} me st {n} {k} ticks h in_it =
    elim (cases_lt n (stages_in sizes)) [
      | inl lt ↦ stage-here ticks lt in_it
      | inr ge ↦
          let e : stages_in sizes ≡ n = omega arith in
          let from : st.epoch + first_of sizes plan me st (stages_in sizes) ≤ k = subst (λ j. st.epoch + first_of sizes plan me st j ≤ k) (sym e) in_it.from in
          tail-here sizes me st k ticks from ∙ ap (window_numbered sizes plan me st) e
    ]

-- a tick of a window is the last that the core counts to it if and only if it is the window's last
pub last-is : {sizes plan : _} (me : Side) (st : NodeState) {n k : ℕ} → HasTicks plan → n ≤ stages_in sizes → IsTickIn sizes plan me st n k
    → is_last sizes plan me st k ≡ (k == st.epoch + last_of sizes plan me st n)
last-is me st {k} ticks h in_it = ap (λ (w : Window). k == st.epoch + w.last) (here-is me st ticks h in_it)
