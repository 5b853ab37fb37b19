-- The windows below the sync slot by their numbers: which one follows, and what is sent in one.
use Rattle.std.proofs.{Common.{◌≡◌, ℕ, zero, suc, ◌+◌, ◌-◌, ◌*◌, ◌/◌, ◌%◌, ◌<◌, ◌≤◌, ◌==◌, nat_lt, Bool, true, false, refl, ap, sym, ◌∙◌, subst, arith, inl, inr, Option, Some, None, unwrap_or, if◌then◌else◌}, lemmas.Bool.{cases_lt, ltb-false, ltb-true}, Math.Nat.{add-mul, div-mul-le_self, lt-div-mul-add, mul-le-mul_right}}
use Rattle.rb_base.specs.{Nodes.Side, Sizes.{Sizes, sync_slot_of}}
use Rattle.rb_base.proofs.Plain.{less-differs, more-differs}
use Rattle.rb_rules.specs.{declared.plan.Plan.Plan, declared.plan.Window.Window, Core.is_tick, Hearing.tail_at, NodeSteps.message_said, Plan.f0_of, SyncStage.{call_tick_of, send_tick_of}, Windows.{exact_window, send_offset_of, window_at, window_of}}
use Rattle.rb_rules.proofs.RoundStates.{HasTicks}
use Rattle.rb_plan.proofs.Offsets.{number_below, found_below, found_stage_1, found_stage_2, found_stage_3, found_none}
use Rattle.rb_slot.specs.Engines.{Seated}
use Rattle.rb_node.specs.{Aheads.{IsChosen, IsSaidNext, IsWindowOf, following, tick_said}, declared.ahead.Busy.Busy}
use Rattle.rb_node.proofs.{Busy.said-tick, Windows.window-or-tail}

-- `w` is an exact window below the sync slot, and the offset lies in it
pub record IsNumbered (sizes : Sizes) (plan : Plan) (offset : ℕ) (w : Window) : Type 0 where
  pub number : ℕ
  pub below : number < 3 * sync_slot_of sizes
  pub is : w ≡ exact_window plan number
  pub from : number * plan.l ≤ offset
  pub to : offset < number * plan.l + plan.l

some-is : (a b : Window) → Some a ≡ Some b → a ≡ b
some-is a b e = cc

not-some : (a : Window) → None ≡ Some a → ⊥
not-some a e = cc

slot-is : (a b : Window) → Some a ≡ Some b → a.slot ≡ b.slot
slot-is a b e = ap (λ (x : Window). x.slot) (some-is a b e)

-- the window of an offset from the sync slot on is in the sync slot
in-sync-slot : (sizes : Sizes) (plan : Plan) (offset : ℕ) (w : Window) → HasTicks plan → f0_of sizes plan ≤ offset → window_at sizes plan offset ≡ Some w
    → w.slot ≡ sync_slot_of sizes
in-sync-slot sizes plan offset w ticks from found =
    let l : 1 ≤ plan.l = ticks.l in
    let v : 1 ≤ plan.v = ticks.v in
    let z : 1 ≤ plan.z = ticks.z in
    elim (cases_lt offset (f0_of sizes plan + plan.l)) [
      | inl first ↦ slot-is w (window_of (sync_slot_of sizes) 1 (f0_of sizes plan) plan.l) (sym found ∙ found_stage_1 sizes plan offset l from first)
      | inr later ↦ elim (cases_lt offset (f0_of sizes plan + plan.l + plan.v)) [
        | inl second ↦ slot-is w (window_of (sync_slot_of sizes) 2 (f0_of sizes plan + plan.l) plan.v) (sym found ∙ found_stage_2 sizes plan offset l later second)
        | inr last ↦ elim (cases_lt offset (f0_of sizes plan + plan.l + plan.v + plan.z)) [
          | inl third ↦ slot-is w (window_of (sync_slot_of sizes) 3 (f0_of sizes plan + plan.l + plan.v) plan.z) (sym found ∙ found_stage_3 sizes plan offset l v last third)
          | inr tail ↦ absurd (not-some w (sym (found_none sizes plan offset l v z tail) ∙ found))
        ]
      ]
    ]

pub numbered : (sizes : Sizes) (plan : Plan) (offset : ℕ) (w : Window) → HasTicks plan → window_at sizes plan offset ≡ Some w
    → w.slot < sync_slot_of sizes → IsNumbered sizes plan offset w
numbered sizes plan offset w ticks found below =
    let l : 1 ≤ plan.l = ticks.l in
    elim (cases_lt offset (f0_of sizes plan)) [
      | inl before ↦
          let n : ℕ = offset / plan.l in
          let number : n < 3 * sync_slot_of sizes = number_below sizes plan offset plan.l refl l before in
          let low : n * plan.l ≤ offset = div-mul-le_self offset plan.l in
          let high : offset < n * plan.l + plan.l = lt-div-mul-add l in
          record {
            number = n;
            below = number;
            is = some-is w (exact_window plan n) (sym found ∙ found_below sizes plan offset n l number low high);
            from = low;
            to = high;
          }
      | inr from ↦
          let slot : w.slot ≡ sync_slot_of sizes = in-sync-slot sizes plan offset w ticks from found in
          absurd (omega arith)
    ]

-- the window of a tick if it is below the sync slot
pub numbered-here : (me : Side) (v : Seated) (had : ℕ) (w : Window) → HasTicks v.plan → IsWindowOf me v had w → w.slot < sync_slot_of v.sizes
    → IsNumbered v.sizes v.plan (had - v.state.epoch) w
numbered-here me v had w ticks here below =
    elim (window-or-tail v.sizes v.plan (had - v.state.epoch) ticks) [
      | inl (x, on) ↦
          let same : w ≡ x = here.is ∙ ap (λ o. unwrap_or o (tail_at v.sizes v.plan me v.state)) on.found in
          numbered v.sizes v.plan (had - v.state.epoch) w ticks (on.found ∙ ap Some (sym same)) below
      | inr none ↦
          let tail : w ≡ tail_at v.sizes v.plan me v.state =
          here.is ∙ ap (λ o. unwrap_or o (tail_at v.sizes v.plan me v.state)) (none (had - v.state.epoch) (omega arith)) in
          let slot : w.slot ≡ sync_slot_of v.sizes = ap (λ (x : Window). x.slot) tail in
          absurd (omega arith)
    ]

pub ends-later : (v : Seated) (had : ℕ) (w : Window) → v.state.epoch ≤ had → IsNumbered v.sizes v.plan (had - v.state.epoch) w
    → had ≤ v.state.epoch + w.last
ends-later v had w epoch n =
    let to : had - v.state.epoch < n.number * v.plan.l + v.plan.l = n.to in
    subst (λ (x : Window). had ≤ v.state.epoch + x.last) (sym n.is) (omega arith)

-- The window that follows.

window-is : (slot slot2 stage stage2 first first2 last last2 : ℕ) → slot ≡ slot2 → stage ≡ stage2 → first ≡ first2 → last ≡ last2
    → (let a : Window = record { slot = slot; stage = stage; first = first; last = last } in a)
    ≡ (let b : Window = record { slot = slot2; stage = stage2; first = first2; last = last2 } in b)
window-is slot slot2 stage stage2 first first2 last last2 a b c d = rw (a, b, c, d) refl

same-window : (a b : Window) → a.slot ≡ b.slot → a.stage ≡ b.stage → a.first ≡ b.first → a.last ≡ b.last → a ≡ b
same-window a b slot stage first last = window-is a.slot b.slot a.stage b.stage a.first b.first a.last b.last slot stage first last

-- the window that follows window `n` has the next number
follows-exact : (plan : Plan) (n : ℕ) → 1 ≤ plan.l → following plan (exact_window plan n) ≡ exact_window plan (n + 1)
follows-exact plan n some = by (nat_lt (n % 3 + 1) 3) refl
  where
    next : (n + 1) * plan.l ≡ n * plan.l + 1 * plan.l
    next = add-mul n 1 plan.l

    by : (b : Bool) → nat_lt (n % 3 + 1) 3 ≡ b
        → (elim b as (λ _. Window) [
          | true ↦ record { slot = n / 3; stage = n % 3 + 1 + 1; first = n * plan.l + plan.l - 1 + 1; last = n * plan.l + plan.l - 1 + plan.l }
          | false ↦ record { slot = n / 3 + 1; stage = 1; first = n * plan.l + plan.l - 1 + 1; last = n * plan.l + plan.l - 1 + plan.l }
        ])
        ≡ exact_window plan (n + 1)
    by true e =
        let lt : n % 3 + 1 < 3 = ltb-true (n % 3 + 1) 3 e in
        same-window
        (record { slot = n / 3; stage = n % 3 + 1 + 1; first = n * plan.l + plan.l - 1 + 1; last = n * plan.l + plan.l - 1 + plan.l })
        (exact_window plan (n + 1)) (omega arith) (omega arith) (omega (arith, next, some)) (omega (arith, next, some))
    by false e =
        let ge : 3 ≤ n % 3 + 1 = ltb-false (n % 3 + 1) 3 e in
        same-window
        (record { slot = n / 3 + 1; stage = 1; first = n * plan.l + plan.l - 1 + 1; last = n * plan.l + plan.l - 1 + plan.l })
        (exact_window plan (n + 1)) (omega arith) (omega arith) (omega (arith, next, some)) (omega (arith, next, some))

pub follows : (sizes : Sizes) (plan : Plan) (offset : ℕ) (w : Window) → HasTicks plan → IsNumbered sizes plan offset w
    → window_at sizes plan (w.last + 1) ≡ Some (following plan w)
follows sizes plan offset w ticks h =
    let n : ℕ = h.number in
    let l : 1 ≤ plan.l = ticks.l in
    let below : n < 3 * sync_slot_of sizes = h.below in
    let next : (n + 1) * plan.l ≡ n * plan.l + 1 * plan.l = add-mul n 1 plan.l in
    let one : following plan (exact_window plan n) ≡ exact_window plan (n + 1) = follows-exact plan n l in
    subst (λ (x : Window). window_at sizes plan (x.last + 1) ≡ Some (following plan x)) (sym h.is)
    (elim (cases_lt (n + 1) (3 * sync_slot_of sizes)) [
      | inl more ↦
          found_below sizes plan (n * plan.l + plan.l - 1 + 1) (n + 1) l more (omega (arith, next, l)) (omega (arith, next, l))
          ∙ ap Some (sym one)
      | inr end ↦
          let all : n + 1 ≡ 3 * sync_slot_of sizes = omega arith in
          let times : 3 * sync_slot_of sizes * plan.l ≡ n * plan.l + 1 * plan.l = ap (λ x. x * plan.l) (sym all) ∙ next in
          found_stage_1 sizes plan (n * plan.l + plan.l - 1 + 1) l (omega (arith, times, l)) (omega (arith, times, l))
          ∙ ap Some (same-window (window_of (sync_slot_of sizes) 1 (f0_of sizes plan) plan.l) (exact_window plan (n + 1))
          (omega arith) (omega arith) (omega (arith, next, times)) (omega (arith, next, times)) ∙ sym one)
    ])

-- What is sent in a window.

regroup : (a b c : ℕ) → a + (b + c) ≡ a + b + c
regroup a b c = omega arith

-- the message of a window below the sync slot is sent h ticks after the window's first tick
pub sent-here : (v : Seated) (offset : ℕ) (w : Window) → IsNumbered v.sizes v.plan offset w → w.slot < sync_slot_of v.sizes
    → send_tick_of v.sizes v.plan v.state w.slot w.stage ≡ Some (v.state.epoch + w.first + v.plan.h)
sent-here v offset w h below =
    ap (λ b. if b then call_tick_of v.sizes v.plan v.state w.stage else Some (v.state.epoch + send_offset_of v.plan w.slot w.stage))
    (less-differs w.slot (sync_slot_of v.sizes) below)
    ∙ ap Some (subst (λ (x : Window). v.state.epoch + send_offset_of v.plan x.slot x.stage ≡ v.state.epoch + x.first + v.plan.h) (sym h.is) (exact h.number))
  where
    exact : (n : ℕ) → v.state.epoch + ((3 * (n / 3) + (n % 3 + 1) - 1) * v.plan.l + v.plan.h) ≡ v.state.epoch + n * v.plan.l + v.plan.h
    exact n =
        let e : 3 * (n / 3) + (n % 3 + 1) - 1 ≡ n = omega arith in
        ap (λ m. v.state.epoch + (m * v.plan.l + v.plan.h)) e ∙ regroup v.state.epoch (n * v.plan.l) v.plan.h

-- the sending tick of window `m` is not in another window `n`
elsewhere : (epoch k n m l h : ℕ) → h < l → epoch + n * l ≤ k → k ≤ epoch + (n * l + l - 1) → (m ≡ n → ⊥) → (epoch + (m * l + h) == k) ≡ false
elsewhere epoch k n m l h short from to other =
    elim (cases_lt m n) [
      | inl lt ↦
          let times : (m + 1) * l ≤ n * l = mul-le-mul_right l (omega arith) in
          let next : (m + 1) * l ≡ m * l + 1 * l = add-mul m 1 l in
          less-differs (epoch + (m * l + h)) k (omega (arith, times, next, short, from))
      | inr ge ↦ elim (cases_lt n m) [
        | inl gt ↦
            let times : (n + 1) * l ≤ m * l = mul-le-mul_right l (omega arith) in
            let next : (n + 1) * l ≡ n * l + 1 * l = add-mul n 1 l in
            more-differs (epoch + (m * l + h)) k (omega (arith, times, next, short, to))
        | inr le ↦ absurd (other (omega arith))
      ]
    ]

pub not-due : (me : Side) (v : Seated) (had k stage : ℕ) (w : Window) → v.plan.h < v.plan.l → v.state.epoch ≤ had
    → IsNumbered v.sizes v.plan (had - v.state.epoch) w → w.slot < sync_slot_of v.sizes → had ≤ k → k ≤ v.state.epoch + w.last → 1 ≤ stage
    → (stage ≡ w.stage → ⊥) → is_tick (tick_said me v w.slot stage) k ≡ false
not-due me v had k stage w short epoch h below lo hi some other =
    said-tick k (message_said v.sizes me v.index v.state w.slot stage 0) (send_tick_of v.sizes v.plan v.state w.slot stage)
    (ap (λ b. is_tick (if b then call_tick_of v.sizes v.plan v.state stage else Some (v.state.epoch + send_offset_of v.plan w.slot stage)) k)
    (less-differs w.slot (sync_slot_of v.sizes) below)
    ∙ subst
    (λ (x : Window). k ≤ v.state.epoch + x.last → (stage ≡ x.stage → ⊥) → (v.state.epoch + send_offset_of v.plan x.slot stage == k) ≡ false)
    (sym h.is) (exact h.number h.from) hi other)
  where
    exact : (n : ℕ) → n * v.plan.l ≤ had - v.state.epoch → k ≤ v.state.epoch + (n * v.plan.l + v.plan.l - 1) → (stage ≡ n % 3 + 1 → ⊥)
        → (v.state.epoch + ((3 * (n / 3) + stage - 1) * v.plan.l + v.plan.h) == k) ≡ false
    exact n from to differs =
        elsewhere v.state.epoch k n (3 * (n / 3) + stage - 1) v.plan.l v.plan.h short (omega (arith, from, epoch, lo)) to
        (λ same. differs (omega (arith, some, same)))

-- if nothing is due up to a tick, the choice is that tick
pub idle : (had stage : ℕ) (candidate : Option ℕ) (b : Busy) → had ≤ b.tick → ((k : ℕ) → had ≤ k → k ≤ b.tick → is_tick candidate k ≡ false)
    → IsChosen had candidate stage b b
idle had stage candidate b later none = record {
  later = later;
  most = omega arith;
  not_before = λ k lo hi. none k lo (omega arith);
  either = inr (none b.tick later (omega arith), refl);
}

-- the choice among the three stages is that of the window's own stage
pub own-stage : (me : Side) (v : Seated) (had : ℕ) (w : Window) (before after : Busy) → v.plan.h < v.plan.l → v.state.epoch ≤ had
    → IsNumbered v.sizes v.plan (had - v.state.epoch) w → w.slot < sync_slot_of v.sizes → had ≤ before.tick
    → before.tick ≤ v.state.epoch + w.last → IsChosen had (tick_said me v w.slot w.stage) w.stage before after
    → IsSaidNext me v w.slot had before after
own-stage me v had w before after short epoch h below later ends chosen = by w.stage refl
  where
    none-by : (n stage : ℕ) → 1 ≤ stage → (stage ≡ w.stage → ⊥) → n ≤ before.tick → (k : ℕ) → had ≤ k → k ≤ n → is_tick (tick_said me v w.slot stage) k ≡ false
    none-by n stage some other le k lo hi = not-due me v had k stage w short epoch h below lo (omega (arith, ends, le, hi)) some other

    before-it : (stage : ℕ) → 1 ≤ stage → (stage ≡ w.stage → ⊥) → IsChosen had (tick_said me v w.slot stage) stage before before
    before-it stage some other =
        idle had stage (tick_said me v w.slot stage) before later (none-by before.tick stage some other (omega arith))

    after-it : (stage : ℕ) → 1 ≤ stage → (stage ≡ w.stage → ⊥) → IsChosen had (tick_said me v w.slot stage) stage after after
    after-it stage some other =
        idle had stage (tick_said me v w.slot stage) after chosen.later (none-by after.tick stage some other chosen.most)

    own : (stage : ℕ) → w.stage ≡ stage → IsChosen had (tick_said me v w.slot stage) stage before after
    own stage e = subst (λ s. IsChosen had (tick_said me v w.slot s) s before after) e chosen

    stage-of : (w.stage ≡ h.number % 3 + 1)
    stage-of = ap (λ (x : Window). x.stage) h.is

    by : (stage : ℕ) → w.stage ≡ stage → IsSaidNext me v w.slot had before after
    by zero e = absurd (omega (arith, e, stage-of))
    by (suc zero) e = record {
      third = before;
      second = before;
      from_third = before-it 3 (omega arith) (λ s. absurd (omega (arith, s, e)));
      from_second = before-it 2 (omega arith) (λ s. absurd (omega (arith, s, e)));
      from_first = own 1 e;
    }
    by (suc (suc zero)) e = record {
      third = before;
      second = after;
      from_third = before-it 3 (omega arith) (λ s. absurd (omega (arith, s, e)));
      from_second = own 2 e;
      from_first = after-it 1 (omega arith) (λ s. absurd (omega (arith, s, e)));
    }
    by (suc (suc (suc zero))) e = record {
      third = after;
      second = after;
      from_third = own 3 e;
      from_second = after-it 2 (omega arith) (λ s. absurd (omega (arith, s, e)));
      from_first = after-it 1 (omega arith) (λ s. absurd (omega (arith, s, e)));
    }
    by (suc (suc (suc (suc n)))) e = absurd (omega (arith, e, stage-of))
