-- A listener comes to know its next epoch with the last tick of stage 2 of the sync slot, and with
-- no other tick.
use Rattle.std.proofs.{Common.{◌≡◌, ◌⊎◌, ℕ, zero, suc, ◌+◌, ◌-◌, ◌*◌, ◌/◌, ◌<◌, ◌==◌, ◌&&◌, Bool, true, false, List, [], ◌∷◌, length, find, cond, Option, Some, None, if◌then◌else◌, option_map, unwrap_or, slice_get, inl, inr, refl, sym, ◌∙◌, ap, subst, arith}, lemmas.Bool.{cases_lt, eqb-true}}
use Rattle.rb_base.specs.{Nodes.Side.Biu, Sizes.{Sizes, sync_slot_of}}
use Rattle.rb_rules.specs.{declared.plan.Plan.Plan, declared.plan.Window.Window, declared.sense.Sense.Sense, Core.{Act, Core, act_on, epoch_at, is_last, is_tick, of_source, state_at, window_here}, ExactStage.{Outcome, close_exact}, Hearing.{close_window, tail_at, window_numbered}, NodeState.NodeState, NodeSteps.{close, turn_if_known}, Plan.f0_of, declared.role.Role.TheVariants.Sync, SyncStage.{close_sync, new_epoch_of, sync_closing_of, sync_outcome_of, expects_call}, Slots.listens, Windows.{holds_offset, window_at, windows_of_frame}}
use Rattle.rb_rules.proofs.{RoundStates.{Stays, close-stays}, WindowNumbers.{exact-numbered, sync-numbered}}
use Rattle.rb_laws_agreement.proofs.Tests.{true_or_false}
use Rattle.rb_laws_events.specs.Closing.{stages_in}
use Rattle.rb_laws_events.proofs.{NodeMoves.turn-at, StageOrder.last-second-call, TickWindows.{get-window, how-many}, TurnTicks.no-next}
use Rattle.rb_laws_listener_near.proofs.SyncTracks.{turns_with}
use Rattle.rb_laws_listener_follows.proofs.{ExactSteps.exact_keeps, TurnSteps.turned-unknown}

-- the offset from which on the listener knows the middle of stage 2
abbrev pub second_end : Sizes → Plan → ℕ
second_end sizes plan = f0_of sizes plan + plan.l + plan.v

-- ---- the window of a tick

pub record AmongThem (xs : List Window) (x : Window) : Type 0 where
  pub at : ℕ
  pub there : slice_get xs at ≡ Some x
  pub within : at < length xs

pub among : (p : Window → Bool) (xs : List Window) {x : _} → find p xs ≡ Some x → AmongThem xs x
among p [] h = cc
among p (y ∷ ys) {x} h = by (p y) h (λ e. among p ys e)
  where
    by : (b : Bool) → cond b (Some y) (find p ys) ≡ Some x → (find p ys ≡ Some x → AmongThem ys x) → AmongThem (y ∷ ys) x
    by true h rest = record { at = 0; there = h; within = omega arith }
    by false h rest =
        let f : AmongThem ys x = rest h in
        record { at = suc f.at; there = f.there; within = omega (arith, f.within) }

-- the stage 2 of the sync slot is the window of one number
second_number : (sizes : Sizes) (plan : Plan) (st : NodeState) (n : ℕ) → n < stages_in sizes → (window_numbered sizes plan Biu st n).slot ≡ sync_slot_of sizes → (window_numbered sizes plan Biu st n).stage ≡ 2
    → n ≡ 3 * sync_slot_of sizes + 1
second_number sizes plan st n below slot stage = elim (cases_lt n (3 * sync_slot_of sizes)) [ inl less ↦ exact less | inr late ↦ in_sync (n - 3 * sync_slot_of sizes) (omega (arith, below, late)) (omega (arith, late)) ]
  where
    exact : n < 3 * sync_slot_of sizes → n ≡ 3 * sync_slot_of sizes + 1
    exact less =
        let e : n / 3 ≡ sync_slot_of sizes = sym (ap (λ (x : Window). x.slot) (exact-numbered sizes plan Biu st n less)) ∙ slot in
        absurd (omega (arith, e, less))

    in_sync : (r : ℕ) → r < 3 → n ≡ 3 * sync_slot_of sizes + r → n ≡ 3 * sync_slot_of sizes + 1
    in_sync zero small at =
        let e : 1 ≡ 2 = sym (ap (λ (x : Window). x.stage) (ap (window_numbered sizes plan Biu st) at ∙ sync-numbered sizes plan Biu st 0)) ∙ stage in
        absurd (omega (arith, e))
    in_sync (suc zero) small at = omega (arith, at)
    in_sync (suc (suc zero)) small at =
        let e : 3 ≡ 2 = sym (ap (λ (x : Window). x.stage) (ap (window_numbered sizes plan Biu st) at ∙ sync-numbered sizes plan Biu st 2)) ∙ stage in
        absurd (omega (arith, e))
    in_sync (suc (suc (suc r))) small at = absurd (omega (arith, small))

-- stage 2 of the sync slot ends with the tick before `second_end`
second_last : (sizes : Sizes) (plan : Plan) (st : NodeState) (k : ℕ) → (window_here sizes plan Biu st k).slot ≡ sync_slot_of sizes → (window_here sizes plan Biu st k).stage ≡ 2
    → (window_here sizes plan Biu st k).last ≡ second_end sizes plan - 1
second_last sizes plan st k slot stage = go (window_at sizes plan (k - st.epoch)) refl slot stage
  where
    go : (o : Option Window) → window_at sizes plan (k - st.epoch) ≡ o → (unwrap_or o (tail_at sizes plan Biu st)).slot ≡ sync_slot_of sizes → (unwrap_or o (tail_at sizes plan Biu st)).stage ≡ 2
        → (unwrap_or o (tail_at sizes plan Biu st)).last ≡ second_end sizes plan - 1
    go None e slot stage = let s : 4 ≡ 2 = stage in absurd (omega (arith, s))
    go (Some x) e slot stage =
        let f : AmongThem (windows_of_frame sizes plan) x = among (holds_offset (k - st.epoch)) (windows_of_frame sizes plan) e in
        let inside : f.at < stages_in sizes = omega (arith, f.within, how-many sizes plan) in
        let is : window_numbered sizes plan Biu st f.at ≡ x = same_window (window_numbered sizes plan Biu st f.at) x (sym (get-window sizes plan Biu st f.at inside) ∙ f.there) in
        let number : f.at ≡ 3 * sync_slot_of sizes + 1 = second_number sizes plan st f.at inside (ap (λ y. y.slot) is ∙ slot) (ap (λ y. y.stage) is ∙ stage) in
        sym (ap (λ y. y.last) is) ∙ ap (λ n. (window_numbered sizes plan Biu st n).last) number ∙ last-second-call sizes plan Biu st
      where
        same_window : (a b : Window) → Some a ≡ Some b → a ≡ b
        same_window a b q = cc

-- ---- a close

other-middle : (b t : Bool) (before : Option ℕ) (middle : ℕ) → t ≡ false → (if b && t then Some middle else before) ≡ before
other-middle true true before middle h = cc
other-middle true false before middle h = refl
other-middle false t before middle h = refl

sync-keeps : (sizes : Sizes) (plan : Plan) (st : NodeState) (stage first : ℕ) (sense : ℕ → Sense) → (stage == 2) ≡ false → new_epoch_of plan Biu (close_sync sizes Biu st stage first sense).state ≡ new_epoch_of plan Biu st
unfolding close_sync sync_outcome_of
sync-keeps sizes plan st stage first sense other =
    ap (option_map (λ k2. k2 + plan.v + plan.z + plan.c))
    (other-middle (listens Biu Sync stage) (stage == 2) st.k2 (sync_closing_of st.far (expects_call Biu st stage) sense first).middle other)

close-keeps : (sizes : Sizes) (plan : Plan) (st : NodeState) (slot stage first : ℕ) (sense : ℕ → Sense)
    → (new_epoch_of plan Biu (close sizes Biu 16 st slot stage first sense).state ≡ new_epoch_of plan Biu st) ⊎ ((slot ≡ sync_slot_of sizes) × (stage ≡ 2))
close-keeps sizes plan st slot stage first sense = go (slot == sync_slot_of sizes) refl
  where
    at_sync : slot ≡ sync_slot_of sizes → (b : Bool) → (stage == 2) ≡ b
        → (new_epoch_of plan Biu (close_sync sizes Biu st stage (st.epoch + first) sense).state ≡ new_epoch_of plan Biu st) ⊎ ((slot ≡ sync_slot_of sizes) × (stage ≡ 2))
    at_sync e true h = inr (e, eqb-true stage 2 h)
    at_sync e false h = inl (sync-keeps sizes plan st stage (st.epoch + first) sense h)

    go : (b : Bool) → (slot == sync_slot_of sizes) ≡ b
        → (new_epoch_of plan Biu (elim b as (λ _. Outcome) [ true ↦ close_sync sizes Biu st stage (st.epoch + first) sense | false ↦ close_exact sizes Biu 16 st slot stage sense ]).state ≡ new_epoch_of plan Biu st)
        ⊎ ((slot ≡ sync_slot_of sizes) × (stage ≡ 2))
    go true e = at_sync (eqb-true slot (sync_slot_of sizes) e) (stage == 2) refl
    go false e = inl (exact_keeps sizes plan st slot stage sense)

-- ---- a tick

-- the tick is counted, keeps the epoch, and keeps the next epoch unless it ends stage 2 of the sync
-- slot
pub record TickKeeps (sizes : Sizes) (plan : Plan) (st : NodeState) (k : ℕ) (a : Act) : Type 0 where
  pub frame : a.core.state.frame ≡ st.frame
  pub epoch : a.core.state.epoch ≡ st.epoch
  pub had : a.core.had ≡ k + 1
  pub known : (new_epoch_of plan Biu a.core.state ≡ new_epoch_of plan Biu st) ⊎ (k ≡ st.epoch + (second_end sizes plan - 1))

pub tick_keeps : (sizes : Sizes) (plan : Plan) (c : Core) (st : NodeState) → TickKeeps sizes plan st c.had (act_on sizes plan Biu 16 c st None st)
unfolding act_on
tick_keeps sizes plan c st = by (is_last sizes plan Biu st c.had) refl
  where
    w : Window
    w = window_here sizes plan Biu st c.had

    x : Outcome
    x = close_window sizes plan Biu 16 st (window_here sizes plan Biu st c.had) (of_source c.inbox)

    stays : Stays st (close_window sizes plan Biu 16 st (window_here sizes plan Biu st c.had) (of_source c.inbox)).state
    stays = close-stays sizes Biu 16 st w.slot w.stage w.first _

    known : is_last sizes plan Biu st c.had ≡ true
        → (new_epoch_of plan Biu (close_window sizes plan Biu 16 st (window_here sizes plan Biu st c.had) (of_source c.inbox)).state ≡ new_epoch_of plan Biu st)
        ⊎ (c.had ≡ st.epoch + (second_end sizes plan - 1))
    known last = elim (close-keeps sizes plan st w.slot w.stage w.first _) [
      | inl same ↦ inl same
      | inr second ↦ inr (eqb-true c.had (st.epoch + w.last) last ∙ ap (λ n. st.epoch + n) (second_last sizes plan st c.had second.0 second.1))
    ]

    by : (b : Bool) → is_last sizes plan Biu st c.had ≡ b
        → TickKeeps sizes plan st c.had (elim b as (λ _. Act) [
          | true ↦ record { core = record { state = x.state; had = c.had + 1; inbox = [] }; epoch = epoch_at sizes Biu st c.had; message = None; closed = Some x.closed }
          | false ↦ record { core = record { state = st; had = c.had + 1; inbox = c.inbox }; epoch = epoch_at sizes Biu st c.had; message = None; closed = None }
        ])
    by true h = record { frame = stays.frame; epoch = stays.epoch; had = refl; known = known h }
    by false h = record { frame = refl; epoch = refl; had = refl; known = inl refl }

-- ---- a turn

-- the node turns to its next frame with tick `k`
pub record Turns (sizes : Sizes) (plan : Plan) (st now : NodeState) (k : ℕ) : Type 0 where
  pub known : new_epoch_of plan Biu st ≡ Some k
  pub frame : now.frame ≡ st.frame + 1
  pub epoch : now.epoch ≡ k
  pub unknown : new_epoch_of plan Biu now ≡ None

keeps : (sizes : Sizes) (plan : Plan) (st : NodeState) {x : ℕ} (k : ℕ) → new_epoch_of plan Biu st ≡ Some x → (x == k) ≡ false → state_at sizes plan Biu st k ≡ st
unfolding state_at
keeps sizes plan st k known other =
    ap (λ o. elim (is_tick o k) as (λ _. NodeState) [ true ↦ turn_if_known sizes plan Biu st | false ↦ st ]) known
    ∙ ap (λ b. elim b as (λ _. NodeState) [ true ↦ turn_if_known sizes plan Biu st | false ↦ st ]) other

pub turns_or_stays : (sizes : Sizes) (plan : Plan) (st : NodeState) (k : ℕ) → Turns sizes plan st (state_at sizes plan Biu st k) k ⊎ (state_at sizes plan Biu st k ≡ st)
turns_or_stays sizes plan st k = go (new_epoch_of plan Biu st) refl
  where
    same_tick : (x : ℕ) → new_epoch_of plan Biu st ≡ Some x → x ≡ k → Turns sizes plan st (state_at sizes plan Biu st k) k
    same_tick x e same = subst (λ t. Turns sizes plan st (state_at sizes plan Biu st t) t) same (
        let t = turn-at sizes plan Biu st e in
        record {
          known = e;
          frame = ap (λ (s : NodeState). s.frame) t.0 ∙ t.1.1;
          epoch = ap (λ (s : NodeState). s.epoch) t.0 ∙ t.1.0;
          unknown = ap (new_epoch_of plan Biu) (t.0 ∙ turns_with sizes plan st e) ∙ turned-unknown sizes plan x st;
        })

    go : (o : Option ℕ) → new_epoch_of plan Biu st ≡ o → Turns sizes plan st (state_at sizes plan Biu st k) k ⊎ (state_at sizes plan Biu st k ≡ st)
    go None e = inr (no-next sizes plan Biu st k e)
    go (Some x) e = elim (true_or_false (x == k)) [
      | inl is ↦ inl (same_tick x e (eqb-true x k is))
      | inr other ↦ inr (keeps sizes plan st k e other)
    ]
