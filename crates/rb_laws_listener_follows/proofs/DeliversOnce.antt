-- A listener delivers in a slot of a frame with the last tick of the slot's stage 2, and with no
-- other tick.
use Rattle.std.proofs.{Common.{◌≡◌, ◌⊎◌, ℕ, zero, suc, ◌+◌, ◌-◌, ◌*◌, ◌/◌, ◌%◌, ◌<◌, ◌≤◌, ◌==◌, Bool, true, false, [], Option, Some, None, if◌then◌else◌, unwrap_or, inl, inr, refl, sym, ◌∙◌, ap, subst, arith}, lemmas.Bool.{cases_lt, eqb-true}, lemmas.Bool.Decides.nat_tests, lemmas.Option.none-some}
use Rattle.std.specs.Option.{option_and_then}
use Rattle.rb_base.specs.{Nodes.Side.Biu, Sizes.{Sizes, sync_slot_of}, declared.values.Delivery.Delivery, declared.values.Heard.Heard}
use Rattle.rb_rules.specs.{declared.closing.Closed.Closed, declared.plan.Plan.Plan, declared.plan.Window.Window, declared.record.Epoch.Epoch, declared.role.Role.Role, declared.role.Role.TheVariants.{Data, DiagBiu, DiagRmu, Schedule, Sync}, declared.sense.Sense.Sense, Core.{Act, Core, act_on, epoch_at, is_last, of_source, state_at, window_here}, ExactStage.{Outcome, close_exact, delivery_of, outcome_of}, Goodness.Scenario, Hearing.{close_window, tail_at, window_numbered}, NodeState.{NodeState, sender_at}, NodeSteps.close, Slots.{Sender, role_of}, Slots.Sender.{EachTrusted, Node, Nobody}, SyncStage.{close_sync, sync_outcome_of}, Windows.{holds_offset, window_at, windows_of_frame}}
use Rattle.rb_rules.proofs.WindowNumbers.{exact-numbered, sync-numbered}
use Rattle.rb_laws_events.specs.Closing.{stages_in}
use Rattle.rb_laws_events.proofs.TickWindows.{get-window, how-many}
use Rattle.rb_listen.specs.Following.{follow}
use Rattle.rb_laws_listener_learns.specs.Ears.{Ear, told_at}
use Rattle.rb_laws_listener_follows.proofs.{EpochKnown.{AmongThem, among}, EpochsRise.{AtTick, WaitsFirst, at_tick, none_earlier, quiet_before}, FollowerRuns.acts_by}

-- the delivery is of this frame and slot, and the stage is 2
record IsOfSlot (st : NodeState) (slot stage : ℕ) (d : Delivery) : Type 0 where
  pub frame : d.frame ≡ st.frame
  pub slot_is : d.slot ≡ slot
  pub stage_is : stage ≡ 2

delivers_of : (st : NodeState) (slot stage : ℕ) (role : Role) (sender : Sender) (vote : Heard) {d : _} → delivery_of Biu st slot role sender stage vote ≡ Some d → IsOfSlot st slot stage d
delivers_of st slot stage (Schedule i) sender vote {d} h = absurd (none-some d h)
delivers_of st slot stage (DiagBiu i) sender vote {d} h = absurd (none-some d h)
delivers_of st slot stage (DiagRmu i) sender vote {d} h = absurd (none-some d h)
delivers_of st slot stage Sync sender vote {d} h = absurd (none-some d h)
delivers_of st slot stage (Data n) Nobody vote {d} h = absurd (none-some d h)
delivers_of st slot stage (Data n) EachTrusted vote {d} h = absurd (none-some d h)
delivers_of st slot stage (Data n) (Node owner) vote {d} h = go (stage == 2) refl h
  where
    said : Delivery
    said = record { frame = st.frame; slot = slot; sender = owner; value = vote }

    none : Option Delivery
    none = None

    same : (a b : Delivery) → Some a ≡ Some b → a ≡ b
    same a b e = cc

    go : (b : Bool) → (stage == 2) ≡ b → (if b then Some said else none) ≡ Some d → IsOfSlot st slot stage d
    go true e h = record {
      frame = sym (ap (λ (x : Delivery). x.frame) (same said d h));
      slot_is = sym (ap (λ (x : Delivery). x.slot) (same said d h));
      stage_is = eqb-true stage 2 e;
    }
    go false e h = absurd (none-some d h)

exact-delivers : (sizes : Sizes) (st : NodeState) (slot stage : ℕ) (sense : ℕ → Sense) {d : _} → (close_exact sizes Biu 16 st slot stage sense).closed.delivered ≡ Some d → IsOfSlot st slot stage d
unfolding close_exact outcome_of
exact-delivers sizes st slot stage sense h = delivers_of st slot stage (role_of sizes slot) (sender_at sizes Biu st slot) _ h

sync-delivers : (sizes : Sizes) (st : NodeState) (stage first : ℕ) (sense : ℕ → Sense) → (close_sync sizes Biu st stage first sense).closed.delivered ≡ None
unfolding close_sync sync_outcome_of
sync-delivers sizes st stage first sense = refl

record IsOfExact (sizes : Sizes) (st : NodeState) (slot stage : ℕ) (d : Delivery) : Type 0 where
  pub of_slot : IsOfSlot st slot stage d
  pub exact : (slot == sync_slot_of sizes) ≡ false

close-delivers : (sizes : Sizes) (st : NodeState) (slot stage first : ℕ) (sense : ℕ → Sense) {d : _} → (close sizes Biu 16 st slot stage first sense).closed.delivered ≡ Some d → IsOfExact sizes st slot stage d
close-delivers sizes st slot stage first sense {d} h = go (slot == sync_slot_of sizes) refl h
  where
    go : (b : Bool) → (slot == sync_slot_of sizes) ≡ b
        → (elim b as (λ _. Outcome) [ true ↦ close_sync sizes Biu st stage (st.epoch + first) sense | false ↦ close_exact sizes Biu 16 st slot stage sense ]).closed.delivered ≡ Some d → IsOfExact sizes st slot stage d
    go true e h = absurd (none-some d (sym (sync-delivers sizes st stage (st.epoch + first) sense) ∙ h))
    go false e h = record { of_slot = exact-delivers sizes st slot stage sense h; exact = e }

-- stage 2 of a slot below the sync slot ends with the last tick of the slot's second window
exact_last : (sizes : Sizes) (plan : Plan) (st : NodeState) (k : ℕ) → ((window_here sizes plan Biu st k).slot == sync_slot_of sizes) ≡ false → (window_here sizes plan Biu st k).stage ≡ 2
    → ((window_here sizes plan Biu st k).slot < sync_slot_of sizes) × ((window_here sizes plan Biu st k).last ≡ (3 * (window_here sizes plan Biu st k).slot + 1) * plan.l + plan.l - 1)
exact_last sizes plan st k other stage = go (window_at sizes plan (k - st.epoch)) refl other stage
  where
    sync_test : (a b : ℕ) → a ≡ b → (a == b) ≡ false → ⊥
    sync_test a b e h = let t : (a == b) ≡ true = grind (arith, nat_tests, e) in let both : true ≡ false = sym t ∙ h in cc

    go : (o : Option Window) → window_at sizes plan (k - st.epoch) ≡ o → ((unwrap_or o (tail_at sizes plan Biu st)).slot == sync_slot_of sizes) ≡ false → (unwrap_or o (tail_at sizes plan Biu st)).stage ≡ 2
        → ((unwrap_or o (tail_at sizes plan Biu st)).slot < sync_slot_of sizes)
        × ((unwrap_or o (tail_at sizes plan Biu st)).last ≡ (3 * (unwrap_or o (tail_at sizes plan Biu st)).slot + 1) * plan.l + plan.l - 1)
    go None e other stage = let s : 4 ≡ 2 = stage in absurd (omega (arith, s))
    go (Some x) e other stage =
        let f : AmongThem (windows_of_frame sizes plan) x = among (holds_offset (k - st.epoch)) (windows_of_frame sizes plan) e in
        let inside : f.at < stages_in sizes = omega (arith, f.within, how-many sizes plan) in
        let is : window_numbered sizes plan Biu st f.at ≡ x = same_window (window_numbered sizes plan Biu st f.at) x (sym (get-window sizes plan Biu st f.at inside) ∙ f.there) in
        by f.at inside is (cases_lt f.at (3 * sync_slot_of sizes))
      where
        same_window : (a b : Window) → Some a ≡ Some b → a ≡ b
        same_window a b q = cc

        by : (n : ℕ) → n < stages_in sizes → window_numbered sizes plan Biu st n ≡ x → (n < 3 * sync_slot_of sizes) ⊎ (3 * sync_slot_of sizes ≤ n) → (x.slot < sync_slot_of sizes) × (x.last ≡ (3 * x.slot + 1) * plan.l + plan.l - 1)
        by n inside is (inl less) =
            let w = exact-numbered sizes plan Biu st n less in
            let slot_is : x.slot ≡ n / 3 = sym (ap (λ (y : Window). y.slot) is) ∙ ap (λ (y : Window). y.slot) w in
            let stage_is : x.stage ≡ n % 3 + 1 = sym (ap (λ (y : Window). y.stage) is) ∙ ap (λ (y : Window). y.stage) w in
            let last_is : x.last ≡ n * plan.l + plan.l - 1 = sym (ap (λ (y : Window). y.last) is) ∙ ap (λ (y : Window). y.last) w in
            let number : n ≡ 3 * x.slot + 1 = omega (arith, slot_is, stage_is, stage) in
            (omega (arith, number, less), last_is ∙ ap (λ i. i * plan.l + plan.l - 1) number)
        by n inside is (inr late) = absurd (sync_test x.slot (sync_slot_of sizes) (sym (ap (λ (y : Window). y.slot) is) ∙ in_sync (n - 3 * sync_slot_of sizes) (omega (arith, inside, late)) (omega (arith, late))) other)
          where
            in_sync : (r : ℕ) → r < 3 → n ≡ 3 * sync_slot_of sizes + r → (window_numbered sizes plan Biu st n).slot ≡ sync_slot_of sizes
            in_sync zero small at = ap (λ (y : Window). y.slot) (ap (window_numbered sizes plan Biu st) at ∙ sync-numbered sizes plan Biu st 0)
            in_sync (suc zero) small at = ap (λ (y : Window). y.slot) (ap (window_numbered sizes plan Biu st) at ∙ sync-numbered sizes plan Biu st 1)
            in_sync (suc (suc zero)) small at = ap (λ (y : Window). y.slot) (ap (window_numbered sizes plan Biu st) at ∙ sync-numbered sizes plan Biu st 2)
            in_sync (suc (suc (suc r))) small at = absurd (omega (arith, small))

-- ---- a tick

record DeliversAt (sizes : Sizes) (plan : Plan) (st : NodeState) (k : ℕ) (d : Delivery) : Type 0 where
  pub frame : d.frame ≡ st.frame
  pub below : d.slot < sync_slot_of sizes
  pub tick : k ≡ st.epoch + ((3 * d.slot + 1) * plan.l + plan.l - 1)

act-delivers : (sizes : Sizes) (plan : Plan) (c : Core) (st : NodeState) {d : _} → option_and_then (λ (x : Closed). x.delivered) (act_on sizes plan Biu 16 c st None st).closed ≡ Some d → DeliversAt sizes plan st c.had d
unfolding act_on
act-delivers sizes plan c st {d} h = by (is_last sizes plan Biu st c.had) refl h
  where
    w : Window
    w = window_here sizes plan Biu st c.had

    x : Outcome
    x = close_window sizes plan Biu 16 st (window_here sizes plan Biu st c.had) (of_source c.inbox)

    with_last : is_last sizes plan Biu st c.had ≡ true → (close_window sizes plan Biu 16 st (window_here sizes plan Biu st c.had) (of_source c.inbox)).closed.delivered ≡ Some d → DeliversAt sizes plan st c.had d
    with_last last h =
        let of : IsOfExact sizes st w.slot w.stage d = close-delivers sizes st w.slot w.stage w.first _ h in
        let ends = exact_last sizes plan st c.had of.exact of.of_slot.stage_is in
        let slot : (window_here sizes plan Biu st c.had).slot ≡ d.slot = sym of.of_slot.slot_is in
        record {
          frame = of.of_slot.frame;
          below = subst (λ t. t < sync_slot_of sizes) slot ends.0;
          tick = eqb-true c.had (st.epoch + w.last) last ∙ ap (λ n. st.epoch + n) (ends.1 ∙ ap (λ t. (3 * t + 1) * plan.l + plan.l - 1) slot);
        }

    by : (b : Bool) → is_last sizes plan Biu st c.had ≡ b
        → option_and_then (λ (y : Closed). y.delivered) (elim b as (λ _. Act) [
          | true ↦ record { core = record { state = x.state; had = c.had + 1; inbox = [] }; epoch = epoch_at sizes Biu st c.had; message = None; closed = Some x.closed }
          | false ↦ record { core = record { state = st; had = c.had + 1; inbox = c.inbox }; epoch = epoch_at sizes Biu st c.had; message = None; closed = None }
        ]).closed ≡ Some d → DeliversAt sizes plan st c.had d
    by true last h = with_last last h
    by false last h = absurd (none-some d h)

-- the listener delivers `d` with tick `k`
record DeliversThen (sc : Scenario) (ear : Ear) (k : ℕ) (d : Delivery) : Type 0 where
  pub x : AtTick sc ear k
  pub at : DeliversAt sc.sizes sc.plan x.st x.core.had d

delivers_then : {sc ear tick s first : _} → WaitsFirst sc ear tick s first → (k : ℕ) {d : _} → k < ear.ticks → (told_at sc ear k).delivered ≡ Some d → DeliversThen sc ear k d
delivers_then {sc} {ear} {first} w k {d} in_time told = elim (cases_lt k first.epoch) [ inl before ↦ absurd (early before) | inr after ↦ late after ]
  where
    early : k < first.epoch → ⊥
    early before = none-some d (sym (ap (λ h. h.delivered) (quiet_before w k in_time before)) ∙ told)

    late : first.epoch ≤ k → DeliversThen sc ear k d
    late after =
        let x : AtTick sc ear k = at_tick w k after in_time in
        let acts : follow sc.sizes sc.plan x.core ≡ act_on sc.sizes sc.plan Biu 16 x.core x.st None x.st =
        acts_by sc.sizes sc.plan x.core (omega (arith, in_time, w.ticks, x.had)) (ap (state_at sc.sizes sc.plan Biu x.core.state) x.had ∙ x.at) in
        let said : option_and_then (λ (y : Closed). y.delivered) (act_on sc.sizes sc.plan Biu 16 x.core x.st None x.st).closed ≡ Some d =
        sym (ap (λ h. h.heed.delivered) x.heeds ∙ ap (λ a. option_and_then (λ (y : Closed). y.delivered) a.closed) acts) ∙ told in
        record { x = x; at = act-delivers sc.sizes sc.plan x.core x.st said }

-- in a frame that the listener tells with one tick alone, it delivers in a slot with the last tick
-- of stage 2 alone
pub delivers_once : {sc ear tick s first : _} → WaitsFirst sc ear tick s first → {frame : ℕ} (epoch : ℕ)
    → ((k : ℕ) (e : Epoch) → k < ear.ticks → (told_at sc ear k).epoch ≡ Some e → e.frame ≡ frame → k ≡ epoch)
    → (k : ℕ) (d : Delivery) → k < ear.ticks → (told_at sc ear k).delivered ≡ Some d → d.frame ≡ frame
    → (d.slot < sync_slot_of sc.sizes) × (k ≡ epoch + (3 * d.slot + 2) * sc.plan.l - 1)
delivers_once {sc} {ear} w epoch only k d in_time told is = (
  t.at.below,
  sym t.x.had ∙ t.at.tick ∙ ap (λ b. b + ((3 * d.slot + 1) * sc.plan.l + sc.plan.l - 1)) (t.x.now.epoch_is ∙ begun) ∙ some_l sc.plan.l w.some_l epoch d.slot,
)
  where
    t : DeliversThen sc ear k d
    t = delivers_then w k in_time told

    some_l : (a : ℕ) → 1 ≤ a → (b t : ℕ) → b + ((3 * t + 1) * a + a - 1) ≡ b + (3 * t + 2) * a - 1
    some_l a some b t = let m : (3 * t + 2) * a ≡ (3 * t + 1) * a + a = omega arith in omega (arith, m, some)

    begun : t.x.now.begun ≡ epoch
    begun = only t.x.now.begun t.x.now.e (omega (arith, t.x.now.up_to, in_time)) t.x.now.told (t.x.now.frame_is ∙ sym t.at.frame ∙ is)

pub delivers_later : {sc ear tick s first : _} → WaitsFirst sc ear tick s first → (k : ℕ) {d : _} → k < ear.ticks → (told_at sc ear k).delivered ≡ Some d → first.frame ≤ d.frame
delivers_later {sc} {ear} {first} w k {d} in_time told =
    let t : DeliversThen sc ear k d = delivers_then w k in_time told in
    let f : t.x.now.e.frame ≡ d.frame = t.x.now.frame_is ∙ sym t.at.frame in
    let m : first.frame ≤ t.x.now.e.frame = none_earlier w t.x.now.begun (omega (arith, t.x.now.up_to, in_time)) t.x.now.told in
    omega (arith, f, m)
