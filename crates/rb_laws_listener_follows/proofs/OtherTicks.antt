-- A listener closes the stages of a frame that it follows with their own ticks only.
use Rattle.std.proofs.{Common.{◌≡◌, ◌⊎◌, ℕ, suc, ◌+◌, ◌-◌, ◌^◌, ◌<◌, ◌≤◌, ◌==◌, Bool, true, false, List, [], ◌∷◌, find, cond, Option, Some, None, unwrap_or, slice_get, inl, inr, refl, sym, ◌∙◌, ap, subst, arith}, lemmas.Bool.{cases_lt, eqb-true}}
use Rattle.rb_base.specs.{Nodes.Side.Biu, Sizes.{Sizes, sync_slot_of}, declared.values.Place.Place}
use Rattle.rb_rules.specs.{declared.closing.Closed.Closed, declared.plan.Plan.Plan, declared.plan.Window.Window, declared.record.Epoch.Epoch, declared.sense.Sense.Sense, Core.{Core, act_on, is_last, of_source, state_at, window_here}, ExactStage.{Outcome, close_exact}, Hearing.{close_window, tail_at}, NodeState.NodeState, NodeSteps.{close, expect_of}, Sense.sense_of, SyncStage.close_sync, Windows.{holds_offset, window_at, windows_of_frame}}
use Rattle.rb_laws_agreement.proofs.Tests.{true_or_false}
use Rattle.rb_listen.specs.Following.{follow}
use Rattle.rb_laws_listener_learns.specs.Ears.{listening_at, told_at}
use Rattle.rb_laws_listener_follows.specs.Following.{IsItsTick}
use Rattle.rb_laws_listener_follows.proofs.{BeforeFirst.{Follows, later_follows}, ClosesExact.exact-place, EpochsRise.{IsIn, IsSince, WaitsFirst, in_state, same_core, since}, FollowerRuns.{IsClosing, acts_by, closes_it}, SeenPremise.place_synced, SeenWindows.quiet_act}
use Rattle.rb_listen.specs.Listening as now

-- ---- a close

place_any : (sizes : Sizes) (st : NodeState) (slot stage first : ℕ) (sense : ℕ → Sense)
    → (close sizes Biu 16 st slot stage first sense).closed.place ≡ record { frame = st.frame; slot = slot; stage = stage }
place_any sizes st slot stage first sense = go (slot == sync_slot_of sizes) refl
  where
    go : (b : Bool) → (slot == sync_slot_of sizes) ≡ b
        → (elim b as (λ _. Outcome) [ true ↦ close_sync sizes Biu st stage (st.epoch + first) sense | false ↦ close_exact sizes Biu 16 st slot stage sense ]).closed.place
        ≡ record { frame = st.frame; slot = slot; stage = stage }
    go true e = place_synced sizes st stage (st.epoch + first) sense ∙ ap (λ k. record { frame = st.frame; slot = k; stage = stage }) (sym (eqb-true slot (sync_slot_of sizes) e))
    go false e = exact-place sizes st slot stage sense

-- the window that holds an offset is one of the frame's
record FoundAt (xs : List Window) (x : Window) : Type 0 where
  pub n : ℕ
  pub there : slice_get xs n ≡ Some x

found_at : (p : Window → Bool) (xs : List Window) {x : _} → find p xs ≡ Some x → FoundAt xs x
found_at p [] h = cc
found_at p (y ∷ ys) {x} h = by (p y) h (λ e. found_at p ys e)
  where
    by : (b : Bool) → cond b (Some y) (find p ys) ≡ Some x → (find p ys ≡ Some x → FoundAt ys x) → FoundAt (y ∷ ys) x
    by true e rest = record { n = 0; there = e }
    by false e rest = let f : FoundAt ys x = rest e in record { n = suc f.n; there = f.there }

-- if a state of the frame closes a stage with a tick, it is a tick of that stage
its_tick : (sizes : Sizes) (plan : Plan) (st : NodeState) (k : ℕ) {frame epoch : ℕ} (x : Closed) → st.frame ≡ frame → st.epoch ≡ epoch → is_last sizes plan Biu st k ≡ true
    → x.place ≡ record { frame = st.frame; slot = (window_here sizes plan Biu st k).slot; stage = (window_here sizes plan Biu st k).stage } → x.place.stage ≤ 3
    → IsItsTick sizes plan frame epoch k x
its_tick sizes plan st k {frame} {epoch} x frame_is epoch_is last place most = go (window_at sizes plan (k - st.epoch)) refl place (eqb-true k (st.epoch + (window_here sizes plan Biu st k).last) last)
  where
    go : (o : Option Window) → window_at sizes plan (k - st.epoch) ≡ o
        → x.place ≡ record { frame = st.frame; slot = (unwrap_or o (tail_at sizes plan Biu st)).slot; stage = (unwrap_or o (tail_at sizes plan Biu st)).stage }
        → k ≡ st.epoch + (unwrap_or o (tail_at sizes plan Biu st)).last → IsItsTick sizes plan frame epoch k x
    go None e at end = let four : x.place.stage ≡ 4 = ap (λ (p : Place). p.stage) at in absurd (omega (arith, four, most))
    go (Some w) e at end =
        let f : FoundAt (windows_of_frame sizes plan) w = found_at (holds_offset (k - st.epoch)) (windows_of_frame sizes plan) e in
        record { n = f.n; window = w; there = f.there; place = at ∙ ap (λ g. record { frame = g; slot = w.slot; stage = w.stage }) frame_is; tick = omega (arith, end, epoch_is) }

-- tick `k` closes stage `x` of the window there
record ClosedBy (sizes : Sizes) (plan : Plan) (st : NodeState) (k : ℕ) (x : Closed) : Type 0 where
  pub last : is_last sizes plan Biu st k ≡ true
  pub place : x.place ≡ record { frame = st.frame; slot = (window_here sizes plan Biu st k).slot; stage = (window_here sizes plan Biu st k).stage }

closed_by : (sizes : Sizes) (plan : Plan) (c : Core) (st : NodeState) {x : _} → (act_on sizes plan Biu 16 c st None st).closed ≡ Some x → ClosedBy sizes plan st c.had x
closed_by sizes plan c st {x} is =
    elim (true_or_false (is_last sizes plan Biu st c.had)) [
      | inl last ↦
          let i : IsClosing sizes plan c st (act_on sizes plan Biu 16 c st None st) = closes_it sizes plan c st last in
          let w : Window = window_here sizes plan Biu st c.had in
          let same : (close_window sizes plan Biu 16 st (window_here sizes plan Biu st c.had) (of_source c.inbox)).closed ≡ x = same_closed _ _ (sym i.closed ∙ is) in
          record { last = last; place = ap (λ (y : Closed). y.place) (sym same) ∙ place_any sizes st w.slot w.stage w.first (λ j. sense_of (expect_of sizes plan.version st w.slot w.stage) (of_source c.inbox j)) }
      | inr quiet ↦ let none : None ≡ Some x = sym (quiet_act sizes plan c st quiet) ∙ is in cc
    ]
  where
    same_closed : (a b : Closed) → Some a ≡ Some b → a ≡ b
    same_closed a b q = cc

-- ---- all ticks

-- the listener follows only after its first epoch
follows_after : {sc ear tick s first : _} → WaitsFirst sc ear tick s first → (k : ℕ) (core : Core) → k < ear.ticks → listening_at sc ear k ≡ now.Following core → first.epoch < k
follows_after {sc} {ear} {tick} {s} {first} w k core in_time here = elim (cases_lt first.epoch k) [ inl less ↦ less | inr early ↦ absurd (by early (cases_lt tick k)) ]
  where
    by : k ≤ first.epoch → (tick < k) ⊎ (k ≤ tick) → ⊥
    by early (inl after) = let both : now.Waiting k first ≡ now.Following core = sym (w.waits.waits k after early in_time) ∙ here in cc
    by early (inr le) =
        let e : (tick - k) + k ≡ tick = omega (arith, le) in
        let f : Follows (listening_at sc ear tick) = subst (λ t. Follows (listening_at sc ear t)) e (later_follows sc ear k (record { core = core; is = here }) (tick - k)) in
        let both : now.Searching s ≡ now.Following f.core = sym w.searching ∙ f.is in
        cc

-- a frame that is told with one tick fixes the tick with which each of its stages is closed
pub closes_only : {sc ear tick s first : _} → WaitsFirst sc ear tick s first → {frame : ℕ} (begin : ℕ)
    → ((k : ℕ) (e : Epoch) → k < ear.ticks → (told_at sc ear k).epoch ≡ Some e → e.frame ≡ frame → k ≡ begin)
    → (k : ℕ) (core : Core) (x : Closed) → k < ear.ticks → listening_at sc ear k ≡ now.Following core → (follow sc.sizes sc.plan core).closed ≡ Some x
    → x.place.frame ≡ frame → x.place.stage ≤ 3 → IsItsTick sc.sizes sc.plan frame begin k x
closes_only {sc} {ear} w {frame} begin only k core x in_time here closed frame_is most =
    its_tick sc.sizes sc.plan st k x same_frame (i.epoch_is ∙ begun) at.last at.place most
  where
    below : k < 2 ^ 31
    below = omega (arith, in_time, w.ticks)

    f : IsSince sc ear k
    f = since w k (follows_after w k core in_time here) in_time

    same : core ≡ f.core
    same = same_core core f.core (sym here ∙ f.here)

    st : NodeState
    st = state_at sc.sizes sc.plan Biu f.core.state k

    act : follow sc.sizes sc.plan f.core ≡ act_on sc.sizes sc.plan Biu 16 f.core (state_at sc.sizes sc.plan Biu f.core.state k) None (state_at sc.sizes sc.plan Biu f.core.state k)
    act = acts_by sc.sizes sc.plan f.core (omega (arith, f.had, below)) (ap (state_at sc.sizes sc.plan Biu f.core.state) f.had)

    at : ClosedBy sc.sizes sc.plan (state_at sc.sizes sc.plan Biu f.core.state k) k x
    at = subst (λ t. ClosedBy sc.sizes sc.plan (state_at sc.sizes sc.plan Biu f.core.state k) t x) f.had
        (closed_by sc.sizes sc.plan f.core st (sym (ap (λ a. a.closed) act) ∙ ap (λ c. (follow sc.sizes sc.plan c).closed) (sym same) ∙ closed))

    i : IsIn sc ear k (state_at sc.sizes sc.plan Biu f.core.state k)
    i = in_state below w.some f

    same_frame : (state_at sc.sizes sc.plan Biu f.core.state k).frame ≡ frame
    same_frame = sym (ap (λ (p : Place). p.frame) at.place) ∙ frame_is

    begun : i.begun ≡ begin
    begun = only i.begun i.e (omega (arith, i.up_to, in_time)) i.told (i.frame_is ∙ same_frame)
