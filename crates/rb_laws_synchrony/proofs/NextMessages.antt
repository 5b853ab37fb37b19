-- For the law that events are rounds: what good nodes send for the stage after one in which the run
-- breaks off.
use Rattle.std.proofs.{Common.{◌≡◌, ℕ, ◌+◌, ◌-◌, ◌*◌, ◌≤◌, ◌<◌, Some, option_map, sym, ◌∙◌, ap, subst, arith}, lemmas.Option.same_Some}
use Rattle.rb_base.specs.{Nodes.Side.{Biu, Rmu}, Sizes.sync_slot_of}
use Rattle.rb_rules.specs.{Clock.time_of, Goodness.clock_of, Lawful.IsLawful, Plan.{f0_of, shortest_of}, SyncStage.new_epoch_of}
use Rattle.rb_rules.proofs.{Middles.IsBetween}
use Rattle.rb_laws_agreement.proofs.Invariant.{IsGoodNode}
use Rattle.rb_laws_synchrony.proofs.{PlanNumbers.{drift_of, eps_of}, StageCalls.{IsAt, clock_now, third_about, third_at, third_calls}, Synchronous.{Synchronous, from_3, ticks_on, to_3}, TimelyWindows.IsSet, Times.{Steady, lawful_fits, plan_fits}}

-- ---- windows below the sync slot, and its stage 1

-- ---- the last stage of the frame

-- Good BIUs send their first messages of the next frame so late that these come after every good
-- RMU has closed stage 3, whatever the verdict on that.

first-message : (low h u d l v k c e least : ℕ) {most : ℕ} (p f x r y : ℕ) → p + d * (f + h) ≤ h * u + least
    → 2 * e + 2 * (u + d) + d * (l + v + (k + 1)) + (most + (u + d)) ≤ p + c * u
    → 1 ≤ u → most ≡ least + e → r ≤ low + least + k * (u + d) → low ≤ y → y + (k + 1 + c + h) * u ≤ x → r < x + least
first-message low h u d l v k c e least p f x r y c1 c7 some delays rmu from biu = omega (arith, c1, c7, rmu, biu)

pub next_message : {sc m s low : _} (c : IsSet sc m (sync_slot_of sc.sizes) 3) → m.window ≡ 3 * sync_slot_of sc.sizes + 2 → Synchronous sc m s low
    → {i j st source : _} → IsGoodNode sc m Rmu i st → IsGoodNode sc m Biu j source → {epoch : ℕ} → new_epoch_of sc.plan Biu source ≡ Some epoch
    → time_of (clock_of sc Rmu i) (st.epoch + c.ws.last Rmu st) < time_of (clock_of sc Biu j) (epoch + sc.plan.h) + sc.plan.dmin
next_message {sc} {m} {low} c at sync {i} {j} {st} {source} here there {epoch} known =
    let law : IsLawful sc = c.law in
    let fit : plan_fits sc = lawful_fits law in
    let u : ℕ = shortest_of sc.plan in
    let d : ℕ = drift_of sc.plan in
    let k = sync.second at j source there in
    let call : IsBetween (from_3 sc low) (to_3 sc low) (time_of (clock_of sc Biu j) (k.tick + sc.plan.v)) =
    (third_calls law sync at).between j source (k.tick + sc.plan.v) there (ap (option_map (λ k2. k2 + sc.plan.v)) k.is) in
    let e : k.tick + sc.plan.v + sc.plan.z + sc.plan.c ≡ epoch =
    same_Some (k.tick + sc.plan.v + sc.plan.z + sc.plan.c) epoch (sym (ap (option_map (λ k2. k2 + sc.plan.v + sc.plan.z + sc.plan.c)) k.is) ∙ known) in
    let biu : Steady u d (clock_of sc Biu j) = clock_now law there in
    let rmu : Steady u d (clock_of sc Rmu i) = clock_now law here in
    let sent : IsBetween (time_of (clock_of sc Biu j) (k.tick + sc.plan.v) + (sc.plan.z + sc.plan.c + sc.plan.h) * u)
    (time_of (clock_of sc Biu j) (k.tick + sc.plan.v) + (sc.plan.z + sc.plan.c + sc.plan.h) * (u + d)) (time_of (clock_of sc Biu j) (epoch + sc.plan.h)) =
    ticks_on biu (k.tick + sc.plan.v)
    (sc.plan.z + sc.plan.c + sc.plan.h) (group k.tick sc.plan.v sc.plan.z sc.plan.c sc.plan.h epoch e)
    (record { least = omega arith; most = omega arith }) in
    let where_at : IsAt sc m (sync_slot_of sc.sizes) 3 c.ws (f0_of sc.sizes sc.plan + sc.plan.l + sc.plan.v) sc.plan.z = third_at c.ws at in
    let early : time_of (clock_of sc Rmu i) (st.epoch + c.ws.first Rmu st) ≤ from_3 sc low + sc.plan.dmin = (third_about c at sync.begun).early Rmu i st here in
    let last : st.epoch + c.ws.last Rmu st ≡ st.epoch + c.ws.first Rmu st + (sc.plan.z - 1) =
    up-to st.epoch (c.ws.first Rmu st) (c.ws.last Rmu st) (f0_of sc.sizes sc.plan + sc.plan.l + sc.plan.v) sc.plan.z (where_at.first_is Rmu st) (where_at.last_is Rmu st) law.plan.z.0 in
    let close : time_of (clock_of sc Rmu i) (st.epoch + c.ws.last Rmu st) ≤ from_3 sc low + sc.plan.dmin + (sc.plan.z - 1) * (u + d) =
    in-all (time_of (clock_of sc Rmu i) (st.epoch + c.ws.last Rmu st)) (time_of (clock_of sc Rmu i) (st.epoch + c.ws.first Rmu st + (sc.plan.z - 1)))
    (time_of (clock_of sc Rmu i) (st.epoch + c.ws.first Rmu st)) ((sc.plan.z - 1) * (u + d)) (from_3 sc low + sc.plan.dmin) (ap (time_of (clock_of sc Rmu i)) last)
    (rmu.not_late (st.epoch + c.ws.first Rmu st) (sc.plan.z - 1)) early in
    let z_is : sc.plan.z ≡ sc.plan.z - 1 + 1 = less-one sc.plan.z law.plan.z.0 in
    first-message (from_3 sc low) sc.plan.h u d sc.plan.l sc.plan.v (sc.plan.z - 1) sc.plan.c (eps_of sc.plan) sc.plan.dmin sc.plan.p (f0_of sc.sizes sc.plan)
    (time_of (clock_of sc Biu j) (epoch + sc.plan.h)) (time_of (clock_of sc Rmu i) (st.epoch + c.ws.last Rmu st)) (time_of (clock_of sc Biu j) (k.tick + sc.plan.v))
    fit.before_1
    (subst (λ z. 2 * eps_of sc.plan + 2 * (u + d) + d * (sc.plan.l + sc.plan.v + z) + (sc.plan.dmax + (u + d)) ≤ sc.plan.p + sc.plan.c * u) z_is fit.next_bc) fit.some fit.delays close call.least
    (subst (λ z. time_of (clock_of sc Biu j) (k.tick + sc.plan.v) + (z + sc.plan.c + sc.plan.h) * u ≤ time_of (clock_of sc Biu j) (epoch + sc.plan.h)) z_is sent.least)
  where
    group : (k v z c h epoch : ℕ) → k + v + z + c ≡ epoch → epoch + h ≡ k + v + (z + c + h)
    group k v z c h epoch e = omega arith

    less-one : (z : ℕ) → 1 ≤ z → z ≡ z - 1 + 1
    less-one z some = omega arith

    up-to : (e first last a z : ℕ) → first ≡ a → last ≡ a + z - 1 → 1 ≤ z → e + last ≡ e + first + (z - 1)
    up-to e first last a z x y some = omega arith

    in-all : (r x t more bound : ℕ) → r ≡ x → x ≤ t + more → t ≤ bound → r ≤ bound + more
    in-all r x t more bound e a b = omega arith
