-- For the law that events are rounds: a lawful plan's windows have room, and no good node counts
-- 2^31 ticks in a run.
use Rattle.std.proofs.{Common.{◌≡◌, ℕ, ◌+◌, ◌*◌, ◌-◌, ◌^◌, ◌<◌, ◌≤◌, ap, ◌∙◌, arith, lit≤, Some, unwrap_or}, lemmas.Nat.mul-le}
use Rattle.rb_base.specs.{Nodes.Side, Sizes.{IsShape, Sizes, sync_slot_of}}
use Rattle.rb_rules.specs.{declared.plan.Plan.Plan, Lawful.IsLawful, NodeState.NodeState, Plan.{IsPlan, tail_start_of}, SyncStage.new_epoch_of}
use Rattle.rb_rules.proofs.{Lawfulness.sends_inside_all, RoundStates.HasTicks, WindowNumbers.sync-numbered}
use Rattle.rb_laws_synchrony.proofs.EpochTicks.{frame_ticks}
use Rattle.rb_laws_agreement.proofs.ExactAgrees.{has_ticks}
use Rattle.rb_laws_events.specs.Closing.{stages_in}
use Rattle.rb_laws_events.proofs.{NodeActs.HasRoom, NodeTicks.tail-last, StageOrder.last_of, TickWindows.{ends-before-later, first_of}}

pub has-room : {sc : _} → IsLawful sc → HasRoom sc.plan
has-room {sc} lawful = record { ticks = has_ticks lawful; inside = sends_inside_all sc.sizes sc.plan lawful.plan lawful.feasible }

-- a frame has at most 341,000 ticks
pub few-ticks : {sizes plan : _} → IsShape sizes → IsPlan plan → frame_ticks sizes plan ≤ 341000
few-ticks {sizes} {plan} shape is =
    let bius : sizes.bius ≤ 16 = shape.most_bius in
    let rmus : sizes.rmus ≤ 16 = shape.most_rmus in
    let slots : sizes.data_slots ≤ 64 = shape.most_slots in
    let l : plan.l ≤ 1000 = is.l.1 in
    let v : plan.v ≤ 1000 = is.v.1 in
    let z : plan.z ≤ 1000 = is.z.1 in
    let c : plan.c ≤ 1000 = is.c in
    let sync : 3 * sync_slot_of sizes * plan.l ≤ 336 * 1000 = mul-le (3 * sync_slot_of sizes) plan.l 336 1000 (omega arith) l in
    omega (arith, sync, l, v, z, c)

-- the last tick of a window of the frame that begins with the node's epoch comes within the ticks
-- of one more frame
pub ends-by-then : (sizes : Sizes) {plan : _} (me : Side) (st : NodeState) (n : ℕ) → HasTicks plan → n < stages_in sizes
    → last_of sizes plan me st n < frame_ticks sizes plan
ends-by-then sizes {plan} me st n ticks below =
    let before : last_of sizes plan me st n < first_of sizes plan me st (stages_in sizes) = ends-before-later sizes me st n (stages_in sizes) ticks below (omega arith) in
    let first : first_of sizes plan me st (stages_in sizes) ≡ tail_start_of sizes plan = ap (λ w. w.first) (sync-numbered sizes plan me st 3) in
    omega (arith, before, first)

pub tail-by-then : (sizes : Sizes) (plan : Plan) (me : Side) (st : NodeState) {x : ℕ} → new_epoch_of plan me st ≡ Some x → st.epoch < x
    → x < st.epoch + frame_ticks sizes plan → last_of sizes plan me st (stages_in sizes) < frame_ticks sizes plan
tail-by-then sizes plan me st {x} known some most =
    let last : last_of sizes plan me st (stages_in sizes) ≡ x - st.epoch - 1 =
    tail-last sizes plan me st ∙ ap (λ o. unwrap_or o 0 - st.epoch - 1) known in
    omega (arith, last)

pub below-all : {sc : _} → IsLawful sc → (frame epoch offset : ℕ) → frame ≤ 4096 → epoch ≤ frame * frame_ticks sc.sizes sc.plan
    → offset < frame_ticks sc.sizes sc.plan → epoch + offset < 2 ^ 31
below-all {sc} lawful frame epoch offset frames begun within =
    let ft : ℕ = frame_ticks sc.sizes sc.plan in
    let few : ft ≤ 341000 = few-ticks lawful.sizes lawful.plan in
    let all : frame * ft ≤ 4096 * 341000 = mul-le frame ft 4096 341000 frames few in
    let big : 4096 * 341000 + 341000 ≤ 2 ^ 31 = lit≤ tt in
    omega (arith, all, few, big, begun, within)
