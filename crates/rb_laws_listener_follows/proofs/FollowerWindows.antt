-- The ticks of a follower's windows are those of a BIU in its state.
use Rattle.std.proofs.{Common.{◌≡◌, ℕ, ◌+◌, ◌-◌, ◌^◌, ◌<◌, ◌≤◌, Option, Some, None, refl, ◌∙◌, arith}, lemmas.Bool.eq-eqb}
use Rattle.rb_base.specs.{Nodes.Side.Biu, Sizes.Sizes}
use Rattle.rb_base.proofs.Plain.{less-differs}
use Rattle.rb_rules.specs.{declared.plan.Plan.Plan, Core.{state_at, window_here}, Hearing.window_numbered, NodeState.NodeState, SyncStage.new_epoch_of}
use Rattle.rb_rules.proofs.RoundStates.{HasTicks}
use Rattle.rb_laws_events.specs.Closing.{stages_in}
use Rattle.rb_laws_events.proofs.{StageOrder.last_of, TickWindows.{first_of, here-is, last-is}, TurnTicks.{no-next, not-yet}}
use Rattle.rb_laws_listener_follows.proofs.FollowerRuns.{IsWindow}

-- before its next epoch a node's state stays
stays-in : (sizes : Sizes) (plan : Plan) (st : NodeState) (k : ℕ) → ((x : ℕ) → new_epoch_of plan Biu st ≡ Some x → k < x) → state_at sizes plan Biu st k ≡ st
stays-in sizes plan st k before = go (new_epoch_of plan Biu st) refl
  where
    go : (o : Option ℕ) → new_epoch_of plan Biu st ≡ o → state_at sizes plan Biu st k ≡ st
    go None e = no-next sizes plan Biu st k e
    go (Some x) e = not-yet sizes plan Biu st k e (before x e)

-- window n of the frame of a follower in this state. Before its first tick it may have been in
-- another, which turns into this one
pub is_window : (sizes : Sizes) {plan : _} (before : NodeState) {st : _} (n : ℕ) → HasTicks plan → n ≤ stages_in sizes → first_of sizes plan Biu st n ≤ last_of sizes plan Biu st n
    → state_at sizes plan Biu before (st.epoch + first_of sizes plan Biu st n) ≡ st
    → ((x : ℕ) → new_epoch_of plan Biu st ≡ Some x → st.epoch + last_of sizes plan Biu st n < x) → st.epoch + last_of sizes plan Biu st n < 2 ^ 31
    → IsWindow sizes plan before st (st.epoch + first_of sizes plan Biu st n) (last_of sizes plan Biu st n - first_of sizes plan Biu st n)
is_window sizes {plan} before {st} n ticks in_frame some turns later in_time =
    let first : ℕ = first_of sizes plan Biu st n in
    let last : ℕ = last_of sizes plan Biu st n in
    let end : st.epoch + first + (last - first) ≡ st.epoch + last = omega arith in
    record {
      turns = turns;
      stays = λ k from to. stays-in sizes plan st k (λ x known. omega (arith, later x known, to, end));
      quiet = λ k from to.
          last-is Biu st ticks in_frame (record { from = from; to = omega (arith, to, end) }) ∙ less-differs k (st.epoch + last) (omega (arith, to, end));
      last =
          last-is Biu st ticks in_frame (record { from = omega arith; to = omega arith })
          ∙ eq-eqb (st.epoch + first + (last - first)) (st.epoch + last) end;
      in_time = omega (arith, in_time, end);
    }

pub closes_there : (sizes : Sizes) {plan : _} (st : NodeState) (n : ℕ) → HasTicks plan → n ≤ stages_in sizes → first_of sizes plan Biu st n ≤ last_of sizes plan Biu st n
    → window_here sizes plan Biu st (st.epoch + first_of sizes plan Biu st n + (last_of sizes plan Biu st n - first_of sizes plan Biu st n)) ≡ window_numbered sizes plan Biu st n
closes_there sizes st n ticks in_frame some =
    here-is Biu st ticks in_frame
    (record { from = omega arith; to = omega arith })
