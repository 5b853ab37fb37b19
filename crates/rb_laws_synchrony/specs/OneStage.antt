-- One stage of the sync slot, whatever nodes that are not good do: where the middle of a good node
-- lies, how near the middles of two are, and that no good node is accused directly.
use Rattle.std.specs.Prelude.{ℕ, ◌≡◌, ◌+◌, ◌-◌, ◌<◌, ◌≤◌, ◌==◌, ◌&&◌, ◌⊎◌, not, Bool, true, false, if◌then◌else◌, Option, Some, None, is_some}
use Rattle.rb_base.specs.{Counting.{count_if, numbers}, Nodes.{Side, has}, Sizes.Sizes}
use Rattle.rb_rules.specs.{declared.message.Message.Message, declared.plan.Plan.Plan, declared.role.Role.TheVariants.Sync, declared.sense.Sense.Sense, declared.sense.Sense.TheVariants.One, Clock.{IsClock, Timeline, stamp_of, time_of}, NodeState.NodeState, Plan.{longest_of, shortest_of}, Sense.stamp_in, Slots.listens, Standing.{is_eligible, taken_of}, SyncStage.{close_sync, expects_call}}

-- a node in a stage of the sync slot: its kind and clock, its state before, its window's first
-- tick, and what comes from each source
pub record Listener : Type 0 where
  pub sizes : Sizes
  pub me : Side
  pub stage : ℕ
  pub clock : Timeline
  pub state : NodeState
  pub first : ℕ
  pub came : ℕ → Sense

-- the listening node's state after the stage
abbrev pub state_after : Listener → NodeState
state_after x = (close_sync x.sizes x.me x.state x.stage x.first x.came).state

-- the middle that a node keeps of a stage
abbrev pub middle_of_stage : ℕ → NodeState → Option ℕ
middle_of_stage stage st = if stage == 1 then st.k1 else (if stage == 2 then st.k2 else st.k3)

abbrev pub middle_kept : Listener → Option ℕ
middle_kept x = middle_of_stage x.stage (state_after x)

-- the stamp that a listening node accepts from source j
abbrev pub stamp_taken : Listener → ℕ → Option ℕ
stamp_taken x j = taken_of stamp_in x.state.far (expects_call x.me x.state x.stage) x.came j

-- a call came at a time between these, and no other message
pub record IsCalledBetween (clock : Timeline) (low high : ℕ) (sense : Sense) : Type 0 where
  pub time : ℕ
  pub message : Message
  pub came : sense ≡ One (stamp_of clock time) message
  pub not_early : low ≤ time
  pub not_late : time ≤ high

-- good sources call a good node between two times, and outnumber the others from which it accepts a
-- call. From the others anything may come
pub record HearsGoodCalls (plan : Plan) (good : ℕ → Bool) (low high : ℕ) (x : Listener) : Type 0 where
  pub listening : listens x.me Sync x.stage ≡ true
  pub a_stage : (1 ≤ x.stage) × (x.stage ≤ 3)
  pub clock : IsClock (shortest_of plan) (longest_of plan) x.clock
  pub ticks : 1 ≤ shortest_of plan
  pub begun : x.clock.start < low
  pub numbered : (j : ℕ) → good j ≡ true → j < 16
  pub eligible : (j : ℕ) → good j ≡ true → is_eligible x.state.far j ≡ true
  pub called : (j : ℕ) → good j ≡ true → IsCalledBetween x.clock low high (x.came j)
  pub most : count_if (λ j. not (good j) && is_some (stamp_taken x j)) (numbers 16) < count_if good (numbers 16)

-- the node keeps a middle, whose time is at least `low` and at most a longest tick after `high`;
-- and it accuses none of the good sources directly
pub record KeepsMiddle (plan : Plan) (good : ℕ → Bool) (low high : ℕ) (x : Listener) : Type 0 where
  pub tick : ℕ
  pub kept : middle_kept x ≡ Some tick
  pub not_early : low ≤ time_of x.clock tick
  pub not_late : time_of x.clock tick ≤ high + longest_of plan
  pub accuses_none : (j : ℕ) → good j ≡ true → has (state_after x).far.direct j ≡ false

-- validity: the middle of a good node lies between the bounds of the good calls, or at most a
-- longest tick after them
abbrev pub MiddlesLieAmongGoodCalls : Type 0
MiddlesLieAmongGoodCalls =
    (plan : Plan) (good : ℕ → Bool) (low high : ℕ) (x : Listener) → HearsGoodCalls plan good low high x
    → KeepsMiddle plan good low high x

-- calls of one source that two nodes take, at times that differ by no more than this
pub record NearCalls (eps : ℕ) (x y : Listener) (j : ℕ) : Type 0 where
  pub mine : ℕ
  pub yours : ℕ
  pub mine_taken : stamp_taken x j ≡ Some (stamp_of x.clock mine)
  pub yours_taken : stamp_taken y j ≡ Some (stamp_of y.clock yours)
  pub mine_begun : x.clock.start < mine
  pub yours_begun : y.clock.start < yours
  pub above : mine ≤ yours + eps
  pub under : yours ≤ mine + eps

-- two nodes accept no call from source j, or near ones
abbrev pub TakeNear : ℕ → Listener → Listener → ℕ → Type 0
TakeNear eps x y j = ((stamp_taken x j ≡ None) × (stamp_taken y j ≡ None)) ⊎ NearCalls eps x y j

-- two good nodes that take near calls of each source, so that none is asymmetric
pub record HearNear (plan : Plan) (good : ℕ → Bool) (low high : ℕ) (x y : Listener) : Type 0 where
  pub mine : HearsGoodCalls plan good low high x
  pub yours : HearsGoodCalls plan good low high y
  pub near : (j : ℕ) → j < 16 → TakeNear (plan.dmax - plan.dmin) x y j

-- the two times differ by no more than this
abbrev pub LieNear : ℕ → ℕ → ℕ → Type 0
LieNear bound mine yours = (mine ≤ yours + bound) × (yours ≤ mine + bound)

-- agreement: their middles differ by no more than the times of one call, and a tick
abbrev pub MiddlesAreNear : Type 0
MiddlesAreNear =
    (plan : Plan) (good : ℕ → Bool) (low high : ℕ) (x y : Listener) → HearNear plan good low high x y
    → (k l : ℕ) → middle_kept x ≡ Some k → middle_kept y ≡ Some l
    → LieNear (plan.dmax - plan.dmin + longest_of plan) (time_of x.clock k) (time_of y.clock l)
