-- One frame, from the states before its sync slot, and whatever nodes that are not good do. If the
-- plan is feasible, good nodes begin the frame within p, find each other eligible and hear each
-- other, and the fault premise holds in the sync slot, all their windows are timely, and they begin
-- the next frame within p.
use Rattle.std.specs.Prelude.{ℕ, zero, suc, ◌≡◌, ◌+◌, ◌-◌, ◌*◌, ◌<◌, ◌≤◌, ◌⊎◌, not, ◌&&◌, Bool, true, false, Some, is_some}
use Rattle.rb_base.specs.{Counting.{count_if, numbers}, Nodes.{Side, other}, Nodes.Side.{Biu, Rmu}, Sizes.{Sizes, IsShape, sync_slot_of}}
use Rattle.rb_rules.specs.{declared.message.Message.Message, declared.plan.Plan.Plan, declared.plan.Window.Window, declared.role.Role.TheVariants.Sync, declared.sense.Sense.Sense, declared.sense.Sense.TheVariants.{Silent, One}, Clock.{IsClock, Timeline, stamp_of, time_of}, Hearing.{Span, span_of, window_numbered}, NodeState.NodeState, Plan.{IsFeasible, IsPlan, longest_of, shortest_of}, Rounds.IsTickOf, Slots.{listens, role_of}, Standing.is_eligible, StandsFor.FrameTakes, SyncStage.{call_tick_of, close_sync, send_tick_of}}
use Rattle.rb_laws_synchrony.specs.OneStage.{Listener, TakeNear, stamp_taken}

-- A frame at all nodes.

-- a frame at all nodes: the good nodes, the clock of each node and its state before the sync slot,
-- and what the nodes get in the three stages of that slot
pub record Frame : Type 0 where
  pub sizes : Sizes
  pub plan : Plan
  pub good : Side → ℕ → Bool
  pub clock : Side → ℕ → Timeline
  pub before : Side → ℕ → NodeState
  -- what node i of a kind gets from source j of the other kind in a stage
  pub came : ℕ → Side → ℕ → ℕ → Sense

-- the number of the window of the sync slot's stage after q stages
abbrev pub sync_window : Frame → ℕ → ℕ
sync_window x q = 3 * sync_slot_of x.sizes + q

-- the window of a number at node i of a kind; the tail is not among these windows
abbrev pub window_in : Frame → ℕ → Side → ℕ → Window
window_in x n me i = window_numbered x.sizes x.plan me (x.before me i) n

-- the window of a number at node i of a kind, with its first and last tick
abbrev pub span_in : Frame → ℕ → Side → ℕ → Span
span_in x n me i = span_of (x.before me i) (window_in x n me i)

-- the state of node i of a kind after q stages of the sync slot
unfoldable pub state_through : Frame → ℕ → Side → ℕ → NodeState
state_through x zero me i = x.before me i
state_through x (suc q) me i =
    (close_sync x.sizes me (state_through x q me i) (q + 1) (span_in x (sync_window x q) me i).first (x.came (q + 1) me i)).state

-- node i of a kind in the stage after q stages
abbrev pub listener : Frame → ℕ → Side → ℕ → Listener
listener x q me i = record {
  sizes = x.sizes;
  me = me;
  stage = q + 1;
  clock = x.clock me i;
  state = state_through x q me i;
  first = (span_in x (sync_window x q) me i).first;
  came = x.came (q + 1) me i;
}

-- Messages.

-- what is sent at a tick of this clock may arrive at this time
pub record MayArrive (plan : Plan) (clock : Timeline) (tick time : ℕ) : Type 0 where
  pub not_early : time_of clock tick + plan.dmin ≤ time
  pub not_late : time ≤ time_of clock tick + plan.dmax

-- a call that good source j sends at a tick arrives in time. If its stamp is a tick of the window
-- of node i, it is all that comes from j in the stage after q stages
pub record BringsTheCall (x : Frame) (q : ℕ) (me : Side) (i j tick : ℕ) : Type 0 where
  pub time : ℕ
  pub message : Message
  pub arrives : MayArrive x.plan (x.clock (other me) j) tick time
  pub came : IsTickOf (span_in x (sync_window x q) me i) (stamp_of (x.clock me i) time)
      → x.came (q + 1) me i j ≡ One (stamp_of (x.clock me i) time) message

-- from good source j its call comes in a stage in which the node listens, and nothing in the others
pub record HearsGoodNodes (x : Frame) (q : ℕ) (me : Side) (i j : ℕ) : Type 0 where
  pub calls : listens me Sync (q + 1) ≡ true → (tick : ℕ)
      → call_tick_of x.sizes x.plan (state_through x q (other me) j) (q + 1) ≡ Some tick
      → BringsTheCall x q me i j tick
  pub quiet : listens me Sync (q + 1) ≡ false → x.came (q + 1) me i j ≡ Silent

-- What holds before.

-- good nodes have clocks within the plan's drift, and begin the frame from `low` on and within p.
-- Good nodes of unlike kinds trust each other, accuse none of each other directly, and hear each
-- other in the sync slot. From other nodes anything may come
pub record IsFrame (x : Frame) (low : ℕ) : Type 0 where
  pub shape : IsShape x.sizes
  pub plan : IsPlan x.plan
  pub feasible : IsFeasible x.sizes x.plan
  pub numbered : (kind : Side) (j : ℕ) → x.good kind j ≡ true → j < 16
  pub clocks : (me : Side) (i : ℕ) → x.good me i ≡ true
      → IsClock (shortest_of x.plan) (longest_of x.plan) (x.clock me i)
  pub begun : (me : Side) (i : ℕ) → x.good me i ≡ true
      → (low ≤ time_of (x.clock me i) (x.before me i).epoch)
      × (time_of (x.clock me i) (x.before me i).epoch ≤ low + x.plan.p)
  pub eligible : (me : Side) (i j : ℕ) → x.good me i ≡ true → x.good (other me) j ≡ true
      → is_eligible (x.before me i).far j ≡ true
  pub hears : (q : ℕ) (me : Side) (i j : ℕ) → q < 3 → x.good me i ≡ true → x.good (other me) j ≡ true
      → HearsGoodNodes x q me i j

-- no node of the kind is asymmetric: from each that is not good any two good nodes accept near
-- calls, or none, in each stage in which they listen
abbrev pub NoneCallsUnlike : Frame → Side → Type 0
NoneCallsUnlike x kind =
    (q a b j : ℕ) → q < 3 → listens (other kind) Sync (q + 1) ≡ true
    → x.good (other kind) a ≡ true → x.good (other kind) b ≡ true → j < 16 → x.good kind j ≡ false
    → TakeNear (x.plan.dmax - x.plan.dmin) (listener x q (other kind) a) (listener x q (other kind) b) j

-- the fault premise: in each stage in which a good node listens good sources outnumber the others
-- from which it accepts something, and no node of one of the kinds is asymmetric
pub record KeepsPremise (x : Frame) : Type 0 where
  pub most : (q : ℕ) (me : Side) (i : ℕ) → q < 3 → listens me Sync (q + 1) ≡ true → x.good me i ≡ true
      → count_if (λ j. not (x.good (other me) j) && is_some (stamp_taken (listener x q me i) j)) (numbers 16)
      < count_if (x.good (other me)) (numbers 16)
  pub one_kind : NoneCallsUnlike x Biu ⊎ NoneCallsUnlike x Rmu

-- What holds after.

-- the state of a node in which it sends in the window of this number
abbrev pub state_in : Frame → ℕ → Side → ℕ → NodeState
state_in x n me i = state_through x (n - 3 * sync_slot_of x.sizes) me i

-- good source j has a tick of its own window of this number at which it sends, if it sends in it,
-- and what is sent then has a stamp in the window of node i, whatever its delay
pub record IsTimelyMessage (x : Frame) (n : ℕ) (me : Side) (i j : ℕ) : Type 0 where
  pub tick : ℕ
  pub sent : send_tick_of x.sizes x.plan (state_in x n (other me) j) (window_in x n me i).slot (window_in x n me i).stage ≡ Some tick
  pub own : IsTickOf (span_in x n (other me) j) tick
  pub heard : (time : ℕ) → MayArrive x.plan (x.clock (other me) j) tick time
      → IsTickOf (span_in x n me i) (stamp_of (x.clock me i) time)

-- every window of the frame is timely: if a good node listens in it, what a good node of the other
-- kind sends in it, if it sends, is sent and comes in time
abbrev pub EachMessageIsTimely : Frame → Type 0
EachMessageIsTimely x =
    (n : ℕ) → n < 3 * sync_slot_of x.sizes + 3
    → (me : Side) (i j : ℕ) → x.good me i ≡ true → x.good (other me) j ≡ true
    → listens me (role_of x.sizes (window_in x n me i).slot) (window_in x n me i).stage ≡ true
    → IsTimelyMessage x n me i j

-- the node knows when its next frame begins: from `later` on, and within p
pub record BeginsNext (x : Frame) (me : Side) (i later : ℕ) : Type 0 where
  pub takes : FrameTakes x.sizes x.plan me (state_through x 3 me i)
  pub not_early : later ≤ time_of (x.clock me i) takes.epoch
  pub not_late : time_of (x.clock me i) takes.epoch ≤ later + x.plan.p

-- the frame is timely, each good node begins the next frame from time `later` on and within p, and
-- good nodes of unlike kinds are still eligible at each other
pub record KeepsTime (x : Frame) : Type 0 where
  pub timely : EachMessageIsTimely x
  pub later : ℕ
  pub next : (me : Side) (i : ℕ) → x.good me i ≡ true → BeginsNext x me i later
  -- good nodes of unlike kinds still trust each other, and accuse none of each other directly
  pub eligible : (me : Side) (i j : ℕ) → x.good me i ≡ true → x.good (other me) j ≡ true
      → is_eligible (state_through x 3 me i).far j ≡ true

-- a frame that good nodes begin within p, and whose sync slot keeps the fault premise, is timely,
-- and they begin the next one within p
abbrev pub OneFrameKeepsTime : Type 0
OneFrameKeepsTime = (x : Frame) (low : ℕ) → IsFrame x low → KeepsPremise x → KeepsTime x
