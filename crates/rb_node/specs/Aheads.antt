-- What a node keeps at hand of what is ahead of it.
use Rattle.std.specs.Prelude.{ℕ, ◌≡◌, ◌≤◌, ◌<◌, ◌^◌, ◌+◌, ◌⊎◌, ◌==◌, ◌&&◌, ◌||◌, not, nat_lt, if◌then◌else◌, Bool, true, false, is_some, Option, None}
use Rattle.rb_base.specs.{Nodes.Side, Sizes.{Sizes, sync_slot_of}}
use Rattle.rb_rules.specs.{declared.plan.Plan.Plan, declared.plan.Window.Window, Core.{is_busy, is_last, is_tick, said_at, slot_wanted, state_at, window_here}, NodeState.NodeState, NodeSteps.message_said, SyncStage.{new_epoch_of, send_tick_of}}
use Rattle.rb_eligible.specs.Inboxes.{KeptArrivals, StampsUpTo}
use Rattle.rb_slot.specs.{Closable.IsOfFrame, Engines.Seated}
use Rattle.rb_node.specs.{declared.ahead.Ahead.Ahead, declared.ahead.Busy.Busy, declared.act.Want.Want, Wants.want_for}
use Rattle.rb_node.specs.declared.act.Want.TheVariants as want

-- the earlier of two ticks; the second is ignored if it is absent or over at the tick `had`
pub record IsSooner (had : ℕ) (candidate : Option ℕ) (before after : ℕ) : Type 0 where
  pub later : had ≤ after
  pub most : after ≤ before
  pub not_before : (k : ℕ) → had ≤ k → k < after → is_tick candidate k ≡ false
  pub either : (after ≡ before) ⊎ (is_tick candidate after ≡ true)

-- the earlier of the tick in `before` and the candidate, which is the tick of a message of this
-- stage; at one tick the candidate is taken. A candidate that is absent or over at the tick `had`
-- is ignored
pub record IsChosen (had : ℕ) (candidate : Option ℕ) (stage : ℕ) (before after : Busy) : Type 0 where
  pub later : had ≤ after.tick
  pub most : after.tick ≤ before.tick
  pub not_before : (k : ℕ) → had ≤ k → k < after.tick → is_tick candidate k ≡ false
  pub either : ((is_tick candidate after.tick ≡ true) × (after.stage ≡ stage)) ⊎ ((is_tick candidate after.tick ≡ false) × (after ≡ before))

-- the window after one below the sync slot: the next stage, or the next slot's first, as long as
-- the plan's first windows are
abbrev pub following : Plan → Window → Window
following plan w = elim (nat_lt w.stage 3) [
  | true ↦ record { slot = w.slot; stage = w.stage + 1; first = w.last + 1; last = w.last + plan.l }
  | false ↦ record { slot = w.slot + 1; stage = 1; first = w.last + 1; last = w.last + plan.l }
]

-- a window of the frame has ended with the tick before this one
pub record IsEnded (v : Seated) (w : Window) (next : ℕ) : Type 0 where
  pub of_frame : IsOfFrame v.sizes v.plan w
  pub after : next ≡ v.state.epoch + w.last + 1

-- the tick at which the node sends a message of the stage, if it sends one
abbrev pub tick_said : Side → Seated → ℕ → ℕ → Option ℕ
tick_said me v slot stage = elim (is_some (message_said v.sizes me v.index v.state slot stage 0)) [
  | true ↦ send_tick_of v.sizes v.plan v.state slot stage
  | false ↦ None
]

-- the sooner tick, with the message said then, after a choice among the three stages of a slot, the
-- last of them first
pub record IsSaidNext (me : Side) (v : Seated) (slot had : ℕ) (before after : Busy) : Type 0 where
  pub third : Busy
  pub second : Busy
  pub from_third : IsChosen had (tick_said me v slot 3) 3 before third
  pub from_second : IsChosen had (tick_said me v slot 2) 2 third second
  pub from_first : IsChosen had (tick_said me v slot 1) 1 second after

-- at tick k the node says its message of this stage of the slot, the first that is due then; of
-- stage 0, none
pub data SaysIn (me : Side) (v : Seated) (slot k stage : ℕ) : Type 0 where
  Silent : stage ≡ 0 → is_tick (tick_said me v slot 1) k ≡ false → is_tick (tick_said me v slot 2) k ≡ false
      → is_tick (tick_said me v slot 3) k ≡ false → SaysIn me v slot k stage
  First : stage ≡ 1 → is_tick (tick_said me v slot 1) k ≡ true → SaysIn me v slot k stage
  Second : stage ≡ 2 → is_tick (tick_said me v slot 1) k ≡ false → is_tick (tick_said me v slot 2) k ≡ true → SaysIn me v slot k stage
  Third : stage ≡ 3 → is_tick (tick_said me v slot 1) k ≡ false → is_tick (tick_said me v slot 2) k ≡ false
      → is_tick (tick_said me v slot 3) k ≡ true → SaysIn me v slot k stage

abbrev pub busy_at : Side → Seated → ℕ → Bool
busy_at me v k = is_busy v.sizes v.plan me v.index v.state k

-- a frame begins with tick k, or a window ends with it
unfoldable pub wakes : Sizes → Plan → Side → NodeState → ℕ → Bool
wakes sizes plan me st k =
    let now : NodeState = state_at sizes plan me st k in
    (now.epoch == k) || is_last sizes plan me now k

abbrev pub wakes_at : Side → Seated → ℕ → Bool
wakes_at me v k = wakes v.sizes v.plan me v.state k

abbrev pub window_of_tick : Side → Seated → ℕ → Window
window_of_tick me v k = window_here v.sizes v.plan me v.state k

-- what the node wants at tick k
abbrev pub want_at : Side → Seated → ℕ → Want
want_at me v k = want_for v.sizes (slot_wanted v.sizes (said_at v.sizes v.plan me v.index (state_at v.sizes v.plan me v.state k) 0 k))

-- what the node wants for tick k, and nothing if k is beyond the last tick
abbrev pub want_ahead : Side → Seated → ℕ → Want
want_ahead me v k = if nat_lt k (2 ^ 31) then want_at me v k else want.Nothing

-- from tick `had` on nothing `comes` before this tick, and all ticks up to it lie in one window. It
-- comes with this one, unless that is 2^31
pub record IsNextTick (comes : ℕ → Bool) (me : Side) (v : Seated) (had tick : ℕ) : Type 0 where
  pub later : had ≤ tick
  pub most : tick ≤ 2 ^ 31
  pub quiet : (k : ℕ) → had ≤ k → k < tick → comes k ≡ false
  pub busy : tick < 2 ^ 31 → comes tick ≡ true
  pub here : (k : ℕ) → had ≤ k → k ≤ tick → window_of_tick me v k ≡ window_of_tick me v had

-- the next tick that is not quiet
abbrev pub IsNextBusy : Side → Seated → ℕ → ℕ → Type 0
IsNextBusy me v = IsNextTick (busy_at me v) me v

-- the next tick with which a frame begins or a window ends
abbrev pub IsNextWake : Side → Seated → ℕ → ℕ → Type 0
IsNextWake me v = IsNextTick (wakes_at me v) me v

-- the window of tick k
pub record IsWindowOf (me : Side) (v : Seated) (k : ℕ) (w : Window) : Type 0 where
  pub is : w ≡ window_of_tick me v k
  pub of_frame : IsOfFrame v.sizes v.plan w
  pub slot : w.slot ≤ sync_slot_of v.sizes
  pub first : w.first ≤ 400000
  pub fits : v.state.epoch + w.last < 2 ^ 64

-- the node in the state in which it has tick k: if its next frame begins then, in that frame
abbrev pub seated_at : Side → Seated → ℕ → Seated
seated_at me v k = record v { state = state_at v.sizes v.plan me v.state k }

-- what is kept has the window of tick k, and which message is said then
pub record ShowsTick (me : Side) (v : Seated) (k : ℕ) (a : Ahead) : Type 0 where
  pub window : IsWindowOf me v k a.window
  pub stage : SaysIn me v a.window.slot k a.busy.stage

-- the window is one of a slot before the sync slot, and this tick is its last and one that a node
-- can have. The start of the next frame is not known yet
pub record IsExactUntil (me : Side) (v : Seated) (w : Window) (k : ℕ) : Type 0 where
  pub last : k ≡ v.state.epoch + w.last
  pub soon : k < 2 ^ 31
  pub slot : w.slot < sync_slot_of v.sizes
  pub stays : is_some (new_epoch_of v.plan me v.state) ≡ false

-- all that happens at the busy tick is that the window ends, which is one of a slot before the sync
-- slot. A node can have that tick
abbrev pub is_alone : Side → Seated → Window → Busy → Bool
is_alone me v w b =
    (b.stage == 0) && nat_lt w.slot (sync_slot_of v.sizes) && (v.state.epoch + w.last == b.tick) && nat_lt b.tick (2 ^ 31)
    && not (is_tick (new_epoch_of v.plan me v.state) b.tick)

-- what is kept is so for a node that has had `had` ticks
pub record LooksAhead (me : Side) (v : Seated) (had : ℕ) (a : Ahead) : Type 0 where
  pub next : IsNextBusy me v had a.busy.tick
  pub window : IsWindowOf me v had a.window
  pub stage : SaysIn me v a.window.slot a.busy.tick a.busy.stage
  pub wants : a.want ≡ want_ahead me v a.busy.tick
  pub alone : a.alone ≡ is_alone me v a.window a.busy

-- what holds of a node between two calls: it is a node of its bus, and its frame and its stamps do
-- not run ahead of its ticks
pub record IsRunning (me : Side) (v : Seated) (had : ℕ) (inbox : KeptArrivals) (a : Ahead) : Type 0 where
  pub most : had ≤ 2 ^ 31
  pub index : v.index < 16
  pub frame : v.state.frame ≤ had
  pub epoch : v.state.epoch ≤ had
  pub stamps : StampsUpTo (2 ^ 32) inbox
  pub ahead : LooksAhead me v had a
