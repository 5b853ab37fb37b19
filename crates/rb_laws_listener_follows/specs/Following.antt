-- What it is that a listener follows the bus, from the frame after the one that it learned on.
use Rattle.std.specs.Prelude.{ℕ, ◌≡◌, ◌+◌, ◌-◌, ◌*◌, ◌<◌, ◌≤◌, ◌==◌, if◌then◌else◌, Option, Some, None, List, slice_get}
use Rattle.rb_base.specs.{Nodes.Side, Nodes.Side.{Biu, Rmu}, Sizes.{Sizes, sync_slot_of}, declared.values.Delivery.Delivery, declared.values.Heard.Heard}
use Rattle.rb_rules.specs.{declared.closing.Closed.Closed, declared.record.Epoch.Epoch, declared.plan.Plan.Plan, declared.plan.Window.Window, declared.role.Role.Role, declared.role.Role.TheVariants.Data, declared.sense.Sense.Sense, AbstractBus.{AbstractBus, sender_on}, Clock.time_of, Core.{Core, state_at}, Goodness.Scenario, Lawful.IsLawful, Moments.{IsGoodBefore, IsReached, time_in_frame}, NodeState.NodeState, NodeSteps.convicted_of, Ports.HandIn, Rounds.windows_in, Slots.{Sender, role_of}, Slots.Sender.Node, StandsFor.{HoldsOwners, HoldsTrusted, StandsFor, steps_to, value_on}, Windows.windows_of_frame}
use Rattle.rb_listen.specs.{Following.follow, Passes.reach_of, declared.search.Search.Search}
use Rattle.rb_laws_listener_near.specs.Laws.{LieWithin}
use Rattle.rb_laws_listener_learns.specs.{Deciding.{CallsComeAfter, CallsComeBy, DecidesBy, HasDecided}, Ears.{Ear, HearsTheRun, IsEar, listening_at, told_at}, Receivers.{HoldsTo, IsCalm}, Seeking.HasCalls}
use Rattle.rb_listen.specs.Listening as now

-- the frame begins before the first breach of the premise with the listener
pub record IsReachedWell (sc : Scenario) (hands : List HandIn) (ear : Ear) (learned : ℕ) (records : List Sense) (frame : ℕ) : Type 0 where
  pub reached : IsReached sc hands frame
  pub holds : HoldsTo sc hands ear learned records (frame * (windows_in sc.sizes + 1))

-- Epochs.

-- the frame begins with this tick, and these are convicted then, as a node in this state holds
abbrev pub epoch_with : Scenario → ℕ → ℕ → Side → NodeState → Epoch
epoch_with sc frame tick me st =
    record { frame = frame; tick = tick; biu = convicted_of sc.sizes Biu me st; rmu = convicted_of sc.sizes Rmu me st }

-- If this tick is among the listener's ticks, the listener tells with it that the frame begins, and
-- holds the same nodes convicted as all good nodes. With no other tick it tells that the frame
-- begins
pub record TellsFrame (sc : Scenario) (hands : List HandIn) (ear : Ear) (frame tick : ℕ) : Type 0 where
  pub tells : (me : Side) (i : ℕ) (st : NodeState) → IsGoodBefore sc hands frame 0 me i st → tick < ear.ticks → (told_at sc ear tick).epoch ≡ Some (epoch_with sc frame tick me st)
  pub only : (k : ℕ) (e : Epoch) → k < ear.ticks → (told_at sc ear k).epoch ≡ Some e → e.frame ≡ frame → k ≡ tick

-- the listener tells nothing of the learned frame and of those before it
pub record TellsLater (sc : Scenario) (ear : Ear) (learned : ℕ) : Type 0 where
  pub epochs : (k : ℕ) (e : Epoch) → k < ear.ticks → (told_at sc ear k).epoch ≡ Some e → learned < e.frame
  pub deliveries : (k : ℕ) (d : Delivery) → k < ear.ticks → (told_at sc ear k).delivered ≡ Some d → learned < d.frame

-- Slots.

-- what the bus delivers at the end of a stage
abbrev pub delivery_by : ℕ → ℕ → ℕ → Role → Sender → Heard → Option Delivery
delivery_by frame slot stage (Data n) (Node owner) value =
    if stage == 2 then Some (record { frame = frame; slot = slot; sender = owner; value = value }) else None
delivery_by frame slot stage role sender value = None

-- at the close of a window it holds the schedule and the convictions of the bus, and delivers what
-- the bus does
pub record ClosesAsTheBus (sc : Scenario) (bus next : AbstractBus) (st : NodeState) (x : Closed) : Type 0 where
  pub trusted : HoldsTrusted bus Biu st
  pub owners : HoldsOwners sc bus st
  pub delivers : x.delivered ≡ delivery_by x.place.frame x.place.slot x.place.stage (role_of sc.sizes x.place.slot) (sender_on sc.sizes bus) (value_on next x.place.slot)

-- with this tick it closes the window of this stage, as the bus does
pub record ClosesAt (sc : Scenario) (bus : ℕ → AbstractBus) (ear : Ear) (frame slot stage tick : ℕ) : Type 0 where
  pub core : Core
  pub here : listening_at sc ear tick ≡ now.Following core
  pub x : Closed
  pub closed : (follow sc.sizes sc.plan core).closed ≡ Some x
  pub place : x.place ≡ record { frame = frame; slot = slot; stage = stage }
  pub as_bus : ClosesAsTheBus sc (bus (steps_to sc.sizes frame slot)) (bus (steps_to sc.sizes frame slot + 1)) (state_at sc.sizes sc.plan Biu core.state tick) x
  pub told : (told_at sc ear tick).delivered ≡ x.delivered

-- the closed window is a stage of the frame that begins with tick `begin`, and tick k is the
-- stage's last
pub record IsItsTick (sizes : Sizes) (plan : Plan) (frame begin k : ℕ) (x : Closed) : Type 0 where
  pub n : ℕ
  pub window : Window
  pub there : slice_get (windows_of_frame sizes plan) n ≡ Some window
  pub place : x.place ≡ record { frame = frame; slot = window.slot; stage = window.stage }
  pub tick : k ≡ begin + window.last

-- The whole.

-- The listener begins the frame with this tick, near all good nodes, and tells that. What it tells
-- is of frames after the learned one. It closes each window of a slot before the first breach as
-- the bus does, with the window's last tick. With no other ticks it closes stages of the frame, or
-- delivers in it
pub record FollowsFrame (sc : Scenario) (hands : List HandIn) (bus : ℕ → AbstractBus) (ear : Ear) (learned : ℕ) (records : List Sense) (frame tick : ℕ) : Type 0 where
  pub near : (me : Side) (i : ℕ) (st : NodeState) → IsGoodBefore sc hands frame 0 me i st → LieWithin sc.plan.p (time_of ear.clock tick) (time_in_frame sc me i st 0)
  pub epochs : TellsFrame sc hands ear frame tick
  pub later : TellsLater sc ear learned
  pub closes : (n : ℕ) (w : Window) → slice_get (windows_of_frame sc.sizes sc.plan) n ≡ Some w → IsCalm sc hands ear learned records frame w.slot
      → tick + w.last < ear.ticks → ClosesAt sc bus ear frame w.slot w.stage (tick + w.last)
  pub only : (k : ℕ) (core : Core) (x : Closed) → k < ear.ticks → listening_at sc ear k ≡ now.Following core → (follow sc.sizes sc.plan core).closed ≡ Some x
      → x.place.frame ≡ frame → x.place.stage ≤ 3 → IsItsTick sc.sizes sc.plan frame tick k x
  pub deliveries : (k : ℕ) (d : Delivery) → k < ear.ticks → (told_at sc ear k).delivered ≡ Some d → d.frame ≡ frame
      → (d.slot < sync_slot_of sc.sizes) × (k ≡ tick + (3 * d.slot + 2) * sc.plan.l - 1)

-- Whatever the listener hears from RMUs that are not good: if it decides by a frame that comes to
-- its end before the first breach of the premise with the listener, it follows the bus in each
-- later frame that starts before that breach
abbrev pub DecidedListenersFollow : Type 0
DecidedListenersFollow =
    (sc : Scenario) (hands : List HandIn) → IsLawful sc → (stands : StandsFor sc hands) (ear : Ear) → IsEar sc ear → HearsTheRun sc hands ear
    → (learned tick : ℕ) (s : Search) → DecidesBy sc hands ear learned tick s
    → IsCalm sc hands ear learned s.lesson.records learned (sync_slot_of sc.sizes)
    → (frame : ℕ) → learned < frame → IsReachedWell sc hands ear learned s.lesson.records frame
    → (begin : ℕ) × FollowsFrame sc hands stands.bus ear learned s.lesson.records frame begin

-- A listener that starts before the calls of a frame decides soon after those of the next one, if
-- the run comes to them and the listener's ticks last. Whatever it hears from RMUs that are not
-- good, it follows the bus in each frame after the learned one that starts before the first breach
-- of the premise with the listener
abbrev pub ListenersFollowTheBus : Type 0
ListenersFollowTheBus =
    (sc : Scenario) (hands : List HandIn) → IsLawful sc → (stands : StandsFor sc hands) (ear : Ear) → IsEar sc ear → HearsTheRun sc hands ear
    → (frame : ℕ) → CallsComeAfter sc hands ear frame 0 → HasCalls sc hands (frame + 1)
    → (last : ℕ) → CallsComeBy sc hands ear (frame + 1) last → last + reach_of sc.plan < ear.ticks
    → (d : HasDecided sc hands ear (frame + 1) (last + reach_of sc.plan))
    × ((later : ℕ) → d.learned < later → IsReachedWell sc hands ear d.learned d.search.lesson.records later
    → (begin : ℕ) × FollowsFrame sc hands stands.bus ear d.learned d.search.lesson.records later begin)
