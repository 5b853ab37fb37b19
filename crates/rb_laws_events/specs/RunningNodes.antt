-- What running nodes of one world have in common: when they begin a slot, their schedule, whom they
-- hold convicted, their votes and ports; and that they hold what the abstract bus holds.
use Rattle.std.specs.Prelude.{ℕ, suc, ◌≡◌, ◌+◌, ◌*◌, ◌<◌, ◌≤◌, ◌⊎◌, true, false, List}
use Rattle.rb_base.specs.{Nodes.{Side, has}, Nodes.Side.Biu, Sizes.sync_slot_of}
use Rattle.rb_rules.specs.{declared.plan.Window.Window, Goodness.{Scenario, is_good}, Headline.stated_skew, Hearing.port_at, Lawful.IsLawful, Moments.{BeginsFrame, IsComplete, IsReached, IsRunning, time_in_frame}, NodeState.NodeState, NodeSteps.convicted_of, Slots.count_of, StandsFor.{AgreesBefore, FrameTakes, HoldsVote, SparesAllGood, StandsFor, steps_to, votes_on}, WorldStep.{Choice, World, world_after}}
use Rattle.rb_laws_agreement.specs.{Histories.{AreAlike, port_begun, port_through}, Laws.IsAccusedByAll, Values.vote_on}
use Rattle.rb_laws_events.specs.OwnMoments.{IsBeforeTheBreak, RunningNode, moment_of, open_window, ready_state}

-- One running node.

-- the state in which a running node takes its next tick
abbrev pub state_of : {w : World} → {me : Side} → Scenario → RunningNode w me → NodeState
state_of {w} {me} sc node = ready_state sc me node.site.core

-- the window in which the next tick of a running node lies
abbrev pub window_of : {w : World} → {me : Side} → Scenario → RunningNode w me → Window
window_of {w} {me} sc node = open_window sc me node.site.core

-- the time at which a running node begins a slot of its frame: that of the slot's first tick by the
-- node's clock
abbrev pub begin_of_slot : {w : World} → {me : Side} → Scenario → ℕ → RunningNode w me → ℕ
begin_of_slot {w} {me} sc slot node = time_in_frame sc me node.index (state_of sc node) (3 * slot * sc.plan.l)

-- the nodes of a kind that a running node holds convicted
abbrev pub convicted_by : {w : World} → {me : Side} → Scenario → Side → RunningNode w me → ℕ
convicted_by {w} {me} sc kind node = convicted_of sc.sizes kind me (state_of sc node)

-- the node is in the slot, in one of its stages or, in the sync slot, in the tail; and the slot is
-- complete in the rounds, or its frame begins with it and the node is in the first stage
pub record StandsInSlot {w : World} {me : Side} (sc : Scenario) (frame slot : ℕ) (node : RunningNode w me) : Type 0 where
  pub frame_is : (state_of sc node).frame ≡ frame
  pub slot_is : (window_of sc node).slot ≡ slot
  pub stage : (window_of sc node).stage ≤ 4
  pub settled : IsComplete sc w.hands frame slot ⊎ (BeginsFrame sc w.hands frame slot × ((window_of sc node).stage ≡ 1))

-- a node in the window stands between the delivery of a slot and that of the next: in the slot's
-- last stage or the tail, or in one of the first two stages of the next slot
abbrev pub IsAfterDelivery : ℕ → Window → Type 0
IsAfterDelivery slot window =
    ((window.slot ≡ slot) × ((3 ≤ window.stage) × (window.stage ≤ 4)))
    ⊎ ((window.slot ≡ slot + 1) × ((1 ≤ window.stage) × (window.stage ≤ 2)))

-- the BIU stands there, and the slot is complete in the rounds; and no stage of a sync slot has
-- ended the run, or the run goes on at the BIU's own moment
pub record StandsAfterSlot {w : World} (sc : Scenario) (frame slot : ℕ) (node : RunningNode w Biu) : Type 0 where
  pub frame_is : (state_of sc node).frame ≡ frame
  pub place : IsAfterDelivery slot (window_of sc node)
  pub within : slot ≤ sync_slot_of sc.sizes
  pub complete : IsComplete sc w.hands frame slot
  pub goes_on : IsBeforeTheBreak sc w ⊎ IsRunning (moment_of sc node)

-- Two running nodes of one world.

-- any two begin a slot at most the stated skew apart
abbrev pub NodesBeginSlotsNear : Scenario → World → Type 0
NodesBeginSlotsNear sc w =
    (frame slot : ℕ) (me you : Side) (mine : RunningNode w me) (yours : RunningNode w you)
    → StandsInSlot sc frame slot mine → StandsInSlot sc frame slot yours
    → begin_of_slot sc slot mine ≤ begin_of_slot sc slot yours + stated_skew sc.plan (3 * slot * sc.plan.l)

-- from the first data slot on any two hold the same owners
abbrev pub NodesHoldOneSchedule : Scenario → World → Type 0
NodesHoldOneSchedule sc w =
    (frame slot : ℕ) (me you : Side) (mine : RunningNode w me) (yours : RunningNode w you)
    → StandsInSlot sc frame slot mine → StandsInSlot sc frame slot yours
    → sc.sizes.bius ≤ slot → (state_of sc mine).owners ≡ (state_of sc yours).owners

-- any two hold the same nodes of each kind convicted
abbrev pub NodesConvictAlike : Scenario → World → Type 0
NodesConvictAlike sc w =
    (frame slot : ℕ) (me you : Side) (mine : RunningNode w me) (yours : RunningNode w you)
    → StandsInSlot sc frame slot mine → StandsInSlot sc frame slot yours
    → (kind : Side) → convicted_by sc kind mine ≡ convicted_by sc kind yours

-- no running node holds a node convicted that is good in the slot
abbrev pub NodesConvictNoGoodNode : Scenario → World → Type 0
NodesConvictNoGoodNode sc w =
    (frame slot : ℕ) (me : Side) (node : RunningNode w me) → StandsInSlot sc frame slot node
    → (kind : Side) (j : ℕ) → is_good sc kind j frame slot ≡ true → has (convicted_by sc kind node) j ≡ false

-- any two hold the same vote on each earlier slot of the frame on which both vote
abbrev pub NodesVoteAlike : Scenario → World → Type 0
NodesVoteAlike sc w =
    (frame slot : ℕ) (me you : Side) (mine : RunningNode w me) (yours : RunningNode w you)
    → StandsInSlot sc frame slot mine → StandsInSlot sc frame slot yours
    → (voted : ℕ) → voted < slot → votes_on sc.sizes voted me ≡ true → votes_on sc.sizes voted you ≡ true
    → vote_on (state_of sc mine) voted ≡ vote_on (state_of sc yours) voted

-- in the first slot of the frame after a complete one each running node holds convicted whomever
-- all good nodes of the other kind accused when they sent their vectors
abbrev pub NodesConvictWhomAllAccused : Scenario → World → Type 0
NodesConvictWhomAllAccused sc w =
    (frame : ℕ) → IsComplete sc w.hands frame (sync_slot_of sc.sizes)
    → (accused : Side) (j : ℕ) → j < count_of accused sc.sizes → IsAccusedByAll sc w.hands frame accused j
    → (me : Side) (node : RunningNode w me) → StandsInSlot sc (frame + 1) 0 node
    → has (convicted_by sc accused node) j ≡ true

-- what any two running nodes have in common that stand in the same slot of the same frame
pub record RunningNodesAgree (sc : Scenario) (w : World) : Type 0 where
  pub skew : NodesBeginSlotsNear sc w
  pub schedules : NodesHoldOneSchedule sc w
  pub convictions : NodesConvictAlike sc w
  pub good_nodes_stay : NodesConvictNoGoodNode sc w
  pub votes : NodesVoteAlike sc w

-- after the same slot two BIUs with one application, one first word and equal hand-ins have equal
-- ports
abbrev pub RunningPortsAgree : Scenario → World → Type 0
RunningPortsAgree sc w =
    (frame slot : ℕ) (mine yours : RunningNode w Biu)
    → StandsAfterSlot sc frame slot mine → StandsAfterSlot sc frame slot yours
    → AreAlike sc w.hands mine.index yours.index
    → port_at sc w.ports mine.index ≡ port_at sc w.ports yours.index

-- The ports of running BIUs.

-- the BIU stands before the first delivery of a frame that is reached: in one of the first two
-- stages of its first slot. No stage of a sync slot has ended the run, or the run goes on at the
-- BIU's own moment
pub record StandsAtBegin {w : World} (sc : Scenario) (frame : ℕ) (node : RunningNode w Biu) : Type 0 where
  pub frame_is : (state_of sc node).frame ≡ frame
  pub slot_is : (window_of sc node).slot ≡ 0
  pub stage : (1 ≤ (window_of sc node).stage) × ((window_of sc node).stage ≤ 2)
  pub reached : IsReached sc w.hands frame
  pub goes_on : IsBeforeTheBreak sc w ⊎ IsRunning (moment_of sc node)

-- the port of a BIU is what the bus's values and the hand-ins make of it: as a frame begins, and
-- after each complete slot
pub record RunningPortsFollowTheBus (sc : Scenario) (w : World) : Type 0 where
  pub begun : (frame : ℕ) (node : RunningNode w Biu) → StandsAtBegin sc frame node
      → port_at sc w.ports node.index ≡ port_begun sc w.hands node.index frame
  pub after : (frame slot : ℕ) (node : RunningNode w Biu) → StandsAfterSlot sc frame slot node
      → port_at sc w.ports node.index ≡ port_through sc w.hands frame (suc slot) (port_begun sc w.hands node.index frame)

-- The abstract bus.

-- a running node holds what the bus does before the node's slot: it began the slot in the band of
-- the bus, trusts the nodes that the bus trusts, and from the first data slot on has its owners
abbrev pub NodesHoldTheBus : (sc : Scenario) (w : World) → StandsFor sc w.hands → Type 0
NodesHoldTheBus sc w machine =
    (frame slot : ℕ) (me : Side) (node : RunningNode w me) → StandsInSlot sc frame slot node
    → AgreesBefore sc (machine.bus (steps_to sc.sizes frame slot)) me node.index (state_of sc node)

-- a running node's vote on each earlier slot of the frame on which its kind votes is the value that
-- the bus gave the slot
abbrev pub NodesVoteAsTheBus : (sc : Scenario) (w : World) → StandsFor sc w.hands → Type 0
NodesVoteAsTheBus sc w machine =
    (frame slot : ℕ) (me : Side) (node : RunningNode w me) → StandsInSlot sc frame slot node
    → (voted : ℕ) → voted < slot
    → HoldsVote sc voted (machine.bus (steps_to sc.sizes frame voted + 1)) me (state_of sc node)

-- no running node accuses a node that is good in its slot, unless the run has ended by the node's
-- own moment
abbrev pub NodesAccuseNoGoodNode : Scenario → World → Type 0
NodesAccuseNoGoodNode sc w =
    (me : Side) (node : RunningNode w me) → IsRunning (moment_of sc node)
    → SparesAllGood sc (state_of sc node).frame (window_of sc node).slot me (state_of sc node)

-- in the tail each running node knows the tick of its next epoch, which is within the bounds of a
-- frame's length
abbrev pub NodesKnowTheNextFrame : Scenario → World → Type 0
NodesKnowTheNextFrame sc w =
    (frame slot : ℕ) (me : Side) (node : RunningNode w me) → StandsInSlot sc frame slot node
    → (window_of sc node).stage ≡ 4 → FrameTakes sc.sizes sc.plan me (state_of sc node)

-- The rounds with what has been handed in stand for a run of the abstract bus, and whichever such
-- run is taken, the running nodes hold what that bus holds. They accuse no good node, and in the
-- tail they know when the next frame begins
pub record RunningNodesAreTheBus (sc : Scenario) (w : World) : Type 0 where
  pub stands : StandsFor sc w.hands
  pub before : (machine : StandsFor sc w.hands) → NodesHoldTheBus sc w machine
  pub votes : (machine : StandsFor sc w.hands) → NodesVoteAsTheBus sc w machine
  pub accusations : NodesAccuseNoGoodNode sc w
  pub next_frames : NodesKnowTheNextFrame sc w

-- The laws.

abbrev pub RunningNodesAgreeInLawful : Type 0
RunningNodesAgreeInLawful = (sc : Scenario) → IsLawful sc → (choices : List Choice) → RunningNodesAgree sc (world_after sc choices)

abbrev pub RunningPortsAgreeInLawful : Type 0
RunningPortsAgreeInLawful = (sc : Scenario) → IsLawful sc → (choices : List Choice) → RunningPortsAgree sc (world_after sc choices)
