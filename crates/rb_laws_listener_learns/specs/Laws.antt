-- What is proved of a listener beside a run of the bus.
use Rattle.std.specs.Prelude.{ℕ, ◌≡◌, ◌+◌, ◌*◌, ◌<◌, ◌≤◌, ◌↔◌, true, None, Some, List, get_or}
use Rattle.rb_base.specs.{Nodes.set_of, Sizes.sync_slot_of}
use Rattle.rb_listen.specs.{Lessons.{first_of, trusted_bius, trusted_rmus}, Listening.{first_search, told_of}, Passes.{are_most, reach_of}, declared.lesson.First.First, declared.search.Search.Search}
use Rattle.rb_rules.specs.{Clock.{Timeline, time_of}, Goodness.Scenario, Hearing.Coming, Lawful.IsLawful, Moments.{IsRunning, before_slot}, Plan.shortest_of, Ports.HandIn}
use Rattle.rb_laws_listener_learns.specs.{Calling.EachIsHeardToCall, Deciding.{CallsComeAfter, CallsComeBy, DecidesAfterTheCalls, DecidesBy, HasDecided}, Ears.{Ear, HearsTheRun, IsEar, IsOfFaulty, is_always_good}, Feeding.{events_from, told_from}, Learned.{AreTrusted, HasLearned, TrustsTheTrusted}, Onsets.{BeginsBeside, IsGoodThroughout}, Receivers.IsCalm, Records.{RecordsAreTrue, RecordsAreWhole}, Seeking.{HasCalls, SeeksAFrame}, Waiting.WaitsFor, Together.{CallsComeTogether, LaterCallsComeLater}}
use Rattle.rb_listen.specs.Listening as now

-- an RMU is good in the whole run if and only if it is good in each slot to which the run comes
abbrev pub AlwaysGoodIsGoodInEachSlot : Type 0
AlwaysGoodIsGoodInEachSlot =
    (sc : Scenario) (hands : List HandIn) → IsLawful sc → (j : ℕ) → j < sc.sizes.rmus
    → (is_always_good sc hands j ≡ true) ↔ IsGoodThroughout sc hands j

-- an RMU may say anything from less than a tick before the slot of its onset begins by a clock that
-- starts the frame at most p from each good node, as the listener's or its own
abbrev pub FaultyRmusMaySpeakByAnyClock : Type 0
FaultyRmusMaySpeakByAnyClock =
    (sc : Scenario) (hands : List HandIn) → IsLawful sc → are_most sc.sizes (set_of (is_always_good sc hands)) ≡ true
    → (clock : Timeline) (frame epoch : ℕ) → BeginsBeside sc hands clock frame epoch
    → (slot : ℕ) → slot ≤ sync_slot_of sc.sizes → IsRunning (before_slot sc hands frame slot)
    → (c : Coming) → get_or sc.rmu_onsets c.from None ≡ Some (frame, slot)
    → time_of clock (epoch + 3 * slot * sc.plan.l) < c.time + shortest_of sc.plan → IsOfFaulty sc hands c

-- what a listener tells beside a run is what it tells if it is given these events one after another
abbrev pub EarsAreFedEvents : Type 0
EarsAreFedEvents =
    (sc : Scenario) (ear : Ear) (word : ℕ → ℕ) (n : ℕ)
    → told_of sc.sizes sc.plan (now.Searching first_search) (events_from ear word 0 n) ≡ told_from sc ear 0 n

-- the frame sought is the one after a frame of the bus in which the RMUs called. For this no
-- premise on faults is needed but that most RMUs are good
abbrev pub TheFrameSoughtIsReal : Type 0
TheFrameSoughtIsReal =
    (sc : Scenario) (hands : List HandIn) → IsLawful sc → (ear : Ear) → HearsTheRun sc hands ear
    → (k : ℕ) → k < ear.ticks → SeeksAFrame sc hands ear k

-- whatever others send, the records of RMUs that are good in the whole run are what these sent
abbrev pub RecordsOfTheGoodAreTrue : Type 0
RecordsOfTheGoodAreTrue =
    (sc : Scenario) (hands : List HandIn) → IsLawful sc → (ear : Ear) → IsEar sc ear → HearsTheRun sc hands ear
    → (k : ℕ) → k < ear.ticks → RecordsAreTrue sc hands ear k

-- a listener trusts nobody whom the bus does not trust
abbrev pub ListenersTrustTheTrusted : Type 0
ListenersTrustTheTrusted =
    (sc : Scenario) (hands : List HandIn) → IsLawful sc → (ear : Ear) → IsEar sc ear → HearsTheRun sc hands ear
    → (k : ℕ) → k < ear.ticks → TrustsTheTrusted sc hands ear k

-- each good RMU calls in each frame, and is heard
abbrev pub GoodRmusAreHeardToCall : Type 0
GoodRmusAreHeardToCall =
    (sc : Scenario) (hands : List HandIn) → IsLawful sc → (ear : Ear) → HearsTheRun sc hands ear → EachIsHeardToCall sc hands ear

-- Good RMUs call together, so a pass needs no more than that most RMUs are good
abbrev pub GoodCallsComeTogether : Type 0
GoodCallsComeTogether = (sc : Scenario) (hands : List HandIn) → IsLawful sc → (ear : Ear) → IsEar sc ear → CallsComeTogether sc hands ear

-- no two calls of good RMUs in different frames fall into one pass
abbrev pub FramesComeApart : Type 0
FramesComeApart = (sc : Scenario) (hands : List HandIn) → IsLawful sc → (ear : Ear) → IsEar sc ear → LaterCallsComeLater sc hands ear

-- a listener decides after all calls of good RMUs in the frame that it learned have come
abbrev pub DecisionsComeAfterTheCalls : Type 0
DecisionsComeAfterTheCalls =
    (sc : Scenario) (hands : List HandIn) → IsLawful sc → (ear : Ear) → IsEar sc ear → HearsTheRun sc hands ear
    → (k : ℕ) → k < ear.ticks → DecidesAfterTheCalls sc hands ear k

-- A listener that starts before the calls of a frame decides, if the run comes to the calls of the
-- next frame and the listener's ticks last: at most the reach of a pass after these have come, by
-- that next frame or an earlier one, whatever faulty RMUs send
abbrev pub ListenersDecide : Type 0
ListenersDecide =
    (sc : Scenario) (hands : List HandIn) → IsLawful sc → (ear : Ear) → IsEar sc ear → HearsTheRun sc hands ear
    → (frame : ℕ) → CallsComeAfter sc hands ear frame 0 → HasCalls sc hands (frame + 1)
    → (last : ℕ) → CallsComeBy sc hands ear (frame + 1) last → last + reach_of sc.plan < ear.ticks
    → HasDecided sc hands ear (frame + 1) (last + reach_of sc.plan)

-- if a listener decides, it has recorded all that an RMU, good in the learned frame up to its sync
-- slot, sent in that frame in the places that are recorded
abbrev pub RecordsOfTheGoodAreWhole : Type 0
RecordsOfTheGoodAreWhole =
    (sc : Scenario) (hands : List HandIn) → IsLawful sc → (ear : Ear) → IsEar sc ear → HearsTheRun sc hands ear
    → (learned tick : ℕ) (s : Search) → DecidesBy sc hands ear learned tick s → RecordsAreWhole sc hands ear learned s.lesson.records

-- In the learned frame a listener trusts exactly the nodes that the bus trusts
abbrev pub ListenersTrustAsTheBus : Type 0
ListenersTrustAsTheBus =
    (sc : Scenario) (hands : List HandIn) → IsLawful sc → (ear : Ear) → IsEar sc ear → HearsTheRun sc hands ear
    → (learned tick : ℕ) (s : Search) → DecidesBy sc hands ear learned tick s
    → AreTrusted sc hands learned (sync_slot_of sc.sizes) (trusted_bius sc.sizes s.lesson.records) (trusted_rmus sc.sizes s.lesson.records)

-- a listener's first frame begins after the decision
abbrev pub DecisionsComeInTime : Type 0
DecisionsComeInTime =
    (sc : Scenario) (hands : List HandIn) → IsLawful sc → (ear : Ear) → IsEar sc ear → HearsTheRun sc hands ear
    → (learned tick : ℕ) (s : Search) → DecidesBy sc hands ear learned tick s
    → (first : First) × ((first_of sc.sizes sc.plan s.lesson ≡ Some first) × (tick < first.epoch))

-- If the learned frame comes to its end before the first breach of the premise with the listener,
-- the listener also convicts as the bus does: it has learned all that it needs to follow
abbrev pub ListenersLearn : Type 0
ListenersLearn =
    (sc : Scenario) (hands : List HandIn) → IsLawful sc → (ear : Ear) → IsEar sc ear → HearsTheRun sc hands ear
    → (learned tick : ℕ) (s : Search) → DecidesBy sc hands ear learned tick s → IsCalm sc hands ear learned s.lesson.records learned (sync_slot_of sc.sizes)
    → (first : First) × ((first_of sc.sizes sc.plan s.lesson ≡ Some first) × HasLearned sc hands ear learned tick s.lesson.records first)

-- From the decision it waits up to the first tick of its first frame, and with that it begins to
-- follow
abbrev pub ListenersWait : Type 0
ListenersWait =
    (sc : Scenario) (hands : List HandIn) → IsLawful sc → (ear : Ear) → IsEar sc ear → HearsTheRun sc hands ear
    → (learned tick : ℕ) (s : Search) → DecidesBy sc hands ear learned tick s
    → (first : First) → first_of sc.sizes sc.plan s.lesson ≡ Some first → tick < first.epoch → WaitsFor sc ear tick first
