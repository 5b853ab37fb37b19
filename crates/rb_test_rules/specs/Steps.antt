-- Single steps of a core and of a world.
use Rattle.std.specs.Prelude.{ℕ, true, [], ◌∷◌, Option, Some, None}
use Rattle.rb_base.specs.{Nodes.Side.{Biu, Rmu}, declared.values.Heard.TheVariants.Word}
use Rattle.rb_rules.specs.{declared.closing.Closed.Closed, declared.link.Pattern.TheVariants.AllRmu, declared.message.Message.Message, declared.plan.Plan.Plan, declared.say.Content.TheVariants.Sync, declared.say.Say.Say, Book.{Each, Row}, Book.Milestone.Stage, Book.Record.{Frame, Slot}, Core.{Act, Core, first_core, arrive, tick, pass_to}, ExactStage.message_of, Goodness.Scenario, Hearing.{Coming, Span}, WorldStep.{Due, Site, World, fresh_site, first_world, stop, take_if_due}, WorldStep.Pending.Tick}
use Rattle.rb_test_rules.specs.{Buses.{b, plan, says}, Cores.usual_sizes, Ordinary.smallest_bus, Parts.biu, Told.{at, begins}}

-- A core.

-- BIU 0 of the usual bus after a tick, at which it asks for two slots if it asks
abbrev pub ticked_by : Plan → ℕ → Core → Core
ticked_by p k c = (tick usual_sizes p Biu 0 (pass_to k c) 2).core

-- the core after its own slot by ticks: it begins the frame, asks, and closes stage 1; then two
-- RMUs relay 2 and the third 7; then it closes stage 2
abbrev pub relays_to : Core → Core
relays_to c =
    arrive usual_sizes Biu
    (arrive usual_sizes Biu
    (arrive usual_sizes Biu c 0 (1 ∷ 0 ∷ 0 ∷ 0 ∷ 0 ∷ 2 ∷ 0 ∷ 0 ∷ 0 ∷ 2 ∷ 1 ∷ []))
    1 (1 ∷ 0 ∷ 0 ∷ 0 ∷ 0 ∷ 2 ∷ 0 ∷ 0 ∷ 0 ∷ 2 ∷ 1 ∷ []))
    2 (1 ∷ 0 ∷ 0 ∷ 0 ∷ 0 ∷ 2 ∷ 0 ∷ 0 ∷ 0 ∷ 7 ∷ 4 ∷ [])

abbrev pub own_slot : Core
own_slot = ticked_by plan 29 (relays_to (ticked_by plan 14 (ticked_by plan 6 (ticked_by plan 0 (first_core usual_sizes Biu)))))

-- a plan in which messages are sent in the last tick of a window
abbrev pub late_plan : Plan
late_plan = record plan { h = 14 }

abbrev pub own_slot_by_last_ticks : Core
own_slot_by_last_ticks = ticked_by late_plan 29 (relays_to (ticked_by late_plan 14 (ticked_by late_plan 0 (first_core usual_sizes Biu))))

-- BIU 0 at the last tick of stage 1 of the slot for its vector, at which it sends that, with noise
-- from RMU 0 in its inbox
abbrev pub vector_at_the_last_tick : Act
vector_at_the_last_tick =
    tick usual_sizes late_plan Biu 0 (record { state = biu; had = 554; inbox = (0, record { stamp = 550; bytes = [] }) ∷ [] }) 0

-- RMU 0 of the usual bus that gets the request of BIU 0 with this stamp, after the close of stage 1
-- and after that of stage 2
abbrev pub rmu_ticked : ℕ → Core → Core
rmu_ticked k c = (tick usual_sizes plan Rmu 0 (pass_to k c) 0).core

abbrev pub request_to : Core → Core
request_to c = arrive usual_sizes Rmu c 0 (1 ∷ 0 ∷ 0 ∷ 0 ∷ 0 ∷ 1 ∷ 0 ∷ 0 ∷ 0 ∷ 2 ∷ 2 ∷ [])

abbrev pub in_time : Core
in_time = rmu_ticked 14 (request_to (pass_to 14 (rmu_ticked 0 (first_core usual_sizes Rmu))))

abbrev pub too_late : Core
too_late = rmu_ticked 29 (request_to (rmu_ticked 14 (rmu_ticked 0 (first_core usual_sizes Rmu))))

-- a core that has had `ticks` ticks
abbrev pub core_after : ℕ → Core
core_after ticks = record { state = biu; had = ticks; inbox = [] }

abbrev pub word_in_stage : ℕ → ℕ → Option Message
word_in_stage slot stage = Some (message_of biu slot stage (Word 2))

-- a core that has had 2^31 ticks, in a frame that began with the next one
abbrev pub at_the_last_tick : Core
at_the_last_tick = record { state = record biu { epoch = 2147483648 }; had = 2147483648; inbox = [] }

-- The tail.

-- three ticks of the sync slot's tail, and a call in it at an offset
abbrev pub short_tail : Span
short_tail = record { place = at 0 19 4; first = 908; last = 910 }

abbrev pub call_in_tail : ℕ → Say
call_in_tail offset = record (says (b 1) AllRmu (0, 0) (19, 19) (4, 4) Sync) { offset = offset }

-- A world.

-- the smallest bus at first
abbrev pub small_world : World
small_world = first_world smallest_bus

-- the smallest bus with a BIU that is not good
abbrev pub faulty_bus : Scenario
faulty_bus = record smallest_bus { biu_onsets = Some (0, 0) ∷ [] }

-- the smallest bus, the frame's record or a slot's record being the last turn
abbrev pub at_frame : World
at_frame = record small_world { turn = Some (Frame 0 [] []) }

abbrev pub at_slot : World
at_slot = record small_world { turn = Some (Slot 0 0 []) }

-- all nodes of the usual bus, of which RMU 1 has stopped
abbrev pub all_but_one_run : Each Site
all_but_one_run = record {
  bius = fresh_site usual_sizes Biu ∷ [];
  rmus = fresh_site usual_sizes Rmu ∷ stop (fresh_site usual_sizes Rmu) ∷ fresh_site usual_sizes Rmu ∷ [];
}

-- what comes at a time from a BIU
abbrev pub empty_at : ℕ → ℕ → Coming
empty_at time from = record { time = time; from = from; bytes = [] }

-- an RMU whose tick is pending, and two arrivals, the later one from BIU 0
abbrev pub waiting : Site
waiting = record (fresh_site usual_sizes Rmu) {
  ahead = Some (record { tick = 3; time = 30 });
  coming = empty_at 30 1 ∷ empty_at 30 0 ∷ empty_at 31 0 ∷ [];
}

-- the smallest bus after a breach
abbrev pub broken_world : World
broken_world = record small_world { book = record small_world.book { ended = true } }

-- the close of a tail
abbrev pub tail_closed : Closed
tail_closed = record { place = at 0 19 4; sees = []; delivered = None }

-- what a node tells of stage 3 of slot 4
abbrev pub row_of_stage_3 : Option Row
row_of_stage_3 = Some (record { place = at 0 4 3; sees = []; biu = 1; rmu = 1; line = None })

-- a node that has told of stage 3 of slot 4, and has begun frame 1
abbrev pub stage_3_told : Site
stage_3_told = record waiting {
  row = row_of_stage_3;
  begun = Some (record { frame = 1; line = begins 242 2420000 0 0 (b 0); port = None });
}

-- the smallest bus where both nodes have done so, and neither the stage nor the frame is settled
abbrev pub both_told : World
both_told = record small_world {
  sites = record { bius = stage_3_told ∷ []; rmus = stage_3_told ∷ [] };
  book = record small_world.book { upcoming = Stage (at 0 4 3) };
}

-- a tick of BIU 5, which the smallest bus does not have
abbrev pub tick_of_nobody : Due
tick_of_nobody = record { side = Biu; node = 5; pending = Tick 0 }

-- the world `both_told` after an event
abbrev pub after_both_told : Due → World
after_both_told event = take_if_due smallest_bus both_told (Some event)
