-- A single core by its ticks and arrivals.
use Rattle.std.specs.Prelude.{ℕ, List, [], ◌∷◌, ◌++◌, replicate, Option, filter_map}
use Rattle.rb_base.specs.{Nodes.Side.{Biu, Rmu}, Sizes.Sizes}
use Rattle.rb_rules.specs.{declared.record.Epoch.Epoch, Core.{Core, CoreEvent, first_core, tick, pass_to, next_tick, acts_of}, Core.CoreEvent.{Tick, Arrive}}
use Rattle.rb_test_rules.specs.Buses.{plan}

-- four BIUs, three RMUs and eight data slots; one of each
abbrev pub usual_sizes : Sizes
usual_sizes = record { bius = 4; rmus = 3; data_slots = 8 }

abbrev pub least_sizes : Sizes
least_sizes = record { bius = 1; rmus = 1; data_slots = 1 }

-- BIU 0 of the usual bus, at first and after a tick at which it asks for two slots, if it does
abbrev pub biu_0 : Core
biu_0 = first_core usual_sizes Biu

abbrev pub after_tick : ℕ → Core → Core
after_tick k c = (tick usual_sizes plan Biu 0 (pass_to k c) 2).core

abbrev pub busy_next : Core → Option ℕ
busy_next c = next_tick usual_sizes plan Biu 0 c

-- n ticks without a word
abbrev pub waits : ℕ → List CoreEvent
waits n = replicate n (Tick 0)

-- what RMU 0 of the least bus gets of BIU 0 in a frame, and when: its request, its vote on that,
-- its word, its vector, its vote on that, what it relays of the RMU's own vector, and its two calls
abbrev pub frame_of_rmu : List CoreEvent
frame_of_rmu =
    waits 7
    ++ Arrive 0 (1 ∷ 0 ∷ 0 ∷ 0 ∷ 0 ∷ 1 ∷ 0 ∷ 0 ∷ 0 ∷ 1 ∷ 1 ∷ []) ∷ waits 30
    ++ Arrive 0 (1 ∷ 0 ∷ 0 ∷ 0 ∷ 0 ∷ 3 ∷ 0 ∷ 0 ∷ 0 ∷ 1 ∷ 3 ∷ []) ∷ waits 15
    ++ Arrive 0 (1 ∷ 0 ∷ 0 ∷ 0 ∷ 1 ∷ 1 ∷ 0 ∷ 0 ∷ 0 ∷ 7 ∷ 6 ∷ []) ∷ waits 45
    ++ Arrive 0 (1 ∷ 0 ∷ 0 ∷ 0 ∷ 2 ∷ 1 ∷ 0 ∷ 0 ∷ 0 ∷ 0 ∷ 2 ∷ []) ∷ waits 30
    ++ Arrive 0 (1 ∷ 0 ∷ 0 ∷ 0 ∷ 2 ∷ 3 ∷ 0 ∷ 0 ∷ 0 ∷ 0 ∷ 0 ∷ []) ∷ waits 30
    ++ Arrive 0 (1 ∷ 0 ∷ 0 ∷ 0 ∷ 3 ∷ 2 ∷ 0 ∷ 0 ∷ 0 ∷ 0 ∷ 0 ∷ []) ∷ waits 30
    ++ Arrive 0 (3 ∷ 0 ∷ 0 ∷ 0 ∷ 4 ∷ 1 ∷ 0 ∷ 0 ∷ 0 ∷ 0 ∷ 6 ∷ []) ∷ waits 35
    ++ Arrive 0 (3 ∷ 0 ∷ 0 ∷ 0 ∷ 4 ∷ 3 ∷ 0 ∷ 0 ∷ 0 ∷ 0 ∷ 4 ∷ []) ∷ waits 21

-- the events of a frame in which the request has a wrong check
abbrev pub frame_with_a_wrong_check : List CoreEvent
frame_with_a_wrong_check =
    waits 7
    ++ Arrive 0 (254 ∷ 0 ∷ 0 ∷ 0 ∷ 0 ∷ 1 ∷ 0 ∷ 0 ∷ 0 ∷ 1 ∷ 1 ∷ []) ∷ waits 30
    ++ Arrive 0 (1 ∷ 0 ∷ 0 ∷ 0 ∷ 0 ∷ 3 ∷ 0 ∷ 0 ∷ 0 ∷ 1 ∷ 3 ∷ []) ∷ waits 15
    ++ Arrive 0 (1 ∷ 0 ∷ 0 ∷ 0 ∷ 1 ∷ 1 ∷ 0 ∷ 0 ∷ 0 ∷ 7 ∷ 6 ∷ []) ∷ waits 45
    ++ Arrive 0 (1 ∷ 0 ∷ 0 ∷ 0 ∷ 2 ∷ 1 ∷ 0 ∷ 0 ∷ 0 ∷ 0 ∷ 2 ∷ []) ∷ waits 30
    ++ Arrive 0 (1 ∷ 0 ∷ 0 ∷ 0 ∷ 2 ∷ 3 ∷ 0 ∷ 0 ∷ 0 ∷ 0 ∷ 0 ∷ []) ∷ waits 30
    ++ Arrive 0 (1 ∷ 0 ∷ 0 ∷ 0 ∷ 3 ∷ 2 ∷ 0 ∷ 0 ∷ 0 ∷ 0 ∷ 0 ∷ []) ∷ waits 30
    ++ Arrive 0 (3 ∷ 0 ∷ 0 ∷ 0 ∷ 4 ∷ 1 ∷ 0 ∷ 0 ∷ 0 ∷ 0 ∷ 6 ∷ []) ∷ waits 35
    ++ Arrive 0 (3 ∷ 0 ∷ 0 ∷ 0 ∷ 4 ∷ 3 ∷ 0 ∷ 0 ∷ 0 ∷ 0 ∷ 4 ∷ []) ∷ waits 21

-- the frames that RMU 0 of the least bus begins in these events
abbrev pub epochs_of : List CoreEvent → List Epoch
epochs_of events = filter_map (λ act. act.epoch) (acts_of least_sizes plan Rmu 0 (first_core least_sizes Rmu) events)

-- a frame begins at a tick, and nobody is convicted
abbrev pub begun_at : ℕ → ℕ → Epoch
begun_at frame tick = record { frame = frame; tick = tick; biu = 0; rmu = 0 }
