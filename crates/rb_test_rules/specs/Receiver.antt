-- Receivers beside the bus.
use Rattle.std.specs.Prelude.{ℕ, ◌==◌, if◌then◌else◌, Option, Some, None, [], ◌∷◌, replicate}
use Rattle.rb_base.specs.declared.values.See.{See}
use Rattle.rb_rules.specs.{Clock.Timeline, Goodness.Scenario, Hearing.{Coming, judged_see}, Judging.JudgedStage, SyncStage.see_time}
use Rattle.rb_test_rules.specs.{Buses.{steady, ticking}, Ordinary.smallest_bus}

-- The call of the smallest bus's RMU: the stamp that a receiver takes of it, and its time.

abbrev pub call_taken : ℕ → Option ℕ
call_taken j = if j == 0 then Some 203 else None

abbrev pub call_time : ℕ → ℕ
call_time j = 2030000

-- the receiver sees the call in the stage after the first 13 of the frame, and nothing in others
abbrev pub call_seen : ℕ → JudgedStage → Option (ℕ → See)
call_seen earlier s = if earlier == 13 then Some (λ j. judged_see (call_time j) (see_time (call_taken j))) else None

-- An RMU that fails.

-- three RMUs, of which the last is not good from slot 2 on
abbrev pub failing_rmu : Scenario
failing_rmu = record smallest_bus {
  sizes = record { bius = 1; rmus = 3; data_slots = 1 };
  clocks = replicate 4 steady;
  rmu_onsets = None ∷ None ∷ Some (0, 2) ∷ [];
}

-- a clock that starts as late as it may, and has the longest ticks
abbrev pub latest_clock : Timeline
latest_clock = ticking 60200 10001

-- what the RMU says before slot 2 begins by that clock, and less than a tick before it
abbrev pub said_before : Coming
said_before = record { time = 951000; from = 2; bytes = [] }
