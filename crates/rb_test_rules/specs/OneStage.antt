-- Two BIUs that hear calls in stage 2 of the sync slot: of RMUs 0 and 1, and of RMU 2 long before.
use Rattle.std.specs.Prelude.{ℕ, ◌==◌, if◌then◌else◌, nat_lt, Bool}
use Rattle.rb_base.specs.Nodes.Side.{Biu}
use Rattle.rb_rules.specs.{declared.message.Message.Message, declared.message.Tag.TheVariants.Sync, declared.sense.Sense.Sense, declared.sense.Sense.TheVariants.{Silent, One}, Clock.{Timeline, stamp_of}}
use Rattle.rb_laws_synchrony.specs.OneStage.{Listener}
use Rattle.rb_test_rules.specs.{Buses.ticking, Parts.{biu, sizes}}

abbrev pub a_call : Message
a_call = record { tag = Sync; frame = 0; slot = 19; stage = 2; value = 0 }

-- a call at a time, stamped by this clock
abbrev pub called_at : Timeline → ℕ → Sense
called_at clock time = One (stamp_of clock time) a_call

-- calls of RMUs 0, 1 and 2 at these times
abbrev pub calls_of : Timeline → ℕ → ℕ → ℕ → ℕ → Sense
calls_of clock first second third j =
    if j == 0 then called_at clock first
    else (if j == 1 then called_at clock second else (if j == 2 then called_at clock third else Silent))

abbrev pub listener : Timeline → ℕ → ℕ → ℕ → Listener
listener clock first second third = record {
  sizes = sizes;
  me = Biu;
  stage = 2;
  clock = clock;
  state = biu;
  first = 870;
  came = calls_of clock first second third;
}

abbrev pub early_clock : Timeline
early_clock = ticking 0 10000

abbrev pub late_clock : Timeline
late_clock = ticking 5000 10001

abbrev pub early_listener : Listener
early_listener = listener early_clock 8774000 8776000 8705000

abbrev pub late_listener : Listener
late_listener = listener late_clock 8784000 8770000 8710000

-- RMUs 0 and 1 are good
abbrev pub first_two : ℕ → Bool
first_two j = nat_lt j 2
