-- What a listener seeks and finds.
use Rattle.std.specs.Prelude.{ℕ, ◌≡◌, ◌%◌, true, List}
use Rattle.rb_base.specs.Sizes.{sync_slot_of}
use Rattle.rb_rules.specs.{Goodness.Scenario, Moments.{IsRunning, before_stage}, Ports.HandIn}
use Rattle.rb_listen.specs.{Lessons.frame_after, Listening.is_deciding, declared.search.Search.Search}
use Rattle.rb_laws_listener_learns.specs.Ears.{Ear, listening_at}
use Rattle.rb_listen.specs.Listening as now

-- the run comes to the calls of the RMUs in this frame before its end
abbrev pub HasCalls : Scenario → List HandIn → ℕ → Type 0
HasCalls sc hands frame = IsRunning (before_stage sc hands frame (sync_slot_of sc.sizes) 2)

-- if the listener learns a frame at tick k, it is the one after a frame of the bus in which the
-- RMUs called
abbrev pub SeeksAFrame : Scenario → List HandIn → Ear → ℕ → Type 0
SeeksAFrame sc hands ear k =
    (s : Search) → listening_at sc ear k ≡ now.Searching s → s.learns ≡ true
    → (frame : ℕ) × (HasCalls sc hands frame × (s.lesson.frame ≡ frame_after (frame % 65536)))
