-- The parts of a tick.
use Rattle.std.specs.{Prelude.{ℕ, ◌+◌, ◌==◌, true, false, Option, Some, None}, Option.option_or}
use Rattle.rb_base.specs.Nodes.{Side}
use Rattle.rb_rules.specs.{declared.message.Message.Message, Core.if_at, declared.plan.Window.Window, Hearing.{Sending, Span, sending}}
use Rattle.rb_slot.specs.Engines.{Seated}

-- what the node sends in a stage
abbrev pub sending_in : Side → Seated → ℕ → ℕ → ℕ → Option Sending
sending_in me v slot stage word = sending v.sizes v.plan me v.index v.state slot stage word

-- the message that a node says at tick k in one of the stages of the slot
abbrev pub said_in : Side → Seated → ℕ → ℕ → ℕ → Option Message
said_in me v slot k word =
    option_or (if_at k (sending_in me v slot 1 word)) (option_or (if_at k (sending_in me v slot 2 word)) (if_at k (sending_in me v slot 3 word)))

-- the window as a node in this frame goes through it, if it begins with tick k
abbrev pub span_if : ℕ → ℕ → Window → ℕ → Option Span
span_if frame epoch w k = elim (epoch + w.first == k) [
  | true ↦ Some (record {
    place = record { frame = frame; slot = w.slot; stage = w.stage };
    first = epoch + w.first;
    last = epoch + w.last;
  })
  | false ↦ None
]
