use Rattle.std.proofs.Common.{◌+◌, ◌≤◌, take}
use Rattle.rb_queue.specs.Waiting.{HasLane, lane_of, spare_of}
use Rattle.rb_world_traffic.specs.{Saying.{Brings, entries_at}, Spans.span_of}
use Rattle.rb_world_traffic.proofs.saying.say_each.Given as goal

abbrev pub invariant-loop-number : goal.invariant-loop-number
invariant-loop-number l = record {
  lane : HasLane l.agenda l.to;
  spare : spare_of (lane_of l.fn.agenda l.to) ≤ spare_of (lane_of l.agenda l.to) + l.number-index;
  so_far : Brings l.said (entries_at l.said.says (take l.number-index l.places)) l.clock l.to (span_of l.span) l.fn.agenda l.agenda;
}
