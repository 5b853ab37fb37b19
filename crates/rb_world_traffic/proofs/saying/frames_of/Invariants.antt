use Rattle.std.proofs.Common.{◌≡◌, take}
use Rattle.rb_world_traffic.specs.Saying.{entries_at, first_frame, last_frame}
use Rattle.rb_world_traffic.proofs.saying.frames_of.Given as goal

-- The entries so far.
abbrev pub invariant-loop-number : goal.invariant-loop-number
invariant-loop-number l = record {
  first : l.first ≡ first_frame (entries_at l.says (take l.number-index l.places));
  last : l.last ≡ last_frame (entries_at l.says (take l.number-index l.places));
}
