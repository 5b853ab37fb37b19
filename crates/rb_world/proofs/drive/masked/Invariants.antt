-- The lines so far have Fault for their value.
use Rattle.std.proofs.Common.{◌≡◌, ◌≤◌, map, take, length}
use Rattle.rb_world.specs.Driving.{without_value}
use Rattle.rb_world.proofs.drive.masked.Given as goal

abbrev pub invariant-loop-line : goal.invariant-loop-line
invariant-loop-line l = record {
  made : l.lines.items ≡ map without_value (take l.line-index l.line-items);
  short : length l.line-items ≤ 16;
}
