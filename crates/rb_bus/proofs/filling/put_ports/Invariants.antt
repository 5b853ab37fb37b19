-- The lines before this one are at the front.
use Rattle.std.proofs.Common.{◌≡◌, length, map, take}
use Rattle.rb_bus.specs.Shown.{port_shown}
use Rattle.rb_bus.proofs.filling.put_ports.Given as goal

abbrev pub invariant-loop-i : goal.invariant-loop-i
invariant-loop-i l = record {
  front : take l.i l.shown ≡ map port_shown (take l.i l.lines);
  room : length l.shown ≡ 16;
}
