use Rattle.std.proofs.Common.{take}
use Rattle.rb_queue.specs.Scanning.{HasFirst}
use Rattle.rb_queue.proofs.scan.first_of.Given as goal

-- `first` is the place of the first of the arrivals so far
abbrev pub invariant-loop-place : goal.invariant-loop-place
invariant-loop-place l = HasFirst (take l.place l.arrivals) l.first
