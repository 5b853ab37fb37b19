use Rattle.std.proofs.Common.{◌≡◌}
use Rattle.rb_base.proofs.SetLoops.{passing_below}
use Rattle.rb_world_onset.specs.Faults.{is_good_among}
use Rattle.rb_world_onset.proofs.good_among.Given as goal

-- The nodes so far.
abbrev pub invariant-loop-index : goal.invariant-loop-index
invariant-loop-index g l = l.good ≡ passing_below l.index (is_good_among l.count l.onsets l.frame l.slot)
