use Rattle.std.proofs.Common.{ℕ, ◌<◌, get_or}
use Rattle.rb_rules.specs.Middle.{IsMiddle}
use Rattle.rb_mid.specs.Ranges.{IsWithin}
use Rattle.rb_mid.proofs.middle.Given as goal

-- none of the stamps so far is the middle, which is within the range if it is one of the stamps
abbrev pub invariant-loop-stamp : goal.invariant-loop-stamp
invariant-loop-stamp l = record {
  others : (k : ℕ) → k < l.stamp-index → ¬ IsMiddle (get_or l.taken k 0) l.taken;
  within : IsWithin l.taken l.range;
}
