use Rattle.std.proofs.Common.{◌≡◌, ◌≤◌, take}
use Rattle.rb_rules.specs.Middle.{below, up_to}
use Rattle.rb_mid.proofs.ranks_of.Given as goal

-- the counts among the stamps so far
abbrev pub invariant-loop-other : goal.invariant-loop-other
invariant-loop-other l = record {
  below_is : l.below ≡ below l.stamp (take l.other-index l.stamps);
  up_to_is : l.up_to ≡ up_to l.stamp (take l.other-index l.stamps);
  below_most : l.below ≤ l.other-index;
  up_to_most : l.up_to ≤ l.other-index;
}
