-- The values so far are those of the places so far.
use Rattle.std.proofs.Common.{◌≡◌, ◌≤◌, length, take}
use Rattle.rb_rules.specs.ExactStage.{present}
use Rattle.rb_group.proofs.group.present.Given as goal

abbrev pub invariant-loop-value : goal.invariant-loop-value
invariant-loop-value l = record {
  few : length l.values.items ≤ l.value-index;
  held : l.values.items ≡ present (take l.value-index l.kept);
}
