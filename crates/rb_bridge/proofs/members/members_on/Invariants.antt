-- The BIUs of the pairs before this one are in the set.
use Rattle.std.proofs.Common.{◌≡◌, ◌==◌, take}
use Rattle.std.specs.List.{list_any}
use Rattle.rb_base.specs.Nodes.{set_of}
use Rattle.rb_rules_bridge.specs.Bridges.{biu_on}
use Rattle.rb_bridge.proofs.members.members_on.Given as goal

abbrev pub invariant-loop-pair : goal.invariant-loop-pair
invariant-loop-pair l = record {
  members : l.members ≡ set_of (λ i. list_any (λ pair. biu_on l.bank pair == i) (take l.pair-index l.pairs));
}
