use Rattle.std.proofs.Common.{◌≡◌, ◌==◌, drop}
use Rattle.std.specs.List.{list_any}
use Rattle.rb_rules_bridge.specs.Bridges.{biu_on}
use Rattle.rb_bridge_document.proofs.ranges.is_met.Given as goal

abbrev pub invariant-loop-pair : goal.invariant-loop-pair
invariant-loop-pair l = list_any (λ q. l.biu == biu_on l.bank q) (drop l.pair-index l.pairs) ≡ list_any (λ q. l.biu == biu_on l.bank q) l.pairs
