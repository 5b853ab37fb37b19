use Rattle.std.proofs.Common.{◌≡◌, length}
use Rattle.rb_link.specs.Pairs.{AreLatest}
use Rattle.rb_link.proofs.latest_rules.Given as goal

abbrev pub invariant-loop-pair : goal.invariant-loop-pair
invariant-loop-pair l = record {
  latest_are : AreLatest l.base l.rules l.latest.items;
  many : length l.latest.items ≡ l.pair;
}
