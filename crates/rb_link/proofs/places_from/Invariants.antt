use Rattle.std.proofs.Common.{◌≡◌, take}
use Rattle.rb_link.specs.Pairs.{is_from, places_from}
use Rattle.rb_link.proofs.places_from.Given as goal

abbrev pub invariant-loop-rule : goal.invariant-loop-rule
invariant-loop-rule l = record {
  number : l.number ≡ l.rule-index;
  sent : l.sent.items ≡ places_from 0 (is_from l.from) (take l.rule-index l.rules);
}
