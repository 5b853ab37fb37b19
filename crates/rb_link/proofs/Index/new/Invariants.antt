use Rattle.std.proofs.Common.{◌≡◌, ◌%◌}
use Rattle.rb_link.specs.Pairs.{places_sent}
use Rattle.rb_link.proofs.PairIndex.{places_below, starts_below}
use Rattle.rb_link.proofs.Index.new.Given as goal

abbrev pub invariant-loop-pair : goal.invariant-loop-pair
invariant-loop-pair l = record {
  starts : l.starts.items ≡ starts_below l.pair l.rules;
  places : l.places.items ≡ places_below l.pair l.rules;
  sent : (l.pair % 16 ≡ 0 → ⊥) → l.sent.items ≡ places_sent l.pair l.rules;
}
