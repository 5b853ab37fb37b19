use Rattle.std.proofs.Common.{◌≡◌, length}
use Rattle.rb_link.specs.Rows.{AreShared}
use Rattle.rb_link.proofs.rows.shared_ranges.Given as goal

abbrev pub invariant-loop-sender : goal.invariant-loop-sender
invariant-loop-sender l = record {
  shared_are : AreShared l.latest l.shared.items;
  many : length l.shared.items ≡ l.sender;
}
