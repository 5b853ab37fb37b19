-- the bytes read so far are those that the source gave, and they are within the limit
use Rattle.std.proofs.Common.{◌-◌, ◌≤◌, vec_len}
use Rattle.std.specs.Io.KnownBytes.{Consumes}
use Rattle.rb_outside.proofs.whole.read_all.Given as goal

abbrev pub invariant-reads : goal.invariant-reads
invariant-reads g l = record {
  within : vec_len l.bytes ≤ l.limit;
  given : Consumes (g.S.Source.left l.initial.input) (g.S.Source.left l.input) l.bytes.items;
  later : g.S.Source.faults l.initial.input ≤ g.S.Source.faults l.input;
}

abbrev pub decreases-reads : goal.decreases-reads
decreases-reads g l = l.limit - vec_len l.bytes
