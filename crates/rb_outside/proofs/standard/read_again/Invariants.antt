-- a read that was interrupted has given nothing
use Rattle.std.proofs.Common.{◌≡◌, length}
use Rattle.std.specs.Io.KnownBytes.{Keeps}
use Rattle.rb_outside.proofs.standard.read_again.Given as goal

abbrev pub invariant-loop : goal.invariant-loop
invariant-loop g l = record {
  room : length l.into ≡ length l.initial.into;
  nothing : Keeps (g.R.Read.remaining l.initial.reader) (g.R.Read.remaining l.reader);
}
