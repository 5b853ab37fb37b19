use Rattle.rb_link.specs.Rows.{IsShared}
use Rattle.rb_link.proofs.rows.shared_by.Given as goal

abbrev pub invariant-loop-i : goal.invariant-loop-i
invariant-loop-i l = record { shared : IsShared l.latest l.sender l.i l.ranges }
