use Rattle.std.proofs.Common.{◌≡◌, false, length}
use Rattle.rb_base.specs.Nodes.{has, size}
use Rattle.rb_eligible.specs.{Inboxes.sole_at, Takings.IsRun}
use Rattle.rb_eligible.proofs.taking.take_run.Given as goal

-- the sources that are left, and what was taken of the others
abbrev pub invariant-loop-source : goal.invariant-loop-source
invariant-loop-source g l = record {
  all : length l.taken ≡ 16;
  passed : has l.rest l.fn.first ≡ false;
  run : IsRun l.inbox l.fn.left l.rest (sole_at l.inbox.soles l.fn.first) l.value l.fn.taken l.taken;
}

abbrev pub decreases-loop-source : goal.decreases-loop-source
decreases-loop-source g l = size l.rest
