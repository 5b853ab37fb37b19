use Rattle.std.proofs.Common.{◌≡◌, length}
use Rattle.rb_base.specs.Nodes.{size}
use Rattle.rb_eligible.specs.Takings.{IsPartial}
use Rattle.rb_eligible.proofs.taking.take_runs.Given as goal

-- what was taken of the sources that are not left
abbrev pub invariant-loop-first : goal.invariant-loop-first
invariant-loop-first g l = record {
  partial : IsPartial l.inbox l.expect l.fn.due l.left l.ones l.lead.sources l.lead.value l.taken;
  all : length l.taken ≡ 16;
}

abbrev pub decreases-loop-first : goal.decreases-loop-first
decreases-loop-first g l = size l.left
