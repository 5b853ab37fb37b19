use Rattle.rb_plan.proofs.Failing.{HoldBefore}
use Rattle.rb_plan.proofs.Feasible.new.Given as goal

abbrev pub invariant-loop-n : goal.invariant-loop-n
invariant-loop-n l = HoldBefore l.shape l.plan l.n
