-- The first inequality that fails is found, or all hold.
use Rattle.std.proofs.{Common.{◌≡◌, arith, true, false}, lemmas.Int.to_z-of_z}
use Rattle.rb_plan.proofs.Failing.{fails, fails_first, holds_next, none_fails, all_hold}
use Rattle.rb_plan.proofs.Feasible.new.Goals as goal

pub returns-then-fails-clause-first : goal.returns-then-fails-clause-first
returns-then-fails-clause-first c =
    let here : fails (record { left = c.sides-left.result.0; right = c.sides-left.result.1 }) ≡ true = grind (arith, to_z-of_z, c.sides-left.type_inv) in
    fails_first c.args.shape.now c.args.plan.now c.loop-n.n _ (omega arith) c.sides-left.ensures here c.loop-n.invariant

pub loop-n-preserved : goal.loop-n-preserved
loop-n-preserved c =
    let here : fails (record { left = c.sides-left.result.0; right = c.sides-left.result.1 }) ≡ false = grind (arith, to_z-of_z, c.sides-left.type_inv) in
    holds_next c.args.shape.now c.args.plan.now c.loop-n.n _ (omega arith) c.sides-left.ensures here c.loop-n.invariant

pub invariant_of-result : goal.invariant_of-result
invariant_of-result c =
    let e : c.loop-n.n ≡ 8 = omega arith in
    (c.requires, all_hold c.args.shape.now c.args.plan.now (rw e at c.loop-n.invariant))

pub returns-clause-feasible : goal.returns-clause-feasible
returns-clause-feasible c =
    let e : c.loop-n.n ≡ 8 = omega arith in
    none_fails c.args.shape.now c.args.plan.now (rw e at c.loop-n.invariant)
