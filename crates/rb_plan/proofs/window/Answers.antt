-- Each branch gives the window in which the offset lies.
use Rattle.std.proofs.Common.{◌*◌, ◌/◌, ◌<◌, arith, ap, sym, ◌∙◌, Some}
use Rattle.rb_base.specs.Sizes.{sync_slot_of}
use Rattle.rb_plan.proofs.Offsets.{number_below, divided_below, found_stage_1, found_stage_2, found_stage_3, found_none}
use Rattle.rb_plan.proofs.window.Goals as goal

-- the number of the window is less than three times the sync slot
small : (c : goal.After-from-then-offset-first) → c.args.offset / c.from-then-offset-first.result < 3 * sync_slot_of c.args.shape.now
small c =
    number_below c.args.shape.now c.args.plan.now c.args.offset c.from-then-offset-first.result c.from-then-offset-first.ensures (omega arith) (omega arith)

pub overflow_cast-offset : goal.overflow_cast-offset
overflow_cast-offset c = omega (arith, small c)

pub exact_window-requires-clause-below : goal.exact_window-requires-clause-below
exact_window-requires-clause-below c = omega (arith, small c)

pub returns-then-offset-first-clause-value : goal.returns-then-offset-first-clause-value
returns-then-offset-first-clause-value c =
    ap Some c.exact_window.ensures
    ∙ divided_below c.args.shape.now c.args.plan.now c.args.offset c.from-then-offset-first.result c.from-then-offset-first.ensures (omega arith) (omega arith)

pub returns-then-offset-second-clause-value : goal.returns-then-offset-second-clause-value
returns-then-offset-second-clause-value c =
    let found = found_stage_1 c.args.shape.now c.args.plan.now c.args.offset (omega arith) (omega arith) (omega arith) in cc

pub returns-then-offset-third-clause-value : goal.returns-then-offset-third-clause-value
returns-then-offset-third-clause-value c =
    let found = found_stage_2 c.args.shape.now c.args.plan.now c.args.offset (omega arith) (omega arith) (omega arith) in cc

pub returns-then-offset-third-2-clause-value : goal.returns-then-offset-third-2-clause-value
returns-then-offset-third-2-clause-value c =
    let found = found_stage_3 c.args.shape.now c.args.plan.now c.args.offset (omega arith) (omega arith) (omega arith) (omega arith) in cc

pub returns-else-offset-third-2-clause-value : goal.returns-else-offset-third-2-clause-value
returns-else-offset-third-2-clause-value c =
    sym (found_none c.args.shape.now c.args.plan.now c.args.offset (omega arith) (omega arith) (omega arith) (omega arith))
