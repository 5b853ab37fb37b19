use Rattle.std.proofs.Common.{[], sym, arith}
use Rattle.rb_group_run.proofs.Held.{none_further, told_same}
use Rattle.rb_group_run.proofs.ports.move_to.Goals as goal

pub returns-then-ports-frame-clause-groups : goal.returns-then-ports-frame-clause-groups
returns-then-ports-frame-clause-groups c = λ frames records hold.
    told_same c.args.asked.now.members (λ i. []) _ _ (λ i. sym (none_further frames c.args.frame i records (omega (arith, hold.frame_is, c.if-ports-frame.true)))) c.fresh_groups-ports.ensures
