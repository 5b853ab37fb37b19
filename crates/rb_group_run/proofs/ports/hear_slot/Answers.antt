use Rattle.std.proofs.{Common.{◌++◌, ap, arith}, lemmas.List.take_all}
use Rattle.rb_group.specs.Portions.{deliveries_in}
use Rattle.rb_group_run.proofs.Held.{lines_heard, nothing_more, told_same}
use Rattle.rb_group_run.proofs.ports.hear_slot.Goals as goal

pub loop-line-init : goal.loop-line-init
loop-line-init c = λ members told hold. nothing_more members told c.args.groups.now hold

pub loop-line-preserved : goal.loop-line-preserved
loop-line-preserved c = λ members told hold.
    lines_heard members c.args.frame c.args.slot c.loop-line.line-index c.args.lines.now _ told c.hear_line.new.groups (omega arith)
    (c.hear_line.ensures members _ (c.loop-line.invariant members told hold))

pub returns : goal.returns
returns c = λ members told hold.
    told_same members _ _ c.loop-line.groups (λ i. ap (λ lines. told i ++ deliveries_in c.args.frame c.args.slot i lines) (take_all c.loop-line.line-index c.args.lines.now (omega arith)))
    (c.loop-line.invariant members told hold)
