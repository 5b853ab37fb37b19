use Rattle.std.proofs.{Common.{ap, arith}, lemmas.List.take_all}
use Rattle.std.specs.Option.{option_or}
use Rattle.rb_bridge.specs.Holding.{value_by}
use Rattle.rb_bridge.proofs.Noted.{hold-same, lines-more, nothing-more}
use Rattle.rb_bridge.proofs.values.note_lines.Goals as goal

pub loop-line-init : goal.loop-line-init
loop-line-init c = λ told hold. nothing-more told c.args.kept.now hold

pub loop-line-preserved : goal.loop-line-preserved
loop-line-preserved c = λ told hold.
    lines-more told c.loop-line.line-index c.args.lines.now _ c.note_line.new.kept (omega arith)
    (c.note_line.ensures _ (c.loop-line.invariant told hold))

pub returns : goal.returns
returns c = λ told hold.
    hold-same _ _ c.loop-line.kept (λ i. ap (λ lines. option_or (told i) (value_by lines i)) (take_all c.loop-line.line-index c.args.lines.now (omega arith)))
    (c.loop-line.invariant told hold)
