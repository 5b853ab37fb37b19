use Rattle.std.proofs.{Common.{◌∙◌}, lemmas.List.take_rest}
use Rattle.rb_picture.proofs.Turns.{line_turn}
use Rattle.rb_picture.proofs.drawn.push_lines.Goals as goal

pub loop-index-preserved : goal.loop-index-preserved
loop-index-preserved c =
    line_turn c.args.sheet c.loop-index.out.items c.push_next.new.out.items c.loop-index.stand c.in_ok-stand.stand c.args.lines.now _ c.loop-index.index _
    c.loop-index-test.true (take_rest c.args.lines.now c.loop-index.index) c.in_ok-stand.ensures.0 c.in_ok-stand.ensures.1
    ∙ c.loop-index.invariant
