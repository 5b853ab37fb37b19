use Rattle.std.proofs.Common.{arith, sym, ◌∙◌}
use Rattle.rb_queue.proofs.Bare.{length_inside}
use Rattle.rb_queue.proofs.queue.Queue.ready.Goals as goal

pub returns-then-len-eq0-clause-value : goal.returns-then-len-eq0-clause-value
returns-then-len-eq0-clause-value c =
    c.ready.ensures.value
    ∙ sym (length_inside c.self.inside.lane c.self.inside.more.items c.args.self.now c.self.view_is (omega (arith, c.len.ensures, c.if-len-eq0.true)))
