use Rattle.std.proofs.Common.{arith, ◌∙◌}
use Rattle.rb_queue.proofs.Bare.{event_inside, length_inside}
use Rattle.rb_queue.proofs.queue.Queue.event.Goals as goal

pub event-requires : goal.event-requires
event-requires c =
    omega (arith, c.requires, length_inside c.self.inside.lane c.self.inside.more.items c.args.self.now c.self.view_is (omega (arith, c.len.ensures, c.if-len-eq0.true)))

pub returns-then-len-eq0 : goal.returns-then-len-eq0
returns-then-len-eq0 c =
    event_inside c.args.node c.args.i c.self.inside.lane c.self.inside.more.items c.args.self.now c.self.view_is (omega (arith, c.len.ensures, c.if-len-eq0.true))
    ∙ c.event.ensures
