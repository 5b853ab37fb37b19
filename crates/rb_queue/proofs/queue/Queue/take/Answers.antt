use Rattle.std.proofs.Common.{arith, ◌∙◌, ap}
use Rattle.rb_queue.proofs.Bare.{event_inside, length_inside, without_inside}
use Rattle.rb_queue.proofs.queue.Queue.take.Goals as goal

pub take-requires : goal.take-requires
take-requires c =
    omega (arith, c.requires, length_inside c.self.inside.lane c.self.inside.more.items c.args.self.now c.self.view_is (omega (arith, c.len.ensures, c.if-len-eq0.true)))

pub returns-then-len-eq0-clause-event : goal.returns-then-len-eq0-clause-event
returns-then-len-eq0-clause-event c =
    event_inside c.args.node c.args.i c.self.inside.lane c.self.inside.more.items c.args.self.now c.self.view_is (omega (arith, c.len.ensures, c.if-len-eq0.true))
    ∙ c.take.ensures.event

pub returns-then-len-eq0-clause-after : goal.returns-then-len-eq0-clause-after
returns-then-len-eq0-clause-after c =
    ap (λ l. record { lane = l; more = c.self.inside.more.items }) c.take.ensures.after
    ∙ without_inside c.args.i c.self.inside.lane c.self.inside.more.items c.args.self.now c.self.view_is (omega (arith, c.len.ensures, c.if-len-eq0.true))
