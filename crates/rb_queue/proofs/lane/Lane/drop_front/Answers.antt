use Rattle.std.proofs.Common.{arith}
use Rattle.rb_queue.proofs.Arrivals.{lane_front, lane_later}
use Rattle.rb_queue.proofs.lane.Lane.drop_front.Goals as goal

pub invariant_of-self : goal.invariant_of-self
invariant_of-self c =
    lane_later c.self.inside.kept.items c.self.inside.start c.self.inside.room _ c.self.inside.latest c.self.invariant (omega (arith, c.if-self-len.true, c.len.ensures))

pub returns-then-self-len : goal.returns-then-self-len
returns-then-self-len c =
    lane_front c.self.inside.kept.items c.self.inside.start c.self.inside.room c.self.inside.tick c.args.self.now
    (omega (arith, c.if-self-len.true, c.len.ensures)) c.self.view_is
