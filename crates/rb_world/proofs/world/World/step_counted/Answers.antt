use Rattle.rb_world.proofs.NextRecord.{busy-step, idle-step}
use Rattle.rb_world.proofs.world.World.step_counted.Goals as goal

pub returns-then-due-eq0-clause-world : goal.returns-then-due-eq0-clause-world
returns-then-due-eq0-clause-world g c = λ w is.
    idle-step c.args.ties c.args.draws.now.state c.due-due.result c.args.self.now c.go_on.new.self c.go_on.new.turn w
    (c.due-due.ensures.world w is) c.if-due-eq0.true (c.go_on.ensures.world w is)

pub returns-clause-world : goal.returns-clause-world
returns-clause-world g c = λ w is.
    busy-step c.args.ties c.args.draws.now.state c.choose-i.new.draws.state c.due-due.result c.choose-i.result c.args.self.now c.take_into.new.self c.take_into.new.turn w
    (c.due-due.ensures.world w is) c.if-due-eq0.false c.choose-i.ensures.state c.choose-i.ensures.place (c.take_into.ensures.world w is)
