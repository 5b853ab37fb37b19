use Rattle.std.proofs.Common.{sym, subst}
use Rattle.rb_world.specs.Nexts.{RunsOn}
use Rattle.rb_world.proofs.world.World.run_on.Goals as goal

pub returns-in-First-clause-world : goal.returns-in-First-clause-world
returns-in-First-clause-world g c = λ w is.
    subst (λ t. RunsOn t c.args.draws.now.state c.args.draws.now.state c.args.self.now c.run_unobserved.new.self c.run_unobserved.new.turn w) (sym c.in-First.is)
    (c.run_unobserved.ensures.world w c.args.draws.now.state is)
