use Rattle.rb_node.specs.Cores.{Running}
use Rattle.rb_node.proofs.Between.{wants-then}
use Rattle.rb_node.proofs.node.Node.wants_then.Goals as goal

pub returns : goal.returns
returns g c =
    let n : Running = record { seat = c.self.inside.engine; had = c.self.inside.had; inbox = c.self.inside.inbox; shown = c.self.inside.shown } in
    rw (← c.self.view_is) (λ d is. wants-then _ n _ d c.self.invariant.ahead is.state is.had)
