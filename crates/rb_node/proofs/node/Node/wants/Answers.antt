use Rattle.std.proofs.Common.{◌≤◌, arith}
use Rattle.rb_node.proofs.Between.{wants-now, wants-quiet}
use Rattle.rb_node.proofs.node.Node.wants.Goals as goal

pub returns-then-self : goal.returns-then-self
returns-then-self g c = rw (← c.self.view_is) (λ d is. wants-now _ _ _ _ d c.self.invariant.ahead c.if-self.true is.state is.had)

pub returns-else-self : goal.returns-else-self
returns-else-self g c =
    let later : c.self.inside.had ≤ c.self.inside.ahead.busy.tick = c.self.invariant.ahead.next.later in
    rw (← c.self.view_is) (λ d is. wants-quiet _ _ _ _ d c.self.invariant.ahead (omega arith) is.state is.had)
