use Rattle.std.proofs.Common.{◌≡◌, ◌≤◌, ◌^◌, ◌∙◌, sym, arith}
use Rattle.rb_node.specs.Cores.{Running}
use Rattle.rb_node.proofs.{Between.passing-is, Cores.{next-is, next-none}}
use Rattle.rb_node.proofs.node.Node.next_tick.Goals as goal

pub returns-then-self-lt-MOST_TICKS-clause-core : goal.returns-then-self-lt-MOST_TICKS-clause-core
returns-then-self-lt-MOST_TICKS-clause-core g c =
    rw (← c.self.view_is) (λ d is. sym (next-is _ _ d _ _ is.state is.had c.self.invariant.ahead.next c.if-self-lt-MOST_TICKS.true))

pub returns-then-self-lt-MOST_TICKS-clause-passing : goal.returns-then-self-lt-MOST_TICKS-clause-passing
returns-then-self-lt-MOST_TICKS-clause-passing g c =
    let n : Running = record { seat = c.self.inside.engine; had = c.self.inside.had; inbox = c.self.inside.inbox; shown = c.self.inside.shown } in
    rw (← c.self.view_is) (passing-is _ n _ c.self.invariant.ahead.next)

pub returns-else-self-lt-MOST_TICKS-clause-core : goal.returns-else-self-lt-MOST_TICKS-clause-core
returns-else-self-lt-MOST_TICKS-clause-core g c =
    rw (← c.self.view_is) (λ d is. sym (next-none _ _ d _ _ is.state is.had c.self.invariant.ahead.next c.if-self-lt-MOST_TICKS.false))

pub returns-else-self-lt-MOST_TICKS-clause-passing : goal.returns-else-self-lt-MOST_TICKS-clause-passing
returns-else-self-lt-MOST_TICKS-clause-passing g c =
    let n : Running = record { seat = c.self.inside.engine; had = c.self.inside.had; inbox = c.self.inside.inbox; shown = c.self.inside.shown } in
    let most : c.self.inside.ahead.busy.tick ≤ 2 ^ 31 = c.self.invariant.ahead.next.most in
    let end : 2 ^ 31 ≤ c.self.inside.ahead.busy.tick = c.if-self-lt-MOST_TICKS.false in
    let same : c.self.inside.ahead.busy.tick ≡ 2 ^ 31 = omega arith in
    rw (← c.self.view_is) (passing-is _ n _ c.self.invariant.ahead.next ∙ same)
