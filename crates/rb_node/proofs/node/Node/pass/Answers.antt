use Rattle.std.proofs.Common.{◌+◌, ◌≤◌, ◌^◌, sym, ap, subst, arith}
use Rattle.rb_node.specs.Cores.{IsCore, Running}
use Rattle.rb_node.proofs.{Between.{passing-is, runs-on}, Cores.passes}
use Rattle.rb_node.proofs.node.Node.pass.Goals as goal

-- the ticks pass at most up to the tick that is kept
up-to : (g : _) (c : goal.After-self g) → c.self.inside.had + c.args.ticks ≤ c.self.inside.ahead.busy.tick
up-to g c =
    let n : Running = record { seat = c.self.inside.engine; had = c.self.inside.had; inbox = c.self.inside.inbox; shown = c.self.inside.shown } in
    let asked = rw (← c.self.view_is) at c.requires in
    subst (λ k. c.self.inside.had + c.args.ticks ≤ k) (passing-is _ n _ c.self.invariant.ahead.next) asked

pub overflow_add-self : goal.overflow_add-self
overflow_add-self g c =
    let most : c.self.inside.ahead.busy.tick ≤ 2 ^ 31 = c.self.invariant.ahead.next.most in
    let to = up-to g c in
    omega arith

up-to-1 : (g : _) (c : goal.After-self-1 g) → c.self.inside.had + c.args.ticks ≤ c.self.inside.ahead.busy.tick
up-to-1 g c =
    let n : Running = record { seat = c.self.inside.engine; had = c.self.inside.had; inbox = c.self.inside.inbox; shown = c.self.inside.shown } in
    let asked = rw (← c.self.view_is) at c.requires in
    subst (λ k. c.self.inside.had + c.args.ticks ≤ k) (passing-is _ n _ c.self.invariant.ahead.next) asked

pub invariant_of-self : goal.invariant_of-self
invariant_of-self g c = runs-on _ _ _ _ _ _ c.self.invariant (omega arith) (up-to-1 g c)

pub returns-clause-core : goal.returns-clause-core
returns-clause-core g c =
    let n : Running = record { seat = c.self.inside.engine; had = c.self.inside.had; inbox = c.self.inside.inbox; shown = c.self.inside.shown } in
    rw (← c.self.view_is) (λ d is. subst (IsCore (record n { had = n.had + c.args.ticks }))
    (sym (passes _ n.seat d n.had _ c.args.ticks is.state is.had c.self.invariant.ahead.next (up-to-1 g c)))
    (record { state = is.state; had = ap (λ k. k + c.args.ticks) is.had; inbox = is.inbox }))
