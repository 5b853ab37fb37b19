use Rattle.std.proofs.Common.{◌+◌, ◌≤◌, ◌^◌, sym, ap, subst, arith}
use Rattle.rb_node.specs.Cores.{IsCore, Running}
use Rattle.rb_listen.proofs.Waking.{passes, passing-is, runs-on}
use Rattle.rb_listen.proofs.follower.Follower.pass.Goals as goal

-- the ticks pass at most up to the tick that is kept
up-to : (c : goal.After-self) → c.self.inside.had + c.args.ticks ≤ c.self.inside.ahead.tick
up-to c =
    let n : Running = record { seat = c.self.inside.engine; had = c.self.inside.had; inbox = c.self.inside.inbox; shown = c.self.inside.shown } in
    let asked = rw (← c.self.view_is) at c.requires in
    subst (λ k. c.self.inside.had + c.args.ticks ≤ k) (passing-is n _ c.self.invariant.ahead.next) asked

pub overflow_add-self : goal.overflow_add-self
overflow_add-self c =
    let most : c.self.inside.ahead.tick ≤ 2 ^ 31 = c.self.invariant.ahead.next.most in
    let to = up-to c in
    omega arith

up-to-1 : (c : goal.After-self-1) → c.self.inside.had + c.args.ticks ≤ c.self.inside.ahead.tick
up-to-1 c =
    let n : Running = record { seat = c.self.inside.engine; had = c.self.inside.had; inbox = c.self.inside.inbox; shown = c.self.inside.shown } in
    let asked = rw (← c.self.view_is) at c.requires in
    subst (λ k. c.self.inside.had + c.args.ticks ≤ k) (passing-is n _ c.self.invariant.ahead.next) asked

pub invariant_of-self : goal.invariant_of-self
invariant_of-self c = runs-on _ _ _ _ _ c.self.invariant (omega arith) (up-to-1 c)

pub returns-clause-core : goal.returns-clause-core
returns-clause-core c =
    let n : Running = record { seat = c.self.inside.engine; had = c.self.inside.had; inbox = c.self.inside.inbox; shown = c.self.inside.shown } in
    rw (← c.self.view_is) (λ d is. subst (IsCore (record n { had = n.had + c.args.ticks }))
    (sym (passes n.seat d n.had _ c.args.ticks is.state is.had c.self.invariant.ahead.next (up-to-1 c)))
    (record { state = is.state; had = ap (λ k. k + c.args.ticks) is.had; inbox = is.inbox }))

pub returns-clause-quiet : goal.returns-clause-quiet
returns-clause-quiet c =
    rw (← c.self.view_is) (λ k lo hi. let to : c.self.inside.had + c.args.ticks ≤ c.self.inside.ahead.tick = up-to-1 c in c.self.invariant.ahead.next.quiet k lo (omega arith))

pub returns-clause-most : goal.returns-clause-most
returns-clause-most c =
    let most : c.self.inside.ahead.tick ≤ 2 ^ 31 = c.self.invariant.ahead.next.most in
    let to : c.self.inside.had + c.args.ticks ≤ c.self.inside.ahead.tick = up-to-1 c in
    rw (← c.self.view_is) (omega arith)
