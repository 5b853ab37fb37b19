use Rattle.std.proofs.Common.{◌<◌, ◌≤◌, sym, subst, arith}
use Rattle.rb_base.specs.Nodes.Side.{Biu}
use Rattle.rb_node.specs.Cores.{IsCore, Running}
use Rattle.rb_node.proofs.Between.{arrive-nobody, arrive-spent, takes-more}
use Rattle.rb_listen.proofs.follower.Follower.arrive.Goals as goal

pub returns-then-self-ge-MOST_TICKS-clause-core : goal.returns-then-self-ge-MOST_TICKS-clause-core
returns-then-self-ge-MOST_TICKS-clause-core c =
    rw (← c.self.view_is) (λ d is. subst (IsCore _) (sym (arrive-spent _ Biu d c.args.from c.args.bytes.now (let had = is.had in omega arith))) is)

pub returns-then-from-rmu-clause-core : goal.returns-then-from-rmu-clause-core
returns-then-from-rmu-clause-core c =
    let v = c.self.inside.engine in
    let few : v.sizes.rmus ≤ c.args.from =
    subst (λ k. k ≤ c.args.from) (rw (c.shape.ensures, c.plan.ensures) at c.rmu.ensures.value) c.if-from-rmu.true in
    rw (← c.self.view_is) (λ d is. subst (IsCore _) (sym (arrive-nobody _ Biu d c.args.from c.args.bytes.now few)) is)

pub returns-in-Some-clause-core : goal.returns-in-Some-clause-core
returns-in-Some-clause-core c =
    let v = c.self.inside.engine in
    let there : c.args.from < v.sizes.rmus =
    subst (λ k. c.args.from < k) (rw (c.shape.ensures, c.plan.ensures) at c.rmu.ensures.value) c.if-from-rmu.false in
    let n : Running = record { seat = v; had = c.self.inside.had; inbox = c.self.inside.inbox; shown = c.self.inside.shown } in
    rw (← c.self.view_is) (λ d is.
    takes-more Biu n c.take.new.self d c.args.from c.in-Some.source c.args.bytes.now is c.if-self-ge-MOST_TICKS.false there c.in-Some.ensures.value c.take.ensures.shows)
