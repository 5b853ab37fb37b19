use Rattle.std.proofs.Common.{◌<◌, ◌≤◌, sym, subst, arith}
use Rattle.rb_base.specs.Nodes.{other, side_of}
use Rattle.rb_rules.specs.Slots.{count_of}
use Rattle.rb_node.specs.Cores.{IsCore, Running}
use Rattle.rb_node.proofs.Between.{arrive-nobody, arrive-spent, takes-more}
use Rattle.rb_node.proofs.node.Node.arrive.Goals as goal

pub returns-then-self-ge-MOST_TICKS-clause-core : goal.returns-then-self-ge-MOST_TICKS-clause-core
returns-then-self-ge-MOST_TICKS-clause-core g c =
    rw (← c.self.view_is) (λ d is. subst (IsCore _) (sym (arrive-spent _ _ d c.args.from c.args.bytes.now (let had = is.had in omega arith))) is)

pub returns-then-from-others-clause-core : goal.returns-then-from-others-clause-core
returns-then-from-others-clause-core g c =
    let v = c.self.inside.engine in
    let few : count_of (other (side_of g.K.Kind.CODE)) v.sizes ≤ c.args.from =
    subst (λ k. k ≤ c.args.from) (rw (c.CODE.ensures, c.shape.ensures, c.plan.ensures) at c.others.ensures.value) c.if-from-others.true in
    rw (← c.self.view_is) (λ d is. subst (IsCore _) (sym (arrive-nobody _ _ d c.args.from c.args.bytes.now few)) is)

pub returns-in-Some-clause-core : goal.returns-in-Some-clause-core
returns-in-Some-clause-core g c =
    let v = c.self.inside.engine in
    let there : c.args.from < count_of (other (side_of g.K.Kind.CODE)) v.sizes =
    subst (λ k. c.args.from < k) (rw (c.CODE.ensures, c.shape.ensures, c.plan.ensures) at c.others.ensures.value) c.if-from-others.false in
    let n : Running = record { seat = v; had = c.self.inside.had; inbox = c.self.inside.inbox; shown = c.self.inside.shown } in
    rw (← c.self.view_is) (λ d is.
    takes-more (side_of g.K.Kind.CODE) n c.take.new.self d c.args.from c.in-Some.source c.args.bytes.now is c.if-self-ge-MOST_TICKS.false there c.in-Some.ensures.value c.take.ensures.shows)
