use Rattle.std.proofs.Common.{ap}
use Rattle.rb_base.specs.Nodes.{Side, side_of}
use Rattle.rb_rules.specs.Core.{pass_to}
use Rattle.rb_node.specs.Cores.{IsSameNode, Running}
use Rattle.rb_world.specs.Sites.{KeptSite}
use Rattle.rb_world.proofs.Standing.{begins-in-time, ticks}
use Rattle.rb_world.proofs.site.Site.tick.Goals as goal

pub returns-clause-ticked : goal.returns-clause-ticked
returns-clause-ticked g c =
    let me : Side = side_of g.K.Kind.CODE in
    let k : KeptSite = record { node = c.self.inside.node; runs = c.self.inside.runs; times = c.self.inside.times } in
    let passed : IsSameNode k.node c.pass_to.new.node = record {
      sizes = ap (λ (n : Running). n.seat.sizes) c.pass_to.ensures.rest;
      plan = ap (λ (n : Running). n.seat.plan) c.pass_to.ensures.rest;
      index = ap (λ (n : Running). n.seat.index) c.pass_to.ensures.rest;
    } in
    rw (← c.self.view_is) (λ sc ports s is word_is.
    ticks sc ports me k c.pass_to.new.node c.step.new.self c.step.result c.args.k c.args.word s is passed c.step.ensures.same word_is
    (c.step.ensures.core (pass_to c.args.k s.core) (c.pass_to.ensures.core s.core is.core))
    (c.step.ensures.act (pass_to c.args.k s.core) (c.pass_to.ensures.core s.core is.core)))

pub returns-clause-epoch : goal.returns-clause-epoch
returns-clause-epoch g c =
    let d = c.pass_to.ensures.stands in
    begins-in-time (side_of g.K.Kind.CODE) c.pass_to.new.node c.step.new.self.shown c.step.result d.0 _ (c.step.ensures.act d.0 d.1)
