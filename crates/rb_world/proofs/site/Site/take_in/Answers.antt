use Rattle.std.proofs.Common.{◌<◌, ap, subst}
use Rattle.rb_base.specs.{Nodes.{Side, other, side_of}, Sizes.Sizes}
use Rattle.rb_rules.specs.{Core.arrive, Hearing.Coming, Slots.count_of}
use Rattle.rb_node.specs.Cores.{IsCore, IsSameNode, Running}
use Rattle.rb_world.specs.Sites.{KeptSite}
use Rattle.rb_world.proofs.Standing.{takes}
use Rattle.rb_world.proofs.site.Site.take_in.Goals as goal

pub returns-clause-stands : goal.returns-clause-stands
returns-clause-stands g c =
    let me : Side = side_of g.K.Kind.CODE in
    let k : KeptSite = record { node = c.self.inside.node; runs = c.self.inside.runs; times = c.self.inside.times } in
    let x : Coming = record { time = c.args.time; from = c.args.from; bytes = c.args.bytes.now } in
    let same : IsSameNode k.node c.hear.new.self = record {
      sizes = ap (λ (n : Running). n.seat.sizes) c.hear.ensures.rest;
      plan = ap (λ (n : Running). n.seat.plan) c.hear.ensures.rest;
      index = ap (λ (n : Running). n.seat.index) c.hear.ensures.rest;
    } in
    let source : c.args.from < count_of (other me) k.node.seat.sizes = rw (← c.self.view_is) at c.requires.source in
    rw (← c.self.view_is, c.keep_time.ensures) (λ sc s is.
    takes sc me k c.hear.new.self x s is c.self.invariant same (subst (λ (z : Sizes). c.args.from < count_of (other me) z) is.sizes source)
    (subst (λ (z : Sizes). IsCore c.hear.new.self (arrive z me s.core c.args.from c.args.bytes.now)) is.sizes (c.hear.ensures.core s.core is.core)))
