use Rattle.std.proofs.Common.{ℕ, ◌≤◌, ◌^◌, ◌∙◌, ap, arith}
use Rattle.rb_base.specs.Nodes.{Side, side_of}
use Rattle.rb_rules.specs.{Clock.{Timeline, stamp_of}, Core.pass_to, Hearing.Coming}
use Rattle.rb_node.specs.Cores.{IsSameNode, Running, passing_end}
use Rattle.rb_world.specs.Sites.{KeptSite, number_of}
use Rattle.rb_world.proofs.Standing.{arrived, passed, passing-most}
use Rattle.rb_world.proofs.site.Site.arrive.Goals as goal

pub first_at-stamp-requires : goal.first_at-stamp-requires
first_at-stamp-requires g c =
    let most : passing_end (side_of g.K.Kind.CODE) c.args.self.now.node ≤ 2 ^ 31 = passing-most (side_of g.K.Kind.CODE) c.args.self.now.node in
    let by : c.requires.in_time.tick ≤ passing_end (side_of g.K.Kind.CODE) c.args.self.now.node = c.requires.in_time.in_time in
    record { tick = c.requires.in_time.tick; in_time = omega arith; come = c.requires.in_time.come }

pub returns-clause-stands : goal.returns-clause-stands
returns-clause-stands g c =
    let me : Side = side_of g.K.Kind.CODE in
    let k : KeptSite = record { node = c.self.inside.node; runs = c.self.inside.runs; times = c.self.inside.times } in
    let x : Coming = record { time = c.args.time; from = c.args.from; bytes = c.args.bytes.now } in
    let stamp : ℕ = c.first_at-stamp.result in
    let same : IsSameNode k.node c.pass_to.new.node = record {
      sizes = ap (λ (n : Running). n.seat.sizes) c.pass_to.ensures.rest;
      plan = ap (λ (n : Running). n.seat.plan) c.pass_to.ensures.rest;
      index = ap (λ (n : Running). n.seat.index) c.pass_to.ensures.rest;
    } in
    rw (← c.self.view_is) (λ sc place s clock_is is.
    arrived sc me c.take_in.new.self x place stamp (number_of k) s
    (c.first_at-stamp.ensures.value ∙ ap (λ (z : Timeline). stamp_of z c.args.time) clock_is)
    (c.take_in.ensures.stands sc (record s { core = pass_to stamp s.core })
    (passed sc me k c.pass_to.new.node stamp s is same (c.pass_to.ensures.core s.core is.core))))
