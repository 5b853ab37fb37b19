use Rattle.std.proofs.Common.{refl, ap, ◌∙◌, subst}
use Rattle.rb_base.specs.{Nodes.side_of, Nodes.Side.{Biu, Rmu}}
use Rattle.rb_rules.specs.{NodeState.trusted_of, WorldStep.with_delivery}
use Rattle.rb_node.specs.Cores.{Running}
use Rattle.rb_slot.specs.Engines.{Seated}
use Rattle.rb_world.specs.{Worlds.HoldsPorts, Buses.scenario_of}
use Rattle.rb_world.proofs.Told.{close-is}
use Rattle.rb_world.proofs.ticking.close.Goals as goal

pub returns-clause-around : goal.returns-clause-around
returns-clause-around g c =
    λ w is.
    let sc = scenario_of c.args.bus.now in
    let me = side_of g.K.Kind.CODE in
    let engine = c.engine-engine.ensures ∙ ap (λ (n : Running). n.seat) c.node-2.ensures in
    let d = c.shown-closed.result.now in
    close-is sc c.args.scene.now (record c.args.scene.now { book = c.close.new.self; ports = c.deliver.new.ports }) w c.args.node me c.args.closed c.args.site.now.node.shown d
    c.args.site.now.times c.times.result.now c.trusted_biu.result c.trusted_rmu.result c.args.site.now.node.seat.state c.if-not-closed.false
    (c.shown-closed.ensures ∙ ap (λ (n : Running). n.shown) c.node.ensures) c.times.ensures
    (c.trusted_biu.ensures ∙ ap (λ (v : Seated). trusted_of me Biu v.state) engine) (c.trusted_rmu.ensures ∙ ap (λ (v : Seated). trusted_of me Rmu v.state) engine) refl refl refl
    (c.close.ensures.noted sc w is.book)
    (subst (λ n. HoldsPorts sc c.deliver.new.ports.items (with_delivery sc n d.delivered w.ports)) c.number_of.ensures (rw c.delivered.ensures at (c.deliver.ensures w.ports is.ports))) is
