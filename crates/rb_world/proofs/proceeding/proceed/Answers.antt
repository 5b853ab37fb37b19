use Rattle.std.proofs.Common.{sym, ap, ◌∙◌, subst}
use Rattle.rb_base.specs.Nodes.{side_of}
use Rattle.rb_slot.specs.Engines.{Seated}
use Rattle.rb_node.specs.Cores.{Running}
use Rattle.rb_world.specs.{Sites.number_of, Buses.scenario_of}
use Rattle.rb_rules.specs.Lawful.{IsNodeOf}
use Rattle.rb_world.proofs.{Entering.after-calm, Lanes.{has-lane, node-named}}
use Rattle.rb_world.proofs.proceeding.proceed.Goals as goal

pub returns-then-is_calm : goal.returns-then-is_calm
returns-then-is_calm g c =
    λ w s may.
    after-calm (scenario_of c.args.bus.now) (side_of g.K.Kind.CODE) (number_of c.args.site.now) c.args.node c.args.site.now c.args.scene.now c.await_tick.new.scene w s c.frame.result c.requires.name may.at
    (c.frame.ensures ∙ ap (λ (v : Seated). v.state.frame) (c.engine.ensures ∙ ap (λ (n : Running). n.seat) c.node.ensures)) c.frame.type_inv
    (sym c.is_calm.ensures ∙ c.if-is_calm.true) c.await_tick.ensures

pub await_tick-requires-clause-lane : goal.await_tick-requires-clause-lane
await_tick-requires-clause-lane g c =
    let sc = scenario_of c.args.bus.now in
    let at = c.requires.may.2.at in
    has-lane sc c.args.scene.now c.requires.may.0 c.args.node at.surrounds
    (subst (IsNodeOf sc.sizes) (sym c.requires.name) (node-named sc (side_of g.K.Kind.CODE) (number_of c.args.site.now) at.within))
