use Rattle.std.proofs.Common.{◌≤◌, ◌^◌, sym, ap, ◌∙◌, subst, arith}
use Rattle.std.specs.Prelude.{IfSome}
use Rattle.rb_base.specs.Nodes.{other, side_of}
use Rattle.rb_rules.specs.{Lawful.kind_of, WorldStep.proceed}
use Rattle.rb_node.specs.Cores.{Running}
use Rattle.rb_slot.specs.Engines.{Seated}
use Rattle.rb_world.specs.{Sites.{after_tick, number_of}, Tells.IsTicked, declared.scene.Scene.Scene, Steps.{moved, HasRoomFor, MayProceed, Proceeds, SeesOnlyNodes}, Buses.scenario_of}
use Rattle.rb_world.proofs.{Acting.told_in, Lanes.kind-named, Whole.{act_of, epoch-tick, may-then, room-then, sees-nodes, told-then, whole}}
use Rattle.rb_world.proofs.ticking.tick_with_word.Goals as goal

pub begin-requires-clause-tick : goal.begin-requires-clause-tick
begin-requires-clause-tick g c =
    let sc = scenario_of c.args.bus.now in
    let me = side_of g.K.Kind.CODE in
    let site = c.args.site.now in
    let k = c.args.k in
    let w = c.requires.may.0 in
    let s = c.requires.may.1 in
    let may = c.requires.may.2 in
    let ticked : IsTicked sc w.ports me site c.tick-step.new.self c.tick-step.result k s = c.tick-step.ensures.ticked sc w.ports s may.at.stands (c.requires.word w s may) in
    subst (λ o. IfSome o (λ e. e.tick ≤ 2 ^ 31)) (sym ticked.act.epoch) (epoch-tick sc w.ports me (number_of site) k s.core may.later may.below)

pub close-requires-clause-sources : goal.close-requires-clause-sources
close-requires-clause-sources g c =
    let sc = scenario_of c.args.bus.now in
    let me = side_of g.K.Kind.CODE in
    let site = c.args.site.now in
    let k = c.args.k in
    let w = c.requires.may.0 in
    let s = c.requires.may.1 in
    let may = c.requires.may.2 in
    let ticked : IsTicked sc w.ports me site c.tick-step.new.self c.tick-step.result k s = c.tick-step.ensures.ticked sc w.ports s may.at.stands (c.requires.word w s may) in
    λ closed.
    subst (λ m. SeesOnlyNodes sc m c.tick-step.new.self.node.shown) (sym (ap kind_of c.name-node.ensures ∙ kind-named me (number_of site)))
    (sees-nodes sc me (number_of site) k site c.args.scene.now w s c.tick-step.result c.tick-step.new.self.node.shown may ticked.act closed)

pub proceed-requires-clause-may : goal.proceed-requires-clause-may
proceed-requires-clause-may g c =
    let sc = scenario_of c.args.bus.now in
    let me = side_of g.K.Kind.CODE in
    let site = c.args.site.now in
    let k = c.args.k in
    let w = c.requires.may.0 in
    let s = c.requires.may.1 in
    let may = c.requires.may.2 in
    let ticked : IsTicked sc w.ports me site c.tick-step.new.self c.tick-step.result k s = c.tick-step.ensures.ticked sc w.ports s may.at.stands (c.requires.word w s may) in
    let x = act_of sc w me site k s in
    let told = told-then sc me k c.name-node.result site c.tick-step.new.self c.args.scene.now c.close.new.scene w s c.tick-step.result c.name-node.ensures c.tick-step.ensures.same.node.index may ticked
    (c.close.ensures.around _ (c.begin.ensures.around w may.at.surrounds)) in
    let agenda = c.close.ensures.agenda ∙ ap (λ (m : Scene). m.agenda) c.begin.ensures.rest in
    let ready = may-then sc me k site c.tick-step.new.self c.args.scene.now c.close.new.scene w s c.tick-step.result c.tick-step.ensures.same.node.index may ticked agenda told in
    let z = after_tick sc w.ports me (number_of site) x s in
    let v = told_in sc w me (number_of site) x in
    (v, z, subst (λ i. MayProceed sc me i c.tick-step.new.self c.close.new.scene v z) (sym c.tick-step.ensures.same.node.index) ready)

pub depart-requires-clause-tick : goal.depart-requires-clause-tick
depart-requires-clause-tick g c = let below = c.requires.may.2.below in omega (arith, below)

pub depart-requires-clause-around : goal.depart-requires-clause-around
depart-requires-clause-around g c =
    let sc = scenario_of c.args.bus.now in
    let me = side_of g.K.Kind.CODE in
    let site = c.args.site.now in
    let k = c.args.k in
    let w = c.requires.may.0 in
    let s = c.requires.may.1 in
    let may = c.requires.may.2 in
    let ticked : IsTicked sc w.ports me site c.tick-step.new.self c.tick-step.result k s = c.tick-step.ensures.ticked sc w.ports s may.at.stands (c.requires.word w s may) in
    let x = act_of sc w me site k s in
    let told = told-then sc me k c.name-node.result site c.tick-step.new.self c.args.scene.now c.close.new.scene w s c.tick-step.result c.name-node.ensures c.tick-step.ensures.same.node.index may ticked
    (c.close.ensures.around _ (c.begin.ensures.around w may.at.surrounds)) in
    let agenda = c.close.ensures.agenda ∙ ap (λ (m : Scene). m.agenda) c.begin.ensures.rest in
    let ready = may-then sc me k site c.tick-step.new.self c.args.scene.now c.close.new.scene w s c.tick-step.result c.tick-step.ensures.same.node.index may ticked agenda told in
    let z = after_tick sc w.ports me (number_of site) x s in
    let v = told_in sc w me (number_of site) x in
    let on : Proceeds sc me (number_of site) c.proceed.new.site c.close.new.scene c.proceed.new.scene v z =
    subst (λ i. Proceeds sc me i c.proceed.new.site c.close.new.scene c.proceed.new.scene v z) c.tick-step.ensures.same.node.index
    (c.proceed.ensures v z (subst (λ i. MayProceed sc me i c.tick-step.new.self c.close.new.scene v z) (sym c.tick-step.ensures.same.node.index) ready)) in
    (moved me (number_of site) (proceed sc me (number_of site)) v, on.surrounds)

pub depart-requires-clause-room : goal.depart-requires-clause-room
depart-requires-clause-room g c =
    let sc = scenario_of c.args.bus.now in
    let me = side_of g.K.Kind.CODE in
    let site = c.args.site.now in
    let k = c.args.k in
    let w = c.requires.may.0 in
    let s = c.requires.may.1 in
    let may = c.requires.may.2 in
    let ticked : IsTicked sc w.ports me site c.tick-step.new.self c.tick-step.result k s = c.tick-step.ensures.ticked sc w.ports s may.at.stands (c.requires.word w s may) in
    let x = act_of sc w me site k s in
    let told = told-then sc me k c.name-node.result site c.tick-step.new.self c.args.scene.now c.close.new.scene w s c.tick-step.result c.name-node.ensures c.tick-step.ensures.same.node.index may ticked
    (c.close.ensures.around _ (c.begin.ensures.around w may.at.surrounds)) in
    let agenda = c.close.ensures.agenda ∙ ap (λ (m : Scene). m.agenda) c.begin.ensures.rest in
    let ready = may-then sc me k site c.tick-step.new.self c.args.scene.now c.close.new.scene w s c.tick-step.result c.tick-step.ensures.same.node.index may ticked agenda told in
    let z = after_tick sc w.ports me (number_of site) x s in
    let v = told_in sc w me (number_of site) x in
    let on : Proceeds sc me (number_of site) c.proceed.new.site c.close.new.scene c.proceed.new.scene v z =
    subst (λ i. Proceeds sc me i c.proceed.new.site c.close.new.scene c.proceed.new.scene v z) c.tick-step.ensures.same.node.index
    (c.proceed.ensures v z (subst (λ i. MayProceed sc me i c.tick-step.new.self c.close.new.scene v z) (sym c.tick-step.ensures.same.node.index) ready)) in
    subst (λ m. HasRoomFor sc (other m) c.proceed.new.scene) (sym (ap kind_of c.name-node.ensures ∙ kind-named me (number_of site)))
    (room-then sc me (number_of site) c.args.scene.now c.close.new.scene c.proceed.new.scene may.message agenda on.others)

pub returns : goal.returns
returns g c =
    λ w s may.
    let sc = scenario_of c.args.bus.now in
    let me = side_of g.K.Kind.CODE in
    let site = c.args.site.now in
    let k = c.args.k in
    let ticked : IsTicked sc w.ports me site c.tick-step.new.self c.tick-step.result k s = c.tick-step.ensures.ticked sc w.ports s may.at.stands (c.requires.word w s may) in
    let x = act_of sc w me site k s in
    let told = told-then sc me k c.name-node.result site c.tick-step.new.self c.args.scene.now c.close.new.scene w s c.tick-step.result c.name-node.ensures c.tick-step.ensures.same.node.index may ticked
    (c.close.ensures.around _ (c.begin.ensures.around w may.at.surrounds)) in
    let agenda = c.close.ensures.agenda ∙ ap (λ (m : Scene). m.agenda) c.begin.ensures.rest in
    let ready = may-then sc me k site c.tick-step.new.self c.args.scene.now c.close.new.scene w s c.tick-step.result c.tick-step.ensures.same.node.index may ticked agenda told in
    let z = after_tick sc w.ports me (number_of site) x s in
    let v = told_in sc w me (number_of site) x in
    let on : Proceeds sc me (number_of site) c.proceed.new.site c.close.new.scene c.proceed.new.scene v z =
    subst (λ i. Proceeds sc me i c.proceed.new.site c.close.new.scene c.proceed.new.scene v z) c.tick-step.ensures.same.node.index
    (c.proceed.ensures v z (subst (λ i. MayProceed sc me i c.tick-step.new.self c.close.new.scene v z) (sym c.tick-step.ensures.same.node.index) ready)) in
    whole sc me (number_of site) k c.name-node.result c.proceed.new.site c.close.new.scene c.proceed.new.scene c.depart.new.scene w s x c.tick-step.result c.frame-frame.result c.name-node.ensures on
    (c.frame-frame.ensures ∙ ap (λ (v : Seated). v.state.frame) (c.engine.ensures ∙ ap (λ (n : Running). n.seat) c.node.ensures)) ticked.act.message (c.depart.ensures (moved me (number_of site) (proceed sc me (number_of site)) v) on.surrounds)
