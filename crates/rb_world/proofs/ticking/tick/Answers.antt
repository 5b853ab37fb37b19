use Rattle.std.proofs.Common.{refl, sym, ap, ◌∙◌, subst, None, true}
use Rattle.rb_base.specs.Nodes.{side_of}
use Rattle.rb_rules.specs.{Lawful.kind_of, Links.name_of}
use Rattle.rb_node.specs.declared.act.Step.{Step}
use Rattle.rb_world.specs.{Sites.{after_tick, number_of}, Tells.IsTicked, Steps.{CanTick, MayProceed, Proceeds, SeesOnlyNodes}, Buses.scenario_of}
use Rattle.rb_world_traffic.specs.Arriving.{number_of as number_in}
use Rattle.rb_world.proofs.{Acting.told_in, Lanes.kind-named, Told.begin-none, Whole.{act_of, may-then, sees-nodes, told-then, whole}}
use Rattle.rb_world.proofs.ticking.tick.Goals as goal

-- the step in which a window ends and nothing else happens
abbrev end : Step
end = record { epoch = None; message = None; closed = true }

pub close-requires-clause-sources : goal.close-requires-clause-sources
close-requires-clause-sources g c =
    let sc = scenario_of c.args.bus.now in
    let me = side_of g.K.Kind.CODE in
    let site = c.args.site.now in
    let named = c.name_of-node.ensures ∙ ap (name_of me) c.requires.number in
    let k = c.args.k in
    let w = c.requires.may.0 in
    let s = c.requires.may.1 in
    let may = c.requires.may.2 in
    let ticked : IsTicked sc w.ports me site c.end_window.new.self end k s = c.end_window.ensures.ticked c.if-end_window.true sc w.ports k s may.at.stands may.next in
    λ closed.
    subst (λ m. SeesOnlyNodes sc m c.end_window.new.self.node.shown) (sym (ap kind_of named ∙ kind-named me (number_of site)))
    (sees-nodes sc me (number_of site) k site c.args.scene.now w s end c.end_window.new.self.node.shown may ticked.act closed)

pub proceed-requires-clause-may : goal.proceed-requires-clause-may
proceed-requires-clause-may g c =
    let sc = scenario_of c.args.bus.now in
    let me = side_of g.K.Kind.CODE in
    let site = c.args.site.now in
    let named = c.name_of-node.ensures ∙ ap (name_of me) c.requires.number in
    let k = c.args.k in
    let w = c.requires.may.0 in
    let s = c.requires.may.1 in
    let may = c.requires.may.2 in
    let ticked : IsTicked sc w.ports me site c.end_window.new.self end k s = c.end_window.ensures.ticked c.if-end_window.true sc w.ports k s may.at.stands may.next in
    let x = act_of sc w me site k s in
    let told = told-then sc me k c.name_of-node.result site c.end_window.new.self c.args.scene.now c.close.new.scene w s end named c.end_window.ensures.same.node.index may ticked
    (c.close.ensures.around _ (begin-none sc c.args.scene.now w (kind_of c.name_of-node.result) (number_in c.name_of-node.result) None refl may.at.surrounds)) in
    let ready = may-then sc me k site c.end_window.new.self c.args.scene.now c.close.new.scene w s end c.end_window.ensures.same.node.index may ticked c.close.ensures.agenda told in
    let z = after_tick sc w.ports me (number_of site) x s in
    let v = told_in sc w me (number_of site) x in
    (v, z, subst (λ i. MayProceed sc me i c.end_window.new.self c.close.new.scene v z) (sym c.end_window.ensures.same.node.index) ready)

pub returns-then-end_window : goal.returns-then-end_window
returns-then-end_window g c =
    λ w s may.
    let sc = scenario_of c.args.bus.now in
    let me = side_of g.K.Kind.CODE in
    let site = c.args.site.now in
    let named = c.name_of-node.ensures ∙ ap (name_of me) c.requires.number in
    let k = c.args.k in
    let ticked : IsTicked sc w.ports me site c.end_window.new.self end k s = c.end_window.ensures.ticked c.if-end_window.true sc w.ports k s may.at.stands may.next in
    let x = act_of sc w me site k s in
    let told = told-then sc me k c.name_of-node.result site c.end_window.new.self c.args.scene.now c.close.new.scene w s end named c.end_window.ensures.same.node.index may ticked
    (c.close.ensures.around _ (begin-none sc c.args.scene.now w (kind_of c.name_of-node.result) (number_in c.name_of-node.result) None refl may.at.surrounds)) in
    let ready = may-then sc me k site c.end_window.new.self c.args.scene.now c.close.new.scene w s end c.end_window.ensures.same.node.index may ticked c.close.ensures.agenda told in
    let z = after_tick sc w.ports me (number_of site) x s in
    let v = told_in sc w me (number_of site) x in
    let on : Proceeds sc me (number_of site) c.proceed.new.site c.close.new.scene c.proceed.new.scene v z =
    subst (λ i. Proceeds sc me i c.proceed.new.site c.close.new.scene c.proceed.new.scene v z) c.end_window.ensures.same.node.index
    (c.proceed.ensures v z (subst (λ i. MayProceed sc me i c.end_window.new.self c.close.new.scene v z) (sym c.end_window.ensures.same.node.index) ready)) in
    whole sc me (number_of site) k c.name_of-node.result c.proceed.new.site c.close.new.scene c.proceed.new.scene c.proceed.new.scene w s x end c.proceed.new.site.node.seat.state.frame named on refl
    ticked.act.message on.surrounds

pub tick_in_full-requires-clause-may : goal.tick_in_full-requires-clause-may
tick_in_full-requires-clause-may g c =
    subst (λ k. CanTick c.args.bus.now (side_of g.K.Kind.CODE) c.args.k k c.args.scene.now) (sym (c.end_window.ensures.stays c.if-end_window.false)) c.requires.may
