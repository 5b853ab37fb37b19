use Rattle.std.proofs.{Common.{sym, ap, ◌∙◌, subst}, lemmas.Option.{none-some, same_Some}}
use Rattle.rb_base.specs.Nodes.{side_of}
use Rattle.rb_node.specs.Cores.{IsCore, next_of}
use Rattle.rb_world.specs.{Sites.number_of, Steps.{MayTick, Ticks, act_at}, Buses.scenario_of}
use Rattle.rb_world.proofs.Acting.{next-is}
use Rattle.rb_world.proofs.taking.tick_at.Goals as goal

pub tick-requires-clause-may : goal.tick-requires-clause-may
tick-requires-clause-may g c =
    let sc = scenario_of c.args.bus.now in
    let me = side_of g.K.Kind.CODE in
    let site = c.args.site.now in
    let k = c.requires.may.0 in
    let w = c.requires.may.1 in
    let s = c.requires.may.2 in
    let may = c.requires.may.3 in
    let found = sym (next-is sc me (number_of site) k site s.core may.at.stands.sizes may.at.stands.plan may.at.number may.next)
    ∙ ap (λ n. next_of me n s.core) (sym c.node.ensures) ∙ sym (c.next_tick.ensures.core s.core (subst (λ n. IsCore n s.core) (sym c.node.ensures) may.at.stands.core)) ∙ c.in-Some.is in
    (w, s, subst (λ k. MayTick sc me (number_of site) k site c.args.scene.now w s) (same_Some k c.in-Some.k found) may)

pub returns-in-Some : goal.returns-in-Some
returns-in-Some g c =
    λ k w s may.
    let sc = scenario_of c.args.bus.now in
    let me = side_of g.K.Kind.CODE in
    let site = c.args.site.now in
    let found = sym (next-is sc me (number_of site) k site s.core may.at.stands.sizes may.at.stands.plan may.at.number may.next)
    ∙ ap (λ n. next_of me n s.core) (sym c.node.ensures) ∙ sym (c.next_tick.ensures.core s.core (subst (λ n. IsCore n s.core) (sym c.node.ensures) may.at.stands.core)) ∙ c.in-Some.is in
    let same = same_Some k c.in-Some.k found in
    subst (λ k. Ticks sc me (number_of site) k c.tick.new.site c.tick.new.scene w s (act_at sc w me (number_of site) k s)) (sym same)
    (c.tick.ensures w s (subst (λ k. MayTick sc me (number_of site) k site c.args.scene.now w s) same may))

pub returns-in_default : goal.returns-in_default
returns-in_default g c =
    λ k w s may.
    let sc = scenario_of c.args.bus.now in
    let me = side_of g.K.Kind.CODE in
    let site = c.args.site.now in
    let found = sym c.in_default.is ∙ c.next_tick.ensures.core s.core (subst (λ n. IsCore n s.core) (sym c.node.ensures) may.at.stands.core) ∙ ap (λ n. next_of me n s.core) c.node.ensures
    ∙ next-is sc me (number_of site) k site s.core may.at.stands.sizes may.at.stands.plan may.at.number may.next in
    absurd (none-some k found)
