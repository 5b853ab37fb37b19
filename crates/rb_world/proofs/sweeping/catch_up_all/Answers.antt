use Rattle.std.proofs.{Common.{◌≡◌, ◌<◌, Some, [], length, slice_get, refl, sym, subst, ◌∙◌, arith, if◌then◌else◌}, lemmas.List.length-set}
use Rattle.rb_base.specs.Nodes.{side_of}
use Rattle.rb_rules.specs.{Links.{name_of, same_node}, Slots.count_of}
use Rattle.rb_world.specs.{Observing.{WasTold, left_below, left_for}, Trailing.{HaveCaughtUp, swept_first, until_from}, Buses.scenario_of}
use Rattle.rb_world.proofs.{Behind.indexed, CaughtUp.{catch-begins, catch-may, catch-then}, LeftTold.{below-next, below-none, catch-told}, Observed.was-both}
use Rattle.rb_world.proofs.sweeping.catch_up_all.Goals as goal

pub loop-i-init : goal.loop-i-init
loop-i-init g c = record { many = refl; done = λ nodes may. catch-begins (scenario_of c.args.setup.now.bus.now) (until_from (Some c.args.tick)) (side_of g.K.Kind.CODE) c.args.sites.now.items c.args.agenda.now nodes may; told = λ name is nodes may. subst (λ l. WasTold _ g.T.Observer.observes c.args.observer.now l c.args.observer.now) (sym (below-none (scenario_of c.args.setup.now.bus.now) (until_from (Some c.args.tick)) (side_of g.K.Kind.CODE) nodes name)) refl }

pub until_before-until-requires : goal.until_before-until-requires
until_before-until-requires g c = c.requires.0

pub sweep_for-requires : goal.sweep_for-requires
sweep_for-requires g c =
    let sc = scenario_of c.args.setup.now.bus.now in
    let me = side_of g.K.Kind.CODE in
    let kept = c.loop-i.sites.items in
    let i = c.loop-i.i in
    let site = c.index_mut-site.result.now in
    let nodes = c.requires.1 in
    let may = c.requires.2 in
    let many = c.loop-i.invariant.many in
    let within : i < length kept = omega (arith, many, c.loop-i-test.true) in
    let there : slice_get kept i ≡ Some site = indexed kept i site within c.index_mut-site.ensures.value in
    let h = catch-may sc c.args.tick.0 c.args.tick.1 me i c.until_before-until.result c.args.sites.now.items c.args.agenda.now kept c.loop-i.agenda nodes site c.name-node.result may (c.loop-i.invariant.done nodes may)
    within there c.name-node.ensures c.until_before-until.ensures in
    record { may = (c.name-node.ensures, swept_first sc (until_from (Some c.args.tick)) me i nodes, h.next.s, h.may) }

pub loop-i-preserved : goal.loop-i-preserved
loop-i-preserved g c =
    let sc = scenario_of c.args.setup.now.bus.now in
    let me = side_of g.K.Kind.CODE in
    let kept = c.loop-i.sites.items in
    let i = c.loop-i.i in
    let until = until_from (Some c.args.tick) in
    let site = c.index_mut-site.result.now in
    let many = c.loop-i.invariant.many in
    let within : i < length kept = omega (arith, many, c.loop-i-test.true) in
    let there : slice_get kept i ≡ Some site = indexed kept i site within c.index_mut-site.ensures.value in
    record {
      many = length-set kept i c.sweep_for.new.site ∙ many;
      done = λ nodes may.
          let is = c.loop-i.invariant.done nodes may in
          let h = catch-may sc c.args.tick.0 c.args.tick.1 me i c.until_before-until.result c.args.sites.now.items c.args.agenda.now kept c.loop-i.agenda nodes site c.name-node.result may is
          within there c.name-node.ensures c.until_before-until.ensures in
          catch-then sc c.args.tick.0 c.args.tick.1 me i c.until_before-until.result c.args.sites.now.items c.args.agenda.now kept c.loop-i.agenda c.sweep_for.new.agenda nodes site c.sweep_for.new.site may is h
          (c.sweep_for.ensures.swept (swept_first sc until me i nodes) h.next.s h.may) c.sweep_for.ensures.lanes;
      told = λ name is nodes may.
          let h = catch-may sc c.args.tick.0 c.args.tick.1 me i c.until_before-until.result c.args.sites.now.items c.args.agenda.now kept c.loop-i.agenda nodes site c.name-node.result may (c.loop-i.invariant.done nodes may)
          within there c.name-node.ensures c.until_before-until.ensures in
          subst (λ l. WasTold _ g.T.Observer.observes c.args.observer.now l c.sweep_for.new.observer) (below-next sc until me i nodes name)
          (was-both _ g.T.Observer.observes c.args.observer.now c.loop-i.observer c.sweep_for.new.observer (left_below sc until me i nodes name) (if same_node (name_of me i) name then left_for sc until nodes name else [])
          (c.loop-i.invariant.told name is nodes may)
          (catch-told _ g.T.Observer.observes c.loop-i.observer c.sweep_for.new.observer sc c.args.tick.0 c.args.tick.1 me i c.until_before-until.result kept c.loop-i.agenda nodes site c.name-node.result name c.name-node.ensures h
          (c.sweep_for.ensures.told name is (swept_first sc until me i nodes) h.next.s h.may)));
    }

pub returns-clause-caught : goal.returns-clause-caught
returns-clause-caught g c = λ nodes may.
    let is = c.loop-i.invariant.done nodes may in
    let many = may.nodes.many in
    let all : c.loop-i.i ≡ count_of (side_of g.K.Kind.CODE) c.args.setup.now.bus.now.sizes = omega (arith, many, c.loop-i-test.false) in
    subst (λ n. HaveCaughtUp (scenario_of c.args.setup.now.bus.now) (until_from (Some c.args.tick)) (side_of g.K.Kind.CODE) n c.loop-i.sites.items c.loop-i.agenda nodes) all is

pub returns-clause-told : goal.returns-clause-told
returns-clause-told g c = λ name is nodes may.
    let many = may.nodes.many in
    let done = c.loop-i.invariant.done nodes may in
    let all : c.loop-i.i ≡ count_of (side_of g.K.Kind.CODE) c.args.setup.now.bus.now.sizes = omega (arith, many, c.loop-i-test.false) in
    subst (λ n. WasTold _ g.T.Observer.observes c.args.observer.now (left_below (scenario_of c.args.setup.now.bus.now) (until_from (Some c.args.tick)) (side_of g.K.Kind.CODE) n nodes name) c.loop-i.observer) all
    (c.loop-i.invariant.told name is nodes may)
