use Rattle.std.proofs.Common.{sym, ap, ◌∙◌, subst}
use Rattle.std.specs.Prelude.{option_map}
use Rattle.rb_base.specs.Nodes.{other, side_of}
use Rattle.rb_rules.specs.{Book.of_kind, Lawful.{IsNodeOf, kind_of}, WorldStep.says_in}
use Rattle.rb_queue.specs.Waiting.{HasLane, lane_of}
use Rattle.rb_node.specs.Acts.{span_in}
use Rattle.rb_world.specs.{Sites.number_of, declared.scene.Scene.Scene, Buses.scenario_of}
use Rattle.rb_world_traffic.specs.{Arriving.number_of as number_in, Saying.with_arrivals}
use Rattle.rb_world.proofs.{Entering.{AwaitsTick, after-none, after-some, after-stop, others-named, says-around}, Lanes.{has-lane, node-named}, proceeding.proceed_in_full.Goals.{in-Some+else-not-is_good, in_default}}
use Rattle.rb_world_agenda.proofs.Keeping.{has-with}
use Rattle.rb_world.proofs.proceeding.proceed_in_full.Goals as goal

pub returns-then-not-is_good : goal.returns-then-not-is_good
returns-then-not-is_good g c =
    λ w s may.
    let sc = scenario_of c.args.bus.now in
    let me = side_of g.K.Kind.CODE in
    let enters = sym (c.entering.ensures sc s may.at.stands) ∙ ap (option_map span_in) c.in-Some.is in
    after-stop sc me (number_of c.args.site.now) c.args.node c.args.site.now c.stop.new.self c.args.scene.now c.stop_at.new.scene w s (span_in c.in-Some.span) c.requires.name may.at enters
    (sym c.is_good.ensures ∙ c.if-not-is_good.true) c.stop.ensures.rest c.stop_at.ensures

pub say-requires-clause-lane : goal.say-requires-clause-lane
say-requires-clause-lane g c =
    let w = c.requires.may.0 in
    let at = c.requires.may.2.at in
    let sc = scenario_of c.args.bus.now in
    has-lane sc c.args.scene.now w c.args.node at.surrounds
    (subst (IsNodeOf sc.sizes) (sym c.requires.name) (node-named sc (side_of g.K.Kind.CODE) (number_of c.args.site.now) at.within))

pub say-requires-clause-span : goal.say-requires-clause-span
say-requires-clause-span g c =
    let may = c.requires.may.2 in
    may.spans (span_in c.in-Some.span) (sym (c.entering.ensures (scenario_of c.args.bus.now) c.requires.may.1 may.at.stands) ∙ ap (option_map span_in) c.in-Some.is)

pub await_tick-requires-clause-lane : goal.await_tick-requires-clause-lane
await_tick-requires-clause-lane g c =
    let sc = scenario_of c.args.bus.now in
    let w = c.requires.may.0 in
    let at = c.requires.may.2.at in
    let node = c.args.node in
    let there = has-lane sc c.args.scene.now w node at.surrounds (subst (IsNodeOf sc.sizes) (sym c.requires.name) (node-named sc (side_of g.K.Kind.CODE) (number_of c.args.site.now) at.within)) in
    elim c.match-entering.branch [
      | in-Some+else-not-is_good d ↦
          let lane = with_arrivals (says_in sc (kind_of node) (number_in node) (span_in d.in-Some.span)) (lane_of c.args.scene.now.agenda node) in
          subst (λ (m : Scene). HasLane m.agenda node) (sym d.scene-is) (subst (λ lanes. HasLane lanes node) (sym d.say.ensures.lanes) (has-with c.args.scene.now.agenda node node lane there))
      | in_default d ↦ subst (λ (m : Scene). HasLane m.agenda node) (sym d.scene-is) there
    ]

pub returns : goal.returns
returns g c =
    λ w s may.
    let sc = scenario_of c.args.bus.now in
    let me = side_of g.K.Kind.CODE in
    let i = number_of c.args.site.now in
    let node = c.args.node in
    let site = c.args.site.now in
    let before = c.args.scene.now in
    let after = c.await_tick.new.scene in
    let there = has-lane sc before w node may.at.surrounds (subst (IsNodeOf sc.sizes) (sym c.requires.name) (node-named sc me i may.at.within)) in
    elim c.match-entering.branch [
      | in-Some+else-not-is_good d ↦
          let span = span_in d.in-Some.span in
          let more = says_in sc (kind_of node) (number_in node) span in
          let lanes = d.say.new.agenda in
          after-some sc me i node site before lanes after w s span c.requires.name may.at
          (sym (c.entering.ensures sc s may.at.stands) ∙ ap (option_map span_in) d.in-Some.is) (sym d.is_good.ensures ∙ d.if-not-is_good.false)
          (says-around sc before lanes w node span more there d.say.ensures.lanes (d.say.ensures.world w.sites may.at.surrounds.lanes) may.at.surrounds)
          (ap (of_kind (other (kind_of node))) d.say.ensures.lanes ∙ others-named node (with_arrivals more (lane_of before.agenda node)) before.agenda)
          (subst (λ m. AwaitsTick sc me node site m after) d.scene-is c.await_tick.ensures)
      | in_default d ↦
          after-none sc me i node site before after w s c.requires.name may.at
          (sym (c.entering.ensures sc s may.at.stands) ∙ ap (option_map span_in) d.in_default.is)
          (subst (λ m. AwaitsTick sc me node site m after) d.scene-is c.await_tick.ensures)
    ]
