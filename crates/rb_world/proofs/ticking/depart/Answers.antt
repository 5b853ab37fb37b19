use Rattle.std.proofs.Common.{◌≡◌, true, sym, subst}
use Rattle.rb_base.specs.Nodes.{has, other}
use Rattle.rb_rules.specs.{Lawful.kind_of, Links.name_of, WorldStep.with_message}
use Rattle.rb_world_traffic.specs.Arriving.{AreRunning, number_of}
use Rattle.rb_world.specs.{Worlds.Surrounds, Buses.scenario_of}
use Rattle.rb_world.proofs.{Around.sent-more, Lanes.{has-lane, node-named}}
use Rattle.rb_world.proofs.ticking.depart.Goals as goal

pub send-requires-clause-room : goal.send-requires-clause-room
send-requires-clause-room c =
    λ i h.
    let is = c.requires.around.1 in
    let within = is.within (other (kind_of c.args.node)) i (subst (λ r. has r i ≡ true) c.running_others-running.ensures h) in (
      has-lane (scenario_of c.args.bus.now) c.args.scene.now c.requires.around.0 (name_of (other (kind_of c.args.node)) i) is (node-named (scenario_of c.args.bus.now) (other (kind_of c.args.node)) i within),
      c.requires.room i within,
    )

pub returns-in-Some : goal.returns-in-Some
returns-in-Some c =
    λ w is.
    let sc = scenario_of c.args.bus.now in
    let me = kind_of c.args.node in
    let i = number_of c.args.node in
    let runs = subst (λ r. AreRunning (other me) r w.sites) (sym c.running_others-running.ensures) (is.running (other me)) in
    subst (λ m. Surrounds sc (record c.args.scene.now { agenda = c.send.new.agenda }) (record w { sites = with_message sc me i c.args.frame c.args.k m w.sites })) (sym c.in-Some.is)
    (sent-more sc c.args.scene.now c.send.new.agenda w me i c.args.frame c.args.k c.in-Some.message is (c.send.ensures.world w.sites runs is.lanes) (c.send.ensures.rooms is.rooms))
