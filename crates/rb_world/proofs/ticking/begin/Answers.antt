use Rattle.std.proofs.Common.{sym, ap, ◌∙◌, subst}
use Rattle.rb_rules.specs.{Clock.time_of, Lawful.kind_of}
use Rattle.rb_world_traffic.specs.Arriving.{number_of}
use Rattle.rb_world.proofs.Told.{begin-biu, begin-none, begin-rmu}
use Rattle.rb_world.specs.{Worlds.HoldsPorts, Buses.scenario_of}
use Rattle.rb_world.proofs.ticking.begin.Goals as goal

pub returns-in-Biu-clause-around : goal.returns-in-Biu-clause-around
returns-in-Biu-clause-around c =
    λ w is.
    let e = c.in-Some.epoch in
    begin-biu (scenario_of c.args.bus.now) c.args.scene.now c.begin_biu.new.self w c.args.node c.in-Biu.i e c.args.epoch c.at.result c.line_of_port-port.result c.in-Biu.is c.in-Some.is
    (c.at.ensures.time ∙ ap (λ clock. time_of clock e.tick) c.clock.ensures)
    (c.line_of_port-port.ensures w.ports (subst (λ ps. HoldsPorts (scenario_of c.args.bus.now) ps w.ports) (sym c.deref.ensures.value) is.ports)) is
    (c.begin_biu.ensures.noted (scenario_of c.args.bus.now) w is.book)

pub returns-in-Rmu-clause-around : goal.returns-in-Rmu-clause-around
returns-in-Rmu-clause-around c =
    λ w is.
    let e = c.in-Some.epoch in
    begin-rmu (scenario_of c.args.bus.now) c.args.scene.now c.begin_rmu.new.self w c.args.node c.in-Rmu.i e c.args.epoch c.at.result c.in-Rmu.is c.in-Some.is
    (c.at.ensures.time ∙ ap (λ clock. time_of clock e.tick) c.clock.ensures) is (c.begin_rmu.ensures.noted (scenario_of c.args.bus.now) w is.book)

pub returns-in_default-clause-around : goal.returns-in_default-clause-around
returns-in_default-clause-around c =
    λ w is. begin-none (scenario_of c.args.bus.now) c.args.scene.now w (kind_of c.args.node) (number_of c.args.node) c.args.epoch c.in_default.is is
