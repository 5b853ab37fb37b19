use Rattle.std.proofs.Common.{◌≡◌, ◌∙◌, ap, arith}
use Rattle.rb_world.proofs.Openings.{all-ports, no-ports-yet, one-port}
use Rattle.rb_world.specs.Buses.{scenario_of}
use Rattle.rb_world.proofs.opening.open_ports.Goals as goal

pub loop-i-init : goal.loop-i-init
loop-i-init c = no-ports-yet (scenario_of c.args.bus.now) c.in_ok-ports.ports.items c.in_ok-ports.ensures.items

pub loop-i-preserved : goal.loop-i-preserved
loop-i-preserved c =
    one-port (scenario_of c.args.bus.now) c.loop-i.i c.app.result c.word.result c.loop-i.ports.items c.add_port.new.ports.items c.in_ok-port.port c.in_ok-add_port.ensures c.app.ensures.value c.word.ensures
    c.in_ok-port.ensures c.loop-i.invariant

pub returns : goal.returns
returns c =
    let ge = c.loop-i-test.false in
    let le = c.loop-i.auto.i-end in
    let same : c.loop-i.i ≡ c.biu-biu.result = omega (arith, ge, le) in
    all-ports (scenario_of c.args.bus.now) c.loop-i.i c.loop-i.ports.items (same ∙ c.biu-biu.ensures.value ∙ ap (λ s. s.bius) c.shape.ensures) c.loop-i.invariant
