use Rattle.std.proofs.{Common.{◌≡◌, Some, slice_get, sym, ap, ◌∙◌, arith}, lemmas.Option.slice_get-get_or}
use Rattle.std.specs.Prelude.{get_or}
use Rattle.rb_rules.specs.{Hearing.port_at, Ports.fresh_port}
use Rattle.rb_port.specs.Keeping.{HoldsPort}
use Rattle.rb_world.proofs.Told.{line-is}
use Rattle.rb_world.specs.Buses.{scenario_of}
use Rattle.rb_world.proofs.ticking.line_of_port.Goals as goal

pub returns : goal.returns
returns c =
    λ states holds.
    let sc = scenario_of c.args.bus.now in
    let i = c.args.i in
    let ports = c.args.ports.now in
    let port = c.index-ports-from.result in
    let there : slice_get ports i ≡ Some port =
    slice_get-get_or ports i port (omega (arith, c.requires.within, c.requires.many))
    ∙ ap (λ p. Some p) (ap (λ n. get_or ports n port) (sym c.from.ensures) ∙ sym c.index-ports-from.is) in
    let known : slice_get states i ≡ Some (port_at sc states i) =
    slice_get-get_or states i (fresh_port (get_or sc.apps i 0) (get_or sc.words i 0)) (omega (arith, c.requires.within, holds.all)) in
    let h : HoldsPort port (port_at sc states i) = holds.each i port (port_at sc states i) there known in
    line-is i c.state.result c.losses.result (port_at sc states i) (c.state.ensures (port_at sc states i) h) (c.losses.ensures (port_at sc states i) h)
