use Rattle.std.proofs.{Common.{◌≡◌, ◌<◌, Some, slice_get, sym, ap, ◌∙◌, subst, arith}, lemmas.Option.slice_get-get_or}
use Rattle.std.specs.Prelude.{get_or}
use Rattle.rb_rules.specs.{Hearing.port_at, Ports.fresh_port}
use Rattle.rb_world.specs.{Steps.CanWant, Buses.scenario_of}
use Rattle.rb_world.proofs.Words.{word-data}
use Rattle.rb_world.proofs.ticking.word_for.Goals as goal

pub returns-in-Data : goal.returns-in-Data
returns-in-Data g c =
    λ states slot holds low is.
    let sc = scenario_of c.args.bus.now in
    let i = c.args.i in
    let ports = c.args.ports.now in
    let port = c.index-ports-from.result in
    let inside : i < sc.sizes.bius = subst (CanWant sc i) c.in-Data.is c.requires.want in
    let there : slice_get ports i ≡ Some port =
    slice_get-get_or ports i port (omega (arith, inside, c.requires.many))
    ∙ ap (λ p. Some p) (ap (λ n. get_or ports n port) (sym c.from.ensures) ∙ sym c.index-ports-from.is) in
    let known : slice_get states i ≡ Some (port_at sc states i) =
    slice_get-get_or states i (fresh_port (get_or sc.apps i 0) (get_or sc.words i 0)) (omega (arith, inside, holds.all)) in
    c.offer.ensures (port_at sc states i) (holds.each i port (port_at sc states i) there known)
    ∙ word-data sc states i c.in-Data.slot slot low (sym c.in-Data.is ∙ is)
