use Rattle.std.proofs.{Common.{Some, sym, subst, ◌∙◌, arith}, lemmas.Option.get_or_from_slice_get}
use Rattle.std.specs.Prelude.{slice_set}
use Rattle.rb_rules.specs.WorldStep.{with_delivery}
use Rattle.rb_port.specs.Keeping.{HoldsPort}
use Rattle.rb_world.specs.{Worlds.HoldsPorts, Buses.scenario_of}
use Rattle.rb_world.proofs.Told.{delivers}
use Rattle.rb_world.proofs.ticking.deliver.Goals as goal

pub returns-then-from-len : goal.returns-then-from-len
returns-then-from-len g c =
    λ states holds.
    let sc = scenario_of c.args.bus.now in
    let kept = c.args.ports.now.items in
    let j = c.from-then-from-len.result in
    let now = c.index_mut.result.now in
    let after = c.deliver.new.self in
    subst (λ o. HoldsPorts sc (slice_set kept j after) (with_delivery sc c.args.i o states)) (sym c.in-Some.is)
    (subst (λ n. HoldsPorts sc (slice_set kept j after) (with_delivery sc n (Some c.in-Some.delivery) states)) c.from-then-from-len.ensures
    (delivers sc kept states j after c.in-Some.delivery (omega (arith, c.if-from-len.true, c.len.ensures, c.from.ensures, c.from-then-from-len.ensures))
    (λ old port there h. c.deliver.ensures port (subst (λ k. HoldsPort k port) (sym (c.index_mut.ensures.value ∙ get_or_from_slice_get kept j old now there)) h)) holds))
