use Rattle.rb_scenario.specs.Acceptance.{as_scenario}
use Rattle.rb_bridge.proofs.Begun.{has-opened}
use Rattle.rb_bridge.proofs.side.open_side.Goals as goal

pub returns : goal.returns
returns c =
    has-opened (as_scenario c.args.scenario) c.args.members c.args.slot c.in-Ok.world c.first_ports-ports.result c.no_values.result c.scope_of-scope.result c.terms_of-terms.result c.in-Ok.ensures.stands c.in-Ok.ensures.bus
    c.scope_of-scope.ensures c.terms_of-terms.ensures c.first_ports-ports.ensures c.no_values.ensures
