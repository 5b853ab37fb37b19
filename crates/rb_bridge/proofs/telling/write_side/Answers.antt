use Rattle.std.proofs.Common.{subst}
use Rattle.rb_outside.specs.Writing.{Writes}
use Rattle.rb_rules_bridge.specs.Bridges.{bus_on, members_on}
use Rattle.rb_bridge.specs.Refusals.{bank_of}
use Rattle.rb_bridge.proofs.Found.{found-lines}
use Rattle.rb_bridge.proofs.telling.write_side.Goals as goal

pub returns-clause-writes : goal.returns-clause-writes
returns-clause-writes g c = λ b is.
    subst (λ text. Writes g.K.Sink.held g.K.Sink.faults c.args.output.now c.write_receivers.new.output c.write_receivers.result text)
    (found-lines b (bank_of c.args.right) c.args.side.now.passage.ports.frame c.args.side.now is)
    (c.write_receivers.ensures.writes (bus_on b (bank_of c.args.right)) (members_on b (bank_of c.args.right)) is.told is.scope_is is.holds)
