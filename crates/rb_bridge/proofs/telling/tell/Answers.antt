use Rattle.std.proofs.Common.{subst}
use Rattle.rb_outside.specs.Writing.{Writes}
use Rattle.rb_bridge.proofs.Found.{breach-lines, none-lines}
use Rattle.rb_bridge.proofs.telling.tell.Goals as goal

pub returns-in-Some-clause-writes : goal.returns-in-Some-clause-writes
returns-in-Some-clause-writes g c = λ b found.
    subst (λ text. Writes g.K.Sink.held g.K.Sink.faults c.args.output.now c.write_breach.new.output c.write_breach.result text)
    (breach-lines b c.args.frame c.args.breach c.in-Some.found c.in-Some.is) c.write_breach.ensures

pub returns-in-None-clause-writes : goal.returns-in-None-clause-writes
returns-in-None-clause-writes g c = λ b found.
    subst (λ text. Writes g.K.Sink.held g.K.Sink.faults c.args.output.now c.write_frame.new.output c.write_frame.result text)
    (none-lines b c.args.frame c.args.breach c.in-None.is) (c.write_frame.ensures.writes b (found c.in-None.is))
