use Rattle.std.proofs.Common.{subst, rules}
use Rattle.rb_outside.specs.Writing.{Writes}
use Rattle.rb_bridge.proofs.Found.{first-lines, frame-lines}
use Rattle.rb_bridge.proofs.telling.write_frame.Goals as goal

pub returns-then-frame-eq0-clause-writes : goal.returns-then-frame-eq0-clause-writes
returns-then-frame-eq0-clause-writes g c = λ b is.
    record { all = first-lines b c.args.frame _ c.if-frame-eq0.true; part = search rules; cause = search rules }

pub returns-clause-writes : goal.returns-clause-writes
returns-clause-writes g c = λ b is.
    subst (λ text. Writes g.K.Sink.held g.K.Sink.faults c.args.output.now c.write_both.new.output c.write_both.result text)
    (frame-lines b c.args.frame c.if-frame-eq0.false) (c.write_both.ensures.writes b c.args.frame is)
