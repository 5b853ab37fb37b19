use Rattle.std.proofs.Common.{ap, ◌∙◌, subst}
use Rattle.rb_outside.specs.Writing.{Writes}
use Rattle.rb_rules_bridge.specs.Texts.{cross_text}
use Rattle.rb_bridge.specs.Refusals.{bank_of}
use Rattle.rb_bridge.proofs.receivers.write_value.Goals as goal

pub returns-clause-writes : goal.returns-clause-writes
returns-clause-writes g c = λ members told hold.
    subst (λ text. Writes g.K.Sink.held g.K.Sink.faults c.args.output.now c.write_line.new.output c.write_line.result text)
    (c.cross_line.ensures.bytes ∙ ap (cross_text c.args.ports.now.frame (bank_of c.args.right) c.args.port) (c.find-value.ensures members told hold)) c.write_line.ensures
