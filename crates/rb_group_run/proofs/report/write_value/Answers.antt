use Rattle.std.proofs.Common.{ap, ◌∙◌, subst}
use Rattle.rb_outside.specs.Writing.{Writes}
use Rattle.rb_report.specs.Report.{group_text}
use Rattle.rb_group_run.proofs.report.write_value.Goals as goal

pub returns-clause-writes : goal.returns-clause-writes
returns-clause-writes g c = λ told hold.
    subst (λ text. Writes g.K.Sink.held g.K.Sink.faults c.args.output.now c.write_line.new.output c.write_line.result text)
    (c.group_line.ensures.bytes ∙ ap (group_text c.args.ports.now.frame c.args.port) (c.find-value.ensures told hold)) c.write_line.ensures
