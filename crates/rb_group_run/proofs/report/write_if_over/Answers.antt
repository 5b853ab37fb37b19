use Rattle.std.proofs.Common.{Bool, [], if◌then◌else◌, sym, subst}
use Rattle.rb_outside.specs.Writing.{Writes}
use Rattle.rb_group_run.specs.Replies.{frame_text, value_found}
use Rattle.rb_group_run.proofs.report.write_if_over.Goals as goal

pub returns-then-over-clause-writes : goal.returns-then-over-clause-writes
returns-then-over-clause-writes g c = λ sc told is hold.
    subst (λ (b : Bool). Writes g.K.Sink.held g.K.Sink.faults c.args.output.now c.write_frame.new.output c.write_frame.result
    (if b then frame_text sc c.args.ports.now.frame (value_found c.args.query.now.asked.now told) else []))
    (sym c.if-over.true) (c.write_frame.ensures.writes sc told is hold)
