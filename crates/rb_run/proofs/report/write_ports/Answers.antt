use Rattle.std.proofs.Common.{rules, arith}
use Rattle.rb_base.proofs.Plain.{on_err}
use Rattle.rb_rules.specs.declared.record.PortLine.{PortLine}
use Rattle.rb_report.specs.Report.{port_text}
use Rattle.rb_run.proofs.Lines.{lines-more, lines-part}
use Rattle.rb_run.proofs.report.write_ports.Goals as goal

pub loop-port-preserved : goal.loop-port-preserved
loop-port-preserved g c = record {
  written = lines-more (λ (x : PortLine). port_text c.args.frame x.biu x.state x.losses) c.args.ports.now c.loop-port.port-index _ _ _ _ (omega arith) c.loop-port.invariant.written (rw c.port_line.ensures.bytes at c.in_ok-write_line.ensures.all);
  later = search rules;
}

pub returns-in_err-write_line : goal.returns-in_err-write_line
returns-in_err-write_line g c = record {
  all = search rules;
  part = on_err _ (lines-part (λ (x : PortLine). port_text c.args.frame x.biu x.state x.losses) c.args.ports.now c.loop-port.port-index _ _ _ _ (omega arith) c.loop-port.invariant.written (rw c.port_line.ensures.bytes at c.in_err-write_line.ensures.part));
  cause = search rules;
}
