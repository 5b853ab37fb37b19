use Rattle.std.proofs.Common.{rules, arith}
use Rattle.rb_base.proofs.Plain.{on_err}
use Rattle.rb_rules.specs.declared.record.NodeLine.{NodeLine}
use Rattle.rb_report.specs.Report.{convicted_text}
use Rattle.rb_run.proofs.Lines.{lines-more, lines-part}
use Rattle.rb_run.proofs.report.write_convicted.Goals as goal

pub loop-node-preserved : goal.loop-node-preserved
loop-node-preserved g c = record {
  written = lines-more (λ (x : NodeLine). convicted_text c.args.frame x.node x.biu x.rmu) c.args.nodes.now c.loop-node.node-index _ _ _ _ (omega arith) c.loop-node.invariant.written (rw c.convicted_line.ensures.bytes at c.in_ok-write_line.ensures.all);
  later = search rules;
}

pub returns-in_err-write_line : goal.returns-in_err-write_line
returns-in_err-write_line g c = record {
  all = search rules;
  part = on_err _ (lines-part (λ (x : NodeLine). convicted_text c.args.frame x.node x.biu x.rmu) c.args.nodes.now c.loop-node.node-index _ _ _ _ (omega arith) c.loop-node.invariant.written (rw c.convicted_line.ensures.bytes at c.in_err-write_line.ensures.part));
  cause = search rules;
}
