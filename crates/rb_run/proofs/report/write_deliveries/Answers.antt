use Rattle.std.proofs.Common.{◌≡◌, List, subst, rules, arith}
use Rattle.rb_base.proofs.Plain.{on_err}
use Rattle.rb_rules.specs.declared.record.SlotLine.{SlotLine}
use Rattle.rb_outside.specs.Bytes.{AppendsPart}
use Rattle.rb_report.specs.{Report.delivery_text, Texts.deliveries_text}
use Rattle.rb_run.proofs.Lines.{lines-more, lines-part}
use Rattle.rb_run.proofs.report.write_deliveries.Goals as goal

pub loop-line-preserved : goal.loop-line-preserved
loop-line-preserved g c = record {
  written = lines-more (λ (x : SlotLine). delivery_text c.args.slot.now.frame c.args.slot.now.slot x.receiver x.sender x.value) c.as_slice-line-items.result.now c.loop-line.line-index _ _ _ _ (omega arith) c.loop-line.invariant.written (rw c.delivery_line.ensures.bytes at c.in_ok-write_line.ensures.all);
  later = search rules;
}

pub returns-in_err-write_line : goal.returns-in_err-write_line
returns-in_err-write_line g c = record {
  all = search rules;
  part =
      let is : c.as_slice-line-items.result.now ≡ c.args.slot.now.lines.items = c.as_slice-line-items.ensures.value in
      on_err _ (subst (λ (xs : List SlotLine). AppendsPart (g.K.Sink.held c.args.output.now) (g.K.Sink.held c.write_line.new.output) (deliveries_text c.args.slot.now.frame c.args.slot.now.slot xs)) is
      (lines-part (λ (x : SlotLine). delivery_text c.args.slot.now.frame c.args.slot.now.slot x.receiver x.sender x.value) c.as_slice-line-items.result.now c.loop-line.line-index _ _ _ _ (omega arith) c.loop-line.invariant.written (rw c.delivery_line.ensures.bytes at c.in_err-write_line.ensures.part)));
  cause = search rules;
}
