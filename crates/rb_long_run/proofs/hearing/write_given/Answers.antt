use Rattle.std.proofs.Common.{rules, arith}
use Rattle.rb_base.proofs.Plain.{on_err}
use Rattle.rb_long_run.proofs.Heard.{heard-more, heard-part, open-more}
use Rattle.rb_long_run.proofs.hearing.write_given.Goals as goal

pub loop-line-preserved : goal.loop-line-preserved
loop-line-preserved g c = record {
  written = heard-more c.args.frame c.args.slot c.args.all.now c.loop-line.all c.args.lines.now c.loop-line.line-index _ _ _ _ _ (omega arith) c.loop-line.invariant.heard c.hear-letter.ensures.given c.loop-line.invariant.written c.in_ok-write_letter.ensures.all;
  heard = open-more c.args.all.now c.loop-line.all c.hear-letter.new.all c.args.lines.now c.loop-line.line-index _ (omega arith) c.loop-line.invariant.heard c.hear-letter.ensures.after;
  later = search rules;
}

pub returns-in_err-write_letter-clause-writes : goal.returns-in_err-write_letter-clause-writes
returns-in_err-write_letter-clause-writes g c = record {
  all = search rules;
  part =
      on_err _ (heard-part c.args.frame c.args.slot c.args.all.now c.loop-line.all c.args.lines.now c.loop-line.line-index _ _ _ _ _ (omega arith) c.loop-line.invariant.heard c.hear-letter.ensures.given c.loop-line.invariant.written c.in_err-write_letter.ensures.part);
  cause = search rules;
}
