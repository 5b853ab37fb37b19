use Rattle.std.proofs.Common.{◌≡◌, length, rules, arith, ◌∙◌}
use Rattle.rb_base.proofs.Plain.{on_err}
use Rattle.rb_long.specs.Spelling.{parts_in, spelling_of}
use Rattle.rb_report.specs.Report.{word_text}
use Rattle.rb_run.proofs.Lines.{lines-all, lines-more, lines-part}
use Rattle.rb_long_run.proofs.Words.{below-all, line-shows, part-shows, past-all, word-gone, word-is}
use Rattle.rb_long_run.proofs.spelling.write_spelling.Goals as goal

pub loop-sent-preserved : goal.loop-sent-preserved
loop-sent-preserved g c =
    let words = spelling_of c.args.letter.now in
    let many : c.div_ceil-sent-end.result ≡ parts_in (length c.args.letter.now) = omega (arith, c.div_ceil-sent-end.ensures) in
    let below = below-all c.args.letter.now c.loop-sent.sent c.div_ceil-sent-end.result many c.loop-sent-test.true in
    let word = word-is c.loop-sent.sent words c.loop-sent.sender c.next_word.result below c.loop-sent.invariant.waiting c.next_word.ensures.word in
    record {
      written = lines-more word_text words c.loop-sent.sent 0 _ _ _ below c.loop-sent.invariant.written
          (line-shows _ _ _ c.from.result _ c.word_line.ensures.bytes (c.from.ensures ∙ word) c.in_ok-write_line.ensures.all);
      waiting = word-gone c.loop-sent.sent words c.loop-sent.sender c.next_word.new.self below c.loop-sent.invariant.waiting c.next_word.ensures.rest;
      later = search rules;
    }

pub returns-in_err-write_line : goal.returns-in_err-write_line
returns-in_err-write_line g c = record {
  all = search rules;
  part =
      let words = spelling_of c.args.letter.now in
      let many : c.div_ceil-sent-end.result ≡ parts_in (length c.args.letter.now) = omega (arith, c.div_ceil-sent-end.ensures) in
      let below = below-all c.args.letter.now c.loop-sent.sent c.div_ceil-sent-end.result many c.loop-sent-test.true in
      let word = word-is c.loop-sent.sent words c.loop-sent.sender c.next_word.result below c.loop-sent.invariant.waiting c.next_word.ensures.word in
      on_err _ (lines-part word_text words c.loop-sent.sent 0 _ _ _ below c.loop-sent.invariant.written
      (part-shows _ _ _ c.from.result _ c.word_line.ensures.bytes (c.from.ensures ∙ word) c.in_err-write_line.ensures.part));
  cause = search rules;
}

pub returns : goal.returns
returns g c = record {
  all =
      let many : c.div_ceil-sent-end.result ≡ parts_in (length c.args.letter.now) = omega (arith, c.div_ceil-sent-end.ensures) in
      lines-all word_text (spelling_of c.args.letter.now) c.loop-sent.sent _ _ (past-all c.args.letter.now c.loop-sent.sent c.div_ceil-sent-end.result many c.loop-sent-test.false) c.loop-sent.invariant.written;
  part = search rules;
  cause = search rules;
}
