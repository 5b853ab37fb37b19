use Rattle.std.proofs.Common.{sym, ◌∙◌, arith}
use Rattle.rb_long.proofs.Words.{part-is}
use Rattle.rb_long.proofs.sender.word_at.Goals as goal

pub returns-else-sent-eq0 : goal.returns-else-sent-eq0
returns-else-sent-eq0 c =
    let some = c.if-sent-eq0.false in
    c.part_at.ensures ∙ sym (part-is c.args.letter.now _ c.args.sent (omega (arith, some)) c.requires.more)
