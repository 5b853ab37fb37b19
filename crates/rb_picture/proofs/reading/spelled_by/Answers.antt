use Rattle.std.proofs.Common.{ap, length, arith}
use Rattle.rb_picture.proofs.Parts.{front_of_line, text_some}
use Rattle.rb_picture.proofs.reading.spelled_by.Goals as goal

pub returns-in-Some-clause-each : goal.returns-in-Some-clause-each
returns-in-Some-clause-each c l fits is =
    c.checked.ensures.each l (c.line_of_text.ensures l fits (front_of_line c.args.bytes.now _ _ l c.in-Some.ensures.cases.0 is)) is

pub returns-in-None-clause-each : goal.returns-in-None-clause-each
returns-in-None-clause-each c l fits is = absurd (omega (arith, c.in-None.ensures.cases, ap length is, text_some l))
