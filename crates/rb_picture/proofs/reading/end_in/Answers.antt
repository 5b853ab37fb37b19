use Rattle.std.proofs.Common.{◌≡◌, ◌∙◌, Some, arith}
use Rattle.rb_picture.proofs.Parts.{part_is}
use Rattle.rb_picture.specs.declared.line.Line.TheVariants as line
use Rattle.rb_picture.proofs.reading.end_in.Goals as goal

pub returns-in-Some : goal.returns-in-Some
returns-in-Some c frames fits is =
    let found : c.u32_in.result ≡ Some frames = c.u32_in.ensures frames fits (c.second_field.ensures ∙ part_is 1 c.args.text.now (line.End frames) fits (omega arith) is) in
    let some = c.in-Some.is in
    cc

pub returns-in-None : goal.returns-in-None
returns-in-None c frames fits is =
    let found : c.u32_in.result ≡ Some frames = c.u32_in.ensures frames fits (c.second_field.ensures ∙ part_is 1 c.args.text.now (line.End frames) fits (omega arith) is) in
    let none = c.in-None.is in
    absurd cc
