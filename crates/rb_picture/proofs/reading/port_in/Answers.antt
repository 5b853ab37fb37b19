use Rattle.std.proofs.Common.{◌∙◌, arith}
use Rattle.rb_picture.proofs.Parts.{part_is}
use Rattle.rb_picture.specs.declared.line.Line.TheVariants as line
use Rattle.rb_picture.proofs.reading.port_in.Goals as goal

pub returns : goal.returns
returns c l fits is =
    c.port_of.ensures l
    (c.u32_in.ensures l.frame fits.frame_fits (c.second_field.ensures ∙ part_is 1 c.args.text.now (line.Port l) fits (omega arith) is))
    (c.biu_in.ensures.found l.biu fits.biu_fits (c.third_field.ensures ∙ part_is 2 c.args.text.now (line.Port l) fits (omega arith) is))
    (c.u64_in.ensures l.state fits.state_fits (c.fourth_field.ensures ∙ part_is 3 c.args.text.now (line.Port l) fits (omega arith) is))
    (c.u8_in.ensures l.losses fits.losses_fit (c.fifth_field.ensures ∙ part_is 4 c.args.text.now (line.Port l) fits (omega arith) is))
