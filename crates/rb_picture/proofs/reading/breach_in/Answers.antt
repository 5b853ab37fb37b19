use Rattle.std.proofs.Common.{◌∙◌, arith}
use Rattle.rb_picture.proofs.Parts.{part_is}
use Rattle.rb_picture.specs.declared.line.Line.TheVariants as line
use Rattle.rb_picture.proofs.reading.breach_in.Goals as goal

pub returns : goal.returns
returns c place cause fits is =
    c.breach_of.ensures place cause
    (c.u32_in.ensures place.frame fits.frame_fits (c.second_field.ensures ∙ part_is 1 c.args.text.now (line.Breach place cause) fits (omega arith) is))
    (c.u16_in.ensures place.slot fits.slot_fits (c.third_field.ensures ∙ part_is 2 c.args.text.now (line.Breach place cause) fits (omega arith) is))
    (c.u8_in.ensures place.stage fits.stage_fits (c.fourth_field.ensures ∙ part_is 3 c.args.text.now (line.Breach place cause) fits (omega arith) is))
    (c.cause_in.ensures cause (c.fifth_field.ensures ∙ part_is 4 c.args.text.now (line.Breach place cause) fits (omega arith) is))
