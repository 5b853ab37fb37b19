use Rattle.std.proofs.Common.{◌∙◌, arith}
use Rattle.rb_picture.proofs.Parts.{part_is}
use Rattle.rb_picture.specs.declared.line.Line.TheVariants as line
use Rattle.rb_picture.proofs.reading.delivery_in.Goals as goal

pub returns : goal.returns
returns c l fits is =
    c.delivery_of.ensures l
    (c.u32_in.ensures l.frame fits.frame_fits (c.second_field.ensures ∙ part_is 1 c.args.text.now (line.Delivery l) fits (omega arith) is))
    (c.u16_in.ensures l.slot fits.slot_fits (c.third_field.ensures ∙ part_is 2 c.args.text.now (line.Delivery l) fits (omega arith) is))
    (c.biu_in.ensures.found l.receiver fits.receiver_fits (c.fourth_field.ensures ∙ part_is 3 c.args.text.now (line.Delivery l) fits (omega arith) is))
    (c.biu_in-2.ensures.found l.sender fits.sender_fits (c.fifth_field.ensures ∙ part_is 4 c.args.text.now (line.Delivery l) fits (omega arith) is))
    (c.heard_in.ensures l.value fits.value_fits (c.sixth_field.ensures ∙ part_is 5 c.args.text.now (line.Delivery l) fits (omega arith) is))
