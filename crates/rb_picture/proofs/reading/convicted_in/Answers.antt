use Rattle.std.proofs.Common.{◌∙◌, arith}
use Rattle.rb_picture.proofs.Parts.{part_is}
use Rattle.rb_picture.specs.declared.line.Line.TheVariants as line
use Rattle.rb_picture.proofs.reading.convicted_in.Goals as goal

pub returns : goal.returns
returns c l fits is =
    c.convicted_of.ensures l
    (c.u32_in.ensures l.frame fits.frame_fits (c.second_field.ensures ∙ part_is 1 c.args.text.now (line.Convicted l) fits (omega arith) is))
    (c.node_in.ensures l.node fits.node_fits (c.third_field.ensures ∙ part_is 2 c.args.text.now (line.Convicted l) fits (omega arith) is))
    (c.u16_in.ensures l.biu fits.biu_fits (c.fourth_field.ensures ∙ part_is 3 c.args.text.now (line.Convicted l) fits (omega arith) is))
    (c.u16_in-2.ensures l.rmu fits.rmu_fits (c.fifth_field.ensures ∙ part_is 4 c.args.text.now (line.Convicted l) fits (omega arith) is))
