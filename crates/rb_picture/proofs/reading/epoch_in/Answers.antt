use Rattle.std.proofs.Common.{◌∙◌, arith}
use Rattle.rb_picture.proofs.Parts.{part_is}
use Rattle.rb_picture.specs.declared.line.Line.TheVariants as line
use Rattle.rb_picture.proofs.reading.epoch_in.Goals as goal

pub returns : goal.returns
returns c l fits is =
    c.epoch_of.ensures l
    (c.u32_in.ensures l.frame fits.frame_fits (c.second_field.ensures ∙ part_is 1 c.args.text.now (line.Epoch l) fits (omega arith) is))
    (c.node_in.ensures l.node fits.node_fits (c.third_field.ensures ∙ part_is 2 c.args.text.now (line.Epoch l) fits (omega arith) is))
    (c.u64_in.ensures l.tick fits.tick_fits (c.fourth_field.ensures ∙ part_is 3 c.args.text.now (line.Epoch l) fits (omega arith) is))
    (c.u64_in-2.ensures l.time fits.time_fits (c.fifth_field.ensures ∙ part_is 4 c.args.text.now (line.Epoch l) fits (omega arith) is))
