use Rattle.std.proofs.{Common.{drop, ◌∙◌, arith, length-drop}, lemmas.List.take_all}
use Rattle.rb_frame.proofs.spelling.rest_of.Goals as goal

pub returns : goal.returns
returns c = c.copy_from_slice.ensures.after ∙ take_all 20 (drop 12 c.args.all.now) (omega (arith, length-drop 12 c.args.all.now, c.told-all))
