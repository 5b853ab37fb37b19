use Rattle.std.proofs.Common.{refl, ◌/◌, bit_xor}
use Rattle.rb_frame.proofs.Checks.{check_four}
use Rattle.rb_frame.proofs.spelling.check_of_four.Goals as goal

pub returns : goal.returns
returns c = check_four c.args.word (bit_xor c.args.word (c.args.word / 65536)) refl
