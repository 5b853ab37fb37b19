use Rattle.std.proofs.Common.{refl}
use Rattle.rb_long_run.proofs.Histories.{none-heard}
use Rattle.rb_long_run.proofs.letters.Letters.new.Goals as goal

pub returns : goal.returns
returns c = record { block = refl; heard = rw c.new.ensures none-heard }
