use Rattle.rb_laws_letters.proofs.Readings.{letters-read}
use Rattle.rb_laws_letters.proofs.letters_are_read.Goals as goal

pub returns : goal.returns
returns c = letters-read
