use Rattle.rb_laws_letters.proofs.Readings.{words-give}
use Rattle.rb_laws_letters.proofs.words_give_their_letters.Goals as goal

pub returns : goal.returns
returns c = words-give
