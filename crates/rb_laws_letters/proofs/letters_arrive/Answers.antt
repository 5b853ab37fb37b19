use Rattle.rb_laws_letters.proofs.Arrived.{letters-arrive}
use Rattle.rb_laws_letters.proofs.letters_arrive.Goals as goal

pub returns : goal.returns
returns c = letters-arrive
