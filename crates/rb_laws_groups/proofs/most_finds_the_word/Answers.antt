use Rattle.rb_laws_groups.proofs.Voted.{most-finds}
use Rattle.rb_laws_groups.proofs.most_finds_the_word.Goals as goal

pub returns : goal.returns
returns c = most-finds
