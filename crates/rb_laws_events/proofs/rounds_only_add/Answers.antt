use Rattle.rb_rules.proofs.Books.{moments-on}
use Rattle.rb_laws_events.proofs.rounds_only_add.Goals as goal

pub returns : goal.returns
returns c = λ sc hands n k. ((moments-on sc hands n k).more, (moments-on sc hands n k).over)
