use Rattle.rb_laws_events.proofs.WorldBooks.{choose-on}
use Rattle.rb_laws_events.proofs.events_only_add.Goals as goal

pub returns : goal.returns
returns c = λ sc w choice. ((choose-on sc w choice).more, (choose-on sc w choice).over)
