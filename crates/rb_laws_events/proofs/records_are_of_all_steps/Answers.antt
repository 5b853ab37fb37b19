use Rattle.rb_rules.proofs.Books.{records-are}
use Rattle.rb_laws_events.proofs.records_are_of_all_steps.Goals as goal

pub returns : goal.returns
returns c = records-are
