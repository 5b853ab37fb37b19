use Rattle.rb_laws_listener_learns.proofs.TrueRecords.{records-true}
use Rattle.rb_laws_listener_learns.proofs.records_of_the_good_are_true.Goals as goal

pub returns : goal.returns
returns c = records-true
