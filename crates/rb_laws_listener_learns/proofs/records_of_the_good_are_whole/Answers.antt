use Rattle.rb_laws_listener_learns.proofs.Whole.{records-whole}
use Rattle.rb_laws_listener_learns.proofs.records_of_the_good_are_whole.Goals as goal

pub returns : goal.returns
returns c = records-whole
