use Rattle.rb_laws_agreement.proofs.Promises.{hold_the_same}
use Rattle.rb_laws_agreement.proofs.good_nodes_hold_one_schedule.Goals as goal

pub returns : goal.returns
returns c = hold_the_same
