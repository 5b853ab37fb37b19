use Rattle.rb_laws_agreement.proofs.SlotValues.{slots_have_values}
use Rattle.rb_laws_agreement.proofs.good_nodes_agree.Goals as goal

pub returns : goal.returns
returns c = slots_have_values
