use Rattle.rb_laws_agreement.proofs.SlotLaws.{none_accused}
use Rattle.rb_laws_agreement.proofs.no_good_node_is_accused.Goals as goal

pub returns : goal.returns
returns c = none_accused
