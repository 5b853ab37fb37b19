use Rattle.rb_laws_agreement.proofs.SlotLaws.{none_convicted}
use Rattle.rb_laws_agreement.proofs.no_good_node_is_convicted.Goals as goal

pub returns : goal.returns
returns c = none_convicted
