use Rattle.rb_laws_agreement.proofs.Convicting.{unheard}
use Rattle.rb_laws_agreement.proofs.unheard_nodes_have_no_vector.Goals as goal

pub returns : goal.returns
returns c = unheard
