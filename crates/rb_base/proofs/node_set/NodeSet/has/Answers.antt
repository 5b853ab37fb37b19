use Rattle.std.proofs.{Common.{◌∙◌, sym, arith}, lemmas.Bool.le-ltb}
use Rattle.rb_base.proofs.Sets.{has_above}
use Rattle.rb_base.proofs.node_set.NodeSet.has.Goals as goal

pub returns-else-index-lt16 : goal.returns-else-index-lt16
returns-else-index-lt16 g c = rw (← c.self.view_is) (le-ltb c.args.index 16 c.if-index-lt16.false ∙ sym (has_above c.self.inside.bits c.args.index (omega arith) c.if-index-lt16.false))
