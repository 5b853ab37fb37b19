use Rattle.std.proofs.Common.{◌∙◌, arith}
use Rattle.rb_base.proofs.Sets.{common_is}
use Rattle.rb_base.proofs.node_set.NodeSet.intersection.Goals as goal

pub returns : goal.returns
returns g c = rw (← c.self.view_is, ← c.other.view_is) (c.from_bits.ensures ∙ common_is c.self.inside.bits c.other.inside.bits (omega arith))
