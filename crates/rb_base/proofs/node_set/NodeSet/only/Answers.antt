use Rattle.std.proofs.Common.{◌∙◌}
use Rattle.rb_base.proofs.Sets.{only_is}
use Rattle.rb_base.proofs.node_set.NodeSet.only.Goals as goal

pub returns : goal.returns
returns g c = rw (← c.index.ensures.value) (c.from_bits.ensures ∙ only_is c.index.result c.index.ensures.range)
