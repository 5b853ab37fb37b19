use Rattle.std.proofs.Common.{◌∙◌, sym, arith, ap}
use Rattle.rb_base.specs.Nodes.{has, set_of}
use Rattle.rb_base.proofs.Sets.{set_of-has}
use Rattle.rb_slot.proofs.sender.each_of.Goals as goal

pub returns : goal.returns
returns g c = c.from_bits.ensures ∙ sym (set_of-has c.bits.result (omega arith)) ∙ ap (λ s. set_of (has s)) c.bits.ensures
