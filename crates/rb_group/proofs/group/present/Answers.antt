use Rattle.std.proofs.Common.{None, arith}
use Rattle.rb_group.proofs.Picked.{few_more, picked_more}
use Rattle.rb_group.proofs.group.present.Goals as goal

pub loop-value-preserved : goal.loop-value-preserved
loop-value-preserved c = record {
  few = few_more (λ v. v) _ c.loop-value.values.items c.add.new.values.items c.loop-value.value-index c.loop-value.invariant.few c.add.ensures;
  held = picked_more (λ v. v) c.args.kept.now c.loop-value.value-index _ c.loop-value.values.items c.add.new.values.items (omega arith) c.loop-value.invariant.held c.add.ensures;
}
