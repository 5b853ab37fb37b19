use Rattle.rb_gen.specs.Generated.{clock_of}
use Rattle.rb_gen.proofs.Lists.{made_more}
use Rattle.rb_gen.proofs.generator.clocks_of.Goals as goal

pub loop-node-preserved : goal.loop-node-preserved
loop-node-preserved c =
    made_more (clock_of c.args.drawn.now) c.loop-node.node c.loop-node.clocks.items c.add.new.list.items c.in_ok-clock.clock c.in_ok-add.ensures c.loop-node.invariant c.in_ok-clock.ensures
