use Rattle.rb_gen.specs.Generated.{say_to}
use Rattle.rb_gen.proofs.Lists.{made_more}
use Rattle.rb_gen.proofs.generator.says_of.Goals as goal

pub loop-rmu-preserved : goal.loop-rmu-preserved
loop-rmu-preserved c =
    made_more (say_to c.args.frames) c.loop-rmu.rmu c.loop-rmu.says.items c.add.new.list.items c.say_to.result c.in_ok-add.ensures c.loop-rmu.invariant c.say_to.ensures
