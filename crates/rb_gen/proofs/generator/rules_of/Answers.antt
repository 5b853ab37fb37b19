use Rattle.rb_gen.specs.Generated.{rule_of}
use Rattle.rb_gen.proofs.Lists.{made_more}
use Rattle.rb_gen.proofs.generator.rules_of.Goals as goal

pub loop-link-preserved : goal.loop-link-preserved
loop-link-preserved c =
    made_more (rule_of c.args.drawn.now c.args.frames) c.loop-link.link c.loop-link.rules.items c.add.new.list.items c.rule_of.result c.in_ok-add.ensures c.loop-link.invariant c.rule_of.ensures
