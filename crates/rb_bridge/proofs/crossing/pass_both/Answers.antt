use Rattle.rb_rules_bridge.specs.declared.bank.Bank.TheVariants.{Left, Right}
use Rattle.rb_bridge.specs.Crossing.{run_after}
use Rattle.rb_bridge.proofs.Told.{both-through, left-breaks}
use Rattle.rb_bridge.proofs.crossing.pass_both.Goals as goal

pub returns-in-Some-clause-through : goal.returns-in-Some-clause-through
returns-in-Some-clause-through g c = λ x.
    left-breaks (run_after x) c.args.frame c.pass.new.side c.args.right.now c.in-Some.breach c.breach_at.result x.bridge x.within x.plain
    (c.pass.ensures.passes x.b Left c.args.frame x.both x.left_told x.within x.bridge.frames x.plain.left x.ready.left) x.ready.right c.breach_at.ensures c.in-Some.is

pub returns-clause-through : goal.returns-clause-through
returns-clause-through g c = λ x.
    both-through (run_after x) c.args.frame c.pass.new.side c.pass-2.new.side c.breach_at.result c.breach_at-2.result x.bridge x.within x.plain
    (c.pass.ensures.passes x.b Left c.args.frame x.both x.left_told x.within x.bridge.frames x.plain.left x.ready.left)
    (c.pass-2.ensures.passes x.b Right c.args.frame x.both x.right_told x.within x.bridge.frames x.plain.right x.ready.right)
    c.breach_at.ensures c.in_default.is c.breach_at-2.ensures
