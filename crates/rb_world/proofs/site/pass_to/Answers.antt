use Rattle.std.proofs.Common.{◌+◌, ◌-◌}
use Rattle.rb_rules.specs.Core.{pass_to}
use Rattle.rb_world.proofs.site.pass_to.Goals as goal

pub returns-then-had-k-clause-stands : goal.returns-then-had-k-clause-stands
returns-then-had-k-clause-stands g c =
    let d = c.had-had.ensures.stands in
    (pass_to (c.args.node.now.had + (c.args.k - c.had-had.result)) d.0, c.pass.ensures.counted d.0 d.1)
