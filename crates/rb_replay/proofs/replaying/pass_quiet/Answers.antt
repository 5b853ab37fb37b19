use Rattle.std.proofs.Common.{◌+◌, ◌≡◌, List, arith, subst, ap}
use Rattle.rb_base.specs.Nodes.{side_of}
use Rattle.rb_rules.specs.Core.{CoreEvent}
use Rattle.rb_node.specs.Cores.{Running}
use Rattle.rb_replay.specs.Replaying.{IsDue}
use Rattle.rb_replay.proofs.ActsDue.{passes-due}
use Rattle.rb_replay.proofs.replaying.pass_quiet.Goals as goal

pub returns-clause-due : goal.returns-clause-due
returns-clause-due g c =
    λ name frames due d.
    passes-due (side_of g.K.Kind.CODE) c.args.node.now c.pass.new.self name frames c.skip-passed.result c.skip-passed.new.self.events due
    (omega (arith, c.quiet_ahead.ensures.most)) (omega (arith, c.quiet_ahead.ensures.passing)) (omega (arith, c.quiet_ahead.ensures.most)) c.pass.ensures.value c.pass.ensures.core
    (subst (λ (events : List CoreEvent). IsDue (side_of g.K.Kind.CODE) c.args.node.now name frames events due) c.skip-passed.ensures.passed d)

pub returns-clause-most : goal.returns-clause-most
returns-clause-most g c =
    let had : c.pass.new.self.had ≡ c.args.node.now.had + c.skip-passed.result = ap (λ (n : Running). n.had) c.pass.ensures.value in
    omega (arith, c.quiet_ahead.ensures.most)
