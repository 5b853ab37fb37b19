use Rattle.std.proofs.Common.{List, arith, subst}
use Rattle.rb_rules.specs.Core.{CoreEvent}
use Rattle.rb_replay.specs.ListeningOn.{IsDue}
use Rattle.rb_replay.proofs.HeedsDue.{passes-due}
use Rattle.rb_replay.proofs.overhearing.pass_quiet.Goals as goal

pub returns-clause-due : goal.returns-clause-due
returns-clause-due c =
    λ name begun due d.
    passes-due c.args.listener.now c.pass.new.self name begun c.skip-passed.result c.skip-passed.new.self.events due c.pass.ensures.same
    c.pass.ensures.stands c.pass.ensures.quiet c.pass.ensures.had (omega (arith, c.quiet_ahead.ensures.most))
    (subst (λ (events : List CoreEvent). IsDue c.args.listener.now name begun events due) c.skip-passed.ensures.passed d)
