use Rattle.std.proofs.Common.{◌+◌, rules}
use Rattle.rb_base.proofs.Plain.{on_err}
use Rattle.rb_replay.specs.ListeningOn.{IsDue}
use Rattle.rb_replay.proofs.{Advanced.advances-so, HeedsDue.{tick-advances, tick-part}}
use Rattle.rb_replay.proofs.overhearing.give_ticks.Goals as goal

pub returns-clause-gives : goal.returns-clause-gives
returns-clause-gives g c = λ word begun due d. record {
  advances =
      advances-so (IsDue c.give_tick.new.listener c.args.name (begun + c.in_ok-begun.begun) c.args.log.now.events)
      (IsDue c.pass_quiet.new.listener c.args.name (begun + c.in_ok-begun.begun) c.pass_quiet.new.log.events) _ _ _
      (λ rest. c.pass_quiet.ensures.due c.args.name _ rest)
      (tick-advances c.args.listener.now c.give_tick.new.listener c.args.name begun c.in_ok-begun.begun word c.args.log.now.events due _ _ c.in_ok-begun.ensures.same
      (λ l is. (c.in_ok-begun.ensures.told l is).stands) (λ l is. (c.in_ok-begun.ensures.told l is).begun) (λ l is. (c.in_ok-begun.ensures.told l is).written.all) d);
  part = search rules;
}

pub returns-in_err-begun-clause-gives : goal.returns-in_err-begun-clause-gives
returns-in_err-begun-clause-gives g c = λ word begun due d. record {
  advances = search rules;
  part = on_err c.from_residual.result
      (tick-part c.args.listener.now c.args.name begun word c.args.log.now.events due _ _ (λ l is. (c.in_err-begun.ensures.told l is).written.part) d);
}
