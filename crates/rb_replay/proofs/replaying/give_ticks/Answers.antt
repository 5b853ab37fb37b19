use Rattle.std.proofs.Common.{◌+◌, rules}
use Rattle.rb_base.specs.Nodes.{side_of}
use Rattle.rb_base.proofs.Plain.{on_err}
use Rattle.rb_replay.specs.Replaying.{IsDue}
use Rattle.rb_replay.proofs.{ActsDue.{tick-advances, tick-part}, Advanced.advances-so}
use Rattle.rb_replay.proofs.replaying.give_ticks.Goals as goal

pub returns-clause-gives : goal.returns-clause-gives
returns-clause-gives g c = λ frames due d. record {
  advances =
      advances-so (IsDue (side_of g.K.Kind.CODE) c.give_tick.new.node c.args.name (frames + c.in_ok-begun.begun) c.args.log.now.events)
      (IsDue (side_of g.K.Kind.CODE) c.pass_quiet.new.node c.args.name (frames + c.in_ok-begun.begun) c.pass_quiet.new.log.events) _ _ _
      (λ rest. c.pass_quiet.ensures.due c.args.name _ rest)
      (tick-advances (side_of g.K.Kind.CODE) c.args.node.now c.give_tick.new.node c.args.name frames c.in_ok-begun.begun c.args.word c.args.log.now.events due _ _ c.in_ok-begun.ensures.same
      (λ k is. (c.in_ok-begun.ensures.told k is).core) (λ k is. (c.in_ok-begun.ensures.told k is).begun) (λ k is. (c.in_ok-begun.ensures.told k is).written.all) d);
  part = search rules;
}

pub returns-in_err-begun-clause-gives : goal.returns-in_err-begun-clause-gives
returns-in_err-begun-clause-gives g c = λ frames due d. record {
  advances = search rules;
  part = on_err c.from_residual.result
      (tick-part (side_of g.K.Kind.CODE) c.args.node.now c.args.name frames c.args.word c.args.log.now.events due _ _ (λ k is. (c.in_err-begun.ensures.told k is).written.part) d);
}
