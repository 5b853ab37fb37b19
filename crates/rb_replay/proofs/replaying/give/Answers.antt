use Rattle.std.proofs.Common.{◌∷◌, ap, subst, rules}
use Rattle.rb_base.specs.Nodes.{side_of}
use Rattle.rb_log.specs.Cursor.{shown}
use Rattle.rb_rules.specs.Core.{CoreEvent}
use Rattle.rb_replay.specs.Replaying.{IsDue}
use Rattle.rb_replay.proofs.ActsDue.{arrival-advances}
use Rattle.rb_replay.proofs.replaying.give.Goals as goal

pub returns-in-Tick-clause-gives : goal.returns-in-Tick-clause-gives
returns-in-Tick-clause-gives g c =
    λ frames due d. c.give_ticks.ensures.gives frames due
    (subst (λ (e : CoreEvent). IsDue (side_of g.K.Kind.CODE) c.args.node.now c.args.name frames (e ∷ c.args.log.now.events) due) (ap shown c.in-Tick.is) d)

pub returns-in-Arrive-clause-gives : goal.returns-in-Arrive-clause-gives
returns-in-Arrive-clause-gives g c = λ frames due d. record {
  advances =
      arrival-advances (side_of g.K.Kind.CODE) c.args.node.now c.arrive.new.self c.args.name frames c.in-Arrive.from c.in-Arrive.bytes.now c.args.log.now.events due _ c.arrive.ensures.rest c.arrive.ensures.core
      (subst (λ (e : CoreEvent). IsDue (side_of g.K.Kind.CODE) c.args.node.now c.args.name frames (e ∷ c.args.log.now.events) due) (ap shown c.in-Arrive.is) d);
  part = search rules;
}
