use Rattle.std.proofs.Common.{◌∷◌, ap, subst, rules}
use Rattle.rb_log.specs.Cursor.{shown}
use Rattle.rb_rules.specs.Core.{CoreEvent}
use Rattle.rb_replay.specs.ListeningOn.{IsDue}
use Rattle.rb_replay.proofs.HeedsDue.{arrival-advances}
use Rattle.rb_replay.proofs.overhearing.give.Goals as goal

pub returns-in-Tick-clause-gives : goal.returns-in-Tick-clause-gives
returns-in-Tick-clause-gives g c =
    λ begun due d. c.give_ticks.ensures.gives _ begun due
    (subst (λ (e : CoreEvent). IsDue c.args.listener.now c.args.name begun (e ∷ c.args.log.now.events) due) (ap shown c.in-Tick.is) d)

pub returns-in-Arrive-clause-gives : goal.returns-in-Arrive-clause-gives
returns-in-Arrive-clause-gives g c = λ begun due d. record {
  advances =
      arrival-advances c.args.listener.now c.arrive.new.self c.args.name begun c.in-Arrive.from c.in-Arrive.bytes.now c.args.log.now.events due _
      c.arrive.ensures.same c.arrive.ensures.had c.arrive.ensures.stands
      (subst (λ (e : CoreEvent). IsDue c.args.listener.now c.args.name begun (e ∷ c.args.log.now.events) due) (ap shown c.in-Arrive.is) d);
  part = search rules;
}
