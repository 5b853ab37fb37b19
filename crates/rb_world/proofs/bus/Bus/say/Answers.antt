use Rattle.std.proofs.Common.{ap, arith}
use Rattle.std.specs.Prelude.{length}
use Rattle.rb_world_traffic.specs.Saying.{senders_to}
use Rattle.rb_world.specs.Buses.{KeptBus, scenario_of}
use Rattle.rb_world.proofs.{Calmness.says-so, Entries.entries-few}
use Rattle.rb_world.proofs.bus.Bus.say.Goals as goal

pub say-requires-clause-room : goal.say-requires-clause-room
say-requires-clause-room c =
    let says = c.self.inside.sayings.says in
    let few = entries-few c.args.node (senders_to c.self.inside.sayings.faults.sizes c.args.node) says in
    let same = ap (λ (b : KeptBus). length b.says) c.self.view_is in
    omega (arith, few, same, c.requires.spare)

pub returns-clause-lanes : goal.returns-clause-lanes
returns-clause-lanes c =
    (says-so c.self.inside.says _ (scenario_of c.args.self.now) c.self.inside.onsets c.self.inside.sayings c.self.inside.restless_biu c.self.inside.restless_rmu c.clock.result.now c.args.node c.args.span.now
    c.args.agenda.now c.say.new.agenda c.self.invariant (ap scenario_of c.self.view_is) c.clock.ensures c.say.ensures).0

pub returns-clause-world : goal.returns-clause-world
returns-clause-world c =
    (says-so c.self.inside.says _ (scenario_of c.args.self.now) c.self.inside.onsets c.self.inside.sayings c.self.inside.restless_biu c.self.inside.restless_rmu c.clock.result.now c.args.node c.args.span.now
    c.args.agenda.now c.say.new.agenda c.self.invariant (ap scenario_of c.self.view_is) c.clock.ensures c.say.ensures).1
