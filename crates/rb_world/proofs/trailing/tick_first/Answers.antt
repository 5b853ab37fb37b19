use Rattle.rb_rules.specs.{WorldStep.happens, WorldStep.Pending.Tick}
use Rattle.rb_world.specs.{Runs.nodes_of, Trailing.alone, Buses.scenario_of}
use Rattle.rb_world.proofs.{Behind.some-first, Running.tick-goes}
use Rattle.rb_world.proofs.trailing.tick_first.Goals as goal

pub take_first-node-requires : goal.take_first-node-requires
take_first-node-requires g c =
    let until = c.requires.may.0 in
    let w = c.requires.may.1 in
    let v = c.requires.may.2 in
    let some = some-first (scenario_of c.args.setup.now.bus.now) (nodes_of c.args.run.now) c.args.run.now.scene until w v c.requires.may.3 in
    record { may = (until, w, v, some.0, some.1.0, some.1.1.0, some.1.1.1) }

pub returns-clause-goes : goal.returns-clause-goes
returns-clause-goes g c = λ until w v may.
    let sc = scenario_of c.args.setup.now.bus.now in
    tick-goes sc (nodes_of c.args.run.now) (nodes_of c.take_first-node.new.run) c.args.run.now.scene c.take_first-node.new.run.scene until w v
    c.take_first-node.result.0 c.take_first-node.result.1 c.settle_into.new.self c.settle_into.new.turn may (
      λ me i a h. c.take_first-node.ensures.happens until w v me i a h,
      λ me i a h. c.settle_into.ensures.settled sc (happens sc (alone sc me i a v) (record { side = me; node = i; pending = Tick a.tick })) h.surrounds.book,
    )

pub returns-clause-small : goal.returns-clause-small
returns-clause-small g c =
    let until = c.requires.may.0 in
    let w = c.requires.may.1 in
    let v = c.requires.may.2 in
    let some = some-first (scenario_of c.args.setup.now.bus.now) (nodes_of c.args.run.now) c.args.run.now.scene until w v c.requires.may.3 in
    (c.take_first-node.ensures.happens until w v some.0 some.1.0 some.1.1.0 some.1.1.1).small

pub returns-clause-told : goal.returns-clause-told
returns-clause-told g c = λ name is until w v me i a h. c.take_first-node.ensures.told name is until w v me i a h
