use Rattle.std.proofs.Common.{ap, arith}
use Rattle.rb_world_book.specs.Records.{record_of}
use Rattle.rb_world.specs.{Runs.nodes_of, Trailing.until_from, Buses.scenario_of}
use Rattle.rb_world.proofs.{Along.comes-quiet, NextRecord.some-record, Running.{along-first, comes-to, few-along}, ToldOn.{told-first, told-quiet, told-to-record}}
use Rattle.rb_world.proofs.trailing.run_ticks.Goals as goal

pub loop-passed-init : goal.loop-passed-init
loop-passed-init g c = record { is_quiet = c.requires.quiet; small = tt; goes = λ w d may. along-first (scenario_of c.args.setup.now.bus.now) (nodes_of c.args.run.now) c.args.run.now.scene w d may; told = λ name is node w d may. told-first _ g.T.Observer.observes name c.args.observer.now (scenario_of c.args.setup.now.bus.now) (nodes_of c.args.run.now) c.args.run.now.scene w d may node }

pub step_on-requires-clause-may : goal.step_on-requires-clause-may
step_on-requires-clause-may g c = (c.loop-passed.passed, c.requires.may.0, 0, c.loop-passed.invariant.goes c.requires.may.0 0 c.requires.may.1)

pub loop-passed-preserved : goal.loop-passed-preserved
loop-passed-preserved g c = record {
  is_quiet = c.in-Quiet.is;
  small = c.step_on.ensures.small;
  goes = λ w d may.
      comes-quiet (scenario_of c.args.setup.now.bus.now) (nodes_of c.step_on.new.run) c.step_on.new.run.scene (until_from c.step_on.new.tick) c.loop-passed.passed w d c.step_on.new.turn
      (c.step_on.ensures.comes c.loop-passed.passed w d (c.loop-passed.invariant.goes w d may)) (ap record_of c.in-Quiet.is);
  told = λ name is node w d may.
      told-quiet _ g.T.Observer.observes name c.args.observer.now c.step_on.new.observer (scenario_of c.args.setup.now.bus.now) (nodes_of c.step_on.new.run) c.step_on.new.run.scene (until_from c.step_on.new.tick) c.loop-passed.passed w d
      c.step_on.new.turn
      (c.step_on.ensures.told name is node c.args.observer.now c.loop-passed.passed w d (c.loop-passed.invariant.told name is node w d may)) (ap record_of c.in-Quiet.is);
}

pub catch_up-requires-clause-trails : goal.catch_up-requires-clause-trails
catch_up-requires-clause-trails g c =
    let it = c.step_on.ensures.comes c.loop-passed.passed c.requires.may.0 0 (c.loop-passed.invariant.goes c.requires.may.0 0 c.requires.may.1) in
    (it.now, it.back, it.trails)

pub returns-in-loop-passed-clause-comes : goal.returns-in-loop-passed-clause-comes
returns-in-loop-passed-clause-comes g c = λ w d may.
    let it = c.step_on.ensures.comes c.loop-passed.passed w d (c.loop-passed.invariant.goes w d may) in
    comes-to (scenario_of c.args.setup.now.bus.now) (nodes_of c.step_on.new.run) (nodes_of c.catch_up.new.run) c.step_on.new.run.scene c.catch_up.new.run.scene
    (until_from c.step_on.new.tick) c.loop-passed.passed w d c.step_on.new.turn it (some-record c.step_on.new.turn c.in_default.not-Quiet)
    (c.catch_up.ensures.caught it.now it.back it.trails)

pub returns-in-loop-passed-clause-told : goal.returns-in-loop-passed-clause-told
returns-in-loop-passed-clause-told g c = λ name is node w d may.
    let it = c.step_on.ensures.told name is node c.args.observer.now c.loop-passed.passed w d (c.loop-passed.invariant.told name is node w d may) in
    told-to-record _ g.T.Observer.observes name c.args.observer.now c.step_on.new.observer c.catch_up.new.observer (scenario_of c.args.setup.now.bus.now) (nodes_of c.step_on.new.run)
    (nodes_of c.catch_up.new.run) c.step_on.new.run.scene c.catch_up.new.run.scene (until_from c.step_on.new.tick) c.loop-passed.passed w d c.step_on.new.turn it
    (some-record c.step_on.new.turn c.in_default.not-Quiet) (c.catch_up.ensures.caught it.on.now it.on.back it.on.trails) (c.catch_up.ensures.told name is node it.on.now it.on.back it.on.trails)

pub unreachable-requires : goal.unreachable-requires
unreachable-requires g c =
    let few = few-along (scenario_of c.args.setup.now.bus.now) (nodes_of c.loop-passed.run) c.loop-passed.run.scene (until_from c.loop-passed.tick) c.loop-passed.passed c.requires.may.0 0 c.requires.may.1.trails.lawful c.requires.may.1.trails.listed
    c.requires.may.1.trails.reached (c.loop-passed.invariant.goes c.requires.may.0 0 c.requires.may.1) in
    let many = c.loop-passed-test.false in
    absurd (omega (arith, few, many))
