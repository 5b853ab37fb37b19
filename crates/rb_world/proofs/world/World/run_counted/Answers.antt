use Rattle.std.proofs.Common.{arith, refl, ◌∙◌}
use Rattle.rb_world.specs.Nexts.{after_steps}
use Rattle.rb_world.proofs.NextRecord.{last-step, more-steps, no-steps, not-so-many, some-record}
use Rattle.rb_world.proofs.world.World.run_counted.Goals as goal

pub loop-passed-init : goal.loop-passed-init
loop-passed-init g c = record { is_quiet = c.requires.quiet; bus = refl; quiet = λ w is. no-steps c.args.ties c.args.draws.now.state c.args.self.now w is }

pub returns-in-loop-passed : goal.returns-in-loop-passed
returns-in-loop-passed g c = record {
  world = λ w is.
      let steps = c.loop-passed.invariant.quiet w is in
      last-step c.loop-passed.passed c.args.ties c.args.draws.now.state c.loop-passed.draws.state c.step_counted.new.draws.state c.args.self.now c.loop-passed.self
      c.step_counted.new.self c.step_counted.new.turn w steps c.loop-passed.invariant.bus
      (c.step_counted.ensures.world (after_steps c.args.self.now.bus c.args.ties c.loop-passed.passed (record { world = w; draws = c.args.draws.now.state })).world steps.stands)
      (some-record c.step_counted.new.turn c.in_default.not-Quiet);
  bus = c.step_counted.ensures.bus ∙ c.loop-passed.invariant.bus;
}

pub loop-passed-preserved : goal.loop-passed-preserved
loop-passed-preserved g c = record {
  is_quiet = c.in-Quiet.is;
  bus = c.step_counted.ensures.bus ∙ c.loop-passed.invariant.bus;
  quiet = λ w is.
      let steps = c.loop-passed.invariant.quiet w is in
      more-steps c.loop-passed.passed c.args.ties c.args.draws.now.state c.loop-passed.draws.state c.step_counted.new.draws.state c.args.self.now c.loop-passed.self
      c.step_counted.new.self c.step_counted.new.turn w steps c.loop-passed.invariant.bus
      (c.step_counted.ensures.world (after_steps c.args.self.now.bus c.args.ties c.loop-passed.passed (record { world = w; draws = c.args.draws.now.state })).world steps.stands)
      c.in-Quiet.is;
}

pub unreachable-requires : goal.unreachable-requires
unreachable-requires g c =
    let few = not-so-many c.loop-passed.passed c.args.ties c.args.draws.now.state c.loop-passed.draws.state c.args.self.now c.loop-passed.self c.requires.stands.0 c.requires.stands.1
    (c.loop-passed.invariant.quiet c.requires.stands.0 c.requires.stands.1) in
    let many = c.loop-passed-test.false in
    absurd (omega (arith, few, many))
