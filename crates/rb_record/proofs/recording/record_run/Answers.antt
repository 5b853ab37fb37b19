use Rattle.std.proofs.Common.{refl, sym, ◌∙◌, arith}
use Rattle.std.specs.Prelude.{IsErr, IsOk}
use Rattle.rb_run.specs.Runs.{EndsWith}
use Rattle.rb_record.proofs.{Ends.few-going, Observed.{cause-err, cause-ok, comes-to-end, comes-to-next, ends-with, goes-further, is-err, is-ok, none-yet, part-then}, Writing.if-err}
use Rattle.rb_record.proofs.recording.record_run.Goals as goal

pub loop-passed-init : goal.loop-passed-init
loop-passed-init g c = record {
  recorded =
      none-yet c.args.world.now.bus c.args.node c.args.world.now c.args.recorder.now.log c.args.recorder.now.waiting (g.K.Sink.held c.args.recorder.now.output.now) refl
      c.requires.begin c.requires.log c.requires.waiting;
  written = c.requires.written;
  frames = c.requires.frames;
  later = omega arith;
  same_output = refl;
  bus = refl;
}

pub returns-in_err-settle : goal.returns-in_err-settle
returns-in_err-settle g c =
    let next =
    comes-to-next g.K.Sink.held g.K.Sink.faults c.args.world.now.bus c.args.node c.loop-passed.passed c.loop-passed.recorder c.next_observed-turn.new.observer c.settle.new.self c.loop-passed.world
    c.next_observed-turn.new.self c.next_observed-turn.result (g.K.Sink.held c.args.recorder.now.output.now) c.loop-passed.invariant.bus c.loop-passed.invariant.recorded
    c.loop-passed.invariant.frames c.loop-passed.invariant.written c.next_observed-turn.ensures.bus c.next_observed-turn.ensures.told c.settle.ensures.settles in
    let failed : IsErr c.settle.new.self.written = is-err c.settle.new.self.written _ c.in_err-settle.ensures.told in
    record {
      recorded = part-then g.K.Sink.held g.K.Sink.faults c.args.world.now.bus c.args.node c.loop-passed.passed c.loop-passed.recorder c.settle.new.self
          c.next_observed-turn.new.self c.next_observed-turn.result (g.K.Sink.held c.args.recorder.now.output.now) c.from_residual.result next failed c.from_residual.ensures.0;
      ending = if-err (EndsWith c.args.world.now.bus) c.from_residual.result c.from_residual.ensures.0;
      cause = cause-err (g.K.Sink.faults c.args.recorder.now.output.now) (g.K.Sink.faults c.loop-passed.recorder.output.now) (g.K.Sink.faults c.settle.new.self.output.now)
          c.settle.new.self.written c.from_residual.result c.loop-passed.invariant.later failed next.cause;
      same_output = next.same_output ∙ c.loop-passed.invariant.same_output;
      bus = c.next_observed-turn.ensures.bus ∙ c.loop-passed.invariant.bus;
    }

pub returns-in-Some : goal.returns-in-Some
returns-in-Some g c =
    let next =
    comes-to-next g.K.Sink.held g.K.Sink.faults c.args.world.now.bus c.args.node c.loop-passed.passed c.loop-passed.recorder c.next_observed-turn.new.observer c.settle.new.self c.loop-passed.world
    c.next_observed-turn.new.self c.next_observed-turn.result (g.K.Sink.held c.args.recorder.now.output.now) c.loop-passed.invariant.bus c.loop-passed.invariant.recorded
    c.loop-passed.invariant.frames c.loop-passed.invariant.written c.next_observed-turn.ensures.bus c.next_observed-turn.ensures.told c.settle.ensures.settles in
    let well : IsOk c.settle.new.self.written = is-ok c.settle.new.self.written _ c.in_ok-settle.ensures.told in
    record {
      recorded = comes-to-end g.K.Sink.held g.K.Sink.faults c.args.world.now.bus c.args.node c.loop-passed.passed c.loop-passed.recorder c.settle.new.self
          c.next_observed-turn.new.self c.next_observed-turn.result c.in-Some.ending (g.K.Sink.held c.args.recorder.now.output.now) next well (sym c.ending_at.ensures ∙ c.in-Some.is);
      ending = ends-with g.K.Sink.held g.K.Sink.faults c.args.world.now.bus c.args.node c.loop-passed.passed c.loop-passed.recorder c.settle.new.self
          c.next_observed-turn.new.self c.next_observed-turn.result c.in-Some.ending (g.K.Sink.held c.args.recorder.now.output.now) next (sym c.ending_at.ensures ∙ c.in-Some.is);
      cause = cause-ok (g.K.Sink.faults c.args.recorder.now.output.now) (g.K.Sink.faults c.loop-passed.recorder.output.now) (g.K.Sink.faults c.settle.new.self.output.now)
          c.settle.new.self.written c.in-Some.ending c.loop-passed.invariant.later next.cause;
      same_output = next.same_output ∙ c.loop-passed.invariant.same_output;
      bus = c.next_observed-turn.ensures.bus ∙ c.loop-passed.invariant.bus;
    }

pub loop-passed-preserved : goal.loop-passed-preserved
loop-passed-preserved g c =
    let next =
    comes-to-next g.K.Sink.held g.K.Sink.faults c.args.world.now.bus c.args.node c.loop-passed.passed c.loop-passed.recorder c.next_observed-turn.new.observer c.settle.new.self c.loop-passed.world
    c.next_observed-turn.new.self c.next_observed-turn.result (g.K.Sink.held c.args.recorder.now.output.now) c.loop-passed.invariant.bus c.loop-passed.invariant.recorded
    c.loop-passed.invariant.frames c.loop-passed.invariant.written c.next_observed-turn.ensures.bus c.next_observed-turn.ensures.told c.settle.ensures.settles in
    let well : IsOk c.settle.new.self.written = is-ok c.settle.new.self.written _ c.in_ok-settle.ensures.told in
    let before = c.loop-passed.invariant.later in
    let more = next.cause.later in
    record {
      recorded = goes-further g.K.Sink.held g.K.Sink.faults c.args.world.now.bus c.args.node c.loop-passed.passed c.loop-passed.recorder c.settle.new.self
          c.next_observed-turn.new.self c.next_observed-turn.result (g.K.Sink.held c.args.recorder.now.output.now) next well (sym c.ending_at.ensures ∙ c.in_default.is);
      written = well;
      frames = next.frames;
      later = omega (arith, before, more);
      same_output = next.same_output ∙ c.loop-passed.invariant.same_output;
      bus = c.next_observed-turn.ensures.bus ∙ c.loop-passed.invariant.bus;
    }

pub unreachable-requires : goal.unreachable-requires
unreachable-requires g c =
    let is = c.loop-passed.invariant.recorded in
    let few = few-going c.args.world.now.bus is.steps c.requires.begin.lawful c.requires.begin.listed is.going in
    let many = is.many in
    let past = c.loop-passed-test.false in
    absurd (omega (arith, few, many, past))
