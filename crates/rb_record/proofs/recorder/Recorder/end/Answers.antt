use Rattle.std.proofs.{Common.{[], subst, sym, rules}, lemmas.Result.on_ok_weaker}
use Rattle.std.specs.Io.KnownBytes.{Appends}
use Rattle.rb_log.specs.Writing.{written}
use Rattle.rb_outside.proofs.Known.{appends_join, part_widens}
use Rattle.rb_record.specs.Buffering.{PassesOn}
use Rattle.rb_record.proofs.{Passing.part-after, Writing.{err-map, on-err}}
use Rattle.rb_record.proofs.recorder.Recorder.end.Goals as goal

pub returns-in_err-push-clause-writes : goal.returns-in_err-push-clause-writes
returns-in_err-push-clause-writes g c = record {
  all = search rules;
  part = on-err c.from_residual.result
      (part_widens (g.K.Sink.held c.args.self.now.output.now) (g.K.Sink.held c.push.new.output) c.args.self.now.waiting (written c.args.self.now.log.waiting []) c.in_err-push.ensures.part);
  cause = search rules;
}

pub returns-clause-writes : goal.returns-clause-writes
returns-clause-writes g c =
    let held = g.K.Sink.held c.args.self.now.output.now in
    let passed = subst (λ bytes. PassesOn c.args.self.now.waiting c.push.new.self bytes held (g.K.Sink.held c.push.new.output)) c.end.ensures c.in_ok-push.ensures.passes in
    record {
      all = on_ok_weaker c.flush.result (λ now. subst (Appends held (g.K.Sink.held c.flush.new.output)) (sym passed.split) (appends_join _ _ _ _ _ passed.text now))
          c.flush.ensures.all;
      part = err-map c.flush.result
          (part-after c.args.self.now.waiting c.push.new.self (written c.args.self.now.log.waiting []) held (g.K.Sink.held c.push.new.output) (g.K.Sink.held c.flush.new.output) passed)
          c.flush.ensures.part;
      cause = search rules;
    }
