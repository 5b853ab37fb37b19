use Rattle.std.proofs.{Common.{subst, rules}, lemmas.Result.{on_err_weaker, on_ok_weaker}}
use Rattle.std.specs.Io.KnownBytes.{Appends}
use Rattle.rb_base.proofs.Plain.{on_err}
use Rattle.rb_world_book.specs.Records.{record_of}
use Rattle.rb_outside.specs.Bytes.{AppendsPart}
use Rattle.rb_outside.proofs.Known.{appends_join, part_join, part_widens}
use Rattle.rb_group.specs.Portions.{port_deliveries}
use Rattle.rb_group_run.proofs.Texts.{turn_all}
use Rattle.rb_group_run.proofs.report.write_turn.Goals as goal

pub returns-in_err-write_if_over-clause-writes : goal.returns-in_err-write_if_over-clause-writes
returns-in_err-write_if_over-clause-writes g c = λ sc records is hold. record {
  all = search rules;
  part = on_err _ (subst (λ t. AppendsPart (g.K.Sink.held c.args.output.now) (g.K.Sink.held c.write_if_over.new.output) t)
      (turn_all sc c.args.query.now.asked.now records c.args.ports.now (record_of c.args.turn.now) c.args.query.now.scope.now.frames c.frame_or.result is.frames_are c.frame_or.ensures hold)
      (part_widens _ _ _ _ (c.in_err-write_if_over.ensures.writes sc (λ i. port_deliveries c.args.ports.now.frame i records) is hold.groups_hold).part));
  cause = search rules;
}

pub returns-clause-writes : goal.returns-clause-writes
returns-clause-writes g c = λ sc records is hold.
    let before = (c.in_ok-write_if_over.ensures.writes sc (λ i. port_deliveries c.args.ports.now.frame i records) is hold.groups_hold).all in
    let is_text = turn_all sc c.args.query.now.asked.now records c.args.ports.now (record_of c.args.turn.now) c.args.query.now.scope.now.frames c.frame_or.result is.frames_are c.frame_or.ensures hold in
    record {
      all = on_ok_weaker c.write_ending.result (λ now. subst (λ t. Appends (g.K.Sink.held c.args.output.now) (g.K.Sink.held c.write_ending.new.output) t)
          is_text (appends_join _ _ _ _ _ before now)) c.write_ending.ensures.all;
      part = on_err_weaker c.write_ending.result (λ now. subst (λ t. AppendsPart (g.K.Sink.held c.args.output.now) (g.K.Sink.held c.write_ending.new.output) t)
          is_text (part_join _ _ _ _ _ before now)) c.write_ending.ensures.part;
      cause = search rules;
    }
