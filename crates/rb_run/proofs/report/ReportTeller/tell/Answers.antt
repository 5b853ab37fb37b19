use Rattle.std.proofs.Common.{rules, ◌++◌, ap, sym, ◌∙◌}
use Rattle.rb_base.proofs.Plain.{on_err}
use Rattle.rb_world_book.specs.Records.{record_of}
use Rattle.rb_report.specs.Texts.{report_of}
use Rattle.rb_run.specs.Reports.{newest_with, turn_text}
use Rattle.rb_run.proofs.Texts.{newest-with, text-with}
use Rattle.rb_run.proofs.report.ReportTeller.tell.Goals as goal

pub returns-in_err-write_turn-clause-written : goal.returns-in_err-write_turn-clause-written
returns-in_err-write_turn-clause-written g c = λ sc records told. record {
  more = turn_text c.args.self.now.newest (record_of c.args.turn.now);
  adds = text-with 0 records (record_of c.args.turn.now) ∙ ap (λ n. report_of records ++ turn_text n (record_of c.args.turn.now)) (sym told);
  written = record { all = search rules; part = on_err _ c.in_err-write_turn.ensures.part; cause = search rules };
}

pub returns-clause-written : goal.returns-clause-written
returns-clause-written g c = λ sc records told. record {
  more = turn_text c.args.self.now.newest (record_of c.args.turn.now);
  adds = text-with 0 records (record_of c.args.turn.now) ∙ ap (λ n. report_of records ++ turn_text n (record_of c.args.turn.now)) (sym told);
  written = c.in_ok-write_turn.ensures;
}

pub returns-clause-told : goal.returns-clause-told
returns-clause-told g c = λ sc records told.
    c.newest_block-self.ensures ∙ ap (λ n. newest_with n (record_of c.args.turn.now)) told ∙ sym (newest-with 0 records (record_of c.args.turn.now))
