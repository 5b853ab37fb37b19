use Rattle.std.specs.Option.{option_to_list}
use Rattle.std.proofs.Common.{rules, ◌++◌, ap, sym, subst, ◌∙◌}
use Rattle.rb_base.proofs.Plain.{on_err}
use Rattle.rb_world_book.specs.Records.{record_of}
use Rattle.rb_long.specs.Delivered.{deliveries_in}
use Rattle.rb_long_run.specs.{Hearing.{Hears, Open}, Letters.HasHeard, Reports.letters_report, Texts.turn_text}
use Rattle.rb_long_run.proofs.Texts.{hears-more, text-more}
use Rattle.rb_run.specs.Reports.{newest_with}
use Rattle.rb_run.proofs.Texts.{newest-with}
use Rattle.rb_long_run.proofs.letters.LettersTeller.tell.Goals as goal

pub returns-in_err-write_turn-clause-written : goal.returns-in_err-write_turn-clause-written
returns-in_err-write_turn-clause-written g c = λ sc records told.
    let t : HasHeard records c.args.self.now = told in
    let o = record_of c.args.turn.now in
    record {
      more = turn_text c.args.self.now.newest c.args.self.now.receivers o;
      adds =
          text-more records o c.args.self.now.receivers t.heard
          ∙ ap (λ n. letters_report records ++ turn_text n c.args.self.now.receivers o) (sym t.block);
      written = record { all = search rules; part = on_err _ c.in_err-write_turn.ensures.writes.part; cause = search rules };
    }

pub returns-clause-written : goal.returns-clause-written
returns-clause-written g c = λ sc records told.
    let t : HasHeard records c.args.self.now = told in
    let o = record_of c.args.turn.now in
    record {
      more = turn_text c.args.self.now.newest c.args.self.now.receivers o;
      adds =
          text-more records o c.args.self.now.receivers t.heard
          ∙ ap (λ n. letters_report records ++ turn_text n c.args.self.now.receivers o) (sym t.block);
      written = c.in_ok-write_turn.ensures.writes;
    }

pub returns-clause-told : goal.returns-clause-told
returns-clause-told g c = λ sc records told.
    let t : HasHeard records c.args.self.now = told in
    let o = record_of c.args.turn.now in
    record {
      block = c.newest_block-self.ensures ∙ ap (λ n. newest_with n o) t.block ∙ sym (newest-with 0 records o);
      heard = subst (λ (all : Open). Hears all (deliveries_in (records ++ option_to_list o))) (sym c.in_ok-write_turn.ensures.heard) (hears-more records o c.args.self.now.receivers t.heard);
    }
