use Rattle.std.proofs.Common.{[], ◌∙◌, subst, sym}
use Rattle.rb_scenario.specs.Acceptance.{as_scenario}
use Rattle.rb_run.specs.{Runs.{EndsWith, WritesAll}, Seen.drive_over}
use Rattle.rb_run.proofs.Opened.{just-opened}
use Rattle.rb_program.specs.Statuses.{HasEnded, IsOfRun}
use Rattle.rb_program.proofs.Statuses.{run_ends}
use Rattle.rb_top.proofs.running.tell.Goals as goal

pub tell_to_end-requires-clause-begun : goal.tell_to_end-requires-clause-begun
tell_to_end-requires-clause-begun g c = just-opened c.in-Ok.world (as_scenario c.args.scenario) c.in-Ok.ensures.stands

pub tell_to_end-requires-clause-fresh : goal.tell_to_end-requires-clause-fresh
tell_to_end-requires-clause-fresh g c = subst (λ sc. g.T.Teller.has_told c.args.teller.now sc []) (sym c.in-Ok.ensures.bus) c.requires.fresh

pub returns-in-Ok-tell_to_end-clause-reports : goal.returns-in-Ok-tell_to_end-clause-reports
returns-in-Ok-tell_to_end-clause-reports g c = record {
  ended = λ _. record {
    ends = record {
      ending = c.in-Ok-tell_to_end.ending;
      ends = subst (λ sc. EndsWith sc c.in-Ok-tell_to_end.ending) c.in-Ok.ensures.bus c.in-Ok-tell_to_end.ensures.ending;
      is = c.status_of.ensures;
    };
    written = subst (λ sc. WritesAll (g.T.Teller.says c.args.teller.now sc) sc (drive_over g.D.Drive.is_plain g.D.Drive.told c.args.drive.now c.tell_to_end.new.drive)
        (g.K.Sink.held c.args.output.now) (g.K.Sink.held c.tell_to_end.new.output)) c.in-Ok.ensures.bus c.in-Ok-tell_to_end.ensures.written.all;
  };
  part = λ e. absurd (subst HasEnded (sym c.status_of.ensures ∙ e) (run_ends c.in-Ok-tell_to_end.ending).1);
  cause = λ e. absurd (subst HasEnded (sym c.status_of.ensures ∙ e) (run_ends c.in-Ok-tell_to_end.ending).1);
  one_of = subst IsOfRun (sym c.status_of.ensures) (run_ends c.in-Ok-tell_to_end.ending).0;
}

pub returns-in-Ok-tell_to_end-clause-unopened : goal.returns-in-Ok-tell_to_end-clause-unopened
returns-in-Ok-tell_to_end-clause-unopened g c = λ e. absurd (subst HasEnded (sym c.status_of.ensures ∙ e) (run_ends c.in-Ok-tell_to_end.ending).1)
