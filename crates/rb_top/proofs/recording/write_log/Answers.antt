use Rattle.std.proofs.Common.{subst, sym, ◌∙◌, rules}
use Rattle.rb_rules.specs.{Goodness.Scenario, Lawful.IsNodeOf, WorldStep.first_world}
use Rattle.rb_world.specs.Worlds.{Stands}
use Rattle.rb_program.specs.Statuses.{HasEnded, IsOfRun}
use Rattle.rb_program.proofs.Statuses.{run_ends}
use Rattle.rb_top.proofs.recording.write_log.Goals as goal

pub record-requires-clause-begin : goal.record-requires-clause-begin
record-requires-clause-begin g c =
    let P : Scenario → Type 0 = λ sc. Stands c.in-Ok.world (first_world sc) in
    subst P (sym c.in-Ok.ensures.bus) c.in-Ok.ensures.stands

pub record-requires-clause-node : goal.record-requires-clause-node
record-requires-clause-node g c =
    let P : Scenario → Type 0 = λ sc. IsNodeOf sc.sizes c.args.node in
    subst P (sym c.in-Ok.ensures.bus) c.requires.node

pub returns-in-Ok-record-clause-logs : goal.returns-in-Ok-record-clause-logs
returns-in-Ok-record-clause-logs g c = record {
  ended = search rules;
  part = λ e. absurd (subst HasEnded (sym c.status_of.ensures ∙ e) (run_ends c.in-Ok-record.ending).1);
  cause = λ e. absurd (subst HasEnded (sym c.status_of.ensures ∙ e) (run_ends c.in-Ok-record.ending).1);
  one_of = subst IsOfRun (sym c.status_of.ensures) (run_ends c.in-Ok-record.ending).0;
}
