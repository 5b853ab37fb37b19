use Rattle.std.proofs.{Common.{◌∙◌, ℕ, subst, sym}, lemmas.Bool.false≢true}
use Rattle.rb_group_run.specs.Members.{AreMembers}
use Rattle.rb_scenario.specs.Acceptance.{as_scenario}
use Rattle.rb_run.specs.Seen.{drive_over, sink_over}
use Rattle.rb_program.proofs.Statuses.{is_memory, is_memory_only, never_both}
use Rattle.rb_program.specs.Outside.{RefusesWith}
use Rattle.rb_top.proofs.{CommandAnswers.{group_reads, group_tells, lack_answers, lacks_member, neither_ends, neither_is_silent, none_answers, report_answers}, Completeness.group_sound, Called.{answers_driven, drives_the_input}}
use Rattle.rb_top.specs.{Inputs.member_text, Serving.Reports, Texts.told_by_group, Commands.group_command, declared.form.Form.TheVariants.Group}
use Rattle.rb_top.proofs.commands.group.Goals as goal

pub returns-in-Err-clause-answers : goal.returns-in-Err-clause-answers
returns-in-Err-clause-answers g c = answers_driven (Group c.args.asked.now.which c.args.asked.now.members) (group_sound _ _) _ _ _ _ (none_answers (group_command c.args.asked.now.which c.args.asked.now.members) (group_reads c.args.asked.now.which c.args.asked.now.members) c.in-Err.status _ _ _ _ c.in-Err.ensures.none)

pub returns-in-Err-clause-driven : goal.returns-in-Err-clause-driven
returns-in-Err-clause-driven g c = λ h. absurd (never_both c.in-Err.status c.in-Err.ensures.none.one_of h)

pub returns-then-not-has_all-clause-answers : goal.returns-then-not-has_all-clause-answers
returns-then-not-has_all-clause-answers g c =
    let Q : ℕ → Type 0 = λ m. AreMembers c.in-Ok.scenario.plan.sizes m in
    let P : g.row.K.Denot → Type 0 = λ k. RefusesWith member_text c.refuse_member.result (sink_over g.K.Sink.held g.K.Sink.faults k c.refuse_member.new.output) in
    answers_driven (Group c.args.asked.now.which c.args.asked.now.members) (group_sound _ _) _ _ _ _
    (lack_answers (group_command c.args.asked.now.which c.args.asked.now.members) c.in-Ok.scenario member_text c.refuse_member.result _ _ _ _ (group_reads c.args.asked.now.which c.args.asked.now.members)
    (lacks_member c.in-Ok.scenario c.args.asked.now.which c.args.asked.now.members
    (λ there. false≢true (sym c.if-not-has_all.true ∙ c.has_all.ensures.1 (subst Q (sym c.bits.ensures) there)))) c.in-Ok.ensures.scenario
    (subst P c.in-Ok.ensures.unwritten c.refuse_member.ensures))

pub returns-then-not-has_all-clause-unwritten : goal.returns-then-not-has_all-clause-unwritten
returns-then-not-has_all-clause-unwritten g c = λ h. absurd (neither_is_silent c.refuse_member.result c.refuse_member.ensures.either h)

pub returns-then-not-has_all-clause-driven : goal.returns-then-not-has_all-clause-driven
returns-then-not-has_all-clause-driven g c = λ h. absurd (neither_ends c.refuse_member.result c.refuse_member.ensures.either h)

pub returns-clause-answers : goal.returns-clause-answers
returns-clause-answers g c =
    let P : g.row.K.Denot → Type 0 = λ k. Reports (told_by_group c.args.asked.now.which c.args.asked.now.members) c.in-Ok.scenario c.tell.result (sink_over g.K.Sink.held g.K.Sink.faults k c.tell.new.output)
    (drive_over g.D.Drive.is_plain g.D.Drive.told c.args.drive.now c.tell.new.drive) in
    answers_driven (Group c.args.asked.now.which c.args.asked.now.members) (group_sound _ _) _ _ _ _
    (report_answers (group_command c.args.asked.now.which c.args.asked.now.members) (told_by_group c.args.asked.now.which c.args.asked.now.members) c.in-Ok.scenario c.tell.result _ _ _ (group_tells c.in-Ok.scenario c.args.asked.now.which c.args.asked.now.members (subst (λ (m : ℕ). AreMembers c.in-Ok.scenario.plan.sizes m) c.bits.ensures (c.has_all.ensures.0 c.if-not-has_all.false))) c.in-Ok.ensures.scenario (subst P c.in-Ok.ensures.unwritten (rw c.new.ensures.query at c.tell.ensures.reports)))

pub returns-clause-unwritten : goal.returns-clause-unwritten
returns-clause-unwritten g c = λ h. (c.tell.ensures.unopened (is_memory c.tell.result c.tell.ensures.reports.one_of h)).0 ∙ c.in-Ok.ensures.unwritten

pub returns-clause-not_driven : goal.returns-clause-not_driven
returns-clause-not_driven g c = λ h. (c.tell.ensures.unopened (is_memory_only c.tell.result c.tell.ensures.reports.one_of h)).1

pub returns-clause-driven : goal.returns-clause-driven
returns-clause-driven g c = λ h. drives_the_input _ c.in-Ok.scenario c.in-Ok.ensures.scenario (c.tell.ensures.driven h)

pub tell-requires-clause-fresh : goal.tell-requires-clause-fresh
tell-requires-clause-fresh g c = rw c.new.ensures.query (c.new.ensures.fresh (as_scenario c.in-Ok.scenario) c.scope_of-scope.ensures)
