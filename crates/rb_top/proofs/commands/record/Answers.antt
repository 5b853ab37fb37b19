use Rattle.std.proofs.{Common.{◌∙◌, subst, sym}, lemmas.Bool.false≢true}
use Rattle.rb_scenario_entries.specs.declared.refusal.Refusal.TheVariants.{NoSuchNode}
use Rattle.rb_run.specs.Seen.{sink_over}
use Rattle.rb_program.proofs.Statuses.{is_memory}
use Rattle.rb_program.specs.Outside.{RefusesWith}
use Rattle.rb_top.proofs.{CommandAnswers.{lack_answers, lacks_node, log_answers, neither_is_silent, none_answers, record_reads}, Completeness.record_sound, Called.answers_alone}
use Rattle.rb_top.specs.{Inputs.rule_text, Serving.Logs, Commands.record_command, declared.form.Form.TheVariants.Record}
use Rattle.rb_top.proofs.commands.record.Goals as goal

pub returns-in-Err-clause-answers : goal.returns-in-Err-clause-answers
returns-in-Err-clause-answers g c =
    answers_alone (Record c.args.node) (record_sound c.args.node) _ _ _
    (λ is_plain told. none_answers (record_command c.args.node) (record_reads c.args.node) c.in-Err.status _ _ is_plain told c.in-Err.ensures.none)

pub returns-then-not-has_node-clause-answers : goal.returns-then-not-has_node-clause-answers
returns-then-not-has_node-clause-answers g c =
    answers_alone (Record c.args.node) (record_sound c.args.node) _ _ _
    (λ is_plain told.
    let P : g.row.K.Denot → Type 0 = λ k. RefusesWith (rule_text NoSuchNode) c.refuse.result (sink_over g.K.Sink.held g.K.Sink.faults k c.refuse.new.output) in
    lack_answers (record_command c.args.node) c.in-Ok.scenario (rule_text NoSuchNode) c.refuse.result _ _ is_plain told (record_reads c.args.node)
    (lacks_node c.in-Ok.scenario c.args.node (λ there. false≢true (sym c.if-not-has_node.true ∙ c.has_node.ensures.1 there))) c.in-Ok.ensures.scenario
    (subst P c.in-Ok.ensures.unwritten c.refuse.ensures))

pub returns-then-not-has_node-clause-unwritten : goal.returns-then-not-has_node-clause-unwritten
returns-then-not-has_node-clause-unwritten g c = λ h. absurd (neither_is_silent c.refuse.result c.refuse.ensures.either h)

pub returns-clause-answers : goal.returns-clause-answers
returns-clause-answers g c =
    answers_alone (Record c.args.node) (record_sound c.args.node) _ _ _
    (λ is_plain told.
    let P : g.row.K.Denot → Type 0 = λ k. Logs c.in-Ok.scenario c.args.node c.write_log.result (sink_over g.K.Sink.held g.K.Sink.faults k c.write_log.new.output) in
    log_answers c.in-Ok.scenario c.args.node c.write_log.result _ _ is_plain told (c.has_node.ensures.0 c.if-not-has_node.false) c.in-Ok.ensures.scenario
    (subst P c.in-Ok.ensures.unwritten c.write_log.ensures.logs))

pub returns-clause-unwritten : goal.returns-clause-unwritten
returns-clause-unwritten g c = λ h. c.write_log.ensures.unopened (is_memory c.write_log.result c.write_log.ensures.logs.one_of h) ∙ c.in-Ok.ensures.unwritten
