use Rattle.std.proofs.Common.{refl}
use Rattle.rb_base.specs.Nodes.{set_below, set_of, size}
use Rattle.rb_rules.specs.{Book.{with_frame, with_stage}, Conviction.{convicted_by, turn}, ExactStage.{close_exact, outcome_of}, Hearing.{heard_from, row_of, sending}, Judging.{classes_of, verdict_of}, Links.delay_of, Rounds.{after_window, begin_frame, close_on, go_through, results_of, sent_in, step}, Spelling.message_in, SyncStage.{close_sync, sync_outcome_of}}
use Rattle.rb_test_rules.specs.Receiver.{failing_rmu}
use Rattle.rb_test_rules.proofs.LawfulTests.{lawful_by_tests}
use Rattle.rb_test_rules.proofs.premises.a_failing_rmu.Goals as goal

pub returns-clause-lawful : goal.returns-clause-lawful
returns-clause-lawful c = lawful_by_tests failing_rmu refl

pub returns-clause-most_good : goal.returns-clause-most_good
unfolding set_of set_below size message_in close_exact outcome_of close_sync sync_outcome_of turn convicted_by classes_of verdict_of delay_of with_stage with_frame sending heard_from row_of sent_in close_on go_through results_of after_window begin_frame step
returns-clause-most_good c = refl

pub returns-clause-running : goal.returns-clause-running
unfolding set_of set_below size message_in close_exact outcome_of close_sync sync_outcome_of turn convicted_by classes_of verdict_of delay_of with_stage with_frame sending heard_from row_of sent_in close_on go_through results_of after_window begin_frame step
returns-clause-running c = refl

pub returns-clause-onset : goal.returns-clause-onset
returns-clause-onset c = refl
