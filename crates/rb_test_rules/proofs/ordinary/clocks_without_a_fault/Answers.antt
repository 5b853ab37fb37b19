use Rattle.std.proofs.Common.{refl}
use Rattle.rb_base.specs.Nodes.{set_of, set_below, size}
use Rattle.rb_rules.specs.{Book.{with_stage, with_frame}, Conviction.{turn, convicted_by}, ExactStage.{close_exact, outcome_of}, Hearing.{sending, heard_from, row_of}, Judging.{classes_of, verdict_of}, Links.delay_of, Rounds.{sent_in, close_on, go_through, results_of, after_window, begin_frame, step}, Spelling.message_in, SyncStage.{close_sync, sync_outcome_of}}
use Rattle.rb_test_rules.proofs.ordinary.clocks_without_a_fault.Goals as goal

pub returns-clause-slow_calls : goal.returns-clause-slow_calls
unfolding set_of set_below message_in close_exact outcome_of close_sync sync_outcome_of turn convicted_by classes_of verdict_of size delay_of with_stage with_frame sending heard_from row_of sent_in close_on go_through results_of after_window begin_frame step
returns-clause-slow_calls c = refl
