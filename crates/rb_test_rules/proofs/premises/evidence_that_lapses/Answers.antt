use Rattle.std.proofs.Common.{[], unwrap_or, slice_get, refl, arith}
use Rattle.rb_base.specs.{Nodes.{set_of, set_below, size}, Nodes.Side.Rmu}
use Rattle.rb_rules.specs.{Book.{of_kind, with_stage, with_frame}, Conviction.{turn, convicted_by}, ExactStage.{close_exact, outcome_of}, Hearing.{sending, heard_from, row_of}, Judging.{classes_of, verdict_of}, Links.delay_of, NodeState.{NodeState, first_state}, Rounds.{moment, sent_in, close_on, go_through, results_of, after_window, begin_frame, step}, Spelling.message_in, SyncStage.{close_sync, sync_outcome_of}}
use Rattle.rb_test_rules.specs.Frames.{probation_passed}
use Rattle.rb_test_rules.proofs.LawfulTests.{lawful_by_tests}
use Rattle.rb_test_rules.proofs.premises.evidence_that_lapses.Goals as goal

-- RMU 0 before the stage
accuser : NodeState
accuser = unwrap_or (slice_get (of_kind Rmu (moment probation_passed [] 15).nodes) 0) (first_state probation_passed.sizes Rmu)

pub returns-clause-lawful : goal.returns-clause-lawful
returns-clause-lawful c = lawful_by_tests probation_passed refl

pub returns-clause-evidence : goal.returns-clause-evidence
unfolding accuser set_of set_below size message_in close_exact outcome_of close_sync sync_outcome_of turn convicted_by classes_of verdict_of delay_of with_stage with_frame sending heard_from row_of sent_in close_on go_through results_of after_window begin_frame step
returns-clause-evidence c = record {
  k = 15;
  earlier = omega arith;
  frame_is = refl;
  st = accuser;
  found = record { good = (refl, refl); in_frame = omega arith; closes = omega arith; evidence = refl };
}

pub returns-clause-accused : goal.returns-clause-accused
unfolding set_of set_below size message_in close_exact outcome_of close_sync sync_outcome_of turn convicted_by classes_of verdict_of delay_of with_stage with_frame sending heard_from row_of sent_in close_on go_through results_of after_window begin_frame step
returns-clause-accused c = refl
