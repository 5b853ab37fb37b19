use Rattle.std.proofs.Common.{Some, [], lit<, lit≤, refl}
use Rattle.rb_base.specs.Nodes.{set_below, set_of, size}
use Rattle.rb_rules.specs.{Book.{with_frame, with_stage}, Conviction.{convicted_by, turn}, ExactStage.{close_exact, outcome_of}, Hearing.{heard_from, row_of, sending}, Judging.{classes_of, verdict_of}, Links.delay_of, Rounds.{after_window, begin_frame, close_on, go_through, results_of, sent_in, step}, Spelling.message_in, SyncStage.{close_sync, sync_outcome_of}}
use Rattle.rb_laws_groups.specs.Laws.{Outnumber}
use Rattle.rb_test_bridge_rules.specs.Bridges.{faulty_replica}
use Rattle.rb_test_bridge_rules.proofs.Triples.{HoldTheSlots, lawful, schedule}
use Rattle.rb_test_bridge_rules.proofs.a_faulty_replica.Goals as goal

pub returns-clause-lawful : goal.returns-clause-lawful
returns-clause-lawful c = lawful 10 10 30 (Some (0, 3)) (lit< tt) (lit< tt) (lit< tt) (lit< tt, lit≤ tt)

pub returns-clause-served : goal.returns-clause-served
unfolding set_below set_of size with_frame with_stage convicted_by turn close_exact outcome_of heard_from row_of sending classes_of verdict_of delay_of after_window begin_frame close_on go_through results_of sent_in step message_in close_sync sync_outcome_of
returns-clause-served c = refl

held : HoldTheSlots faulty_replica [] 0
unfolding set_below set_of size with_frame with_stage convicted_by turn close_exact outcome_of heard_from row_of sending classes_of verdict_of delay_of after_window begin_frame close_on go_through results_of sent_in step message_in close_sync sync_outcome_of
held = record {
  first = record { first = refl; second = refl; third = refl; rmu = refl };
  second = record { first = refl; second = refl; third = refl; rmu = refl };
  third = record { first = refl; second = refl; third = refl; rmu = refl };
}

pub returns-clause-schedule : goal.returns-clause-schedule
returns-clause-schedule c = schedule 10 10 30 (Some (0, 3)) [] 0 held

pub returns-clause-word : goal.returns-clause-word
unfolding Outnumber set_below set_of size with_frame with_stage convicted_by turn close_exact outcome_of heard_from row_of sending classes_of verdict_of delay_of after_window begin_frame close_on go_through results_of sent_in step message_in close_sync sync_outcome_of
returns-clause-word c = lit< tt

pub returns-clause-port : goal.returns-clause-port
returns-clause-port c = refl

pub returns-clause-other_port : goal.returns-clause-other_port
returns-clause-other_port c = refl
