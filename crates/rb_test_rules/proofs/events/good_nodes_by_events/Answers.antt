use Rattle.std.proofs.Common.{refl}
use Rattle.rb_base.specs.Nodes.{set_of, set_below, size}
use Rattle.rb_rules.specs.{Book.{with_stage, with_frame}, Conviction.{turn, convicted_by}, Core.{state_at, said_at, act_on, act_at, tick, arrive, wants, is_busy}, ExactStage.{close_exact, outcome_of}, Hearing.{sending, row_of}, Judging.{classes_of, verdict_of}, Links.delay_of, Spelling.message_in, SyncStage.{close_sync, sync_outcome_of}, WorldStep.{ready_at, due_of, says_in, proceed, after_act, after_arrival, with_act, pass_and_tick, happens, take, go_on, first_world}}
use Rattle.rb_test_rules.proofs.events.good_nodes_by_events.Goals as goal

pub returns-clause-greatest_drift_by_any : goal.returns-clause-greatest_drift_by_any
unfolding set_of set_below size message_in close_exact outcome_of close_sync sync_outcome_of turn convicted_by classes_of verdict_of delay_of with_stage with_frame sending row_of state_at said_at act_on act_at tick arrive wants is_busy ready_at due_of says_in proceed after_act after_arrival with_act pass_and_tick happens take go_on first_world
returns-clause-greatest_drift_by_any c = refl

pub returns-clause-one_state_by_any : goal.returns-clause-one_state_by_any
unfolding set_of set_below size message_in close_exact outcome_of close_sync sync_outcome_of turn convicted_by classes_of verdict_of delay_of with_stage with_frame sending row_of state_at said_at act_on act_at tick arrive wants is_busy ready_at due_of says_in proceed after_act after_arrival with_act pass_and_tick happens take go_on first_world
returns-clause-one_state_by_any c = refl
