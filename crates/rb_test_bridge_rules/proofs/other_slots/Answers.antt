use Rattle.std.proofs.Common.{refl}
use Rattle.std.specs.Fmt.{digits}
use Rattle.rb_base.specs.Nodes.{set_below, set_of, size}
use Rattle.rb_group.specs.Groups.{values_of}
use Rattle.rb_rules.specs.{Book.{with_frame, with_stage}, Conviction.{convicted_by, turn}, ExactStage.{close_exact, outcome_of}, Hearing.{heard_from, row_of, sending}, Judging.{classes_of, verdict_of}, Links.delay_of, Rounds.{after_window, begin_frame, close_on, go_through, results_of, sent_in, step}, Spelling.message_in, SyncStage.{close_sync, sync_outcome_of}}
use Rattle.rb_test_bridge_rules.proofs.other_slots.Goals as goal

pub returns : goal.returns
unfolding digits set_below set_of size values_of with_frame with_stage convicted_by turn close_exact outcome_of heard_from row_of sending classes_of verdict_of delay_of after_window begin_frame close_on go_through results_of sent_in step message_in close_sync sync_outcome_of
returns c = refl
