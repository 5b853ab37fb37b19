use Rattle.std.proofs.Common.{◌≡◌, List, [], ◌∷◌, length, refl, arith}
use Rattle.rb_base.specs.Nodes.{set_below, set_of, size}
use Rattle.rb_rules.specs.{Book.{with_frame, with_stage}, Conviction.{convicted_by, turn}, ExactStage.{close_exact, outcome_of}, Hearing.{heard_from, judged_see, row_of, sending}, Judging.{JudgedStage, classes_of, verdict_of}, Links.delay_of, Moments.before_stage, Rounds.{after_window, begin_frame, close_on, go_through, results_of, sent_in, step}, Spelling.message_in, SyncStage.{close_sync, see_time, sync_outcome_of}}
use Rattle.rb_laws_listener_near.specs.{Calls.{SawTheTimes}, Judged.verdict_with}
use Rattle.rb_test_rules.specs.{Ordinary.smallest_bus, Receiver.{call_seen, call_taken, call_time}}
use Rattle.rb_test_rules.proofs.premises.what_the_receiver_saw.Goals as goal

pub returns-clause-verdict : goal.returns-clause-verdict
unfolding set_of set_below size message_in close_exact outcome_of close_sync sync_outcome_of turn convicted_by classes_of verdict_of delay_of with_stage with_frame sending heard_from row_of sent_in close_on go_through results_of after_window begin_frame step verdict_with
returns-clause-verdict c = refl

fourteen : length (before_stage smallest_bus [] 0 4 3).book.stages ≡ 14
unfolding set_of set_below size message_in close_exact outcome_of close_sync sync_outcome_of turn convicted_by classes_of verdict_of delay_of with_stage with_frame sending heard_from row_of sent_in close_on go_through results_of after_window begin_frame step
fourteen = refl

saw : (stages : List JudgedStage) → length stages ≡ 14 → SawTheTimes stages call_taken call_time call_seen
saw [] h = absurd (omega arith)
saw (newest ∷ earlier) h = record {
  newest = newest;
  earlier = earlier;
  are = refl;
  sight = λ j. judged_see (call_time j) (see_time (call_taken j));
  here = let e : length earlier ≡ 13 = omega arith in rw e refl;
  is = λ j less. refl;
}

pub returns-clause-saw : goal.returns-clause-saw
returns-clause-saw c = saw (before_stage smallest_bus [] 0 4 3).book.stages fourteen

pub returns-clause-middle : goal.returns-clause-middle
returns-clause-middle c = refl
