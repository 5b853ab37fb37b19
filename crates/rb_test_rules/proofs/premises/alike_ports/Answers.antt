use Rattle.std.proofs.Common.{◌≡◌, ℕ, ◌==◌, inl, inr, refl}
use Rattle.rb_base.specs.Nodes.{set_of, set_below, size}
use Rattle.rb_rules.specs.{Book.{with_stage, with_frame}, Conviction.{turn, convicted_by}, ExactStage.{close_exact, outcome_of}, Hearing.{sending, heard_from, row_of}, Judging.{classes_of, verdict_of}, Links.delay_of, Rounds.{sent_in, close_on, go_through, results_of, after_window, begin_frame, step}, Spelling.message_in, SyncStage.{close_sync, sync_outcome_of}}
use Rattle.rb_laws_agreement.specs.Histories.{states_for}
use Rattle.rb_laws_agreement.proofs.Tests.{true_or_false}
use Rattle.rb_test_rules.specs.{Ordinary.one_state, Premises.handed_to_both}
use Rattle.rb_test_rules.proofs.LawfulTests.{lawful_by_tests}
use Rattle.rb_test_rules.proofs.premises.alike_ports.Goals as goal

handed-alike : (frame : ℕ) → states_for 0 frame handed_to_both ≡ states_for 1 frame handed_to_both
handed-alike frame = elim (true_or_false (1 == frame)) [ inl e ↦ rw e refl | inr e ↦ rw e refl ]

pub returns-clause-lawful : goal.returns-clause-lawful
returns-clause-lawful c = lawful_by_tests one_state refl

pub returns-clause-complete : goal.returns-clause-complete
unfolding set_of set_below message_in close_exact outcome_of close_sync sync_outcome_of turn convicted_by classes_of verdict_of size delay_of with_stage with_frame sending heard_from row_of sent_in close_on go_through results_of after_window begin_frame step
returns-clause-complete c = refl

pub returns-clause-alike : goal.returns-clause-alike
returns-clause-alike c = record { app = refl; word = refl; hand_ins = λ frame. refl }

pub returns-clause-alike_with_hand_ins : goal.returns-clause-alike_with_hand_ins
returns-clause-alike_with_hand_ins c = record { app = refl; word = refl; hand_ins = handed-alike }
