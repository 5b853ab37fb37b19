use Rattle.std.proofs.{Common.{◌≡◌, true, [], get_or, refl, sym}, lemmas.List.append-nil}
use Rattle.rb_base.specs.Nodes.{set_below, set_of, size}
use Rattle.rb_rules.specs.{Book.{Record, with_frame, with_stage}, Book.Record.{Breach, Ended, Frame, Slot}, Conviction.{convicted_by, turn}, ExactStage.{close_exact, outcome_of}, Hearing.{heard_from, row_of, sending}, Judging.{classes_of, verdict_of}, Links.delay_of, Rounds.{after_window, begin_frame, close_on, go_through, results_of, sent_in, step}, Spelling.message_in, SyncStage.{close_sync, sync_outcome_of}}
use Rattle.rb_laws_letters.specs.Offers.{is_good_in}
use Rattle.rb_test_rules.specs.Letters.{letter_records, one_sender}
use Rattle.rb_test_rules.proofs.LawfulTests.{lawful_by_tests}
use Rattle.rb_test_rules.proofs.premises.a_letter_over_the_bus.Goals as goal

pub returns-clause-lawful : goal.returns-clause-lawful
returns-clause-lawful c = lawful_by_tests one_sender refl

pub returns-clause-first : goal.returns-clause-first
returns-clause-first c = ([], sym (append-nil letter_records))

good-0 : (r : Record) → is_good_in one_sender 0 r ≡ true
good-0 (Frame frame nodes ports) = refl
good-0 (Slot frame slot lines) = refl
good-0 Ended = refl
good-0 (Breach place cause) = refl

good-1 : (r : Record) → is_good_in one_sender 1 r ≡ true
good-1 (Frame frame nodes ports) = refl
good-1 (Slot frame slot lines) = refl
good-1 Ended = refl
good-1 (Breach place cause) = refl

pub returns-clause-receiver : goal.returns-clause-receiver
returns-clause-receiver c = λ k d less. good-1 (get_or letter_records k d)

pub returns-clause-sender : goal.returns-clause-sender
returns-clause-sender c = λ k d less. good-0 (get_or letter_records k d)

pub returns-clause-offered : goal.returns-clause-offered
unfolding set_of set_below size message_in close_exact outcome_of close_sync sync_outcome_of turn convicted_by classes_of verdict_of delay_of with_stage with_frame sending heard_from row_of sent_in close_on go_through results_of after_window begin_frame step
returns-clause-offered c = refl
