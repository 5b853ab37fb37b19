use Rattle.std.proofs.{Common.{◌≡◌, ◌≤◌, ◌&&◌, nat_le, Bool, true, None, List, [], ◌∷◌, ◌++◌, lit<, refl, sym, ◌∙◌, ap}, lemmas.Bool.leb-true}
use Rattle.rb_base.proofs.Plain.{and_first, and_second}
use Rattle.rb_base.specs.Nodes.{set_below, set_of, size}
use Rattle.rb_rules.specs.{Book.{with_frame, with_stage}, Conviction.{convicted_by, turn}, ExactStage.{close_exact, outcome_of}, Hearing.{heard_from, row_of, sending}, Judging.{classes_of, verdict_of}, Links.delay_of, Rounds.{after_window, begin_frame, close_on, go_through, results_of, sent_in, step}, Spelling.message_in, SyncStage.{close_sync, sync_outcome_of}, Book.Record}
use Rattle.rb_laws_bridge.specs.Laws.{frame_told}
use Rattle.rb_test_bridge_rules.specs.Bridges.{first_told}
use Rattle.rb_test_bridge_rules.proofs.Triples.{lawful}
use Rattle.rb_test_bridge_rules.proofs.records_of_two_frames.Goals as goal

pub returns-clause-lawful : goal.returns-clause-lawful
returns-clause-lawful c = lawful 50 60 70 None (lit< tt) (lit< tt) (lit< tt) tt

pub returns-clause-order : goal.returns-clause-order
unfolding set_below set_of size with_frame with_stage convicted_by turn close_exact outcome_of heard_from row_of sending classes_of verdict_of delay_of after_window begin_frame close_on go_through results_of sent_in step message_in close_sync sync_outcome_of
returns-clause-order c = refl

pub returns-clause-later : goal.returns-clause-later
unfolding set_below set_of size with_frame with_stage convicted_by turn close_exact outcome_of heard_from row_of sending classes_of verdict_of delay_of after_window begin_frame close_on go_through results_of sent_in step message_in close_sync sync_outcome_of
returns-clause-later c = refl

-- each record is of frame 0
abbrev are_first : List Record → Bool
are_first [] = true
are_first (r ∷ rs) = nat_le (frame_told 2 r) 0 && are_first rs

all-first : are_first first_told ≡ true
unfolding set_below set_of size with_frame with_stage convicted_by turn close_exact outcome_of heard_from row_of sending classes_of verdict_of delay_of after_window begin_frame close_on go_through results_of sent_in step message_in close_sync sync_outcome_of
all-first = refl

at-place : (before after : List Record) (r : Record) → are_first (before ++ r ∷ after) ≡ true → frame_told 2 r ≤ 0
at-place [] after r h = leb-true (frame_told 2 r) 0 (and_first (nat_le (frame_told 2 r) 0) (are_first after) h)
at-place (b ∷ bs) after r h = at-place bs after r (and_second (nat_le (frame_told 2 b) 0) (are_first (bs ++ r ∷ after)) h)

pub returns-clause-up_to : goal.returns-clause-up_to
returns-clause-up_to c before after r is = at-place before after r (ap are_first (sym is) ∙ all-first)
