use Rattle.std.proofs.{Common.{◌≡◌, ℕ, zero, suc, ◌+◌, ◌<◌, ◌||◌, nat_lt, Bool, true, false, Option, Some, None, get_or, slice_get, [], refl, sym, ◌∙◌, ap, arith}, lemmas.Bool.ltb-true}
use Rattle.rb_base.specs.{Nodes.{has, set_of, set_below, size}, Nodes.Side.Biu}
use Rattle.rb_base.proofs.Plain.{and_first}
use Rattle.rb_rules.specs.{Book.{of_kind, with_stage, with_frame}, Conviction.{turn, convicted_by}, ExactStage.{close_exact, outcome_of}, Goodness.is_before, Hearing.{sending, heard_from, row_of}, Judging.{classes_of, verdict_of}, Links.delay_of, Moments.before_slot, NodeState.NodeState, Rounds.{sent_in, close_on, go_through, results_of, after_window, begin_frame, step}, Spelling.message_in, SyncStage.{close_sync, sync_outcome_of}}
use Rattle.rb_test_rules.specs.Lies.{silent_rmu}
use Rattle.rb_test_rules.proofs.LawfulTests.{lawful_by_tests}
use Rattle.rb_test_rules.proofs.premises.accused_by_all.Goals as goal

-- there is a node, and it accuses RMU 2
abbrev accuses : Option NodeState → Bool
accuses None = false
accuses (Some st) = has st.far.direct 2 || has st.far.mismatch 2

each : (i : ℕ) → i < 4 → accuses (slice_get (of_kind Biu (before_slot silent_rmu [] 0 (12 + i)).nodes) i) ≡ true
unfolding set_of set_below message_in close_exact outcome_of close_sync sync_outcome_of turn convicted_by classes_of verdict_of size delay_of with_stage with_frame sending heard_from row_of sent_in close_on go_through results_of after_window begin_frame step
each zero h = refl
each (suc zero) h = refl
each (suc (suc zero)) h = refl
each (suc (suc (suc zero))) h = refl
each (suc (suc (suc (suc i)))) h = absurd (omega arith)

pub returns-clause-lawful : goal.returns-clause-lawful
returns-clause-lawful c = lawful_by_tests silent_rmu refl

pub returns-clause-complete : goal.returns-clause-complete
unfolding set_of set_below size message_in close_exact outcome_of close_sync sync_outcome_of turn convicted_by classes_of verdict_of delay_of with_stage with_frame sending heard_from row_of sent_in close_on go_through results_of after_window begin_frame step
returns-clause-complete c = refl

pub returns-clause-unheard : goal.returns-clause-unheard
unfolding set_of set_below size message_in close_exact outcome_of close_sync sync_outcome_of turn convicted_by classes_of verdict_of delay_of with_stage with_frame sending heard_from row_of sent_in close_on go_through results_of after_window begin_frame step
returns-clause-unheard c = refl

pub returns-clause-accused : goal.returns-clause-accused
returns-clause-accused c i st good there =
    sym (ap accuses there) ∙ each i (ltb-true i 4 (and_first (nat_lt i 4) (is_before (get_or silent_rmu.biu_onsets i None) 0 19) good))
