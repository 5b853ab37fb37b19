-- How a run ends is told by the turn that comes last.
use Rattle.std.proofs.Common.{◌≡◌, ℕ, true, false, Some, None, sym, ap, ◌∙◌}
use Rattle.rb_rules.specs.{Goodness.Scenario, Lawful.IsLawful}
use Rattle.rb_world_book.specs.{Records.record_of, declared.turn.Turn.Turn}
use Rattle.rb_laws_logs.specs.Given.{first_run}
use Rattle.rb_world.specs.Nexts.{is_last}
use Rattle.rb_world.proofs.LastTurn.{reached-ended}
use Rattle.rb_run.specs.{Runs.{EndsWith, end_at}, declared.ending.Ending.Ending}
use Rattle.rb_run.proofs.UnderWay.{ends-last, goes-on}
use Rattle.rb_record.proofs.{Ends.ends-as-rounds, Runs.run-reached}

-- the run goes on after a turn that does not end it
pub turn-goes : (sc : Scenario) (n : ℕ) (t : Turn) → (first_run sc n).turn ≡ record_of t → end_at (record_of t) ≡ None → (first_run sc n).book.ended ≡ false
turn-goes sc n t is none = reached-ended sc (first_run sc n) (run-reached sc n) ∙ ap is_last is ∙ goes-on (record_of t) none

-- the run has ended if its turn is a record that ends it
pub turn-ends : (sc : Scenario) (n : ℕ) (t : Turn) (e : Ending) → (first_run sc n).turn ≡ record_of t → end_at (record_of t) ≡ Some e → (first_run sc n).book.ended ≡ true
turn-ends sc n t e is some = reached-ended sc (first_run sc n) (run-reached sc n) ∙ ap is_last is ∙ ends-last (record_of t) e some

pub ends-so : (sc : Scenario) (n : ℕ) (t : Turn) (e : Ending) → IsLawful sc → (first_run sc n).turn ≡ record_of t → end_at (record_of t) ≡ Some e → EndsWith sc e
ends-so sc n t e lawful is some = ap end_at (sym (ends-as-rounds sc n lawful (turn-ends sc n t e is some)) ∙ is) ∙ some
