-- Runs event by event, with a rule that picks among the events that are due.
use Rattle.std.specs.Prelude.{ℕ, zero, suc, ◌+◌, ◌-◌, ◌*◌, ◌%◌, true, false, List, length}
use Rattle.rb_rules.specs.{Book.Record, Goodness.Scenario, WorldStep.{World, due_of, take, go_on, needs_no_event, first_world}}

-- the place of the event that is taken, by the number of events that are due and the number of
-- steps that may still come
abbrev pub Rule : Type 0
Rule = ℕ → ℕ → ℕ

abbrev pub the_first : Rule
the_first left due = 0

abbrev pub the_last : Rule
the_last left due = due - 1

abbrev pub any_of_them : Rule
any_of_them left due = (7 * left + 3) % due

-- one event is taken, or a record given that needs none
abbrev pub one_step : Scenario → Rule → ℕ → World → World
one_step sc rule left w =
    elim (needs_no_event sc w.book.upcoming) [ true ↦ go_on sc w | false ↦ take sc w (rule left (length (due_of sc w))) ]

-- the world after at most a number of steps
abbrev pub run_by : Scenario → Rule → ℕ → World → World
run_by sc rule zero w = w
run_by sc rule (suc left) w = elim w.book.ended [ true ↦ w | false ↦ run_by sc rule left (one_step sc rule left w) ]

-- the records of a run by events; no case here has more steps
abbrev pub records_by : Scenario → Rule → List Record
records_by sc rule = (run_by sc rule 6000 (first_world sc)).book.given
