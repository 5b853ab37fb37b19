-- How a run comes to its next record.
use Rattle.std.specs.Prelude.{ℕ, zero, suc, ◌≡◌, ◌≤◌, ◌-◌, ◌%◌, ◌==◌, Bool, true, false, Option, Some, None, is_some, length}
use Rattle.rb_rules.specs.{Book.Record, Goodness.Scenario, WorldStep.{World, due_of, go_on, take}}
use Rattle.rb_gen.specs.Draws.{next_state, number_of}
use Rattle.rb_world_book.specs.declared.turn.Turn.{Turn}
use Rattle.rb_world.specs.{declared.ties.Seeding.Seeding, declared.ties.Ties.Ties, declared.ties.Ties.TheVariants.{First, Last, Seeded}, Turning.Gives, Worlds.{KeptWorld, Stands}}

-- Which of the events that are due is taken.

-- the draws with which a call begins: if it has another seed than the last one, they start anew
abbrev pub begun_with : Ties → Seeding → Seeding
begun_with First s = s
begun_with Last s = s
begun_with (Seeded seed) s = elim (seed == s.seed) [ true ↦ s | false ↦ record { seed = seed; draws = record { state = seed } } ]

-- the state of the draws after a choice
abbrev pub drawn : Ties → ℕ → ℕ
drawn First state = state
drawn Last state = state
drawn (Seeded seed) state = next_state state

-- the place of the event that is taken among the due ones, `state` being the state after the choice
abbrev pub place_among : Ties → ℕ → ℕ → ℕ
place_among First state due = 0
place_among Last state due = due - 1
place_among (Seeded seed) state due = number_of state % due

-- Steps.

-- a world, and the state of the draws there
pub record Standing : Type 0 where
  pub world : World
  pub draws : ℕ

-- a step if a number of events are due: one of them is taken, and if none is, what needs no event
-- is given
abbrev pub step_among : Scenario → Ties → ℕ → Standing → Standing
step_among sc ties zero s = record s { world = go_on sc s.world }
step_among sc ties (suc others) s =
    let state = drawn ties s.draws in record { world = take sc s.world (place_among ties state (suc others)); draws = state }

unfoldable pub step : Scenario → Ties → Standing → Standing
step sc ties s = step_among sc ties (length (due_of sc s.world)) s

-- the state after a number of steps
unfoldable pub after_steps : Scenario → Ties → ℕ → Standing → Standing
after_steps sc ties zero s = s
after_steps sc ties (suc n) s = step sc ties (after_steps sc ties n s)

-- one step or more lead to the next record: the last of them gives it, and the others give none
pub record IsNext (sc : Scenario) (ties : Ties) (before after : Standing) : Type 0 where
  pub others : ℕ
  pub is : after ≡ after_steps sc ties (suc others) before
  pub quiet : (n : ℕ) → 1 ≤ n → n ≤ others → (after_steps sc ties n before).world.turn ≡ None
  pub gives : is_some after.world.turn ≡ true

-- What a call makes of a world.

-- what is kept stands afterwards for the world of the next record, and that is the turn that is
-- given. The draws go on
pub record GoesToNext (ties : Ties) (before after : KeptWorld) (turn : Turn) (w : World) : Type 0 where
  pub next : World
  pub is : IsNext before.bus ties (record { world = w; draws = (begun_with ties before.seeding).draws.state })
      (record { world = next; draws = after.seeding.draws.state })
  pub gives : Gives after turn next
  pub seed : after.seeding.seed ≡ (begun_with ties before.seeding).seed

-- one step, the draws being in these states before and after
pub record TakesStep (ties : Ties) (state state_after : ℕ) (before after : KeptWorld) (turn : Turn) (w : World) : Type 0 where
  pub gives : Gives after turn (step before.bus ties (record { world = w; draws = state })).world
  pub draws : state_after ≡ (step before.bus ties (record { world = w; draws = state })).draws

-- n steps gave no record
pub record TakesSteps (n : ℕ) (ties : Ties) (state state_after : ℕ) (before after : KeptWorld) (w : World) : Type 0 where
  pub stands : Stands after (after_steps before.bus ties n (record { world = w; draws = state })).world
  pub draws : state_after ≡ (after_steps before.bus ties n (record { world = w; draws = state })).draws
  pub quiet : (m : ℕ) → 1 ≤ m → m ≤ n → (after_steps before.bus ties m (record { world = w; draws = state })).world.turn ≡ None

-- all steps to the next record
pub record RunsOn (ties : Ties) (state state_after : ℕ) (before after : KeptWorld) (turn : Turn) (w : World) : Type 0 where
  pub next : World
  pub is : IsNext before.bus ties (record { world = w; draws = state }) (record { world = next; draws = state_after })
  pub gives : Gives after turn next

-- a record is the last of a run: its end, or its breach
abbrev pub is_last : Option Record → Bool
is_last None = false
is_last (Some (Record.Frame frame nodes ports)) = false
is_last (Some (Record.Slot frame slot lines)) = false
is_last (Some Record.Ended) = true
is_last (Some (Record.Breach place cause)) = true
