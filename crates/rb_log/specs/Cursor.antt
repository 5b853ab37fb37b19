-- What is left of a log, and how it is shown.
use Rattle.std.specs.Prelude.{ℕ, ◌+◌, ◌≡◌, ◌≤◌, Bool, false, ◌==◌, List, [], ◌∷◌, ◌++◌, length, None, Result, Ok, Err, if◌then◌else◌}
use Rattle.std.proofs.Math.ListN.{replicate}
use Rattle.rb_rules.specs.Core.{CoreEvent}
use Rattle.rb_log.specs.{Entries.{events_at, fault_of}, declared.cursor.Cursor.Cursor, declared.cursor.LogEvent.LogEvent, declared.cursor.LogEvent.TheVariants.{Tick, Arrive}, declared.refusal.LogRefusal.LogRefusal}
use Rattle.rb_rules.specs.Core as event

-- the event that is shown
abbrev pub shown : LogEvent → CoreEvent
shown (Tick word) = event.Tick word
shown (Arrive from bytes) = event.Arrive from bytes.now

abbrev pub is_quiet : CoreEvent → Bool
is_quiet (event.Tick word) = word == 0
is_quiet (event.Arrive from bytes) = false

-- how many ticks with word 0 stand in a row at the front
abbrev pub quiet_in_front : List CoreEvent → ℕ
quiet_in_front [] = 0
quiet_in_front (e ∷ events) = if is_quiet e then quiet_in_front events + 1 else 0

-- the events, if there is no fault
abbrev pub events_in : Result (List CoreEvent) LogRefusal → List CoreEvent
events_in (Ok events) = events
events_in (Err fault) = []

-- the events of the records that no event was given of
unfoldable pub events_behind : Cursor → List CoreEvent
events_behind c = events_in (events_at c.senders c.bytes.now c.place c.ticks)

-- the events that are left: ticks with word 0 of the record that was begun, and those of the
-- records behind it
unfoldable pub events_left : Cursor → List CoreEvent
events_left c = replicate c.zeros (event.Tick 0) ++ events_behind c

-- the records from the place on have no fault
pub record IsSound (c : Cursor) : Type 0 where
  pub senders : 1 ≤ c.senders
  pub inside : c.place ≤ length c.bytes.now
  pub few : c.ticks ≤ 2147483648
  pub sound : fault_of (events_at c.senders c.bytes.now c.place c.ticks) ≡ None
