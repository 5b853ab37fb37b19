-- The records of a log. The first byte says which record it is: 1 one tick and its word, 2 a number
-- of ticks with word 0, 3 the arrival of a message, 4 the end of the log.
use Rattle.std.specs.Prelude.{⊤, ℕ, zero, suc, ◌+◌, ◌-◌, ◌≡◌, ◌<◌, ◌≤◌, Bool, true, false, nat_le, nat_lt, ◌==◌, List, [], ◌∷◌, ◌++◌, length, slice_range, Option, Some, None, Result, Ok, Err, if◌then◌else◌}
use Rattle.std.proofs.Math.ListN.{replicate}
use Rattle.rb_rules.specs.Core.{CoreEvent}
use Rattle.rb_log.specs.{Fields.{◌>>=◌, field}, declared.entry.Entry.Entry, declared.entry.Position.Position, declared.entry.Entry.TheVariants.{Tick, Ticks, Arrival, End}, declared.refusal.LogRefusal.LogRefusal, declared.refusal.LogRefusal.TheVariants.{BadField, Truncated, AfterEnd}}
use Rattle.rb_rules.specs.Core as event

-- the fields after the first byte. Senders are below `senders`; the length is looked at after the
-- sender, and then the bytes themselves, which may be any
unfoldable pub tick_in : List ℕ → ℕ → Result Entry LogRefusal
tick_in bytes place = do
  word ← field bytes (place + 1) 4 0 4294967295
  Ok (Tick word)

unfoldable pub ticks_in : List ℕ → ℕ → Result Entry LogRefusal
ticks_in bytes place = do
  count ← field bytes (place + 1) 4 1 4294967295
  Ok (Ticks count)

unfoldable pub arrival_in : ℕ → List ℕ → ℕ → Result Entry LogRefusal
arrival_in senders bytes place = do
  from ← field bytes (place + 1) 1 0 (senders - 1)
  size ← field bytes (place + 2) 1 1 32
  if nat_le (place + 3 + size) (length bytes) then Ok (Arrival from size) else Err (Truncated (length bytes))

-- the record at a place
unfoldable pub entry_at : ℕ → List ℕ → ℕ → Result Entry LogRefusal
entry_at senders bytes place = do
  what ← field bytes place 1 1 4
  if what == 1
      then tick_in bytes place
      else (if what == 2 then ticks_in bytes place else (if what == 3 then arrival_in senders bytes place else Ok End))

-- how many bytes a record has
abbrev pub size_of : Entry → ℕ
size_of (Tick word) = 5
size_of (Ticks count) = 5
size_of (Arrival from size) = 3 + size
size_of End = 1

-- how many ticks a record tells of
abbrev pub ticks_of : Entry → ℕ
ticks_of (Tick word) = 1
ticks_of (Ticks count) = count
ticks_of (Arrival from size) = 0
ticks_of End = 0

-- the events that a record at a place of the bytes tells of
abbrev pub events_of : List ℕ → ℕ → Entry → List CoreEvent
events_of bytes place (Tick word) = event.Tick word ∷ []
events_of bytes place (Ticks count) = replicate count (event.Tick 0)
events_of bytes place (Arrival from size) = event.Arrive from (slice_range bytes (place + 3) (place + 3 + size)) ∷ []
events_of bytes place End = []

-- `events` before the other events. A refusal stays as it is
abbrev pub before : List CoreEvent → Result (List CoreEvent) LogRefusal → Result (List CoreEvent) LogRefusal
before events (Ok others) = Ok (events ++ others)
before events (Err fault) = Err fault

abbrev pub is_end : Entry → Bool
is_end (Tick word) = false
is_end (Ticks count) = false
is_end (Arrival from size) = false
is_end End = true

-- the events of a record before the others. No byte follows the end, and a log has at most 2^31
-- ticks
abbrev pub after : List ℕ → ℕ → ℕ → Entry → Result (List CoreEvent) LogRefusal → Result (List CoreEvent) LogRefusal
after bytes place ticks entry others =
    if is_end entry
    then (if nat_lt (place + 1) (length bytes) then Err (AfterEnd (place + 1)) else Ok [])
    else (if nat_le (ticks + ticks_of entry) 2147483648 then before (events_of bytes place entry) others else Err (BadField place))

-- the events of at most `most` records from `place` on, before which the log had `ticks` ticks, or
-- the first fault
unfoldable pub events_from : ℕ → ℕ → List ℕ → ℕ → ℕ → Result (List CoreEvent) LogRefusal
events_from zero senders bytes place ticks = Err (Truncated (length bytes))
events_from (suc most) senders bytes place ticks = do
  entry ← entry_at senders bytes place
  after bytes place ticks entry (events_from most senders bytes (place + size_of entry) (ticks + ticks_of entry))

-- the events of all records from there on. Each has a byte at least, so that there are no more of
-- them than bytes
unfoldable pub events_at : ℕ → List ℕ → ℕ → ℕ → Result (List CoreEvent) LogRefusal
events_at senders bytes place ticks = events_from (length bytes) senders bytes place ticks

-- the fault that was met, if one was
abbrev pub fault_of : {X : Type 0} → Result X LogRefusal → Option LogRefusal
fault_of (Ok x) = None
fault_of (Err fault) = Some fault

-- ticks in a row are at least one
abbrev pub HasTicks : Entry → Type 0
HasTicks (Tick word) = ⊤
HasTicks (Ticks count) = 1 ≤ count
HasTicks (Arrival from size) = ⊤
HasTicks End = ⊤

-- how many ticks with word 0 a record tells of, if of nothing else
abbrev pub zeros_of : Entry → ℕ
zeros_of (Tick word) = if word == 0 then 1 else 0
zeros_of (Ticks count) = count
zeros_of (Arrival from size) = 0
zeros_of End = 0

-- the reading goes on at a later place, and meets the same fault there, if any
pub record GoesOn (senders : ℕ) (bytes : List ℕ) (place ticks : ℕ) (next : Position) : Type 0 where
  pub same : fault_of (events_at senders bytes place ticks) ≡ fault_of (events_at senders bytes next.place next.ticks)
  pub further : place < next.place
  pub inside : next.place ≤ length bytes
  pub few : next.ticks ≤ 2147483648
