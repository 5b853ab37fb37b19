-- How the writer spells events. A tick whose word was wanted is a record of its own. Ticks whose
-- word was not wanted, and with them quiet ticks, gather until an arrival, a wanted tick or the end
-- comes, and are then one record.
use Rattle.std.specs.Prelude.{⊤, ℕ, ◌+◌, ◌≤◌, ◌==◌, true, false, List, [], ◌∷◌, ◌++◌, length, if◌then◌else◌}
use Rattle.std.proofs.Math.ListN.{replicate}
use Rattle.byteorder.specs.Endian.{big_bytes}
use Rattle.rb_base.specs.{declared.event.Event.Event, declared.event.EventKind.EventKind, declared.event.EventKind.TheVariants.{Tick, Arrive}}
use Rattle.rb_rules.specs.Core.{CoreEvent}
use Rattle.rb_rules.specs.Core as core

-- the record of `ticks` gathered ticks, if there are any
abbrev pub gathered : ℕ → List ℕ
gathered ticks = if ticks == 0 then [] else 2 ∷ big_bytes 4 ticks

-- the bytes that are complete with what happens, after `ticks` gathered ticks
abbrev pub bytes_with : ℕ → EventKind → List ℕ
bytes_with ticks (Tick word true) = gathered ticks ++ 1 ∷ big_bytes 4 word
bytes_with ticks (Tick word false) = []
bytes_with ticks (Arrive from bytes) = gathered ticks ++ 3 ∷ from ∷ length bytes.items ∷ bytes.items

-- how many ticks then wait
abbrev pub waiting_with : ℕ → EventKind → ℕ
waiting_with ticks (Tick word true) = 0
waiting_with ticks (Tick word false) = ticks + 1
waiting_with ticks (Arrive from bytes) = 0

-- the records of the events, while `waiting` ticks wait
abbrev pub written : ℕ → List Event → List ℕ
written waiting [] = gathered waiting ++ 4 ∷ []
written waiting (e ∷ events) = bytes_with (waiting + e.quiet) e.kind ++ written (waiting_with (waiting + e.quiet) e.kind) events

-- how many ticks an event gives
abbrev pub ticks_with : EventKind → ℕ
ticks_with (Tick word wanted) = 1
ticks_with (Arrive from bytes) = 0

abbrev pub ticks_given : Event → ℕ
ticks_given e = e.quiet + ticks_with e.kind

-- a message that arrives has at least one byte
abbrev pub HasBytes : EventKind → Type 0
HasBytes (Tick word wanted) = ⊤
HasBytes (Arrive from bytes) = 1 ≤ length bytes.items

-- the events as the node is given them
abbrev pub given_with : EventKind → List CoreEvent
given_with (Tick word wanted) = core.Tick word ∷ []
given_with (Arrive from bytes) = core.Arrive from bytes.items ∷ []

abbrev pub given : Event → List CoreEvent
given e = replicate e.quiet (core.Tick 0) ++ given_with e.kind

-- what a writer keeps: how many ticks it was given, and how many of them wait to be written
pub record Tally : Type 0 where
  pub ticks : ℕ
  pub waiting : ℕ
