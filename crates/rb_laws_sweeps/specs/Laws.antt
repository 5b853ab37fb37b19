-- What is proved of sweeps.
use Rattle.std.specs.Prelude.{ℕ, ◌≡◌, ◌+◌, ◌<◌, ◌≤◌, All, false, Option, Some, None, List, [], ◌∷◌, ◌++◌, slice_get}
use Rattle.rb_base.specs.Nodes.{Side}
use Rattle.rb_rules.specs.{Clock.time_of, Goodness.{Scenario, clock_of}, Hearing.{Coming, Sending, Span}, Lawful.IsLawful, Slots.count_of, WorldStep.{Choice, Site, Timed, World, after_arrival, at_node, due_of, go_on, needs_no_event, says_in, sent_to, take, world_after}, WorldStep.Pending.Arrival}
use Rattle.rb_laws_sweeps.specs.{AheadOf.{GoesOnAhead, IsFirstTick, LeadsToTick, ahead_of, until_tick}, Sweeping.{Placed, first_of, swept}, Told.{heard, telling}}

-- Nodes.

-- a node swept up to a time and then up to a later one is swept up to the later one
abbrev pub SweepsCompose : Type 0
SweepsCompose =
    (sc : Scenario) (me : Side) (i : ℕ) (s : Site) (until later : ℕ) → until ≤ later
    → swept sc me i later (swept sc me i until s) ≡ swept sc me i later s

-- a sweep takes what comes first, and then the rest
abbrev pub SweepsTakeTheFirst : Type 0
SweepsTakeTheFirst =
    (sc : Scenario) (me : Side) (i until : ℕ) (s : Site) (p : Placed) → first_of s.coming ≡ Some p → p.coming.time < until
    → swept sc me i until s ≡ swept sc me i until (after_arrival sc me i p.place p.coming s)

-- what a sweep makes of a node: what comes to it, what came, and its core with what that has got
-- and counted. All that is left comes later
pub record SweepsFrom (sc : Scenario) (me : Side) (i until : ℕ) (s z : Site) : Type 0 where
  pub is : z ≡ record s { core = z.core; coming = z.coming; got = z.got }
  pub state : z.core.state ≡ s.core.state
  pub left : All (λ c. until ≤ c.time) z.coming

abbrev pub SweepsKeepTheRest : Type 0
SweepsKeepTheRest = (sc : Scenario) (me : Side) (i until : ℕ) (s : Site) → SweepsFrom sc me i until s (swept sc me i until s)

-- if nothing comes before the time, a sweep changes nothing
abbrev pub NothingIsSwept : Type 0
NothingIsSwept = (sc : Scenario) (me : Side) (i until : ℕ) (s : Site) → All (λ c. until ≤ c.time) s.coming → swept sc me i until s ≡ s

-- What is heard.

-- what a node hears up to a time is what it hears up to an earlier one, and then the rest
abbrev pub HearingComposes : Type 0
HearingComposes =
    (sc : Scenario) (me : Side) (i : ℕ) (s : Site) (until later : ℕ) → until ≤ later
    → heard sc me i later s ≡ heard sc me i until s ++ heard sc me i later (swept sc me i until s)

-- what comes first is heard first, and then the rest
abbrev pub HearingTakesTheFirst : Type 0
HearingTakesTheFirst =
    (sc : Scenario) (me : Side) (i until : ℕ) (s : Site) (p : Placed) → first_of s.coming ≡ Some p → p.coming.time < until
    → heard sc me i until s ≡ telling sc [] me i s (Arrival p.place p.coming) ∷ heard sc me i until (after_arrival sc me i p.place p.coming s)

-- if nothing comes before the time, nothing is heard
abbrev pub NothingIsHeard : Type 0
NothingIsHeard = (sc : Scenario) (me : Side) (i until : ℕ) (s : Site) → All (λ c. until ≤ c.time) s.coming → heard sc me i until s ≡ []

-- Pushes.

-- the node has this tick ahead, and more comes to it
abbrev pub with_more : Option Timed → List Coming → Site → Site
with_more ahead more s = record s { ahead = ahead; coming = s.coming ++ more }

-- what comes later may be pushed before a sweep or after it
abbrev pub PushesPassASweep : Type 0
PushesPassASweep =
    (sc : Scenario) (me : Side) (i until : ℕ) (ahead : Option Timed) (more : List Coming) (s : Site) → All (λ c. until ≤ c.time) more
    → swept sc me i until (with_more ahead more s) ≡ with_more ahead more (swept sc me i until s)

-- What is sent comes later: the message that node j of kind me sends at a tick comes after a sweep
-- through the time of the tick; and what is said in a window to a node comes after the tick before
-- the window
pub record WhatIsSentComesLater (sc : Scenario) : Type 0 where
  pub message : (me side : Side) (j i frame until : ℕ) (x : Sending) (s : Site) → until ≤ time_of (clock_of sc me j) x.tick + 1
      → swept sc side i until (sent_to sc me j frame x side i s) ≡ sent_to sc me j frame x side i (swept sc side i until s)
  pub said : (me : Side) (i k : ℕ) (span : Span) → i < count_of me sc.sizes → span.first ≡ k + 1
      → All (λ c. time_of (clock_of sc me i) k + 1 ≤ c.time) (says_in sc me i span)

abbrev pub WhatIsSentComesLaterInLawful : Type 0
WhatIsSentComesLaterInLawful = (sc : Scenario) → IsLawful sc → WhatIsSentComesLater sc

-- Worlds. Whatever was chosen:

-- a due arrival that is taken changes its node alone, and gives no record
abbrev pub ArrivalsSettleNothing : Type 0
ArrivalsSettleNothing =
    (sc : Scenario) → IsLawful sc → (choices : List Choice) (n : ℕ) (me : Side) (i place : ℕ) (c : Coming)
    → slice_get (due_of sc (world_after sc choices)) n ≡ Some (record { side = me; node = i; pending = Arrival place c })
    → take sc (world_after sc choices) n
    ≡ record (world_after sc choices) { sites = at_node me i (after_arrival sc me i place c) (world_after sc choices).sites; turn = None }

-- the run has not ended, and its next record needs an event
pub record NeedsEvent (sc : Scenario) (w : World) : Type 0 where
  pub going : w.book.ended ≡ false
  pub needs : needs_no_event sc w.book.upcoming ≡ false

-- takes of the first due event lead to the first tick
abbrev pub TakesLeadToTheFirstTick : Type 0
TakesLeadToTheFirstTick =
    (sc : Scenario) → IsLawful sc → (choices : List Choice) → NeedsEvent sc (world_after sc choices)
    → (me : Side) (i : ℕ) (a : Timed) → IsFirstTick (world_after sc choices) me i a → LeadsToTick sc (world_after sc choices) me i a

-- some tick is the first in each world that needs an event and of which a reached world is ahead
abbrev pub SomeTickIsFirst : Type 0
SomeTickIsFirst =
    (sc : Scenario) → IsLawful sc → (choices : List Choice) (until : Side → ℕ → ℕ) (w : World) → world_after sc choices ≡ ahead_of sc until w → NeedsEvent sc w
    → (me : Side) × ((i : ℕ) × ((a : Timed) × IsFirstTick w me i a))

-- A world that is ahead of another goes on as its ticks alone make the other go on. At first no
-- node need be ahead: each time is 0
abbrev pub WorldsGoOnAhead : Type 0
WorldsGoOnAhead =
    (sc : Scenario) → IsLawful sc → (choices : List Choice) (until : Side → ℕ → ℕ) (w : World) → world_after sc choices ≡ ahead_of sc until w
    → NeedsEvent sc w → (me : Side) (i : ℕ) (a : Timed) → IsFirstTick w me i a → ((side : Side) (j : ℕ) → until side j ≤ until_tick me i a.time side j)
    → GoesOnAhead sc until w me i a

-- Calls.

-- if no node goes ahead, the world that is ahead of w is w itself
abbrev pub NobodyIsAhead : Type 0
NobodyIsAhead = (sc : Scenario) (w : World) → ahead_of sc (λ side j. 0) w ≡ w

-- what needs no event is given alike to a world that is ahead
abbrev pub GoOnPassesASweep : Type 0
GoOnPassesASweep = (sc : Scenario) (until : Side → ℕ → ℕ) (w : World) → go_on sc (ahead_of sc until w) ≡ ahead_of sc until (go_on sc w)
