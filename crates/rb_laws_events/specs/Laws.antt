-- What is proved of rounds and of runs event by event.
use Rattle.std.specs.Prelude.{ℕ, ◌≡◌, ◌+◌, ◌*◌, ◌^◌, ◌<◌, ◌≤◌, ◌⊎◌, true, false, Some, None, List, [], ◌∷◌, ◌++◌, length, slice_get}
use Rattle.rb_base.specs.{Nodes.Side, Sizes.Sizes}
use Rattle.rb_rules.specs.{declared.plan.Plan.Plan, Book.{Record, of_kind}, Core.{Core, next_tick, ticks}, Behavior.Span, Entries.IsListed, Goodness.Scenario, Lawful.IsLawful, Ports.HandIn, Rounds.{moment, steps_of, records_of}, WorldStep.{Site, World, Choice, Due, EventsAreRounds, IsPrefix, choose, due_of, first_world, go_on, needs_no_event, says_in, take, world_after}, WorldStep.Choice.{Take, GoOn, Hand}}

-- the records of a scenario are those of the moment after all steps: that the run stops at its end
-- changes nothing
abbrev pub RecordsAreOfAllSteps : Type 0
RecordsAreOfAllSteps = (sc : Scenario) (hands : List HandIn) → records_of sc hands ≡ (moment sc hands (steps_of sc)).book.given

-- records are only added to those of an earlier moment, and none once the run has ended
abbrev pub RoundsOnlyAdd : Type 0
RoundsOnlyAdd =
    (sc : Scenario) (hands : List HandIn) (n k : ℕ)
    → IsPrefix (moment sc hands n).book.given (moment sc hands (n + k)).book.given
    × ((moment sc hands n).book.ended ≡ true → (moment sc hands (n + k)).book ≡ (moment sc hands n).book)

-- a state that is handed in at a frame's start changes no moment before that frame
abbrev pub HandInsComeLate : Type 0
HandInsComeLate =
    (sc : Scenario) (hands : List HandIn) (h : HandIn) (n : ℕ) → (moment sc hands n).frame < h.frame
    → moment sc (hands ++ h ∷ []) n ≡ moment sc hands n

-- whatever is chosen, the world's records are only added to, and none once the run has ended
abbrev pub EventsOnlyAdd : Type 0
EventsOnlyAdd =
    (sc : Scenario) (w : World) (c : Choice)
    → IsPrefix w.book.given (choose sc w c).book.given × (w.book.ended ≡ true → (choose sc w c).book ≡ w.book)

-- until a core's next busy tick is reached, ticks without a word change only its count
abbrev pub QuietTicksCount : Type 0
QuietTicksCount =
    (sizes : Sizes) (plan : Plan) (me : Side) (index n : ℕ) (c : Core) (k : ℕ) → c.had ≤ 2 ^ 31
    → next_tick sizes plan me index c ≡ Some k → c.had + n ≤ k → ticks sizes plan me index n c ≡ record c { had = c.had + n }

-- a call gave no record, and then the turn is none; or it gave the next record of the rounds, and
-- then the turn is that record
abbrev pub IsNextTurn : Scenario → World → World → Type 0
IsNextTurn sc before after =
    ((after.turn ≡ None) × (after.book.given ≡ before.book.given))
    ⊎ ((r : Record) × (after.turn ≡ Some r) × (after.book.given ≡ before.book.given ++ r ∷ [])
    × (slice_get (records_of sc after.hands) (length before.book.given) ≡ Some r))

-- whatever was chosen before, a due event that is taken, and what is given without an event, gives
-- no record or the next of the rounds
abbrev pub OneTurnARecord : Scenario → Type 0
OneTurnARecord sc =
    (choices : List Choice)
    → ((i : ℕ) (d : Due) → slice_get (due_of sc (world_after sc choices)) i ≡ Some d → IsNextTurn sc (world_after sc choices) (take sc (world_after sc choices) i))
    × ((world_after sc choices).book.ended ≡ false → IsNextTurn sc (world_after sc choices) (go_on sc (world_after sc choices)))

-- whatever was chosen: as long as the run has not ended, and its next record needs an event, some
-- event is due
abbrev pub SomethingIsDue : Scenario → Type 0
SomethingIsDue sc =
    (choices : List Choice) → (world_after sc choices).book.ended ≡ false → needs_no_event sc (world_after sc choices).book.upcoming ≡ false
    → 1 ≤ length (due_of sc (world_after sc choices))

-- 1 if the choice takes a due event, and 0 if it does not
abbrev pub taken_by : Scenario → World → Choice → ℕ
taken_by sc w (Take i) = elim (slice_get (due_of sc w) i) [ None ↦ 0 | Some d ↦ 1 ]
taken_by sc w GoOn = 0
taken_by sc w (Hand biu state) = 0

-- how many of the choices take a due event, the first being made in this world
abbrev pub takes_from : Scenario → World → List Choice → ℕ
takes_from sc w [] = 0
takes_from sc w (c ∷ cs) = taken_by sc w c + takes_from sc (choose sc w c) cs

abbrev pub nodes_of : Sizes → ℕ
nodes_of sizes = sizes.bius + sizes.rmus

-- in a window no node is told more than n messages by all faulty nodes together
abbrev pub SayAtMost : Scenario → ℕ → Type 0
SayAtMost sc n = (me : Side) (i : ℕ) (span : Span) → length (says_in sc me i span) ≤ n

-- what a tick may make pending at most, if faulty nodes say at most n messages to a node in a
-- window: a message at each node, and these
abbrev pub most_with : Scenario → ℕ → ℕ
most_with sc n = nodes_of sc.sizes + n

-- no run takes more events then: each node has fewer than 2^31 ticks
abbrev pub takes_with : Scenario → ℕ → ℕ
takes_with sc n = nodes_of sc.sizes * (2 ^ 31 * (most_with sc n + 1) + most_with sc n)

-- Whatever is chosen, at most `most` events are taken, and no node that runs has had 2^31 ticks. As
-- something is due until the run has ended, every run ends
pub record EveryRunEndsBy (sc : Scenario) (most : ℕ) : Type 0 where
  pub few : (choices : List Choice) → takes_from sc (first_world sc) choices ≤ most
  pub room : (choices : List Choice) (me : Side) (i : ℕ) (s : Site) → slice_get (of_kind me (world_after sc choices).sites) i ≡ Some s → s.runs ≡ true → s.core.had < 2 ^ 31

-- the bounds, if faulty nodes do what the entries of a document list
abbrev pub most_at_once : Scenario → ℕ
most_at_once sc = most_with sc (nodes_of sc.sizes * length sc.says)

abbrev pub most_takes : Scenario → ℕ
most_takes sc = takes_with sc (nodes_of sc.sizes * length sc.says)

abbrev pub EveryRunEnds : Scenario → Type 0
EveryRunEnds sc = EveryRunEndsBy sc (most_takes sc)

-- What holds in each lawful scenario.

abbrev pub EventsAreRoundsInLawful : Type 0
EventsAreRoundsInLawful = (sc : Scenario) → IsLawful sc → EventsAreRounds sc

abbrev pub SomethingIsDueInLawful : Type 0
SomethingIsDueInLawful = (sc : Scenario) → IsLawful sc → SomethingIsDue sc

abbrev pub OneTurnARecordInLawful : Type 0
OneTurnARecordInLawful = (sc : Scenario) → IsLawful sc → OneTurnARecord sc

abbrev pub EveryRunEndsInLawful : Type 0
EveryRunEndsInLawful = (sc : Scenario) → IsLawful sc → IsListed sc → EveryRunEnds sc

-- every run ends if there is any bound on what faulty nodes say to a node in a window
abbrev pub BoundedRunsEndInLawful : Type 0
BoundedRunsEndInLawful =
    (sc : Scenario) → IsLawful sc → (n : ℕ) → SayAtMost sc n → EveryRunEndsBy sc (takes_with sc n)
