-- A passive listener. It starts at any time and knows nothing but the plan. First it seeks: at the
-- first pass it begins to learn the frame after that of the pass. From one whole frame it learns
-- whom the bus trusts and when the next frame begins, and from there it follows.
use Rattle.std.specs.Prelude.{ℕ, zero, suc, ◌≡◌, ◌+◌, ◌^◌, ◌==◌, ◌&&◌, nat_le, nat_lt, Bool, true, false, Option, Some, None, is_some, option_and_then, List, [], ◌∷◌, replicate, slice_set}
use Rattle.rb_base.specs.{Nodes.Side.Biu, Sizes.Sizes}
use Rattle.rb_rules.specs.{declared.message.Message.Message, declared.plan.Plan.Plan, Core.{Act, Core, CoreEvent, arrive, is_tick}, Core.CoreEvent.{Tick, Arrive}, Spelling.message_in}
use Rattle.rb_listen.specs.{Following.{core_from, follow, next_wake}, Lessons.{first_of, frame_after, lesson_on, noted}, Passes.{is_call, pass_of, reach_of}, declared.heed.Heed.Heed, declared.lesson.First.First, declared.lesson.Lesson.Lesson, declared.search.Search.Search}

-- what a listener is: it seeks or learns; or it has decided and waits for the first tick of the
-- first frame that it follows, having had `had` ticks; or it follows
pub data Listening : Type 0 where
  Searching : (search : Search) → Listening
  Waiting : (had : ℕ) (first : First) → Listening
  Following : (core : Core) → Listening

-- the search of a listener at first: it has heard nothing, and seeks
unfoldable pub first_search : Search
first_search = record { had = 0; newest = replicate 16 None; learns = false; lesson = lesson_on 0 }

-- What it hears while it seeks and learns.

-- the search begins to learn the frame
abbrev pub learning : ℕ → Search → Search
learning frame s = record s { learns = true; lesson = lesson_on frame }

-- the tick at which the listener decides by a lesson is fixed at the first pass for the lesson's
-- frame
abbrev pub timed : ℕ → Lesson → Lesson
timed tick lesson = elim (is_some lesson.decides) [ true ↦ lesson | false ↦ record lesson { decides = Some tick } ]

-- the search after a pass. A pass for the frame that it learns fixes the tick of the decision; one
-- for the frame before that changes nothing; at any other it begins to learn the frame after that
-- of the pass, and so it does at any pass if it learns no frame
abbrev pub with_pass : Plan → ℕ → Search → Search
with_pass plan frame s =
    elim (s.learns && (frame == s.lesson.frame)) [
      | true ↦ record s { lesson = timed (s.had + reach_of plan) s.lesson }
      | false ↦ elim (s.learns && (frame_after frame == s.lesson.frame)) [ true ↦ s | false ↦ learning (frame_after frame) s ]
    ]

abbrev pub if_pass : Plan → Option ℕ → Search → Search
if_pass plan None s = s
if_pass plan (Some frame) s = with_pass plan frame s

-- a call of RMU j, which is its newest now
abbrev pub newest_with : ℕ → ℕ → Search → Search
newest_with j frame s = record s { newest = slice_set s.newest j (Some (record { frame = frame; at = s.had })) }

-- the search after a message with which there may be a pass
abbrev pub passing : Sizes → Plan → Search → Search
passing sizes plan s = if_pass plan (pass_of sizes plan s.newest) s

-- a message of RMU j is recorded if a frame is learned
abbrev pub recorded : Sizes → ℕ → Message → Search → Search
recorded sizes j m s = elim s.learns [ true ↦ record s { lesson = noted sizes j s.had m s.lesson } | false ↦ s ]

-- the search after a message that may be a call
abbrev pub if_call : Sizes → Plan → ℕ → Message → Search → Search
if_call sizes plan j m s = elim (is_call sizes m) [ true ↦ passing sizes plan (newest_with j m.frame s) | false ↦ s ]

unfoldable pub with_message : Sizes → Plan → ℕ → Message → Search → Search
with_message sizes plan j m s = if_call sizes plan j m (recorded sizes j m s)

abbrev pub if_message : Sizes → Plan → ℕ → Option Message → Search → Search
if_message sizes plan j None s = s
if_message sizes plan j (Some m) s = with_message sizes plan j m s

-- bytes that no message spells change nothing, nor do those of an index that no RMU has, nor any
-- once it has had 2^31 ticks
unfoldable pub searching : Sizes → Plan → ℕ → List ℕ → Search → Search
searching sizes plan from bytes s =
    elim (nat_lt from sizes.rmus && nat_lt s.had (2 ^ 31)) [ true ↦ if_message sizes plan from (message_in plan.version bytes) s | false ↦ s ]

-- What comes is dropped between decision and first tick.
unfoldable pub hear : Sizes → Plan → ℕ → List ℕ → Listening → Listening
hear sizes plan from bytes (Searching s) = Searching (searching sizes plan from bytes s)
hear sizes plan from bytes (Waiting had first) = Waiting had first
hear sizes plan from bytes (Following c) = Following (arrive sizes Biu c from bytes)

-- Ticks.

-- what a tick makes of a listener, and what it then tells
pub record Heeding : Type 0 where
  pub listening : Listening
  pub heed : Heed

abbrev pub no_heed : Heed
no_heed = record { epoch = None; delivered = None }

abbrev pub untold : Listening → Heeding
untold l = record { listening = l; heed = no_heed }

-- a tick more
abbrev pub later : Search → Search
later s = record s { had = s.had + 1 }

-- the listener decides: it waits for the first tick, if that comes after the decision. Otherwise it
-- learns the frame after the lesson's
abbrev pub if_after : Search → First → Bool → Listening
if_after s first after = elim after [ true ↦ Waiting (s.had + 1) first | false ↦ Searching (learning (frame_after s.lesson.frame) (later s)) ]

abbrev pub decided : Search → Option First → Listening
decided s None = Searching (learning (frame_after s.lesson.frame) (later s))
decided s (Some first) = if_after s first (nat_lt s.had first.epoch)

-- the tick is that of the decision
abbrev pub is_deciding : Search → Bool
is_deciding s = s.learns && is_tick s.lesson.decides s.had

unfoldable pub search_on : Sizes → Plan → Search → Listening
search_on sizes plan s = elim (is_deciding s) [ true ↦ decided s (first_of sizes plan s.lesson) | false ↦ Searching (later s) ]

-- what a listener that follows tells of an act of its core
abbrev pub told : Act → Heed
told x = record { epoch = x.epoch; delivered = option_and_then (λ c. c.delivered) x.closed }

abbrev pub followed : Act → Heeding
followed x = record { listening = Following x.core; heed = told x }

-- the core with which the listener begins to follow
abbrev pub first_core : Sizes → First → Core
first_core sizes first = core_from sizes first.frame first.epoch first.bius first.rmus

abbrev pub wait_on : Sizes → Plan → ℕ → First → Bool → Heeding
wait_on sizes plan had first begins =
    elim begins [ true ↦ followed (follow sizes plan (first_core sizes first)) | false ↦ untold (Waiting (had + 1) first) ]

-- a listener that has had `had` ticks, 2^31 or more, is spent: nothing changes it any more
abbrev pub is_over : ℕ → Bool
is_over had = nat_le (2 ^ 31) had

unfoldable pub heed : Sizes → Plan → Listening → Heeding
heed sizes plan (Searching s) =
    elim (is_over s.had) [ true ↦ untold (Searching s) | false ↦ untold (search_on sizes plan s) ]
heed sizes plan (Waiting had first) =
    elim (is_over had) [ true ↦ untold (Waiting had first) | false ↦ wait_on sizes plan had first (first.epoch == had) ]
heed sizes plan (Following c) = followed (follow sizes plan c)

-- a listener after a number of ticks
abbrev pub heeds : Sizes → Plan → ℕ → Listening → Listening
heeds sizes plan zero l = l
heeds sizes plan (suc n) l = heeds sizes plan n (heed sizes plan l).listening

-- a number of ticks tell nothing
abbrev pub TellNothing : Sizes → Plan → ℕ → Listening → Type 0
TellNothing sizes plan zero l = Unit {0}
TellNothing sizes plan (suc n) l = ((heed sizes plan l).heed ≡ no_heed) × TellNothing sizes plan n (heed sizes plan l).listening

-- What can be asked.

-- how many ticks a listener has had
abbrev pub had_by : Listening → ℕ
had_by (Searching s) = s.had
had_by (Waiting had first) = had
had_by (Following c) = c.had

-- the number of the frame that it follows
abbrev pub frame_of : Listening → Option ℕ
frame_of (Searching s) = None
frame_of (Waiting had first) = None
frame_of (Following c) = Some c.state.frame

-- the tick, if a listener has that many
abbrev pub in_time : Option ℕ → Option ℕ
in_time None = None
in_time (Some tick) = elim (nat_lt tick (2 ^ 31)) [ true ↦ Some tick | false ↦ None ]

-- the tick of the decision, if it is fixed
abbrev pub decision_of : Search → Option ℕ
decision_of s = elim s.learns [ true ↦ s.lesson.decides | false ↦ None ]

-- the first tick from the next on that is not quiet: at it the listener decides, begins to follow,
-- begins a frame, or closes a window
abbrev pub next_heed : Sizes → Plan → Listening → Option ℕ
next_heed sizes plan (Searching s) = in_time (decision_of s)
next_heed sizes plan (Waiting had first) = in_time (Some first.epoch)
next_heed sizes plan (Following c) = next_wake sizes plan c

-- Events in a row.

-- what listener l tells at each tick among the events, in order. The words of ticks are nothing to
-- it
abbrev pub told_of : Sizes → Plan → Listening → List CoreEvent → List Heed
told_of sizes plan l [] = []
told_of sizes plan l (Tick word ∷ events) = (heed sizes plan l).heed ∷ told_of sizes plan (heed sizes plan l).listening events
told_of sizes plan l (Arrive from bytes ∷ events) = told_of sizes plan (hear sizes plan from bytes l) events
