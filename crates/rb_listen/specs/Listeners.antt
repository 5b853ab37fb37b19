-- Which listener of the definitions a listener stands for.
use Rattle.std.specs.Prelude.{ℕ, ◌+◌, ◌≡◌, ◌<◌, ◌≤◌, ◌^◌, Option, Some, None, unwrap_or}
use Rattle.rb_base.specs.Sizes.{Sizes}
use Rattle.rb_rules.specs.{declared.plan.Plan.Plan, Core.Core}
use Rattle.rb_node.specs.Cores.{IsCore, Running}
use Rattle.rb_listen.specs.{Following.passing_end as follows_to, Listening.{Listening, decision_of, in_time}, Stamps.AreSoon, declared.lesson.First.First, declared.listener.Stage.Stage, declared.listener.Stage.TheVariants.{Searching, Waiting, Following}, declared.search.Search.Search}
use Rattle.rb_listen.specs.Listening as now

-- what a listener is seen as: the bus, what it does, what it heard while it searched, and what it
-- follows by
pub record Hearer : Type 0 where
  pub sizes : Sizes
  pub plan : Plan
  pub stage : Stage
  pub search : Search
  pub follower : Running

abbrev pub IsListeningIn : Stage → Search → Running → Listening → Type 0
IsListeningIn Searching s n l = l ≡ now.Searching s
IsListeningIn (Waiting first) s n l = l ≡ now.Waiting s.had first
IsListeningIn Following s n l = (c : Core) × (IsCore n c × (l ≡ now.Following c))

-- the listener stands for the one of the definitions
abbrev pub IsListening : Hearer → Listening → Type 0
IsListening h l = IsListeningIn h.stage h.search h.follower l

-- the tick, if it is fixed, is still to come
abbrev pub IsAhead : ℕ → Option ℕ → Type 0
IsAhead had None = Unit {0}
IsAhead had (Some tick) = had ≤ tick

-- what holds of a search between two calls: it has no more ticks than a listener can have, and its
-- stamps do not run ahead of them
pub record IsSearching (s : Search) : Type 0 where
  pub most : s.had ≤ 2 ^ 31
  pub soon : AreSoon s.lesson.records

-- what holds of a listener that has had `had` ticks and waits for its first frame
pub record IsWaiting (had : ℕ) (first : First) : Type 0 where
  pub frame : first.frame < 65536
  pub ahead : had ≤ first.epoch

-- what holds in each stage
abbrev pub IsInStage : Sizes → Plan → Stage → Search → Running → Type 0
IsInStage sizes plan Searching s n = IsAhead s.had (decision_of s)
IsInStage sizes plan (Waiting first) s n = IsWaiting s.had first
IsInStage sizes plan Following s n = (n.seat.sizes ≡ sizes) × (n.seat.plan ≡ plan)

-- with a tick the search comes to this listener of the definitions, in this stage
pub record ComesTo (before : Search) (l : Listening) (stage : Stage) (after : Search) : Type 0 where
  pub stands : (n : Running) → IsListeningIn stage after n l
  pub had : after.had ≡ before.had + 1
  pub soon : AreSoon after.lesson.records
  pub inside : (sizes : Sizes) (plan : Plan) (n : Running) → IsInStage sizes plan stage after n

-- what holds of a listener between two calls
pub record IsSound (sizes : Sizes) (plan : Plan) (stage : Stage) (s : Search) (n : Running) : Type 0 where
  pub search : IsSearching s
  pub inside : IsInStage sizes plan stage s n

-- the bus is the same
pub record IsSameBus (before after : Hearer) : Type 0 where
  pub sizes : after.sizes ≡ before.sizes
  pub plan : after.plan ≡ before.plan

-- how many ticks a listener in a stage has had
abbrev pub had_in : Stage → Search → Running → ℕ
had_in Searching s n = s.had
had_in (Waiting first) s n = s.had
had_in Following s n = n.had

abbrev pub had_at : Hearer → ℕ
had_at h = had_in h.stage h.search h.follower

-- the number up to which ticks may pass: that of the next tick that is not quiet, or of all ticks
-- that a listener can have
abbrev pub end_in : Stage → Search → Running → ℕ
end_in Searching s n = unwrap_or (in_time (decision_of s)) (2 ^ 31)
end_in (Waiting first) s n = unwrap_or (in_time (Some first.epoch)) (2 ^ 31)
end_in Following s n = follows_to n

abbrev pub passing_end : Hearer → ℕ
passing_end h = end_in h.stage h.search h.follower
