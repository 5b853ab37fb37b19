-- Events in a row.
use Rattle.std.specs.Prelude.{ℕ, ◌≡◌, List, [], ◌∷◌, ◌++◌, replicate}
use Rattle.rb_base.specs.{Nodes.Side, Sizes.Sizes}
use Rattle.rb_rules.specs.{declared.plan.Plan.Plan, Core.{Core, CoreEvent, arrive, tick, ticks, acts_of}, Core.CoreEvent.{Tick, Arrive}}

-- core c after the events, one after another
abbrev pub core_after : Sizes → Plan → Side → ℕ → Core → List CoreEvent → Core
core_after sizes plan me index c [] = c
core_after sizes plan me index c (Tick word ∷ events) = core_after sizes plan me index (tick sizes plan me index c word).core events
core_after sizes plan me index c (Arrive from bytes ∷ events) = core_after sizes plan me index (arrive sizes me c from bytes) events

-- a list of events may be taken in parts, as they come: each part goes on where the one before it
-- ended. Each tick that passes is an event with word 0
pub record ComeInParts (sizes : Sizes) (plan : Plan) (me : Side) (index : ℕ) : Type 0 where
  pub core : (c : Core) (before after : List CoreEvent)
      → core_after sizes plan me index c (before ++ after) ≡ core_after sizes plan me index (core_after sizes plan me index c before) after
  pub acts : (c : Core) (before after : List CoreEvent)
      → acts_of sizes plan me index c (before ++ after)
      ≡ acts_of sizes plan me index c before ++ acts_of sizes plan me index (core_after sizes plan me index c before) after
  pub passed : (c : Core) (count : ℕ) → ticks sizes plan me index count c ≡ core_after sizes plan me index c (replicate count (Tick 0))

-- for every node of every bus
abbrev pub EventsComeInParts : Type 0
EventsComeInParts = (sizes : Sizes) (plan : Plan) (me : Side) (index : ℕ) → ComeInParts sizes plan me index
