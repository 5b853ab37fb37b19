-- What a sweep brings a node, source by source, and what it leaves pending.
use Rattle.std.specs.Prelude.{ℕ, ◌≡◌, ◌+◌, ◌^◌, ◌<◌, ◌==◌, ◌&&◌, All, nat_le, nat_lt, List, [], ◌∷◌, filter, length, map}
use Rattle.rb_base.specs.Nodes.{Side, other}
use Rattle.rb_rules.specs.{Clock.stamp_of, Core.of_source, Goodness.{Scenario, clock_of}, Hearing.Coming, Sense.Arrival, Slots.count_of, WorldStep.{Site, coming_from}}
use Rattle.rb_laws_sweeps.specs.Sweeping.{swept}

-- what comes of source j before a time, in the order of pushing
abbrev pub due_from : ℕ → ℕ → List Coming → List Coming
due_from until j cs = filter (λ c. (c.from == j) && nat_lt c.time until) cs

-- What the core kept from a source before a sweep, what was due from it, and what the core keeps
-- from it after the sweep: as many more as were due. If nothing was due it keeps the same, and if
-- one was due and nothing was kept it keeps that one, with some stamp
pub record BringsArrivals (before : List Arrival) (due : List Coming) (after : List Arrival) : Type 0 where
  pub none : due ≡ [] → after ≡ before
  pub one : (c : Coming) → due ≡ c ∷ [] → before ≡ [] → (stamp : ℕ) × (after ≡ record { stamp = stamp; bytes = c.bytes } ∷ [])
  pub count : length after ≡ length before + length due

-- what came from a source before a sweep, what was due, and what has come after it, each as it came
pub record BringsComings (before due after : List Coming) : Type 0 where
  pub none : due ≡ [] → after ≡ before
  pub one : (c : Coming) → due ≡ c ∷ [] → before ≡ [] → after ≡ c ∷ []
  pub count : length after ≡ length before + length due

-- if this is due, it is from a node that there is, and its stamp is a tick that a node may have
abbrev pub IsHeardIfDue : Scenario → Side → ℕ → ℕ → Coming → Type 0
IsHeardIfDue sc me i until c = c.time < until → (c.from < count_of (other me) sc.sizes) × (stamp_of (clock_of sc me i) c.time < 2 ^ 31)

-- each message on its way to a node, if it is due, comes from a node that there is, with a stamp
-- that is a tick which a node may have
abbrev pub MayBeHeard : Scenario → Side → ℕ → ℕ → Site → Type 0
MayBeHeard sc me i until s = All (IsHeardIfDue sc me i until) s.coming

-- what the core keeps and what came to the node are from the same sources, in the same order
abbrev pub CameTogether : Site → Type 0
CameTogether s = map (λ a. a.0) s.core.inbox ≡ map (λ c. c.from) s.got

-- What a sweep makes of a node: what comes later is still pending, in its order, what was due has
-- come, source by source, and the rest is as it was
pub record Brings (sc : Scenario) (me : Side) (i until : ℕ) (s after : Site) : Type 0 where
  pub is : after ≡ record s { core = after.core; coming = after.coming; got = after.got }
  pub state : after.core.state ≡ s.core.state
  pub coming : after.coming ≡ filter (λ c. nat_le until c.time) s.coming
  pub inbox : (j : ℕ) → BringsArrivals (of_source s.core.inbox j) (due_from until j s.coming) (of_source after.core.inbox j)
  pub got : (j : ℕ) → BringsComings (coming_from s.got j) (due_from until j s.coming) (coming_from after.got j)
  pub together : CameTogether s → CameTogether after

abbrev pub SweepsBring : Type 0
SweepsBring =
    (sc : Scenario) (me : Side) (i until : ℕ) (s : Site) → s.core.had < 2 ^ 31 → MayBeHeard sc me i until s
    → Brings sc me i until s (swept sc me i until s)
