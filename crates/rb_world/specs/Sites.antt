-- Which site of a world is stood for.
use Rattle.std.specs.Prelude.{ℕ, ◌≡◌, ◌<◌, ◌^◌, Bool, true, Option, Some, None, List, [], ◌∷◌, ◌++◌, length, map, slice_index}
use Rattle.rb_base.specs.Nodes.{Side, other}
use Rattle.rb_rules.specs.{Core.{Act, arrive, of_source}, Goodness.{Scenario, is_good}, Hearing.{Coming, Span}, Ports.PortState, Sense.Arrival, Slots.count_of, WorldStep.{Site, coming_from, with_close, with_epoch}}
use Rattle.rb_node.specs.Cores.{IsCore, IsSameNode, Running}

-- what is kept of a site: the node, whether it runs, and for each source the time of what came of
-- it last
pub record KeptSite : Type 0 where
  pub node : Running
  pub runs : Bool
  pub times : List ℕ

-- the node's number among those of its kind
abbrev pub number_of : KeptSite → ℕ
number_of k = k.node.seat.index

-- a node of the other kind has this number
abbrev pub IsSource : Side → KeptSite → ℕ → Type 0
IsSource me k from = from < count_of (other me) k.node.seat.sizes

-- the node is the same, and nothing but what it itself keeps has changed
pub record IsSameSite (before after : KeptSite) : Type 0 where
  pub node : IsSameNode before.node after.node
  pub rest : after ≡ record before { node = after.node }

-- what came into the inbox and what was got came of the same sources, one after another
abbrev pub ComeTogether : List (ℕ × Arrival) → List Coming → Type 0
ComeTogether inbox got = map (λ (a : ℕ × Arrival). a.0) inbox ≡ map (λ (c : Coming). c.from) got

-- for each source from which one message came since the last close, its time is kept
abbrev pub HoldsTimes : List ℕ → List Coming → Type 0
HoldsTimes times got = (j : ℕ) → j < 16 → (c : Coming) → coming_from got j ≡ c ∷ [] → slice_index times j ≡ c.time

-- what is kept stands for a site of a node of kind me, but for what is pending there and what it
-- has told
pub record Stands (sc : Scenario) (me : Side) (k : KeptSite) (s : Site) : Type 0 where
  pub sizes : k.node.seat.sizes ≡ sc.sizes
  pub plan : k.node.seat.plan ≡ sc.plan
  pub core : IsCore k.node s.core
  pub runs : k.runs ≡ s.runs
  pub together : s.core.had < 2 ^ 31 → ComeTogether s.core.inbox s.got
  pub times : HoldsTimes k.times s.got

-- what is kept stands for some site
abbrev pub StandsForSome : Scenario → Side → KeptSite → Type 0
StandsForSome sc me k = (s : Site) × Stands sc me k s

-- the site after an arrival that is taken in before its stamp is known: it is stamped with the next
-- tick, and is still pending
abbrev pub taken_in : Scenario → Side → Coming → Site → Site
taken_in sc me c s = record s { core = arrive sc.sizes me s.core c.from c.bytes; got = s.got ++ c ∷ [] }

-- what came of a source, as two nodes have it, is alike: nothing, one message with the same bytes
-- and the same stamp, or more than one
pub data AreAlike (xs ys : List Arrival) : Type 0 where
  Nothing : xs ≡ [] → ys ≡ [] → AreAlike xs ys
  Single : (x y : Arrival) → xs ≡ x ∷ [] → ys ≡ y ∷ [] → y.bytes ≡ x.bytes → y.stamp ≡ x.stamp → AreAlike xs ys
  Several : 1 < length xs → 1 < length ys → AreAlike xs ys

-- a site t is in the state of s, and has heard the like from each source: what is kept of s cannot
-- tell them apart
pub record IsHeardAlike (s t : Site) : Type 0 where
  pub state : t.core.state ≡ s.core.state
  pub had : t.core.had ≡ s.core.had
  pub runs : t.runs ≡ s.runs
  pub inbox : (j : ℕ) → j < 16 → AreAlike (of_source s.core.inbox j) (of_source t.core.inbox j)
  pub got : (j : ℕ) → j < 16 → (c : Coming) → coming_from t.got j ≡ c ∷ [] → coming_from s.got j ≡ c ∷ []
  pub together : t.core.had < 2 ^ 31 → ComeTogether t.core.inbox t.got

-- the site after a tick that gave this, before the node goes on to the next
abbrev pub after_tick : Scenario → List PortState → Side → ℕ → Act → Site → Site
after_tick sc ports me i x s = with_epoch sc ports me i x.epoch (with_close me i x.core.state x.closed (record s { core = x.core }))

-- the node is good in the window that it enters, if it enters one
abbrev pub goes_on : Scenario → Side → ℕ → Option Span → Bool
goes_on sc me i None = true
goes_on sc me i (Some span) = is_good sc me i span.place.frame span.place.slot
