-- What lanes hold of a world: at each node what comes to it and its tick.
use Rattle.std.specs.Prelude.{⊤, ◌≡◌, ℕ, ◌<◌, Option, Some, None, option_map, unwrap_or, List, [], ◌∷◌, All, remove}
use Rattle.rb_base.specs.{Nodes.{Side, other}, Nodes.Side.{Biu, Rmu}, Sizes.{IsShape, Sizes}, declared.event.EventKind.EventKind}
use Rattle.rb_rules.specs.{Book.Each, Hearing.Coming, Slots.count_of, WorldStep.{Due, Pending as Waits, Site, Timed}, WorldStep.Pending.{Tick, Arrival}}
use Rattle.rb_queue.specs.{Waiting.{Held, Ready}, Waiting.Ready.{Comes, Ticks}}
use Rattle.rb_base.specs.declared.event.EventKind.TheVariants as kind

-- What a lane holds.

-- the lane of a node of a kind holds what is pending at its site: what comes to it, in the order of
-- pushing, and its tick. All senders are nodes of the bus
pub record HoldsSite (sizes : Sizes) (me : Side) (lane : Held) (s : Site) : Type 0 where
  pub coming : lane.arrivals ≡ s.coming
  pub ahead : lane.tick ≡ option_map (λ a. a.time) s.ahead
  pub senders : All (λ c. c.from < count_of (other me) sizes) s.coming

-- lane by lane
abbrev pub HoldsAll : Sizes → Side → List Held → List Site → Type 0
HoldsAll sizes me [] [] = ⊤
HoldsAll sizes me [] (s ∷ ss) = ⊥
HoldsAll sizes me (l ∷ ls) [] = ⊥
HoldsAll sizes me (l ∷ ls) (s ∷ ss) = HoldsSite sizes me l s × HoldsAll sizes me ls ss

-- the lanes of all nodes of a bus hold what is pending at the sites of a world
pub record HoldsSites (sizes : Sizes) (lanes : Each Held) (sites : Each Site) : Type 0 where
  pub shape : IsShape sizes
  pub bius : HoldsAll sizes Biu lanes.bius sites.bius
  pub rmus : HoldsAll sizes Rmu lanes.rmus sites.rmus

-- What is due.

-- what is ready in a lane, as the world names it: a tick by the number of the tick that is ahead
abbrev pub waits_with : Option Timed → Ready → Waits
waits_with ahead (Comes place c) = Arrival place c
waits_with ahead Ticks = Tick (unwrap_or (option_map (λ a. a.tick) ahead) 0)

-- what is ready in the lane of a node, as it is due in the world
abbrev pub due_with : Side → ℕ → Site → Ready → Due
due_with me i s r = record { side = me; node = i; pending = waits_with s.ahead r }

-- the site without what waited there
abbrev pub without_waiting : Waits → Site → Site
without_waiting (Tick k) s = record s { ahead = None }
without_waiting (Arrival place c) s = record s { coming = remove s.coming place }

-- an event, as it is shown, is what waits: the arrival of these bytes from this sender, or a tick
abbrev pub Shows : Waits → EventKind → Type 0
Shows (Tick k) (kind.Tick word wanted) = ⊤
Shows (Tick k) (kind.Arrive from bytes) = ⊥
Shows (Arrival place c) (kind.Tick word wanted) = ⊥
Shows (Arrival place c) (kind.Arrive from bytes) = (from ≡ c.from) × (bytes.items ≡ c.bytes)

-- what comes, of an event at this time, if it is an arrival
abbrev pub coming_with : ℕ → EventKind → Option Coming
coming_with time (kind.Arrive from bytes) = Some (record { time = time; from = from; bytes = bytes.items })
coming_with time (kind.Tick word wanted) = None
