-- What drives give, and what they tell.
use Rattle.std.specs.Prelude.{⊤, ℕ, ◌≡◌, ◌<◌, ◌≤◌, Bool, false, List, [], ◌∷◌, ◌++◌, length, map, Option, Some, None, if◌then◌else◌}
use Rattle.rb_base.specs.declared.values.Heard.TheVariants.{Fault}
use Rattle.rb_rules.specs.{declared.record.NodeLine.NodeLine, declared.record.PortLine.PortLine, declared.record.SlotLine.SlotLine, WorldStep.World}
use Rattle.rb_world_book.specs.declared.turn.Turn.{Turn}
use Rattle.rb_world.specs.{declared.ties.Ties.TheVariants.First, Nexts.GoesToNext, Worlds.KeptWorld}
use Rattle.rb_world_book.specs.declared.turn.Turn.TheVariants as turn

-- Turns.

-- a line without what a drive that is not plain may change
abbrev pub bare_node : NodeLine → NodeLine
bare_node l = record l { tick = 0; time = 0; biu = 0; rmu = 0 }

abbrev pub bare_port : PortLine → PortLine
bare_port l = record l { state = 0; losses = 0 }

abbrev pub without_value : SlotLine → SlotLine
without_value l = record l { value = Fault }

-- a turn whose values are Fault
abbrev pub masked : Turn → Turn
masked turn.Quiet = turn.Quiet
masked (turn.Frame f) = turn.Frame f
masked (turn.Slot s) = turn.Slot (record s { lines = record { items = map without_value s.lines.items } })
masked turn.Ended = turn.Ended
masked (turn.Breach place cause) = turn.Breach place cause

-- a turn without what a drive that is not plain may change: ticks, times, masks, states, losses and
-- values
abbrev pub bare : Turn → Turn
bare turn.Quiet = turn.Quiet
bare (turn.Frame f) =
    turn.Frame (record f { nodes = record { items = map bare_node f.nodes.items }; ports = record { items = map bare_port f.ports.items } })
bare (turn.Slot s) = masked (turn.Slot s)
bare turn.Ended = turn.Ended
bare (turn.Breach place cause) = turn.Breach place cause

-- the world goes to its next record by first choices, and this turn is that record but for ticks,
-- times, masks, states, losses and values
pub record GoesAlike (before after : KeptWorld) (given : Turn) (w : World) : Type 0 where
  pub turn : Turn
  pub goes : GoesToNext First before after turn w
  pub alike : bare given ≡ bare turn

-- the world goes to its next record by first choices, and for that record this turn may be given
pub record GivesBy (gives : Turn → Turn → Type 0) (before after : KeptWorld) (given : Turn) (w : World) : Type 0 where
  pub turn : Turn
  pub goes : GoesToNext First before after turn w
  pub given_by : gives turn given

-- Telling.

-- a call appends the turn that it gives to what is told, or ends the telling for good
abbrev pub Tells : Option (List Turn) → Option (List Turn) → Turn → Type 0
Tells None after turn = after ≡ None
Tells (Some ts) None turn = ⊤
Tells (Some ts) (Some us) turn = us ≡ ts ++ turn ∷ []

-- the turns that a drive gave, for as many as there is room. It tells them as long as they are all
pub record KeptTurns : Type 0 where
  pub turns : List Turn
  pub room : ℕ
  pub telling : Bool
  pub mask : Bool

abbrev pub told_of : KeptTurns → Option (List Turn)
told_of k = if k.telling then Some k.turns else None

-- the turn that it gives for this one
abbrev pub given_for : Bool → Turn → Turn
given_for mask turn = if mask then masked turn else turn

-- a turn is kept and told with those before it while there is room, and else nothing is told any
-- more
pub record Keeps (before after : KeptTurns) (turn : Turn) : Type 0 where
  pub kept : length before.turns < before.room → after.turns ≡ before.turns ++ turn ∷ []
  pub telling : length before.turns < before.room → after.telling ≡ before.telling
  pub stays : before.room ≤ length before.turns → after.turns ≡ before.turns
  pub over : before.room ≤ length before.turns → after.telling ≡ false
  pub room : after.room ≡ before.room
  pub mask : after.mask ≡ before.mask
  pub tells : Tells (told_of before) (told_of after) turn
