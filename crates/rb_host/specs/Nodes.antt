-- What a node of either kind does: what rb_node says of one kind, at its kind.
use Rattle.std.specs.Prelude.{ℕ, ◌≡◌, ◌-◌, ◌^◌, min, unwrap_or, List}
use Rattle.rb_base.specs.{Nodes.Side, Nodes.Side.{Biu, Rmu}, declared.node.NodeName.NodeName}
use Rattle.rb_node.specs.{Acts.IsWholeAct, Cores.{IsCore, IsSameNode, Running, arrive_of, next_of, passing_end, tick_of, ticks_of}, declared.act.Act.Act, declared.act.Want.Want, Wants.want_of}
use Rattle.rb_plan.specs.Timetable.{Timetable}
use Rattle.rb_rules.specs.{Core.{Core, first_core}, Lawful.kind_of}
use Rattle.rb_host.specs.declared.any_node.AnyNode.{AnyNode}
use Rattle.rb_base.specs.declared.node.NodeName.TheVariants as name
use Rattle.rb_host.specs.declared.any_node.AnyNode.TheVariants as node

-- the node's kind, and the node
abbrev pub side_in : AnyNode → Side
side_in (node.Biu n) = Biu
side_in (node.Rmu n) = Rmu

abbrev pub running_in : AnyNode → Running
running_in (node.Biu n) = n
running_in (node.Rmu n) = n

-- the node stands for the core
abbrev pub StandsFor : AnyNode → Core → Type 0
StandsFor n c = IsCore (running_in n) c

-- the node is the same node of the same bus
pub record IsSame (before after : AnyNode) : Type 0 where
  pub kind : side_in after ≡ side_in before
  pub node : IsSameNode (running_in before) (running_in after)

-- the number of a node among those of its kind
abbrev pub number_of : NodeName → ℕ
number_of (name.Biu i) = i
number_of (name.Rmu i) = i

-- the node of this name, before its first tick
pub record IsFirst (t : Timetable) (called : NodeName) (n : AnyNode) : Type 0 where
  pub kind : side_in n ≡ kind_of called
  pub index : (running_in n).seat.index ≡ number_of called
  pub core : StandsFor n (first_core t.sizes (kind_of called))
  pub sizes : (running_in n).seat.sizes ≡ t.sizes
  pub plan : (running_in n).seat.plan ≡ t.plan

-- a message comes, or other bytes
pub record Arrives (before : AnyNode) (from : ℕ) (bytes : List ℕ) (after : AnyNode) : Type 0 where
  pub core : (c : Core) → StandsFor before c → StandsFor after (arrive_of (side_in before) (running_in before) c from bytes)
  pub same : IsSame before after

-- what the node wants for its next tick
abbrev pub IsWant : AnyNode → Want → Type 0
IsWant n want = (c : Core) → StandsFor n c → want ≡ want_of (side_in n) (running_in n) c

-- a tick with this word, and what it gives
pub record Steps (before : AnyNode) (word : ℕ) (after : AnyNode) (act : Act) : Type 0 where
  pub core : (c : Core) → StandsFor before c → StandsFor after (tick_of (side_in before) (running_in before) c word).core
  pub gives : (c : Core) → StandsFor before c
      → IsWholeAct (running_in before).seat.plan.version act (tick_of (side_in before) (running_in before) c word)
  pub same : IsSame before after

-- the next tick that is not quiet, or 2^31
abbrev pub IsNextTick : AnyNode → ℕ → Type 0
IsNextTick n tick = (c : Core) → StandsFor n c → tick ≡ unwrap_or (next_of (side_in n) (running_in n) c) (2 ^ 31)

-- at most `ticks` ticks pass, all of them quiet, and no fewer than there are
pub record Passes (before : AnyNode) (ticks passed : ℕ) (after : AnyNode) : Type 0 where
  pub many : passed ≡ min ticks (passing_end (side_in before) (running_in before) - (running_in before).had)
  pub core : (c : Core) → StandsFor before c → StandsFor after (ticks_of (side_in before) (running_in before) passed c)
  pub same : IsSame before after
