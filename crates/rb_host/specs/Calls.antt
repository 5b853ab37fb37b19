-- What the calls over a handle promise.
use Rattle.std.specs.Prelude.{ℕ, ◌≡◌, ◌+◌, Option, Some, None, IfErr, IsSomeAnd, OnErr, OnOk, Result, Ok, Err}
use Rattle.rb_node.specs.{Cores.tick_of, Wants.want_of}
use Rattle.rb_rules.specs.Core.{Core}
use Rattle.rb_host.specs.{Acts.{IsHostAct, want_shown}, declared.act.HostAct.HostAct, declared.act.HostWant.HostWant, declared.any_node.AnyNode.AnyNode, declared.seat.NoNode.NoNode, declared.seat.Seat.Seat, Nodes.{IsFirst, IsSame, StandsFor, running_in, side_in}, Seats.{IsAccepted, IsRefused, name_of, timetable_of}}
use Rattle.rb_host.specs.declared.seat.NoNode.TheVariants as no

-- the number of an answer of the call that makes a node
abbrev pub number_of : Result (Unit {0}) NoNode → ℕ
number_of (Ok done) = 0
number_of (Err no.OutOfMemory) = 7
number_of (Err no.Sizes) = 11
number_of (Err no.Node) = 12
number_of (Err no.Plan) = 13
number_of (Err (no.Inequality n)) = 20 + n

-- the handle has the first node of this seat, or none, and the number says which, and why there is
-- none
pub record IsAnswered (seat : Seat) (after : Option AnyNode) (number : ℕ) : Type 0 where
  pub made : Result (Unit {0}) NoNode
  pub is : number ≡ number_of made
  pub node : OnOk made (IsSomeAnd after (IsFirst (timetable_of seat) (name_of seat)))
  pub accepted : OnOk made (IsAccepted seat)
  pub refused : IfErr made (IsRefused seat)
  pub none : OnErr made (after ≡ None)

-- what a call makes of the node; if there is none before it, there is none after it
abbrev pub Becomes : (AnyNode → AnyNode → Type 0) → Option AnyNode → Option AnyNode → Type 0
Becomes P None after = after ≡ None
Becomes P (Some n) after = IsSomeAnd after (P n)

-- a tick with this word, and what it gives in plain numbers
pub record Ticks (before : AnyNode) (word : ℕ) (after : AnyNode) (act : HostAct) : Type 0 where
  pub core : (c : Core) → StandsFor before c → StandsFor after (tick_of (side_in before) (running_in before) c word).core
  pub gives : (c : Core) → StandsFor before c
      → IsHostAct (running_in before).seat.plan.version act (tick_of (side_in before) (running_in before) c word)
  pub same : IsSame before after

-- what the node wants for its next tick, in plain numbers
abbrev pub IsHostWant : AnyNode → HostWant → Type 0
IsHostWant n w = (c : Core) → StandsFor n c → w ≡ want_shown (want_of (side_in n) (running_in n) c)
