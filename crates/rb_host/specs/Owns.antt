-- What a handle owns: the memory of its node.
use Rattle.std.specs.{Prelude.{Option, Some, None}, Coded.{Coded, coded_option}, Box.Ownership.box_owns, Global.Global}
use Rattle.std_heap.specs.contracts.GlobalAllocator.TheImpl.{ghosts}
use Rattle.rb_host.specs.contracts.any_node.AnyNode.{the_row}
use base.Fml.{Fml, ftrue}
use denote.RawPtr.{Ptr}

-- the node, if there is one
abbrev pub Kept : Type 0
Kept = Option the_row.Denot

-- the allocator. There is one
abbrev heap : Global
heap = record { memory = record { seal = tt } }

-- the node lies at the pointer, in a block of the allocator's
abbrev pub held_owns : Ptr → Kept → Fml
held_owns p None = ftrue
held_owns p (Some n) = box_owns (ghosts.dealloc_token heap) the_row p n

abbrev pub kept_coded : Coded Kept
kept_coded = coded_option the_row.coded
