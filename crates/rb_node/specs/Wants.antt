-- What a node wants to be handed for a tick.
use Rattle.std.specs.Prelude.{ℕ, nat_lt, true, false, Option, Some, None, if◌then◌else◌}
use Rattle.rb_base.specs.{Nodes.Side, Nodes.Side.Biu, Sizes.Sizes}
use Rattle.rb_rules.specs.{Core.{Core, wants, pass_to}, Slots.first_diagnosis_of}
use Rattle.rb_node.specs.{declared.act.Want.Want, Cores.Running}
use Rattle.rb_node.specs.declared.act.Want.TheVariants as want

-- in a schedule slot its request, in a data slot its word
abbrev pub want_for : Sizes → Option ℕ → Want
want_for sizes None = want.Nothing
want_for sizes (Some slot) = if nat_lt slot sizes.bius then want.Request else want.Data slot

-- the slot, if words from outside are said in it
abbrev pub slot_of_words : Sizes → ℕ → Option ℕ
slot_of_words sizes slot = elim (nat_lt slot (first_diagnosis_of Biu sizes)) [ true ↦ Some slot | false ↦ None ]

-- what is wanted for the next tick of a core that is the node's
abbrev pub want_of : Side → Running → Core → Want
want_of me n c = want_for n.seat.sizes (wants n.seat.sizes n.seat.plan me n.seat.index c)

-- what is wanted for the next tick that is not quiet, once the ticks before it have passed
abbrev pub want_then : Side → Running → Core → Option ℕ → Want
want_then me n c None = want.Nothing
want_then me n c (Some k) = want_of me n (pass_to k c)
