use Rattle.rb_slot.proofs.Keeping.{sound_with}
use Rattle.rb_base.specs.Nodes.{side_of}
use Rattle.rb_slot.proofs.engine.Engine.keep_slot.Goals as goal

pub invariant_of-self-else-slot-sync_slot : goal.invariant_of-self-else-slot-sync_slot
invariant_of-self-else-slot-sync_slot g c =
    sound_with _ _ _ _ _ _ _ _ _ _ _ _ _ _ _ _ c.self.invariant
    (rw c.shape.ensures at (c.no_slot-self-inside.ensures (side_of g.K.Kind.CODE) c.self.inside.index c.self.inside.near c.self.inside.far.trusted c.self.inside.owners))
