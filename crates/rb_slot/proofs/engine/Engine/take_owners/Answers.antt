use Rattle.std.proofs.Common.{take, refl, ◌∙◌, ap}
use Rattle.rb_base.specs.{Sizes.{IsShape, sync_slot_of}, Nodes.side_of}
use Rattle.rb_rules.specs.Owners.{owners_of}
use Rattle.rb_slot.proofs.{Owning.requests_are, Keeping.sound_with}
use Rattle.rb_slot.proofs.engine.Engine.take_owners.Goals as goal

pub returns : goal.returns
returns g c =
    let sizes = c.self.inside.plan.sizes in
    let requests = take sizes.bius (take (sync_slot_of sizes) c.self.inside.votes) in
    let shape : IsShape sizes = rw (← c.self.view_is) at c.bounds.ensures.shape in
    let trusted = rw (← c.self.view_is) at c.trusted_biu-trusted.ensures in
    let owners =
    c.owners_of-self-inside.ensures.owners
    ∙ ap (λ s. owners_of s c.trusted_biu-trusted.result c.first_votes.result) c.shape.ensures
    ∙ ap (owners_of sizes c.trusted_biu-trusted.result) c.first_votes.ensures
    ∙ requests_are sizes c.trusted_biu-trusted.result c.self.inside.votes shape
    ∙ ap (λ t. owners_of sizes t requests) trusted in
    rw (← c.self.view_is) (rw owners refl)

pub invariant_of-self : goal.invariant_of-self
invariant_of-self g c =
    sound_with _ _ _ _ _ _ _ _ _ _ _ _ _ _ _ _ c.self.invariant
    (rw c.shape-2.ensures at (c.no_slot-self-inside.ensures (side_of g.K.Kind.CODE) c.self.inside.index c.self.inside.near c.self.inside.far.trusted c.owners_of-self-inside.result))
