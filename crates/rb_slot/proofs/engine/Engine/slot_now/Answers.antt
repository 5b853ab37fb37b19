use Rattle.std.proofs.Common.{refl, ◌∙◌, ap}
use Rattle.rb_base.specs.Nodes.{side_of}
use Rattle.rb_rules.specs.Slots.{role_of}
use Rattle.rb_slot.specs.Engines.{Seated}
use Rattle.rb_slot.proofs.Keeping.{found_right}
use Rattle.rb_slot.proofs.engine.Engine.slot_now.Goals as goal

pub returns : goal.returns
returns g c =
    found_right (side_of g.K.Kind.CODE) c.args.self.now c.args.slot _
    c.requires
    refl
    (c.role_of-role.ensures ∙ ap (λ s. role_of s c.args.slot) (c.shape.ensures ∙ ap (λ (v : Seated). v.sizes) c.self.view_is))
    c.sender-sender.ensures
    c.stages_spoken.ensures
