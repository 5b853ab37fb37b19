use Rattle.std.proofs.Common.{◌≡◌, Bool, true, false, not, refl, sym, ◌∙◌, ap}
use Rattle.rb_base.specs.Nodes.{side_of}
use Rattle.rb_rules.specs.Slots.{listens, role_of}
use Rattle.rb_slot.proofs.engine.Engine.is_idle.Goals as goal

not_true : (b : Bool) → not b ≡ true → b ≡ false
not_true true is = sym is
not_true false is = refl

pub returns-then-slot-self : goal.returns-then-slot-self
returns-then-slot-self g c = λ known.
    let kept = c.self.inside.kept in
    rw (← c.self.view_is)
    (ap (λ r. listens (side_of g.K.Kind.CODE) r c.args.stage) (ap (role_of c.self.inside.plan.sizes) c.if-slot-self.true ∙ sym c.self.invariant.slot_kept.role_is)
    ∙ ap (λ k. listens (side_of k) kept.role c.args.stage) (sym c.CODE.ensures)
    ∙ sym c.listens.ensures ∙ not_true c.listens.result known)
