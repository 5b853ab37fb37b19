use Rattle.std.proofs.Common.{sym, ◌∙◌}
use Rattle.rb_listen.proofs.Passing.{first-none, first-some}
use Rattle.rb_listen.proofs.lesson.first_of.Goals as goal

pub returns-in-Some : goal.returns-in-Some
returns-in-Some c =
    first-some c.args.plan.now.sizes c.args.plan.now.plan c.args.lesson.now c.trusted_bius-bius.result c.trusted_rmus-rmus.result c.in-Some.k2 c.first_by.result
    (rw c.shape-shape.ensures at c.trusted_bius-bius.ensures) (rw c.shape-shape.ensures at c.trusted_rmus-rmus.ensures)
    (sym c.in-Some.is ∙ rw c.shape-shape.ensures at c.middle_in.ensures.value) c.first_by.ensures

pub returns-in-None : goal.returns-in-None
returns-in-None c =
    first-none c.args.plan.now.sizes c.args.plan.now.plan c.args.lesson.now c.trusted_rmus-rmus.result
    (rw c.shape-shape.ensures at c.trusted_rmus-rmus.ensures) (sym c.in-None.is ∙ rw c.shape-shape.ensures at c.middle_in.ensures.value)
