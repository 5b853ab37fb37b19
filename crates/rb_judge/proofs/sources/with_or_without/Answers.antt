use Rattle.std.proofs.Common.{◌==◌, ◌||◌, ◌&&◌, not, if◌then◌else◌, ◌∙◌, sym, ap}
use Rattle.rb_base.specs.Nodes.{has}
use Rattle.rb_base.proofs.Sets.{has-is}
use Rattle.rb_judge.proofs.Sides.{with_it, without_it}
use Rattle.rb_judge.proofs.sources.with_or_without.Goals as goal

pub returns-then-member : goal.returns-then-member
returns-then-member g c = λ k h.
    has-is _ k _ c.insert.ensures h
    ∙ ap (λ i. has c.args.set k || (k == i)) c.of.ensures
    ∙ with_it (k == c.args.i) (has c.args.set k)
    ∙ ap (λ b. if k == c.args.i then b else has c.args.set k) (sym c.if-member.true)

pub returns-else-member : goal.returns-else-member
returns-else-member g c = λ k h.
    has-is _ k _ c.remove.ensures h
    ∙ ap (λ i. has c.args.set k && not (k == i)) c.of-else-member.ensures
    ∙ without_it (k == c.args.i) (has c.args.set k)
    ∙ ap (λ b. if k == c.args.i then b else has c.args.set k) (sym c.if-member.false)
