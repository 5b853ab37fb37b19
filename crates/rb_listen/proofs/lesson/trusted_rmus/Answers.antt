use Rattle.std.proofs.Common.{ℕ, Bool, sym, ◌∙◌, arith}
use Rattle.rb_base.proofs.SetLoops.{passing_none, passing_more, passing_same, passing_all}
use Rattle.rb_listen.specs.Lessons.{trusts_rmu}
use Rattle.rb_listen.proofs.lesson.trusted_rmus.Goals.{then-trusts_rmu, else-trusts_rmu}
use Rattle.rb_listen.proofs.lesson.trusted_rmus.Goals as goal

pub loop-j-init : goal.loop-j-init
loop-j-init c = c.empty-trusted.ensures.value ∙ passing_none (trusts_rmu c.args.shape.now c.args.records.now)

pub loop-j-preserved : goal.loop-j-preserved
loop-j-preserved c =
    let p : ℕ → Bool = trusts_rmu c.args.shape.now c.args.records.now in
    let set = c.loop-j.trusted in
    let j = c.loop-j.j in
    elim c.if-trusts_rmu.branch [
      | then-trusts_rmu w ↦ w.trusted-is ∙ w.insert.ensures ∙ passing_more p set j w.of.result c.loop-j.invariant w.of.ensures (sym c.trusts_rmu.ensures ∙ w.if-trusts_rmu.true)
      | else-trusts_rmu w ↦ w.trusted-is ∙ passing_same p set j c.loop-j.invariant (sym c.trusts_rmu.ensures ∙ w.if-trusts_rmu.false)
    ]

pub returns : goal.returns
returns c = passing_all (trusts_rmu c.args.shape.now c.args.records.now) c.loop-j.trusted c.loop-j.j c.loop-j.invariant (omega arith)
