use Rattle.std.proofs.Common.{ℕ, Bool, sym, ◌∙◌, arith}
use Rattle.rb_base.proofs.SetLoops.{passing_none, passing_more, passing_same, passing_all}
use Rattle.rb_listen.specs.Lessons.{trusts_biu}
use Rattle.rb_listen.proofs.lesson.trusted_bius.Goals.{then-trusts_biu, else-trusts_biu}
use Rattle.rb_listen.proofs.lesson.trusted_bius.Goals as goal

pub loop-i-init : goal.loop-i-init
loop-i-init c = c.empty-trusted.ensures.value ∙ passing_none (trusts_biu c.args.shape.now c.args.records.now)

pub loop-i-preserved : goal.loop-i-preserved
loop-i-preserved c =
    let p : ℕ → Bool = trusts_biu c.args.shape.now c.args.records.now in
    let set = c.loop-i.trusted in
    let i = c.loop-i.i in
    elim c.if-trusts_biu.branch [
      | then-trusts_biu w ↦ w.trusted-is ∙ w.insert.ensures ∙ passing_more p set i w.of.result c.loop-i.invariant w.of.ensures (sym c.trusts_biu.ensures ∙ w.if-trusts_biu.true)
      | else-trusts_biu w ↦ w.trusted-is ∙ passing_same p set i c.loop-i.invariant (sym c.trusts_biu.ensures ∙ w.if-trusts_biu.false)
    ]

pub returns : goal.returns
returns c = passing_all (trusts_biu c.args.shape.now c.args.records.now) c.loop-i.trusted c.loop-i.i c.loop-i.invariant (omega arith)
