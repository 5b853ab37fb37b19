use Rattle.std.proofs.Common.{ℕ, Bool, ap, sym, ◌∙◌, arith}
use Rattle.rb_base.proofs.SetLoops.{passing_none, passing_more, passing_same, passing_all}
use Rattle.rb_rules.specs.Sense.{is_one}
use Rattle.rb_listen.specs.Lessons.{record_of}
use Rattle.rb_listen.proofs.lesson.ones_in.Goals.{then-is_one, else-is_one}
use Rattle.rb_listen.proofs.lesson.ones_in.Goals as goal

pub loop-j-init : goal.loop-j-init
loop-j-init c = c.empty-ones.ensures.value ∙ passing_none (λ i. is_one (record_of c.args.records.now c.args.slot i))

pub loop-j-preserved : goal.loop-j-preserved
loop-j-preserved c =
    let p : ℕ → Bool = λ i. is_one (record_of c.args.records.now c.args.slot i) in
    let set = c.loop-j.ones in
    let j = c.loop-j.j in
    let is = c.is_one.ensures ∙ ap is_one c.record_of.ensures in
    elim c.if-is_one.branch [
      | then-is_one w ↦ w.ones-is ∙ w.insert.ensures ∙ passing_more p set j w.of.result c.loop-j.invariant w.of.ensures (sym is ∙ w.if-is_one.true)
      | else-is_one w ↦ w.ones-is ∙ passing_same p set j c.loop-j.invariant (sym is ∙ w.if-is_one.false)
    ]

pub returns : goal.returns
returns c = passing_all (λ i. is_one (record_of c.args.records.now c.args.slot i)) c.loop-j.ones c.loop-j.j c.loop-j.invariant (omega arith)
