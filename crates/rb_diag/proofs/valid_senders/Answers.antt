-- The set grows by each sender whose vector counts.
use Rattle.std.proofs.Common.{get_or, sym, ◌∙◌, arith}
use Rattle.rb_base.specs.declared.values.Heard.TheVariants.{Fault}
use Rattle.rb_base.proofs.SetLoops.{passing_none, passing_more, passing_same, passing_all}
use Rattle.rb_diag.specs.Votes.{counts}
use Rattle.rb_diag.proofs.valid_senders.Goals.{then-counts, else-counts}
use Rattle.rb_diag.proofs.valid_senders.Goals as goal

pub loop-i-init : goal.loop-i-init
loop-i-init g c = c.empty-valid.ensures.value ∙ passing_none (counts c.args.others c.args.senders (λ i. get_or c.args.vectors.now i Fault))

pub loop-i-preserved : goal.loop-i-preserved
loop-i-preserved g c =
    let p = counts c.args.others c.args.senders (λ i. get_or c.args.vectors.now i Fault) in
    let valid = c.loop-i.valid in
    let i = c.loop-i.i in
    elim c.if-counts.branch [
      | then-counts w ↦
          w.valid-is ∙ w.insert.ensures ∙ passing_more p valid i w.of.result c.loop-i.invariant w.of.ensures (sym c.counts.ensures ∙ w.if-counts.true)
      | else-counts w ↦ w.valid-is ∙ passing_same p valid i c.loop-i.invariant (sym c.counts.ensures ∙ w.if-counts.false)
    ]

pub returns : goal.returns
returns g c =
    passing_all (counts c.args.others c.args.senders (λ i. get_or c.args.vectors.now i Fault)) c.loop-i.valid c.loop-i.i c.loop-i.invariant (omega arith)
