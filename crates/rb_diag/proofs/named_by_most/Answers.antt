-- The set grows by each trusted node that most name.
use Rattle.std.proofs.Common.{ℕ, Bool, ◌&&◌, get_or, sym, ◌∙◌, arith}
use Rattle.rb_base.specs.{Nodes.has, declared.values.Heard.TheVariants.Fault}
use Rattle.rb_base.proofs.SetLoops.{passing_none, passing_more, passing_same, passing_all}
use Rattle.rb_diag.specs.Votes.{most_against}
use Rattle.rb_diag.proofs.named_by_most.Goals.{then-is_convicted, else-is_convicted}
use Rattle.rb_diag.proofs.named_by_most.Goals as goal

pub loop-j-init : goal.loop-j-init
loop-j-init g c = c.empty-named.ensures.value ∙ passing_none (λ j. has c.args.trusted j && most_against c.args.senders (λ i. get_or c.args.vectors.now i Fault) j)

pub loop-j-preserved : goal.loop-j-preserved
loop-j-preserved g c =
    let p : ℕ → Bool = λ j. has c.args.trusted j && most_against c.args.senders (λ i. get_or c.args.vectors.now i Fault) j in
    let named = c.loop-j.named in
    let j = c.loop-j.j in
    elim c.if-is_convicted.branch [
      | then-is_convicted w ↦
          w.named-is ∙ w.insert.ensures ∙ passing_more p named j w.of.result c.loop-j.invariant w.of.ensures (sym c.is_convicted.ensures ∙ w.if-is_convicted.true)
      | else-is_convicted w ↦ w.named-is ∙ passing_same p named j c.loop-j.invariant (sym c.is_convicted.ensures ∙ w.if-is_convicted.false)
    ]

pub returns : goal.returns
returns g c =
    passing_all (λ j. has c.args.trusted j && most_against c.args.senders (λ i. get_or c.args.vectors.now i Fault) j)
    c.loop-j.named c.loop-j.j c.loop-j.invariant (omega arith)
