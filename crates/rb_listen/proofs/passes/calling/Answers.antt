-- The set grows by each RMU whose newest call falls in.
use Rattle.std.proofs.Common.{ℕ, Bool, None, get_or, ap, sym, ◌∙◌, arith}
use Rattle.rb_base.proofs.SetLoops.{passing_none, passing_more, passing_same, passing_all}
use Rattle.rb_listen.specs.Passes.{falls_in}
use Rattle.rb_listen.proofs.passes.calling.Goals.{then-falls_in, else-falls_in}
use Rattle.rb_listen.proofs.passes.calling.Goals as goal

pub loop-j-init : goal.loop-j-init
loop-j-init c = c.empty-calling.ensures.value ∙ passing_none (λ i. falls_in c.args.reach c.args.frame c.args.from (get_or c.args.newest.now i None))

pub loop-j-preserved : goal.loop-j-preserved
loop-j-preserved c =
    let p : ℕ → Bool = λ i. falls_in c.args.reach c.args.frame c.args.from (get_or c.args.newest.now i None) in
    let set = c.loop-j.calling in
    let j = c.loop-j.j in
    let is = c.falls_in.ensures ∙ ap (falls_in c.args.reach c.args.frame c.args.from) c.newest_of.ensures in
    elim c.if-falls_in.branch [
      | then-falls_in w ↦ w.calling-is ∙ w.insert.ensures ∙ passing_more p set j w.of.result c.loop-j.invariant w.of.ensures (sym is ∙ w.if-falls_in.true)
      | else-falls_in w ↦ w.calling-is ∙ passing_same p set j c.loop-j.invariant (sym is ∙ w.if-falls_in.false)
    ]

pub returns : goal.returns
returns c =
    passing_all (λ i. falls_in c.args.reach c.args.frame c.args.from (get_or c.args.newest.now i None)) c.loop-j.calling c.loop-j.j c.loop-j.invariant (omega arith)
