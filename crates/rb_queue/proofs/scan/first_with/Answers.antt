use Rattle.std.proofs.Common.{◌≤◌, sym, ◌∙◌, arith, subst}
use Rattle.rb_queue.proofs.First.{before_all, not_before_all, only_one}
use Rattle.rb_queue.proofs.scan.first_with.Goals as goal

pub returns-then-first-arrivals : goal.returns-then-first-arrivals
returns-then-first-arrivals c =
    only_one c.args.arrivals.now c.args.first c.args.arrival.now c.requires c.if-first-arrivals.true
    (subst (λ n. n ≤ 255) c.source-source.ensures.value c.source-source.ensures.small)

pub returns-then-comes_before : goal.returns-then-comes_before
returns-then-comes_before c =
    before_all c.args.arrivals.now c.args.first c.args.arrival.now c.index-arrivals-first.result c.requires (omega (arith, c.if-first-arrivals.false)) c.index-arrivals-first.is
    (subst (λ n. n ≤ 255) c.source-source.ensures.value c.source-source.ensures.small) (sym c.comes_before.ensures ∙ c.if-comes_before.true)

pub returns-else-comes_before : goal.returns-else-comes_before
returns-else-comes_before c =
    not_before_all c.args.arrivals.now c.args.first c.args.arrival.now c.index-arrivals-first.result c.requires (omega (arith, c.if-first-arrivals.false)) c.index-arrivals-first.is
    (sym c.comes_before.ensures ∙ c.if-comes_before.false)
