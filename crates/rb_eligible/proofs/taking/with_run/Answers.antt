use Rattle.rb_eligible.proofs.Runs.{with_led}
use Rattle.rb_eligible.proofs.taking.with_run.Goals as goal

pub returns-then-are_same : goal.returns-then-are_same
returns-then-are_same g c = λ j h inside.
    with_led c.args.lead.sources c.args.run c.union.result j c.args.value c.args.lead.value c.union.ensures (c.are_same.ensures.same c.if-are_same.true) (c.are_same.ensures.some c.if-are_same.true) h inside
