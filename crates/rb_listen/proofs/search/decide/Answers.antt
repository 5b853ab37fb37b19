use Rattle.std.proofs.Common.{ap, sym, ◌∙◌}
use Rattle.rb_listen.specs.Listening.{decided}
use Rattle.rb_listen.proofs.Searches.{first-frame, learns-next}
use Rattle.rb_listen.proofs.search.decide.Goals as goal

pub wait-requires-clause-frame : goal.wait-requires-clause-frame
wait-requires-clause-frame c =
    first-frame c.args.plan.now.sizes c.args.plan.now.plan c.args.search.now.lesson c.in-Some.first (sym c.in-Some.is ∙ c.first_of.ensures)

pub returns-in-None : goal.returns-in-None
returns-in-None c =
    learns-next c.args.search.now c.learn_next.new.search _ c.learn_next.ensures (ap (decided c.args.search.now) (sym c.first_of.ensures ∙ c.in-None.is))
