use Rattle.rb_eligible.proofs.Accused.{wrong_is}
use Rattle.rb_eligible.proofs.standing.Standing.evidence.Goals as goal

pub returns : goal.returns
returns g c =
    wrong_is c.args.self.now.trusted c.args.expected c.args.ones c.args.came c.difference-missed.result c.difference-unasked.result c.union.result c.intersection.result
    c.difference-missed.ensures c.difference-unasked.ensures c.union.ensures c.intersection.ensures
