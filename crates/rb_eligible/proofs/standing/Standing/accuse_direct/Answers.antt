use Rattle.std.proofs.Common.{◌∙◌, ◌==◌}
use Rattle.rb_eligible.specs.Standings.{standing_of}
use Rattle.rb_eligible.proofs.Accused.{evidence_of, newest_of}
use Rattle.rb_eligible.proofs.standing.Standing.accuse_direct.Goals as goal

pub returns-clause-accused : goal.returns-clause-accused
returns-clause-accused g c = c.accuse_each.ensures.accused ∙ evidence_of c.only.result (λ j. j == c.args.id) (standing_of c.args.self.now) c.only.ensures

pub returns-clause-newest : goal.returns-clause-newest
returns-clause-newest g c = λ frame newest is.
    newest_of c.only.result (λ j. j == c.args.id) (standing_of c.accuse_each.new.self) frame newest c.only.ensures (c.accuse_each.ensures.newest frame newest is)
