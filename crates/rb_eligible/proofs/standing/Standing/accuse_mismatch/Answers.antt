use Rattle.std.proofs.Common.{◌∙◌, ◌==◌}
use Rattle.rb_eligible.specs.Standings.{standing_of}
use Rattle.rb_eligible.proofs.Accused.{mismatch_of}
use Rattle.rb_eligible.proofs.standing.Standing.accuse_mismatch.Goals as goal

pub returns : goal.returns
returns g c = c.accuse_differing.ensures ∙ mismatch_of c.only.result (λ j. j == c.args.id) (standing_of c.args.self.now) c.only.ensures
