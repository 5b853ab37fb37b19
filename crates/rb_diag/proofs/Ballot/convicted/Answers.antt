-- Only the valid vectors of the senders count.
use Rattle.std.proofs.Common.{get_or, refl}
use Rattle.rb_base.specs.declared.values.Heard.TheVariants.{Fault}
use Rattle.rb_diag.proofs.Tallies.{convicted_is}
use Rattle.rb_diag.proofs.Ballot.convicted.Goals as goal

pub returns : goal.returns
returns g c =
    rw (← c.self.view_is)
    (convicted_is c.self.inside.others c.args.senders c.args.trusted (λ i. get_or c.self.inside.vectors i Fault)
    c.args.senders c.args.trusted c.valid_senders-valid.result c.suspects-suspects.result c.named_by_most.result
    refl refl c.valid_senders-valid.ensures c.suspects-suspects.ensures c.named_by_most.ensures)
