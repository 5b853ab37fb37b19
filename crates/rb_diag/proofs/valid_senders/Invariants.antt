use Rattle.std.proofs.Common.{◌≡◌, get_or}
use Rattle.rb_base.specs.declared.values.Heard.TheVariants.{Fault}
use Rattle.rb_base.proofs.SetLoops.{passing_below}
use Rattle.rb_diag.specs.Votes.{counts}
use Rattle.rb_diag.proofs.valid_senders.Given as goal

-- the senders so far whose vectors count
abbrev pub invariant-loop-i : goal.invariant-loop-i
invariant-loop-i g l = l.valid ≡ passing_below l.i (counts l.others l.senders (λ i. get_or l.vectors i Fault))
