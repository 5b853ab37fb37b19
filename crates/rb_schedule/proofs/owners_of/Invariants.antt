use Rattle.std.proofs.Common.{◌≡◌}
use Rattle.rb_rules.specs.Owners.{owners_in_pass}
use Rattle.rb_schedule.proofs.Passes.{granted}
use Rattle.rb_schedule.proofs.owners_of.Given as goal

-- the owners of the passes so far
abbrev pub invariant-loop-pass : goal.invariant-loop-pass
invariant-loop-pass l = l.owners ≡ granted l.shape.data_slots (owners_in_pass l.shape l.trusted l.requests) l.pass
