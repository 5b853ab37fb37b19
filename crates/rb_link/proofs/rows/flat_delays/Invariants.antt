use Rattle.std.proofs.Common.{◌≡◌, map, take}
use Rattle.rb_link.specs.Rows.{delay_of_rule}
use Rattle.rb_link.proofs.rows.flat_delays.Given as goal

abbrev pub invariant-loop-rule : goal.invariant-loop-rule
invariant-loop-rule l = record { flat : l.flat.items ≡ map delay_of_rule (take l.rule-index l.latest) }
