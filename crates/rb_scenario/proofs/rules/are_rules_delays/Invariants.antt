use Rattle.std.proofs.Common.{◌≡◌, drop}
use Rattle.std.specs.List.{list_all}
use Rattle.rb_scenario.specs.Rules.{is_delay}
use Rattle.rb_scenario.proofs.rules.are_rules_delays.Given as goal

abbrev pub invariant-loop-rule : goal.invariant-loop-rule
invariant-loop-rule l = list_all (λ r. is_delay l.plan r.delay) (drop l.rule-index l.rules) ≡ list_all (λ r. is_delay l.plan r.delay) l.rules
