use Rattle.std.proofs.Common.{◌≡◌, map}
use Rattle.rb_base.specs.Counting.{numbers}
use Rattle.rb_gen.specs.Generated.{rule_of}
use Rattle.rb_gen.proofs.generator.rules_of.Given as goal

abbrev pub invariant-loop-link : goal.invariant-loop-link
invariant-loop-link l = l.rules.items ≡ map (rule_of l.drawn l.frames) (numbers l.link)
