use Rattle.std.proofs.Common.{◌≡◌, map}
use Rattle.rb_base.specs.Counting.{numbers}
use Rattle.rb_gen.specs.Generated.{say_to}
use Rattle.rb_gen.proofs.generator.says_of.Given as goal

abbrev pub invariant-loop-rmu : goal.invariant-loop-rmu
invariant-loop-rmu l = l.says.items ≡ map (say_to l.frames) (numbers l.rmu)
