use Rattle.std.proofs.Common.{◌≡◌, map}
use Rattle.rb_base.specs.Counting.{numbers}
use Rattle.rb_gen.specs.Generated.{clock_of}
use Rattle.rb_gen.proofs.generator.clocks_of.Given as goal

abbrev pub invariant-loop-node : goal.invariant-loop-node
invariant-loop-node l = l.clocks.items ≡ map (clock_of l.drawn) (numbers l.node)
