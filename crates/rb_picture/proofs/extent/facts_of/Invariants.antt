-- the lines that are left make of what is known so far what all make
use Rattle.std.proofs.Common.{◌≡◌, drop}
use Rattle.rb_picture.specs.Extents.{facts_from, facts_of}
use Rattle.rb_picture.proofs.extent.facts_of.Given as goal

abbrev pub invariant-loop-line : goal.invariant-loop-line
invariant-loop-line l = facts_from l.mark l.facts (drop l.line-index l.lines) ≡ facts_of l.mark l.lines
