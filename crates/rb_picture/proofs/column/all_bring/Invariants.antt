-- the lines that are left answer what all answer
use Rattle.std.proofs.Common.{◌≡◌, drop}
use Rattle.rb_picture.specs.Columns.{all_bring}
use Rattle.rb_picture.proofs.column.all_bring.Given as goal

abbrev pub invariant-loop-line : goal.invariant-loop-line
invariant-loop-line l = all_bring l.mark l.value (drop l.line-index l.lines) ≡ all_bring l.mark l.value l.lines
