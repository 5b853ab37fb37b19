use Rattle.std.proofs.Common.{◌≤◌, ◌++◌, []}
use Rattle.rb_top.specs.CheckText.{check_text, text_after}
use Rattle.rb_top.proofs.Writing.{Owes, pieces}
use Rattle.rb_top.proofs.checking.write_check.Given as goal

abbrev pub invariant-loop-before : goal.invariant-loop-before
invariant-loop-before g l = record {
  owes : Owes (g.K.Sink.held l.initial.output) (g.K.Sink.held l.output) (check_text l.plan.sizes l.plan.plan) (pieces (text_after l.plan.sizes l.plan.plan) l.before 7 ++ []);
  later : g.K.Sink.faults l.initial.output ≤ g.K.Sink.faults l.output;
}
