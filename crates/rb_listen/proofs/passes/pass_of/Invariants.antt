use Rattle.std.proofs.Common.{◌≡◌, drop}
use Rattle.rb_listen.specs.Passes.{pass_among}
use Rattle.rb_listen.proofs.passes.pass_of.Given as goal

-- no pass begins with any of the calls so far
abbrev pub invariant-loop-j : goal.invariant-loop-j
invariant-loop-j l = pass_among l.plan.sizes l.plan.plan l.newest l.newest ≡ pass_among l.plan.sizes l.plan.plan l.newest (drop l.j l.newest)
