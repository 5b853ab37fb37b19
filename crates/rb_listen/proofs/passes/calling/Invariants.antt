use Rattle.std.proofs.Common.{◌≡◌, None, get_or}
use Rattle.rb_base.proofs.SetLoops.{passing_below}
use Rattle.rb_listen.specs.Passes.{falls_in}
use Rattle.rb_listen.proofs.passes.calling.Given as goal

-- `calling` has the RMUs before `j` whose newest call falls in
abbrev pub invariant-loop-j : goal.invariant-loop-j
invariant-loop-j l = l.calling ≡ passing_below l.j (λ i. falls_in l.reach l.frame l.from (get_or l.newest i None))
