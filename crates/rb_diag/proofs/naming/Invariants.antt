use Rattle.std.proofs.Common.{◌≡◌, ◌≤◌, ◌&&◌, get_or}
use Rattle.rb_base.specs.{Counting.{count_if, numbers}, Nodes.has, declared.values.Heard.TheVariants.Fault}
use Rattle.rb_rules.specs.Conviction.{names}
use Rattle.rb_diag.proofs.naming.Given as goal

-- the count among the senders so far
abbrev pub invariant-loop-i : goal.invariant-loop-i
invariant-loop-i g l = record {
  is : l.naming ≡ count_if (λ i. has l.senders i && names l.j (get_or l.vectors i Fault)) (numbers l.i);
  most : l.naming ≤ l.i;
}
