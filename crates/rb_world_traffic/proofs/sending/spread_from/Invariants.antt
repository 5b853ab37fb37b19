use Rattle.std.proofs.Common.{◌≡◌, ℕ, ◌<◌, ◌^◌, true}
use Rattle.rb_base.specs.Nodes.{has, other}
use Rattle.rb_rules.specs.Lawful.{kind_of}
use Rattle.rb_world_traffic.specs.Arriving.{coming_to, lanes_with}
use Rattle.rb_world_traffic.proofs.Lanes.{those_gone}
use Rattle.rb_world_traffic.proofs.sending.spread_from.Given as goal

abbrev pub invariant-loop-id : goal.invariant-loop-id
invariant-loop-id l = record {
  so_far : l.agenda ≡ lanes_with (other (kind_of l.sent.from)) (coming_to l.delays l.sent l.message.bytes) (those_gone l.running l.left) l.fn.agenda;
  fits : l.left < 2 ^ 16;
  within : (i : ℕ) → has l.left i ≡ true → has l.running i ≡ true;
}

abbrev pub decreases-loop-id : goal.decreases-loop-id
decreases-loop-id l = l.left
