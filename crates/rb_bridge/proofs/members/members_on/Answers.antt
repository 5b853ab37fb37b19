use Rattle.std.proofs.{Common.{◌≡◌, ◌==◌, subst, arith}, lemmas.List.take_all}
use Rattle.std.specs.List.{list_any}
use Rattle.rb_base.specs.Nodes.{set_of}
use Rattle.rb_rules_bridge.specs.Bridges.{biu_on}
use Rattle.rb_bridge.proofs.Heads.{more-members, no-members}
use Rattle.rb_bridge.proofs.members.members_on.Goals as goal

pub loop-pair-init : goal.loop-pair-init
loop-pair-init c = record { members = no-members c.args.bank _ c.empty-members.ensures.value }

pub loop-pair-preserved : goal.loop-pair-preserved
loop-pair-preserved c = record {
  members = more-members c.args.bank c.args.pairs.now c.loop-pair.pair-index _ c.loop-pair.members c.with_node-members.result c.biu_on.result (omega arith) c.loop-pair.invariant.members
      c.biu_on.ensures c.with_node-members.ensures;
}

pub returns : goal.returns
returns c =
    subst (λ ps. c.loop-pair.members ≡ set_of (λ i. list_any (λ pair. biu_on c.args.bank pair == i) ps)) (take_all c.loop-pair.pair-index c.args.pairs.now (omega arith))
    c.loop-pair.invariant.members
