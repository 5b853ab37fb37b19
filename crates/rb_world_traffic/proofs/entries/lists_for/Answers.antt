use Rattle.std.proofs.Common.{◌≡◌, subst, arith}
use Rattle.rb_base.specs.Nodes.{other}
use Rattle.rb_rules.specs.Lawful.{kind_of}
use Rattle.rb_world_traffic.specs.Saying.{AreOfKind}
use Rattle.rb_world_traffic.proofs.EntryLists.{kind-more, kind-none}
use Rattle.rb_world_traffic.proofs.entries.lists_for.Goals as goal

pub loop-i-init : goal.loop-i-init
loop-i-init c = kind-none c.args.says.now (other (kind_of c.args.sender)) c.args.senders c.in_ok-lists.lists.items c.in_ok-lists.ensures.items

pub loop-i-preserved : goal.loop-i-preserved
loop-i-preserved c =
    kind-more c.args.says.now (other (kind_of c.args.sender)) c.loop-i.i c.args.senders c.loop-i.lists.items c.add_list.new.lists.items c.receiver.result c.in_ok-list.list
    c.loop-i.invariant c.receiver.ensures c.in_ok-list.ensures c.in_ok-add_list.ensures

pub returns : goal.returns
returns c =
    let last : c.loop-i.i ≡ c.args.count = omega arith in
    subst (λ n. AreOfKind c.args.says.now (other (kind_of c.args.sender)) n c.args.senders c.loop-i.lists.items) last c.loop-i.invariant
