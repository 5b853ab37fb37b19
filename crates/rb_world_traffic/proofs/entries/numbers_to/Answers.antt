use Rattle.std.proofs.Common.{◌≡◌, subst, arith}
use Rattle.rb_world_traffic.proofs.EntryLists.{AreSoFar, are-for, so-far-more, so-far-none}
use Rattle.rb_world_traffic.proofs.entries.numbers_to.Goals as goal

pub loop-sender-init : goal.loop-sender-init
loop-sender-init c = so-far-none c.args.says.now c.args.to c.new-items.result.items c.new-items.ensures.items

pub loop-sender-preserved : goal.loop-sender-preserved
loop-sender-preserved c =
    so-far-more c.args.says.now c.args.to c.receiver.result c.loop-sender.sender c.loop-sender.items.items c.add_between.new.places.items c.loop-sender.invariant c.receiver.ensures
    c.in_ok-add_between.ensures.entries c.in_ok-add_between.ensures.many

pub returns : goal.returns
returns c =
    let last : c.loop-sender.sender ≡ c.args.senders = omega arith in
    are-for c.args.says.now c.args.to c.args.senders c.loop-sender.items.items
    (subst (λ n. AreSoFar c.args.says.now c.args.to n c.loop-sender.items.items) last c.loop-sender.invariant)
