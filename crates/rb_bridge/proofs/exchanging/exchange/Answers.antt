use Rattle.rb_rules_bridge.specs.declared.bank.Bank.TheVariants.{Left, Right}
use Rattle.rb_bridge.proofs.Exchanged.{exchanged, hands-these}
use Rattle.rb_bridge.proofs.exchanging.exchange.Goals as goal

pub returns : goal.returns
returns c = λ x frame is. record {
  left = exchanged x.b Left frame x.both x.left.is_plain x.right.is_plain x.left.told x.left.since x.right.told x.right.since c.args.left.now c.args.right.now c.hand_over.new.world
      c.turn_over.new.passage is.bridge is.within is.plain.left is.plain.right (λ sure. (is.unbroken sure).left) (λ sure. (is.unbroken sure).right) is.left is.right
      (hands-these Left _ x.b.pairs c.args.pairs.now _ c.args.left.now.world c.hand_over.new.world is.pairs_are c.hand_over.ensures.world) c.hand_over.ensures.bus c.turn_over.ensures;
  right = exchanged x.b Right frame x.both x.right.is_plain x.left.is_plain x.right.told x.right.since x.left.told x.left.since c.args.right.now c.args.left.now c.hand_over-2.new.world
      c.turn_over-2.new.passage is.bridge is.within is.plain.right is.plain.left (λ sure. (is.unbroken sure).right) (λ sure. (is.unbroken sure).left) is.right is.left
      (hands-these Right _ x.b.pairs c.args.pairs.now _ c.args.right.now.world c.hand_over-2.new.world is.pairs_are c.hand_over-2.ensures.world) c.hand_over-2.ensures.bus c.turn_over-2.ensures;
}
