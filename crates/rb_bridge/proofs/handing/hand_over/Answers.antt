use Rattle.std.proofs.{Common.{◌∙◌, subst, arith}, lemmas.List.take_all}
use Rattle.rb_world.specs.Worlds.{Stands}
use Rattle.rb_bridge.specs.Handing.{with_words}
use Rattle.rb_bridge.proofs.Handed.{next-handed}
use Rattle.rb_bridge.proofs.handing.hand_over.Goals as goal

pub loop-pair-preserved : goal.loop-pair-preserved
loop-pair-preserved c = record {
  world = λ told w hold stands.
      next-handed c.args.world.now.bus c.loop-pair.world.bus c.args.bank told c.loop-pair.pair-index c.args.pairs.now _ w c.hand_word.new.world
      c.loop-pair.invariant.bus (omega arith) (c.hand_word.ensures.world told _ hold (c.loop-pair.invariant.world told w hold stands));
  bus = c.hand_word.ensures.bus ∙ c.loop-pair.invariant.bus;
}

pub returns-clause-world : goal.returns-clause-world
returns-clause-world c = λ told w hold stands.
    subst (λ pairs. Stands c.loop-pair.world (with_words c.args.world.now.bus c.args.bank told pairs w))
    (take_all c.loop-pair.pair-index c.args.pairs.now (omega arith)) (c.loop-pair.invariant.world told w hold stands)
