-- The words of the pairs before this one are handed over.
use Rattle.std.proofs.Common.{◌≡◌, ℕ, Option, take}
use Rattle.rb_base.specs.declared.values.Heard.{Heard}
use Rattle.rb_rules.specs.WorldStep.{World}
use Rattle.rb_world.specs.Worlds.{Stands}
use Rattle.rb_bridge.specs.{Holding.HoldValues, Handing.with_words}
use Rattle.rb_bridge.proofs.handing.hand_over.Given as goal

abbrev pub invariant-loop-pair : goal.invariant-loop-pair
invariant-loop-pair l = record {
  world : (told : ℕ → Option Heard) (w : World) → HoldValues told l.values → Stands l.fn.world w → Stands l.world (with_words l.fn.world.bus l.bank told (take l.pair-index l.pairs) w);
  bus : l.world.bus ≡ l.fn.world.bus;
}
