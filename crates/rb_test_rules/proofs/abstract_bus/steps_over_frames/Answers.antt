use Rattle.std.proofs.Common.{ℕ, zero, suc, ◌<◌, arith, refl}
use Rattle.rb_base.specs.{Nodes.{set_of, set_below}, declared.values.Heard.TheVariants.Word}
use Rattle.rb_rules.specs.AbstractBus.{IsStep}
use Rattle.rb_test_rules.specs.{Abstract.{first_slots, offered}, Ordinary.ordinary_use}
use Rattle.rb_test_rules.proofs.abstract_bus.steps_over_frames.Goals as goal

each : (n : ℕ) → n < 2 → IsStep ordinary_use offered (first_slots n) (first_slots (suc n))
unfolding set_of set_below
each zero h = (Word 2, record { may_have = λ good. refl; after_is = refl })
each (suc zero) h = (Word 2, record { may_have = λ good. refl; after_is = refl })
each (suc (suc n)) h = absurd (omega arith)

pub returns-clause-run : goal.returns-clause-run
returns-clause-run c = record { first = refl; each_step = each }
