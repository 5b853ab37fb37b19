use Rattle.rb_node.proofs.Busy.{chosen-sooner, says-in, soonest-is, wake-within}
use Rattle.rb_node.proofs.ahead.busy_tick.Goals as goal

pub sooner_said-requires-clause-ends : goal.sooner_said-requires-clause-ends
sooner_said-requires-clause-ends g c = wake-within _ _ _ _ _ c.requires.window.is c.next_wake-tick.ensures

pub returns-clause-next : goal.returns-clause-next
returns-clause-next g c =
    soonest-is _ _ _ _ _ _ _ _ c.requires.window.is c.next_wake-tick.ensures
    (chosen-sooner _ _ _ _ _ c.sooner_said.ensures.from_third)
    (chosen-sooner _ _ _ _ _ c.sooner_said.ensures.from_second)
    (chosen-sooner _ _ _ _ _ c.sooner_said.ensures.from_first)

pub returns-clause-stage : goal.returns-clause-stage
returns-clause-stage g c =
    says-in _ _ _ _ _ _ _ _ c.sooner_said.ensures.from_third c.sooner_said.ensures.from_second c.sooner_said.ensures.from_first
