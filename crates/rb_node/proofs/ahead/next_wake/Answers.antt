use Rattle.rb_node.proofs.{Busy.soonest-wake, Windows.has-ticks}
use Rattle.rb_node.proofs.ahead.next_wake.Goals as goal

pub returns : goal.returns
returns g c =
    soonest-wake _ _ _ _ _ _ _ (has-ticks _ c.bounds.ensures.plan) c.requires.epoch c.requires.window.is
    (rw c.epoch.ensures at c.sooner-begun.ensures) (rw c.epoch-2.ensures at c.sooner-closed.ensures) (rw c.new_epoch.ensures at c.sooner.ensures)
