-- what is left to be dropped of what is left
use Rattle.std.proofs.Common.{◌≡◌, length}
use Rattle.rb_replay.specs.Overhearing.{from_tick}
use Rattle.rb_replay.proofs.overhearing.find_tick.Given as goal

abbrev pub invariant-events : goal.invariant-events
invariant-events l = from_tick l.fn.skip l.initial.log.events ≡ from_tick l.left l.log.events

abbrev pub decreases-events : goal.decreases-events
decreases-events l = length l.log.events
