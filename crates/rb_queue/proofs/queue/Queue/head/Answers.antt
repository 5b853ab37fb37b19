use Rattle.std.proofs.Common.{◌++◌, map, List, ◌∙◌, ap}
use Rattle.std.specs.Prelude.{option_to_list}
use Rattle.rb_rules.specs.WorldStep.{least}
use Rattle.rb_queue.specs.{declared.pending.Pending.Pending, Queued.least_time_of}
use Rattle.rb_queue.proofs.Bare.{none_at_all}
use Rattle.rb_queue.proofs.queue.Queue.head.Goals as goal

pub returns-clause-none : goal.returns-clause-none
returns-clause-none c =
    none_at_all c.args.self.now c.least_time.result
    (c.least_time.ensures
    ∙ ap (λ (ms : List Pending). least ((option_to_list c.self.inside.lane.tick ++ map (λ c. c.time) c.self.inside.lane.arrivals) ++ map (λ p. p.time) ms)) c.deref.ensures.value
    ∙ ap least_time_of c.self.view_is)
