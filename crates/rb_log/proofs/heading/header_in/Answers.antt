-- What form 2 adds changes nothing that makes a plan feasible.
use Rattle.rb_log.proofs.heading.header_in.Goals as goal

pub unreachable-requires : goal.unreachable-requires
unreachable-requires c =
    let same = c.in_ok-plan-2.ensures.same c.in_ok-shape.shape in
    let holds = c.in_ok-plan.ensures.feasible in
    let fails = c.in-Err.ensures.first in
    cc
