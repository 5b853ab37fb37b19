use Rattle.std.proofs.Common.{sym, ◌∙◌, subst}
use Rattle.rb_queue.specs.Waiting.{Held, lane_of, without_ready}
use Rattle.rb_world_agenda.specs.{Agenda.{AreTicks, StandsAt, TakesDue, first_time}, Holding.HoldsSites}
use Rattle.rb_world_agenda.proofs.{Keeping.{few-with, many-with, room-of, room-without, times-of}, Taking.takes-due, Ticks.{place-few, ticks-taken}}
use Rattle.rb_world_agenda.proofs.agenda.Agenda.take.Goals as goal

pub invariant_of-self : goal.invariant_of-self
invariant_of-self c =
    let lanes = c.self.inside.lanes in
    let bius = c.self.inside.bius in
    let name = c.locate-node.result.0 in
    let place = c.locate-node.result.1 in
    let lane : Held = without_ready place (lane_of lanes name) in (
      few-with lanes c.take-event.new.self bius name lane c.self.invariant.0 c.locate-node.ensures.lane c.take-event.ensures.after
          (room-without place (lane_of lanes name) (room-of lanes bius name c.self.invariant.0 c.locate-node.ensures.lane)),
      c.self.invariant.1 ∙ many-with lanes c.take-event.new.self bius name lane c.self.invariant.0.split c.locate-node.ensures.lane c.take-event.ensures.after,
      subst (AreTicks c.take-event.new.self) (sym c.after_event.ensures.ticks)
          (ticks-taken lanes c.take-event.new.self c.self.inside.ticks.all bius c.position_of-place.result name place c.take-event.result c.self.invariant.0.split
          c.position_of-place.ensures c.self.invariant.2 c.locate-node.ensures.lane c.take-event.ensures.value c.take-event.ensures.after),
      c.after_event.ensures.fours,
    )

pub after_event-requires-clause-place : goal.after_event-requires-clause-place
after_event-requires-clause-place c =
    place-few c.self.inside.lanes c.self.inside.bius c.position_of-place.result c.locate-node.result.0 c.self.invariant.0 c.position_of-place.ensures
    c.locate-node.ensures.lane

pub returns-clause-world : goal.returns-clause-world
returns-clause-world c =
    let lanes = c.self.inside.lanes in
    λ sc w holds.
    subst (λ x. TakesDue sc w c.args.i (first_time x) c.locate-node.result.0 c.take-event.result c.take-event.new.self) c.self.view_is
    (takes-due sc w lanes c.take-event.new.self c.args.i c.take-event.result c.locate-node.result.0 c.locate-node.result.1
    (subst (λ x. HoldsSites sc.sizes x w.sites) (sym c.self.view_is) holds) (times-of lanes c.least_of-time.ensures.times)
    (subst (λ t. StandsAt lanes t c.args.i c.locate-node.result.0 c.locate-node.result.1) c.least_of-time.ensures.value c.locate-node.ensures) c.take-event.ensures.value c.take-event.ensures.after)
