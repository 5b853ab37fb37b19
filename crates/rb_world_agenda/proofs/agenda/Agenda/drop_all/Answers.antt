use Rattle.std.proofs.Common.{sym, ◌∙◌, subst}
use Rattle.rb_queue.specs.Waiting.{HasLane, Held, lane_of, without_events}
use Rattle.rb_world_agenda.specs.Agenda.{AreTicks}
use Rattle.rb_world_agenda.proofs.{Keeping.{few-with, many-with, room-of}, Ticks.{place-few, ticks-dropped}}
use Rattle.rb_world_agenda.proofs.agenda.Agenda.drop_all.Goals as goal

pub invariant_of-self : goal.invariant_of-self
invariant_of-self c =
    let lanes = c.self.inside.lanes in
    let bius = c.self.inside.bius in
    let name = c.args.node in
    let lane : Held = without_events (lane_of lanes name) in
    let h : HasLane lanes name = subst (λ x. HasLane x name) (sym c.self.view_is) c.requires.in_shape in (
      few-with lanes c.drop_all.new.self bius name lane c.self.invariant.0 h c.drop_all.ensures.after (room-of lanes bius name c.self.invariant.0 h),
      c.self.invariant.1 ∙ many-with lanes c.drop_all.new.self bius name lane c.self.invariant.0.split h c.drop_all.ensures.after,
      subst (AreTicks c.drop_all.new.self) (sym c.put.ensures.marks)
          (ticks-dropped lanes c.drop_all.new.self c.self.inside.ticks.all bius c.position_of-place.result name c.self.invariant.0.split c.position_of-place.ensures
          c.self.invariant.2 h c.drop_all.ensures.after),
      c.put.ensures.fours,
    )

pub put-requires-clause-place : goal.put-requires-clause-place
put-requires-clause-place c =
    place-few c.self.inside.lanes c.self.inside.bius c.position_of-place.result c.args.node c.self.invariant.0 c.position_of-place.ensures
    (subst (λ x. HasLane x c.args.node) (sym c.self.view_is) c.requires.in_shape)
