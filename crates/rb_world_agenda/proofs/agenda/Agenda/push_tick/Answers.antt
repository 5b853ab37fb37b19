use Rattle.std.proofs.Common.{refl, sym, ap, ◌∙◌, subst}
use Rattle.std.specs.Prelude.{slice_set}
use Rattle.rb_queue.specs.Waiting.{HasLane, Held, lane_of, with_tick}
use Rattle.rb_world_agenda.specs.Agenda.{AreTicks}
use Rattle.rb_world_agenda.proofs.{Keeping.{few-with, many-with, room-of}, Ticks.{place-few, ticks-with}}
use Rattle.rb_world_agenda.proofs.agenda.Agenda.push_tick.Goals as goal

pub invariant_of-self : goal.invariant_of-self
invariant_of-self c =
    let lanes = c.self.inside.lanes in
    let bius = c.self.inside.bius in
    let name = c.args.node in
    let lane : Held = with_tick c.args.time (lane_of lanes name) in
    let h : HasLane lanes name = subst (λ x. HasLane x name) (sym c.self.view_is) c.requires.in_shape in (
      few-with lanes c.push_tick.new.self bius name lane c.self.invariant.0 h c.push_tick.ensures.after (room-of lanes bius name c.self.invariant.0 h),
      c.self.invariant.1 ∙ many-with lanes c.push_tick.new.self bius name lane c.self.invariant.0.split h c.push_tick.ensures.after,
      subst (AreTicks c.push_tick.new.self) (sym (c.put.ensures.marks ∙ ap (slice_set c.self.inside.ticks.all c.position_of-place.result) c.mark_of.ensures))
          (ticks-with lanes c.push_tick.new.self c.self.inside.ticks.all bius c.position_of-place.result name lane c.args.time c.self.invariant.0.split
          c.position_of-place.ensures c.self.invariant.2 h c.push_tick.ensures.after refl),
      c.put.ensures.fours,
    )

pub put-requires-clause-place : goal.put-requires-clause-place
put-requires-clause-place c =
    place-few c.self.inside.lanes c.self.inside.bius c.position_of-place.result c.args.node c.self.invariant.0 c.position_of-place.ensures
    (subst (λ x. HasLane x c.args.node) (sym c.self.view_is) c.requires.in_shape)
