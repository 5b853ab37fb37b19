use Rattle.std.proofs.Common.{refl, sym, ◌∙◌, subst}
use Rattle.rb_queue.specs.Waiting.{HasLane, Held, lane_of, without_before}
use Rattle.rb_world_agenda.proofs.{Keeping.{few-with, many-with, room-of}, Ticks.ticks-same}
use Rattle.rb_world_agenda.proofs.agenda.Agenda.drop_before.Goals as goal

pub invariant_of-self : goal.invariant_of-self
invariant_of-self c =
    let lanes = c.self.inside.lanes in
    let bius = c.self.inside.bius in
    let name = c.args.node in
    let lane : Held = without_before c.args.until (lane_of lanes name) in
    let h : HasLane lanes name = subst (λ x. HasLane x name) (sym c.self.view_is) c.requires.in_shape in (
      few-with lanes c.drop_before.new.self bius name lane c.self.invariant.0 h c.drop_before.ensures.after (room-of lanes bius name c.self.invariant.0 h),
      c.self.invariant.1 ∙ many-with lanes c.drop_before.new.self bius name lane c.self.invariant.0.split h c.drop_before.ensures.after,
      ticks-same lanes c.drop_before.new.self c.self.inside.ticks.all bius name lane c.self.invariant.0.split c.self.invariant.2 h c.drop_before.ensures.after refl,
      c.self.invariant.3,
    )
