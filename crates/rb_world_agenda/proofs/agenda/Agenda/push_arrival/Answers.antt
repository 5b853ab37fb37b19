use Rattle.std.proofs.Common.{◌≡◌, refl, sym, ap, ◌∙◌, subst}
use Rattle.rb_queue.specs.Waiting.{HasLane, Held, lane_of, with_arrival, with_lane}
use Rattle.rb_world_agenda.proofs.{Keeping.{few-with, many-with, room-of}, Ticks.ticks-same}
use Rattle.rb_world_agenda.proofs.agenda.Agenda.push_arrival.Goals as goal

pub invariant_of-self : goal.invariant_of-self
invariant_of-self c =
    let lanes = c.self.inside.lanes in
    let bius = c.self.inside.bius in
    let name = c.args.node in
    let lane : Held = with_arrival (record { time = c.args.time; from = c.args.from; bytes = c.args.bytes.items }) (lane_of lanes name) in
    let h : HasLane lanes name = subst (λ x. HasLane x name) (sym c.self.view_is) c.requires.in_shape in
    let after : c.push.new.self ≡ with_lane name (with_arrival (record { time = c.args.time; from = c.args.from; bytes = c.args.bytes.items }) (lane_of lanes name)) lanes =
    c.push.ensures.after ∙ ap (λ a. with_lane name (with_arrival a (lane_of lanes name)) lanes) c.new.ensures in (
      few-with lanes c.push.new.self bius name lane c.self.invariant.0 h after (room-of lanes bius name c.self.invariant.0 h),
      c.self.invariant.1 ∙ many-with lanes c.push.new.self bius name lane c.self.invariant.0.split h after,
      ticks-same lanes c.push.new.self c.self.inside.ticks.all bius name lane c.self.invariant.0.split c.self.invariant.2 h after refl,
      c.self.invariant.3,
    )
