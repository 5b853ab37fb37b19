use Rattle.std.proofs.{Common.{◌≡◌, ◌+◌, ◌-◌, ◌<◌, ◌≤◌, arith, drop, length, subst, sym}, lemmas.List.length-drop}
use Rattle.rb_queue.specs.Waiting.{Held}
use Rattle.rb_queue.proofs.Arrivals.{by_without, lane_without}
use Rattle.rb_queue.proofs.lane.Lane.drop_at.Goals as goal

pub returns : goal.returns
returns c =
    lane_without c.self.inside.kept.items c.remove.new.self.items c.self.inside.start c.args.place c.self.inside.room c.self.inside.tick c.args.self.now
    (subst (λ (lane : Held). c.args.place < length lane.arrivals) (sym c.self.view_is) c.requires) c.remove.ensures.items c.self.view_is

pub invariant_of-self : goal.invariant_of-self
invariant_of-self c =
    let there : c.args.place < length (drop c.self.inside.start c.self.inside.kept.items) =
    subst (λ (lane : Held). c.args.place < length lane.arrivals) (sym c.self.view_is) c.requires in
    let behind = length-drop c.self.inside.start c.self.inside.kept.items in
    let one : length c.remove.new.self.items + 1 ≡ length c.self.inside.kept.items = omega (arith, c.remove.ensures.len, there, behind) in
    let fits : length c.self.inside.kept.items - c.self.inside.start ≤ c.self.inside.room = c.self.invariant.fits in
    record {
      begins = omega (arith, there, behind, one);
      fits = omega (arith, there, behind, one, fits);
      reserved = omega (arith, c.self.invariant.reserved, c.remove.ensures.capacity);
      by = by_without c.self.inside.kept.items c.remove.new.self.items c.self.inside.start c.args.place c.self.inside.latest there c.remove.ensures.items c.self.invariant.by;
    }
