use Rattle.std.proofs.{Common.{◌≡◌, ◌<◌, length, arith, cond, subst}, lemmas.Grind.common_steps}
use Rattle.rb_base.proofs.Counts.{once}
use Rattle.rb_queue.specs.Scanning.{is_between}
use Rattle.rb_queue.proofs.Sources.{count_more}
use Rattle.rb_queue.proofs.scan.count.Goals as goal

pub loop-arrival-preserved : goal.loop-arrival-preserved
loop-arrival-preserved c =
    let within : c.loop-arrival.arrival-index < length c.args.arrivals.now = omega arith in
    let more = count_more c.args.time c.args.first c.args.end c.args.arrivals.now c.loop-arrival.arrival-index c.arrival-item.result within c.arrival-item.is in
    let one : c.from-count.result ≡ cond (is_between c.args.time c.args.first c.args.end c.arrival-item.result) 1 0 =
    subst (λ b. c.from-count.result ≡ cond b 1 0) c.is_between.ensures (grind (arith, common_steps)) in
    record {
      few = omega (arith, one, once (is_between c.args.time c.args.first c.args.end c.arrival-item.result));
      so_far = omega (arith, one, more);
    }
