use Rattle.std.proofs.{Common.{◌≡◌, ◌<◌, length, arith, cond, subst}, lemmas.Grind.common_steps}
use Rattle.rb_base.proofs.Counts.{once}
use Rattle.rb_queue.specs.Queued.{is_sent_between}
use Rattle.rb_queue.proofs.Besides.{count_more}
use Rattle.rb_queue.proofs.beside.count_beside.Goals as goal

pub loop-pending-preserved : goal.loop-pending-preserved
loop-pending-preserved c =
    let within : c.loop-pending.pending-index < length c.args.more.now = omega arith in
    let more = count_more c.args.time c.args.first c.args.end c.args.more.now c.loop-pending.pending-index c.pending-item.result within c.pending-item.is in
    let one : c.from-count.result ≡ cond (is_sent_between c.args.time c.args.first c.args.end c.pending-item.result) 1 0 =
    subst (λ b. c.from-count.result ≡ cond b 1 0) c.is_between.ensures (grind (arith, common_steps)) in
    record {
      few = omega (arith, one, once (is_sent_between c.args.time c.args.first c.args.end c.pending-item.result));
      so_far = omega (arith, one, more);
    }
