use Rattle.std.proofs.Common.{◌<◌, ◌≤◌, ◌+◌, arith, length, subst, sym, ◌∙◌}
use Rattle.rb_base.proofs.Plain.{take-all}
use Rattle.rb_queue.specs.Waiting.{HasLane, lane_of, spare_of}
use Rattle.rb_world_traffic.specs.{Saying.{Brings, entries_at}, Spans.span_of}
use Rattle.rb_world_traffic.proofs.{Arrivals.{so-far-none, so-far-said, with-nothing}, saying.say_each.Goals.{then-number-len, else-number-len}}
use Rattle.rb_world_traffic.proofs.saying.say_each.Goals as goal

pub loop-number-init : goal.loop-number-init
loop-number-init c = record { lane = c.requires.lane; spare = omega arith; so_far = λ sc is. sym (with-nothing c.args.agenda.now c.args.to c.requires.lane) }

pub say_one-requires-clause-spare : goal.say_one-requires-clause-spare
say_one-requires-clause-spare c =
    let room : length c.args.places.now ≤ spare_of (lane_of c.args.agenda.now c.args.to) = c.requires.spare in
    let left : spare_of (lane_of c.args.agenda.now c.args.to) ≤ spare_of (lane_of c.loop-number.agenda c.args.to) + c.loop-number.number-index = c.loop-number.invariant.spare in
    let within : c.loop-number.number-index < length c.args.places.now = c.loop-number-test.true in
    omega arith

pub loop-number-preserved : goal.loop-number-preserved
loop-number-preserved c =
    let i = c.loop-number.number-index in
    let n = c.from-number.result in
    let left : spare_of (lane_of c.args.agenda.now c.args.to) ≤ spare_of (lane_of c.loop-number.agenda c.args.to) + i = c.loop-number.invariant.spare in
    elim c.if-number-len.branch [
      | then-number-len w ↦
          let more : spare_of (lane_of c.loop-number.agenda c.args.to) ≤ spare_of (lane_of w.say_one.new.agenda c.args.to) + 1 = w.say_one.ensures.spare in
          let all : spare_of (lane_of c.args.agenda.now c.args.to) ≤ spare_of (lane_of w.say_one.new.agenda c.args.to) + (i + 1) = omega arith in
          record {
            lane = subst (λ x. HasLane x c.args.to) (sym w.agenda-is) w.say_one.ensures.lane;
            spare = subst (λ x. spare_of (lane_of c.args.agenda.now c.args.to) ≤ spare_of (lane_of x c.args.to) + (i + 1)) (sym w.agenda-is) all;
            so_far = so-far-said c.args.said.now c.args.clock.now (span_of c.args.span.now) c.args.agenda.now c.loop-number.agenda c.if-number-len.agenda c.args.to c.args.places.now i n
                w.get.result.now c.requires.lane c.loop-number-test.true c.from-number.ensures w.get.ensures c.loop-number.invariant.so_far
                (λ sc is. w.agenda-is ∙ w.say_one.ensures.lanes sc is);
          }
      | else-number-len w ↦
          let all : spare_of (lane_of c.args.agenda.now c.args.to) ≤ spare_of (lane_of c.loop-number.agenda c.args.to) + (i + 1) = omega arith in
          let past : length c.args.said.now.says ≤ n = omega (arith, w.if-number-len.false, c.len.ensures) in
          record {
            lane = subst (λ x. HasLane x c.args.to) (sym w.agenda-is) c.loop-number.invariant.lane;
            spare = subst (λ x. spare_of (lane_of c.args.agenda.now c.args.to) ≤ spare_of (lane_of x c.args.to) + (i + 1)) (sym w.agenda-is) all;
            so_far = λ sc is.
                w.agenda-is
                ∙ so-far-none c.args.said.now c.args.clock.now (span_of c.args.span.now) c.args.agenda.now c.loop-number.agenda c.args.to c.args.places.now i n c.loop-number-test.true
                c.from-number.ensures past c.loop-number.invariant.so_far sc is;
          }
    ]

pub returns : goal.returns
returns c =
    let all = take-all c.args.places.now c.loop-number.number-index (omega arith) in
    subst (λ ps. Brings c.args.said.now (entries_at c.args.said.now.says ps) c.args.clock.now c.args.to (span_of c.args.span.now) c.args.agenda.now c.loop-number.agenda) all
    c.loop-number.invariant.so_far
