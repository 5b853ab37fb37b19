use Rattle.std.proofs.Common.{◌≡◌, ◌≤◌, ◌+◌, ◌<◌, ◌^◌, ℕ, sym, ap, subst, ◌∙◌, arith, refl, true}
use Rattle.rb_base.specs.Nodes.{TakesFirst, has, other}
use Rattle.rb_rules.specs.{Hearing.Coming, Lawful.kind_of, Links.name_of}
use Rattle.rb_queue.specs.Waiting.{HasLane, lane_of, spare_of, with_arrival, with_lane}
use Rattle.rb_world_traffic.specs.Arriving.{coming_to, lanes_with}
use Rattle.rb_world_traffic.proofs.Lanes.{gone-all, gone-more, gone-none, left-before, room-left, those_gone}
use Rattle.rb_world_traffic.proofs.sending.spread_from.Goals as goal

pub loop-id-init : goal.loop-id-init
loop-id-init c =
    let side = other (kind_of c.args.sent.from) in
    let coming : ℕ → Coming = coming_to c.args.delays.now c.args.sent c.args.message.now.bytes in
    record {
      so_far = sym (gone-none side coming c.args.running c.args.agenda.now)
          ∙ ap (λ left. lanes_with side coming (those_gone c.args.running left) c.args.agenda.now) (sym c.from_bits-left.ensures);
      fits = subst (λ left. left < 2 ^ 16) (sym c.from_bits-left.ensures) (omega (arith, c.ranges.running.fits));
      within = λ i is. ap (λ left. has left i) (sym c.from_bits-left.ensures) ∙ is;
    }

pub push_like-requires-clause-in_shape : goal.push_like-requires-clause-in_shape
push_like-requires-clause-in_shape c =
    let side = other (kind_of c.args.sent.from) in
    let k = c.index-i.result in
    let here : has c.loop-id.left k ≡ true = rw c.index-i.ensures.value c.in-Some.ensures.first.inside in
    subst (HasLane c.loop-id.agenda) (sym c.receiver-node.ensures)
    (room-left side (coming_to c.args.delays.now c.args.sent c.args.message.now.bytes) c.args.running c.loop-id.left k c.args.agenda.now c.loop-id.agenda
    c.loop-id.invariant.so_far c.requires.room (c.loop-id.invariant.within k here) here).0

pub push_like-requires-clause-spare : goal.push_like-requires-clause-spare
push_like-requires-clause-spare c =
    let side = other (kind_of c.args.sent.from) in
    let k = c.index-i.result in
    let here : has c.loop-id.left k ≡ true = rw c.index-i.ensures.value c.in-Some.ensures.first.inside in
    subst (λ n. 1 ≤ spare_of (lane_of c.loop-id.agenda n)) (sym c.receiver-node.ensures)
    (room-left side (coming_to c.args.delays.now c.args.sent c.args.message.now.bytes) c.args.running c.loop-id.left k c.args.agenda.now c.loop-id.agenda
    c.loop-id.invariant.so_far c.requires.room (c.loop-id.invariant.within k here) here).1

pub loop-id-preserved : goal.loop-id-preserved
loop-id-preserved c =
    let side = other (kind_of c.args.sent.from) in
    let running = c.args.running in
    let before = c.loop-id.left in
    let after = c.pop_first.new.self in
    let k = c.index-i.result in
    let now = c.loop-id.agenda in
    let coming : ℕ → Coming = coming_to c.args.delays.now c.args.sent c.args.message.now.bytes in
    let takes : TakesFirst before after k = rw c.index-i.ensures.value c.in-Some.ensures.first in
    let fits : before < 2 ^ 16 = c.loop-id.invariant.fits in
    let inside : has running k ≡ true = c.loop-id.invariant.within k takes.inside in
    let late = c.from.ensures ∙ c.delay_in-delay.ensures in
    record {
      so_far = c.push_like.ensures.after
          ∙ ap (λ n. with_lane n (with_arrival (record { time = c.args.sent.time + c.from.result; from = c.args.message.now.from; bytes = c.args.message.now.bytes }) (lane_of now n)) now) c.receiver-node.ensures
          ∙ ap (λ t. with_lane (name_of side k) (with_arrival (record { time = c.args.sent.time + t; from = c.args.message.now.from; bytes = c.args.message.now.bytes }) (lane_of now (name_of side k))) now)
          late
          ∙ ap (λ j. with_lane (name_of side k) (with_arrival (record { time = (coming k).time; from = j; bytes = c.args.message.now.bytes }) (lane_of now (name_of side k))) now)
          c.requires.sender
          ∙ gone-more side coming running before after k c.args.agenda.now now c.loop-id.invariant.so_far fits takes c.index-i.ensures.range inside (c.requires.room k inside).0;
      fits = omega (arith, fits, takes.less);
      within = λ i is. c.loop-id.invariant.within i (left-before before after k i fits takes c.index-i.ensures.range is);
    }

pub returns : goal.returns
returns c =
    let side = other (kind_of c.args.sent.from) in
    let coming : ℕ → Coming = coming_to c.args.delays.now c.args.sent c.args.message.now.bytes in
    c.loop-id.invariant.so_far ∙ gone-all side coming c.args.running c.loop-id.left c.args.agenda.now (c.in_default.ensures.empty.0 refl)
