use Rattle.std.proofs.Common.{◌≡◌, ◌≤◌, get_or, length, arith, subst, sym, ap, refl, ◌∙◌}
use Rattle.rb_queue.specs.Waiting.{HasLane, lane_of}
use Rattle.rb_world_agenda.specs.{Agenda.{due_in, keys_of}, Agenda.due_count}
use Rattle.rb_world_agenda.proofs.Scans.{count-all, count-more, few-here, many-few}
use Rattle.rb_world_agenda.proofs.scan.due_count.Goals as goal

pub node_at-requires-clause-bius : goal.node_at-requires-clause-bius
node_at-requires-clause-bius c = let few = c.requires.few.few_bius in let split = c.requires.few.split in omega (arith, few, split)

pub node_at-requires-clause-position : goal.node_at-requires-clause-position
node_at-requires-clause-position c =
    let many = (many-few c.args.lanes.now c.args.bius c.requires.few).1 in
    omega (arith, many, c.loop-position-test.true, c.requires.many)

pub due_in-count-requires-clause-lane : goal.due_in-count-requires-clause-lane
due_in-count-requires-clause-lane c =
    subst (HasLane c.args.lanes.now) (sym c.node_at.ensures) (few-here c.args.lanes.now c.args.bius c.loop-position.position c.requires.few (omega (arith, c.loop-position-test.true, c.requires.many))).lane

pub due_in-count-requires-clause-short : goal.due_in-count-requires-clause-short
due_in-count-requires-clause-short c =
    subst (λ n. (lane_of c.args.lanes.now n).room ≤ 65536) (sym c.node_at.ensures)
    (few-here c.args.lanes.now c.args.bius c.loop-position.position c.requires.few (omega (arith, c.loop-position-test.true, c.requires.many))).short

pub loop-position-preserved : goal.loop-position-preserved
loop-position-preserved c =
    let here = few-here c.args.lanes.now c.args.bius c.loop-position.position c.requires.few (omega (arith, c.loop-position-test.true, c.requires.many)) in
    let more = count-more c.args.lanes.now c.args.bius c.loop-position.position (get_or (keys_of c.args.lanes.now) c.loop-position.position 0) c.args.time here in
    let due : c.due_in-count.result ≡ length (due_in c.args.time (lane_of c.args.lanes.now c.node_at.result)) = c.due_in-count.ensures.value in
    let named = ap (λ n. length (due_in c.args.time (lane_of c.args.lanes.now n))) c.node_at.ensures in
    record {
      so_far = omega (arith, c.loop-position.invariant.so_far, more, due, named);
      few = omega (arith, c.loop-position.invariant.few, c.due_in-count.ensures.few);
      some = omega (arith, here.few);
    }

pub returns : goal.returns
returns c =
    c.loop-position.invariant.so_far ∙ count-all c.args.lanes.now c.args.bius c.loop-position.position c.args.time c.requires.few (omega (arith, c.loop-position-test.false, c.requires.many))

pub loop-position-init : goal.loop-position-init
unfolding due_count
loop-position-init c = record { so_far = refl; few = omega arith; some = omega arith }
