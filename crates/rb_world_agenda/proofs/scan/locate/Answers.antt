use Rattle.std.proofs.Common.{◌≡◌, ◌≤◌, get_or, length, arith, subst, sym, ap, ◌∙◌}
use Rattle.rb_queue.specs.Waiting.{HasLane, lane_of}
use Rattle.rb_world_agenda.specs.{Agenda.{StandsAt, due_in, keys_of}, Agenda.due_count}
use Rattle.rb_world_agenda.proofs.Scans.{count-all, count-more, few-here, many-few, stands-here}
use Rattle.rb_world_agenda.proofs.scan.locate.Goals as goal

pub node_at-node-requires-clause-bius : goal.node_at-node-requires-clause-bius
node_at-node-requires-clause-bius c = let few = c.requires.few.few_bius in let split = c.requires.few.split in omega (arith, few, split)

pub node_at-node-requires-clause-position : goal.node_at-node-requires-clause-position
node_at-node-requires-clause-position c =
    let many = (many-few c.args.lanes.now c.args.bius c.requires.few).1 in
    omega (arith, many, c.loop-position-test.true, c.requires.many)

pub due_in-due-requires-clause-lane : goal.due_in-due-requires-clause-lane
due_in-due-requires-clause-lane c =
    subst (HasLane c.args.lanes.now) (sym c.node_at-node.ensures) (few-here c.args.lanes.now c.args.bius c.loop-position.position c.requires.few (omega (arith, c.loop-position-test.true, c.requires.many))).lane

pub due_in-due-requires-clause-short : goal.due_in-due-requires-clause-short
due_in-due-requires-clause-short c =
    subst (λ n. (lane_of c.args.lanes.now n).room ≤ 65536) (sym c.node_at-node.ensures)
    (few-here c.args.lanes.now c.args.bius c.loop-position.position c.requires.few (omega (arith, c.loop-position-test.true, c.requires.many))).short

pub loop-position-preserved : goal.loop-position-preserved
loop-position-preserved c =
    let here = few-here c.args.lanes.now c.args.bius c.loop-position.position c.requires.few (omega (arith, c.loop-position-test.true, c.requires.many)) in
    let more = count-more c.args.lanes.now c.args.bius c.loop-position.position (get_or (keys_of c.args.lanes.now) c.loop-position.position 0) c.args.time here in
    let due : c.due_in-due.result ≡ length (due_in c.args.time (lane_of c.args.lanes.now c.node_at-node.result)) = c.due_in-due.ensures.value in
    let named = ap (λ n. length (due_in c.args.time (lane_of c.args.lanes.now n))) c.node_at-node.ensures in
    omega (arith, c.loop-position.invariant, more, due, named, c.if-left-due.false)

pub returns-then-left-due : goal.returns-then-left-due
returns-then-left-due c =
    let here = few-here c.args.lanes.now c.args.bius c.loop-position.position c.requires.few (omega (arith, c.loop-position-test.true, c.requires.many)) in
    let named = ap (λ n. length (due_in c.args.time (lane_of c.args.lanes.now n))) c.node_at-node.ensures in
    subst (λ n. StandsAt c.args.lanes.now c.args.time c.args.i n c.loop-position.left) (sym c.node_at-node.ensures)
    (stands-here c.args.lanes.now c.args.bius c.loop-position.position (get_or (keys_of c.args.lanes.now) c.loop-position.position 0) c.args.time c.args.i c.loop-position.left
    c.due_in-due.result c.requires.few.split here c.loop-position.invariant (c.due_in-due.ensures.value ∙ named) c.if-left-due.true)

pub returns : goal.returns
returns c =
    let all = count-all c.args.lanes.now c.args.bius c.loop-position.position c.args.time c.requires.few (omega (arith, c.loop-position-test.false, c.requires.many)) in
    absurd (omega (arith, c.loop-position.invariant, all, c.requires.below))

pub loop-position-init : goal.loop-position-init
unfolding due_count
loop-position-init c = omega arith
