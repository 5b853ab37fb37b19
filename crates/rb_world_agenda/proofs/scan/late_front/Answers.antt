use Rattle.std.proofs.{Common.{◌≡◌, ◌<◌, get_or, length, arith, sym, ap, subst, ◌∙◌}, lemmas.List.take_all}
use Rattle.rb_queue.specs.Waiting.{HasLane, lane_of, tick_time_of}
use Rattle.rb_world_agenda.specs.Agenda.{tick_times}
use Rattle.rb_world_agenda.proofs.{Fronts.{first-few, front-all, front-key, front-none}, Ticks.time-here}
use Rattle.rb_world_agenda.proofs.scan.late_front.Goals as goal

pub loop-position-init : goal.loop-position-init
loop-position-init c = record { front = front-none (tick_times c.args.lanes.now); few = omega arith }

pub node_at-requires-clause-bius : goal.node_at-requires-clause-bius
node_at-requires-clause-bius c = let few = c.requires.few.few_bius in let split = c.requires.few.split in omega (arith, few, split)

pub node_at-requires-clause-position : goal.node_at-requires-clause-position
node_at-requires-clause-position c =
    let few = (time-here c.args.lanes.now c.args.bius c.loop-position.position c.requires.few (omega (arith, c.loop-position-test.true, c.requires.many))).few in
    omega (arith, few)

pub tick_time_of-key-requires : goal.tick_time_of-key-requires
tick_time_of-key-requires c =
    subst (HasLane c.args.lanes.now) (sym c.node_at.ensures)
    (time-here c.args.lanes.now c.args.bius c.loop-position.position c.requires.few (omega (arith, c.loop-position-test.true, c.requires.many))).lane

pub loop-position-preserved : goal.loop-position-preserved
loop-position-preserved c =
    let lanes = c.args.lanes.now in
    let times = tick_times lanes in
    let i = c.loop-position.position in
    let within : i < length times = omega (arith, c.loop-position-test.true, c.requires.many) in
    let here = time-here lanes c.args.bius i c.requires.few within in
    let key : get_or times i 0 ≡ c.tick_time_of-key.result =
    here.time ∙ ap (λ n. tick_time_of (lane_of lanes n)) (sym c.node_at.ensures) ∙ sym c.tick_time_of-key.ensures in
    record {
      front = front-key times i c.tick_time_of-key.result c.loop-position.front c.with_key-front.result within key c.loop-position.invariant.front c.with_key-front.ensures;
      few = first-few i c.tick_time_of-key.result c.loop-position.front c.with_key-front.result c.with_key-front.ensures here.few c.loop-position.invariant.few;
    }

pub returns-clause-front : goal.returns-clause-front
returns-clause-front c =
    let times = tick_times c.args.lanes.now in
    front-all times c.loop-position.position c.loop-position.front (take_all c.loop-position.position times (omega (arith, c.loop-position-test.false, c.requires.many)))
    c.loop-position.invariant.front
