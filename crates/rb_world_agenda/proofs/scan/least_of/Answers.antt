use Rattle.std.proofs.{Common.{◌≡◌, ◌<◌, ◌≤◌, All, get_or, length, take, refl, arith, sym, ap, subst, ◌∙◌}, lemmas.List.{take_all, take_more}, lemmas.List.Elements.{All-nil, All-push}}
use Rattle.rb_queue.specs.Waiting.{HasLane, lane_of}
use Rattle.rb_world_agenda.specs.Agenda.{key_of, keys_of, least_key}
use Rattle.rb_world_agenda.proofs.Scans.{few-here, least-more, many-few}
use Rattle.rb_world_agenda.proofs.scan.least_of.Goals as goal

pub loop-position-init : goal.loop-position-init
unfolding least_key
loop-position-init c = record { least = refl; times = All-nil (λ k. k ≤ 18446744073709551615) }

pub node_at-requires-clause-bius : goal.node_at-requires-clause-bius
node_at-requires-clause-bius c = let few = c.requires.few.few_bius in let split = c.requires.few.split in omega (arith, few, split)

pub node_at-requires-clause-position : goal.node_at-requires-clause-position
node_at-requires-clause-position c =
    let many = (many-few c.args.lanes.now c.args.bius c.requires.few).1 in
    omega (arith, many, c.loop-position-test.true, c.requires.many)

pub key_of-requires : goal.key_of-requires
key_of-requires c =
    subst (HasLane c.args.lanes.now) (sym c.node_at.ensures)
    (few-here c.args.lanes.now c.args.bius c.loop-position.position c.requires.few (omega (arith, c.loop-position-test.true, c.requires.many))).lane

pub loop-position-preserved : goal.loop-position-preserved
loop-position-preserved c =
    let lanes = c.args.lanes.now in
    let keys = keys_of lanes in
    let i = c.loop-position.position in
    let within : i < length keys = omega (arith, c.loop-position-test.true, c.requires.many) in
    let here = few-here lanes c.args.bius i c.requires.few within in
    let key : get_or keys i 0 ≡ c.key_of.result =
    here.key ∙ ap (λ n. key_of (lane_of lanes n)) (sym c.node_at.ensures) ∙ sym c.key_of.ensures.value in
    record {
      least = let least = c.min-least.ensures in omega (arith, least, key, c.loop-position.invariant.least, least-more keys i within);
      times = subst (All (λ k. k ≤ 18446744073709551615)) (sym (take_more keys i 0 within))
          (All-push (λ k. k ≤ 18446744073709551615) (take i keys) (get_or keys i 0) c.loop-position.invariant.times (omega (arith, key, c.key_of.ensures.small)));
    }

pub returns-clause-value : goal.returns-clause-value
returns-clause-value c =
    let keys = keys_of c.args.lanes.now in
    c.loop-position.invariant.least ∙ ap least_key (take_all c.loop-position.position keys (omega (arith, c.loop-position-test.false, c.requires.many)))

pub returns-clause-times : goal.returns-clause-times
returns-clause-times c =
    let keys = keys_of c.args.lanes.now in
    subst (All (λ k. k ≤ 18446744073709551615)) (take_all c.loop-position.position keys (omega (arith, c.loop-position-test.false, c.requires.many)))
    c.loop-position.invariant.times
