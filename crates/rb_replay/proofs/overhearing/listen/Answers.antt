use Rattle.std.proofs.Common.{rules}
use Rattle.rb_base.proofs.Plain.{on_err}
use Rattle.rb_replay.specs.ListeningOn.{IsDue}
use Rattle.rb_replay.proofs.{Advanced.advances-writes, HeedsDue.{ends-at-once, first-due, from-none}}
use Rattle.rb_replay.proofs.overhearing.listen.Goals as goal

pub returns-then-not-find_tick : goal.returns-then-not-find_tick
returns-then-not-find_tick g c =
    ends-at-once g.S.Sink.held g.S.Sink.faults _ _ c.args.log.node c.args.skip c.args.log.events c.end_line.result.bytes _ _ c.write_line.result (c.find_tick.ensures.none c.if-not-find_tick.true)
    c.end_line.ensures.bytes c.write_line.ensures

pub returns-in_err-first : goal.returns-in_err-first
returns-in_err-first g c = record {
  all = search rules;
  part =
      let found = c.find_tick.ensures.found c.if-not-find_tick.false in
      let due = first-due c.new-listener.result c.plan.result.now c.args.log.timetable c.node-name.result c.args.log.node c.args.skip c.args.log.events _
      c.new-listener.ensures.sizes c.new-listener.ensures.plan c.plan.ensures c.node-name.ensures.value c.new-listener.ensures.stands found.1 in
      on_err c.from_residual.result (c.in_err-first.ensures.gives found.0 0 _ due).part;
  cause = search rules;
}

pub listen_on-requires : goal.listen_on-requires
listen_on-requires g c =
    let found = c.find_tick.ensures.found c.if-not-find_tick.false in
    let due = first-due c.new-listener.result c.plan.result.now c.args.log.timetable c.node-name.result c.args.log.node c.args.skip c.args.log.events _
    c.new-listener.ensures.sizes c.new-listener.ensures.plan c.plan.ensures c.node-name.ensures.value c.new-listener.ensures.stands found.1 in
    let a = from-none c.give_ticks.new.listener c.node-name.result c.in_ok-first.first c.give_ticks.new.log.events _ _ _
    (c.in_ok-first.ensures.gives found.0 0 _ due).advances in
    (a.rest, a.goes_on)

pub returns : goal.returns
returns g c =
    let found = c.find_tick.ensures.found c.if-not-find_tick.false in
    let due = first-due c.new-listener.result c.plan.result.now c.args.log.timetable c.node-name.result c.args.log.node c.args.skip c.args.log.events _
    c.new-listener.ensures.sizes c.new-listener.ensures.plan c.plan.ensures c.node-name.ensures.value c.new-listener.ensures.stands found.1 in
    advances-writes g.S.Sink.held g.S.Sink.faults (IsDue c.give_ticks.new.listener c.node-name.result c.in_ok-first.first c.give_ticks.new.log.events) _ _ _ _ c.listen_on.result c.in_ok-first.ensures.cause.later
    (from-none c.give_ticks.new.listener c.node-name.result c.in_ok-first.first c.give_ticks.new.log.events _ _ _
    (c.in_ok-first.ensures.gives found.0 0 _ due).advances)
    (λ rest more. c.listen_on.ensures.writes rest more)
