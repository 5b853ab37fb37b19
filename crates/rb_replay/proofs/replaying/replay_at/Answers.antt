use Rattle.std.proofs.Common.{rules, ◌≡◌, ◌≤◌, ◌∷◌, [], arith, subst, sym}
use Rattle.rb_base.specs.Nodes.{side_of}
use Rattle.rb_base.proofs.Plain.{on_err}
use Rattle.rb_log.specs.Cursor.{shown}
use Rattle.rb_laws_logs.specs.Replays.{replay_text}
use Rattle.rb_replay.specs.Replaying.{IsDue}
use Rattle.rb_replay.proofs.{ActsDue.end-is, Advanced.{advances-is, advances-more, advances-none, advances-part, ends}, Events.{first-is, none-left}}
use Rattle.rb_replay.proofs.replaying.replay_at.Goals as goal

pub events-init : goal.events-init
events-init g c = record {
  due = advances-none (IsDue (side_of g.K.Kind.CODE) c.args.node c.node-name.result 0 c.args.log.events) _ _
      (subst (λ name. IsDue (side_of g.K.Kind.CODE) c.args.node name 0 c.args.log.events (replay_text c.args.log.timetable.sizes c.args.log.timetable.plan c.args.log.node c.args.log.events))
      (sym c.node-name.ensures.value) c.requires);
  most = search rules;
  later = search rules;
}

pub returns-in_err-frames : goal.returns-in_err-frames
returns-in_err-frames g c = record {
  all = search rules;
  part = on_err c.from_residual.result
      (advances-part (IsDue (side_of g.K.Kind.CODE) c.events.node c.node-name.result c.events.frames (shown c.in-Some.event ∷ c.next.new.self.events)) _ _ _ _
      (advances-is (IsDue (side_of g.K.Kind.CODE) c.events.node c.node-name.result c.events.frames) c.events.log.events _ _ _ _
      (first-is (shown c.in-Some.event) c.events.log.events c.next.new.self.events c.in-Some.ensures.event c.in-Some.ensures.rest)
      c.events.invariant.due)
      (λ rest d. (c.in_err-frames.ensures.gives c.events.frames rest d).part));
  cause = search rules;
}

pub overflow_add-frames : goal.overflow_add-frames
overflow_add-frames g c =
    let few : c.events.frames ≤ c.events.invariant.due.goes_on.core.had = c.events.invariant.due.goes_on.few in
    let had : c.events.invariant.due.goes_on.core.had ≡ c.events.node.had = c.events.invariant.due.goes_on.stands.had in
    omega (arith, c.events.invariant.most, c.in_ok-frames.ensures.most)

pub events-preserved : goal.events-preserved
events-preserved g c = record {
  due = advances-more (IsDue (side_of g.K.Kind.CODE) c.events.node c.node-name.result c.events.frames (shown c.in-Some.event ∷ c.next.new.self.events))
      (IsDue (side_of g.K.Kind.CODE) c.give.new.node c.node-name.result _ c.give.new.log.events) _ _ _ _
      (advances-is (IsDue (side_of g.K.Kind.CODE) c.events.node c.node-name.result c.events.frames) c.events.log.events _ _ _ _
      (first-is (shown c.in-Some.event) c.events.log.events c.next.new.self.events c.in-Some.ensures.event c.in-Some.ensures.rest)
      c.events.invariant.due)
      (λ rest d. (c.in_ok-frames.ensures.gives c.events.frames rest d).advances);
  most = c.in_ok-frames.ensures.had c.events.invariant.most;
  later = search rules;
}

pub returns : goal.returns
returns g c =
    ends g.S.Sink.held g.S.Sink.faults (IsDue (side_of g.K.Kind.CODE) c.events.node c.node-name.result c.events.frames []) _ _ _ _ _ c.write_line.result
    (end-is (side_of g.K.Kind.CODE) c.events.node c.node-name.result c.events.frames _ c.end_line.ensures.bytes) c.events.invariant.later
    (advances-is (IsDue (side_of g.K.Kind.CODE) c.events.node c.node-name.result c.events.frames) c.events.log.events [] _ _ _
    (none-left c.next.result c.events.log.events c.in_default.is c.next.ensures.event)
    c.events.invariant.due)
    c.write_line.ensures
