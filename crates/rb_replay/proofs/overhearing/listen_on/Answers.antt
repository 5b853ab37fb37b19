use Rattle.std.proofs.Common.{rules, ◌≤◌, ◌^◌, ◌∷◌, ◌∙◌, [], ap, arith}
use Rattle.rb_base.proofs.Plain.{on_err}
use Rattle.rb_log.specs.Cursor.{shown}
use Rattle.rb_report.specs.Report.{end_text}
use Rattle.rb_listen.specs.Listening.{had_by}
use Rattle.rb_replay.specs.ListeningOn.{IsDue}
use Rattle.rb_replay.proofs.{Advanced.{advances-is, advances-more, advances-none, advances-part, ends}, HeedsDue.end-is, Events.{first-is, none-left}}
use Rattle.rb_replay.proofs.overhearing.listen_on.Goals as goal

pub events-init : goal.events-init
events-init g c = record {
  due = λ due d. advances-none (IsDue c.args.listener c.args.name c.args.first c.args.log.events) due _ d;
  later = search rules;
}

pub returns-in_err-begun-clause-writes : goal.returns-in_err-begun-clause-writes
returns-in_err-begun-clause-writes g c = λ due d. record {
  all = search rules;
  part = on_err c.from_residual.result
      (advances-part (IsDue c.events.listener c.args.name c.events.begun (shown c.in-Some.event ∷ c.next.new.self.events)) due _ _ _
      (advances-is (IsDue c.events.listener c.args.name c.events.begun) c.events.log.events _ due _ _
      (first-is (shown c.in-Some.event) c.events.log.events c.next.new.self.events c.in-Some.ensures.event c.in-Some.ensures.rest)
      (c.events.invariant.due due d))
      (λ rest more. (c.in_err-begun.ensures.gives c.events.begun rest more).part));
  cause = search rules;
}

pub overflow_add-begun : goal.overflow_add-begun
overflow_add-begun g c =
    let a = c.events.invariant.due c.requires.0 c.requires.1 in
    let few : c.events.begun ≤ had_by a.goes_on.listening = a.goes_on.few in
    let most : had_by a.goes_on.listening ≤ 2 ^ 31 = a.goes_on.most in
    omega (arith, c.in_ok-begun.ensures.most)

pub events-preserved : goal.events-preserved
events-preserved g c = record {
  due = λ due d.
      advances-more (IsDue c.events.listener c.args.name c.events.begun (shown c.in-Some.event ∷ c.next.new.self.events))
      (IsDue c.give.new.listener c.args.name _ c.give.new.log.events) due _ _ _
      (advances-is (IsDue c.events.listener c.args.name c.events.begun) c.events.log.events _ due _ _
      (first-is (shown c.in-Some.event) c.events.log.events c.next.new.self.events c.in-Some.ensures.event c.in-Some.ensures.rest)
      (c.events.invariant.due due d))
      (λ rest more. (c.in_ok-begun.ensures.gives c.events.begun rest more).advances);
  later = search rules;
}

pub returns-clause-writes : goal.returns-clause-writes
returns-clause-writes g c =
    λ due d.
    ends g.S.Sink.held g.S.Sink.faults (IsDue c.events.listener c.args.name c.events.begun []) due _ _ _ _ c.write_line.result
    (end-is c.events.listener c.args.name c.events.begun _ (c.end_line.ensures.bytes ∙ ap end_text c.saturating_sub.ensures)) c.events.invariant.later
    (advances-is (IsDue c.events.listener c.args.name c.events.begun) c.events.log.events [] due _ _
    (none-left c.next.result c.events.log.events c.in_default.is c.next.ensures.event)
    (c.events.invariant.due due d))
    c.write_line.ensures
