use Rattle.std.proofs.Common.{◌≤◌, ◌∙◌, arith}
use Rattle.rb_base.specs.Nodes.Side.{Biu}
use Rattle.rb_node.specs.Cores.{Running}
use Rattle.rb_node.proofs.Steps.{Parts}
use Rattle.rb_listen.proofs.Steps.{Kept, gives, keeps, quiet-gives, spent-gives}
use Rattle.rb_listen.proofs.follower.Follower.step.Goals as goal

pub returns-then-now-ge-MOST_TICKS-clause-core : goal.returns-then-now-ge-MOST_TICKS-clause-core
returns-then-now-ge-MOST_TICKS-clause-core c =
    let n : Running = record { seat = c.self.inside.engine; had = c.self.inside.had; inbox = c.self.inside.inbox; shown = c.self.inside.shown } in
    rw (← c.self.view_is) (λ d is. (spent-gives n c.nothing.result d c.nothing.ensures is c.if-now-ge-MOST_TICKS.true).core)

pub returns-then-now-ge-MOST_TICKS-clause-act : goal.returns-then-now-ge-MOST_TICKS-clause-act
returns-then-now-ge-MOST_TICKS-clause-act c =
    let n : Running = record { seat = c.self.inside.engine; had = c.self.inside.had; inbox = c.self.inside.inbox; shown = c.self.inside.shown } in
    rw (← c.self.view_is) (λ d is. (spent-gives n c.nothing.result d c.nothing.ensures is c.if-now-ge-MOST_TICKS.true).act)

pub returns-then-now-self-clause-core : goal.returns-then-now-self-clause-core
returns-then-now-self-clause-core c =
    let n : Running = record { seat = c.self.inside.engine; had = c.self.inside.had; inbox = c.self.inside.inbox; shown = c.self.inside.shown } in
    rw (← c.self.view_is) (λ d is.
    (quiet-gives n c.nothing-then-now-self.result d c.nothing-then-now-self.ensures is
    (c.self.invariant.ahead.next.quiet n.had (omega arith) c.if-now-self.true) c.if-now-ge-MOST_TICKS.false).core)

pub returns-then-now-self-clause-act : goal.returns-then-now-self-clause-act
returns-then-now-self-clause-act c =
    let n : Running = record { seat = c.self.inside.engine; had = c.self.inside.had; inbox = c.self.inside.inbox; shown = c.self.inside.shown } in
    rw (← c.self.view_is) (λ d is.
    (quiet-gives n c.nothing-then-now-self.result d c.nothing-then-now-self.ensures is
    (c.self.invariant.ahead.next.quiet n.had (omega arith) c.if-now-self.true) c.if-now-ge-MOST_TICKS.false).act)

pub look_ahead-self-inside-requires-clause-epoch : goal.look_ahead-self-inside-requires-clause-epoch
look_ahead-self-inside-requires-clause-epoch c =
    let received = c.came-came.ensures.stands in
    let kept : Kept c.self.inside.engine c.close_at-closed.new.engine c.self.inside.had =
    keeps c.self.inside.engine c.turn_at-here.new.engine c.close_at-closed.new.engine c.self.inside.had c.turn_at-here.result received.0
    c.close_at-closed.result c.self.invariant.epoch c.self.invariant.frame c.self.invariant.known c.turn_at-here.ensures.state c.turn_at-here.ensures.window.is
    c.bounds.ensures.shape c.bounds.ensures.plan c.close_at-closed.ensures.same (c.close_at-closed.ensures.state received.0 received.1) in
    let epoch : c.close_at-closed.new.engine.state.epoch ≤ c.self.inside.had = kept.epoch in
    omega arith

pub invariant_of-self-2 : goal.invariant_of-self-2
invariant_of-self-2 c =
    let received = c.came-came.ensures.stands in
    let kept : Kept c.self.inside.engine c.close_at-closed.new.engine c.self.inside.had =
    keeps c.self.inside.engine c.turn_at-here.new.engine c.close_at-closed.new.engine c.self.inside.had c.turn_at-here.result received.0
    c.close_at-closed.result c.self.invariant.epoch c.self.invariant.frame c.self.invariant.known c.turn_at-here.ensures.state c.turn_at-here.ensures.window.is
    c.bounds.ensures.shape c.bounds.ensures.plan c.close_at-closed.ensures.same (c.close_at-closed.ensures.state received.0 received.1) in
    let epoch : c.close_at-closed.new.engine.state.epoch ≤ c.self.inside.had = kept.epoch in
    record {
      most = omega arith;
      index = kept.index ∙ c.self.invariant.index;
      epoch = omega arith;
      frame = kept.frame;
      known = kept.known;
      stamps = c.close_at-closed.ensures.stamps;
      ahead = c.look_ahead-self-inside.ensures;
    }

parts : (c : goal.After-self-2-1)
    → Parts Biu c.self.inside.engine c.turn_at-here.new.engine c.turn_at-here.new.engine c.close_at-closed.new.engine c.self.inside.had c.turn_at-here.result
    c.epoch_at-epoch.result c.close_at-closed.result c.self.inside.shown c.close_at-closed.new.shown c.self.inside.inbox c.close_at-closed.new.inbox
parts c = record {
  turned = c.turn_at-here.ensures.state;
  begun = c.epoch_at-epoch.ensures;
  window = c.turn_at-here.ensures.window.is;
  closes = c.close_at-closed.ensures.closes;
  state = c.close_at-closed.ensures.state;
  shown = c.close_at-closed.ensures.shown;
  holds = c.close_at-closed.ensures.inbox;
}

pub returns-clause-core : goal.returns-clause-core
returns-clause-core c =
    rw (← c.self.view_is) (λ d is. (gives _ _ _ _ _ _ _ _ _ _ _ c.self.invariant.index (parts c) c.if-now-ge-MOST_TICKS.false d is.state is.had is.inbox).core)

pub returns-clause-act : goal.returns-clause-act
returns-clause-act c =
    rw (← c.self.view_is) (λ d is. (gives _ _ _ _ _ _ _ _ _ _ _ c.self.invariant.index (parts c) c.if-now-ge-MOST_TICKS.false d is.state is.had is.inbox).act)
