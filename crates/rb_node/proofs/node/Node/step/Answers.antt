use Rattle.std.proofs.Common.{◌≡◌, ◌+◌, ◌<◌, ◌≤◌, sym, subst, arith}
use Rattle.rb_base.specs.Nodes.{side_of}
use Rattle.rb_node.specs.{Aheads.SaysIn, Cores.Running}
use Rattle.rb_node.proofs.{Going.{Ends, ending, going}, Steps.{Kept, Parts, Says, gives, keeps, quiet-gives, spent-gives}}
use Rattle.rb_node.proofs.node.Node.step.Goals as goal

pub returns-then-now-ge-MOST_TICKS-clause-core : goal.returns-then-now-ge-MOST_TICKS-clause-core
returns-then-now-ge-MOST_TICKS-clause-core g c =
    let n : Running = record { seat = c.self.inside.engine; had = c.self.inside.had; inbox = c.self.inside.inbox; shown = c.self.inside.shown } in
    rw (← c.self.view_is) (λ d is. (spent-gives (side_of g.K.Kind.CODE) n c.nothing.result c.args.word d c.nothing.ensures is c.if-now-ge-MOST_TICKS.true).core)

pub returns-then-now-ge-MOST_TICKS-clause-act : goal.returns-then-now-ge-MOST_TICKS-clause-act
returns-then-now-ge-MOST_TICKS-clause-act g c =
    let n : Running = record { seat = c.self.inside.engine; had = c.self.inside.had; inbox = c.self.inside.inbox; shown = c.self.inside.shown } in
    rw (← c.self.view_is) (λ d is. (spent-gives (side_of g.K.Kind.CODE) n c.nothing.result c.args.word d c.nothing.ensures is c.if-now-ge-MOST_TICKS.true).act)

pub returns-then-now-self-clause-core : goal.returns-then-now-self-clause-core
returns-then-now-self-clause-core g c =
    let n : Running = record { seat = c.self.inside.engine; had = c.self.inside.had; inbox = c.self.inside.inbox; shown = c.self.inside.shown } in
    rw (← c.self.view_is) (λ d is.
    (quiet-gives (side_of g.K.Kind.CODE) n c.nothing-then-now-self.result c.args.word d c.nothing-then-now-self.ensures is
    (c.self.invariant.ahead.next.quiet n.had (omega arith) c.if-now-self.true) c.if-now-ge-MOST_TICKS.false).core)

pub returns-then-now-self-clause-act : goal.returns-then-now-self-clause-act
returns-then-now-self-clause-act g c =
    let n : Running = record { seat = c.self.inside.engine; had = c.self.inside.had; inbox = c.self.inside.inbox; shown = c.self.inside.shown } in
    rw (← c.self.view_is) (λ d is.
    (quiet-gives (side_of g.K.Kind.CODE) n c.nothing-then-now-self.result c.args.word d c.nothing-then-now-self.ensures is
    (c.self.invariant.ahead.next.quiet n.had (omega arith) c.if-now-self.true) c.if-now-ge-MOST_TICKS.false).act)

pub turn_at-requires-clause-ahead : goal.turn_at-requires-clause-ahead
turn_at-requires-clause-ahead g c =
    let later : c.self.inside.had ≤ c.self.inside.ahead.busy.tick = c.self.invariant.ahead.next.later in
    let at : c.self.inside.ahead.busy.tick ≡ c.self.inside.had = omega arith in
    record {
      window = c.self.invariant.ahead.window;
      stage = subst (λ k. SaysIn (side_of g.K.Kind.CODE) c.self.inside.engine c.self.inside.ahead.window.slot k c.self.inside.ahead.busy.stage) at
          c.self.invariant.ahead.stage;
    }

pub go_on-requires-clause-epoch : goal.go_on-requires-clause-epoch
go_on-requires-clause-epoch g c =
    let k : Kept c.self.inside.engine c.close_at-closed.new.engine c.self.inside.had =
    keeps (side_of g.K.Kind.CODE) _ c.turn_at.new.engine c.say_at-message.new.engine _ _ c.args.word c.say_at-message.result c.self.invariant.epoch
    c.turn_at.ensures.state c.say_at-message.ensures.keeps c.close_at-closed.ensures.same in
    let epoch : c.close_at-closed.new.engine.state.epoch ≤ c.self.inside.had = k.epoch in
    omega arith

ends : (g : _) (c : goal.After-go_on-arg-2-1 g)
    → Ends (side_of g.K.Kind.CODE) c.turn_at.new.engine c.say_at-message.new.engine c.close_at-closed.new.engine c.self.inside.had c.args.word
    c.turn_at.new.ahead.window c.say_at-message.result c.close_at-closed.result
ends g c = record {
  here = c.turn_at.ensures.ahead.window;
  kept = c.say_at-message.ensures.keeps;
  closes = c.close_at-closed.ensures.closes;
  same = c.close_at-closed.ensures.same;
  stays = c.close_at-closed.ensures.keeps;
}

pub go_on-requires-clause-ended : goal.go_on-requires-clause-ended
go_on-requires-clause-ended g c = ending (side_of g.K.Kind.CODE) _ _ _ _ _ _ _ _ (ends g c)

pub go_on-requires-clause-goes_on : goal.go_on-requires-clause-goes_on
go_on-requires-clause-goes_on g c =
    let k : Kept c.self.inside.engine c.close_at-closed.new.engine c.self.inside.had =
    keeps (side_of g.K.Kind.CODE) _ c.turn_at.new.engine c.say_at-message.new.engine _ _ c.args.word c.say_at-message.result c.self.invariant.epoch
    c.turn_at.ensures.state c.say_at-message.ensures.keeps c.close_at-closed.ensures.same in
    going (side_of g.K.Kind.CODE) _ _ _ _ _ _ _ _ (ends g c) c.bounds.ensures.plan k.epoch

pub look_on-requires-clause-epoch : goal.look_on-requires-clause-epoch
look_on-requires-clause-epoch g c =
    let k : Kept c.self.inside.engine c.close_at-closed.new.engine c.self.inside.had =
    keeps (side_of g.K.Kind.CODE) _ c.turn_at.new.engine c.say_at-message.new.engine _ _ c.args.word c.say_at-message.result c.self.invariant.epoch
    c.turn_at.ensures.state c.say_at-message.ensures.keeps c.close_at-closed.ensures.same in
    let epoch : c.close_at-closed.new.engine.state.epoch ≤ c.self.inside.had = k.epoch in
    omega arith

pub invariant_of-self-2 : goal.invariant_of-self-2
invariant_of-self-2 g c =
    let kept : Kept c.self.inside.engine c.close_at-closed.new.engine c.self.inside.had =
    keeps (side_of g.K.Kind.CODE) _ c.turn_at.new.engine c.say_at-message.new.engine _ _ c.args.word c.say_at-message.result c.self.invariant.epoch
    c.turn_at.ensures.state c.say_at-message.ensures.keeps c.close_at-closed.ensures.same in
    let epoch : c.close_at-closed.new.engine.state.epoch ≤ c.self.inside.had = kept.epoch in
    let more : c.close_at-closed.new.engine.state.frame ≤ c.self.inside.engine.state.frame + 1 = kept.frame in
    let frame : c.self.inside.engine.state.frame ≤ c.self.inside.had = c.self.invariant.frame in
    record {
      most = omega arith;
      index = subst (λ i. i < 16) (sym kept.index) c.self.invariant.index;
      frame = omega arith;
      epoch = omega arith;
      stamps = c.close_at-closed.ensures.stamps;
      ahead = c.look_on.ensures;
    }

parts : (g : _) (c : goal.After-look_on g)
    → Parts (side_of g.K.Kind.CODE) c.self.inside.engine c.turn_at.new.engine c.say_at-message.new.engine c.close_at-closed.new.engine
    c.self.inside.had c.turn_at.new.ahead.window c.epoch_at-epoch.result c.close_at-closed.result c.self.inside.shown c.close_at-closed.new.shown
    c.self.inside.inbox c.close_at-closed.new.inbox
parts g c = record {
  turned = c.turn_at.ensures.state;
  begun = c.epoch_at-epoch.ensures;
  window = c.turn_at.ensures.ahead.window.is;
  closes = c.close_at-closed.ensures.closes;
  state = c.close_at-closed.ensures.state;
  shown = c.close_at-closed.ensures.shown;
  holds = c.close_at-closed.ensures.inbox;
}

says : (g : _) (c : goal.After-look_on g)
    → Says (side_of g.K.Kind.CODE) c.turn_at.new.engine c.say_at-message.new.engine c.self.inside.had c.args.word c.turn_at.new.ahead.window c.say_at-message.result
says g c = record { said = c.say_at-message.ensures.message; kept = c.say_at-message.ensures.keeps }

pub returns-clause-core : goal.returns-clause-core
returns-clause-core g c =
    rw (← c.self.view_is) (λ d is.
    (gives _ _ _ _ _ _ _ _ _ _ _ _ _ _ _ (parts g c) (says g c) c.if-now-ge-MOST_TICKS.false d is.state is.had is.inbox).core)

pub returns-clause-act : goal.returns-clause-act
returns-clause-act g c =
    rw (← c.self.view_is) (λ d is.
    (gives _ _ _ _ _ _ _ _ _ _ _ _ _ _ _ (parts g c) (says g c) c.if-now-ge-MOST_TICKS.false d is.state is.had is.inbox).act)
