use Rattle.std.proofs.Common.{rules, ◌≡◌, ◌<◌, ◌≤◌, ◌^◌, true, false, sym, ◌∙◌, ap, subst, arith}
use Rattle.rb_base.specs.Nodes.{Side, side_of}
use Rattle.rb_slot.specs.Engines.{IsSameFrame, Seated}
use Rattle.rb_node.specs.Aheads.{following}
use Rattle.rb_node.proofs.{Acting.closes-same, Alone.{alone-ends, alone-follows, alone-gives, alone-soon, alone-stage, kept-alone, kept-otherwise}, Cores.next-is}
use Rattle.rb_node.proofs.node.Node.end_window.Goals as goal

true-false : true ≡ false → ⊥
true-false e = cc

pub returns-then-not-self : goal.returns-then-not-self
returns-then-not-self g c =
    let me : Side = side_of g.K.Kind.CODE in
    record {
      core = search rules;
      act = search rules;
      only = search rules;
      otherwise = rw (← c.self.view_is) (λ d k is next stays ends none.
          absurd (true-false (sym (kept-otherwise me c.self.inside.engine c.self.inside.had c.self.inside.ahead d k c.self.invariant.ahead is.state is.had next stays ends none)
          ∙ c.if-not-self.true)));
      stays = search rules;
      same = search rules;
    }

pub following-self-inside-requires-clause-stage : goal.following-self-inside-requires-clause-stage
following-self-inside-requires-clause-stage g c =
    alone-stage (side_of g.K.Kind.CODE) c.self.inside.engine c.self.inside.had c.self.inside.ahead c.bounds.ensures.plan c.self.invariant.ahead c.if-not-self.false

pub following-self-inside-requires-clause-last : goal.following-self-inside-requires-clause-last
following-self-inside-requires-clause-last g c =
    alone-soon (side_of g.K.Kind.CODE) c.self.inside.engine c.self.inside.had c.self.inside.ahead c.bounds.ensures.shape c.bounds.ensures.plan
    c.self.invariant.ahead c.if-not-self.false

pub look_on-requires-clause-index : goal.look_on-requires-clause-index
look_on-requires-clause-index g c =
    let received = c.came-came.ensures.stands in
    subst (λ (x : Seated). x.index < 16) (sym (c.close_into.ensures.state received.0 received.1)) c.self.invariant.index

pub look_on-requires-clause-epoch : goal.look_on-requires-clause-epoch
look_on-requires-clause-epoch g c =
    let v = c.self.inside.engine in
    let v3 = c.close_into.new.self in
    let received = c.came-came.ensures.stands in
    let same : IsSameFrame v v3 =
    closes-same (side_of g.K.Kind.CODE) v v3 c.self.inside.ahead.window received.0 (c.close_into.ensures.state received.0 received.1) in
    let epoch_is : v3.state.epoch ≡ v.state.epoch = same.epoch in
    let epoch : v.state.epoch ≤ c.self.inside.had = c.self.invariant.epoch in
    let later : c.self.inside.had ≤ c.self.inside.ahead.busy.tick = c.self.invariant.ahead.next.later in
    omega arith

pub look_on-requires-clause-window : goal.look_on-requires-clause-window
look_on-requires-clause-window g c =
    let v = c.self.inside.engine in
    let v3 = c.close_into.new.self in
    let received = c.came-came.ensures.stands in
    let same : IsSameFrame v v3 =
    closes-same (side_of g.K.Kind.CODE) v v3 c.self.inside.ahead.window received.0 (c.close_into.ensures.state received.0 received.1) in
    let plan : c.plan-2.result.now ≡ v3.plan = rw c.plan.ensures at c.plan-2.ensures.value in
    alone-follows (side_of g.K.Kind.CODE) v v3 c.self.inside.had c.self.inside.ahead c.following-self-inside.result
    c.bounds.ensures.shape c.bounds.ensures.plan c.self.invariant.epoch c.self.invariant.ahead c.if-not-self.false same
    (c.following-self-inside.ensures ∙ ap (λ p. following p c.self.inside.ahead.window) plan)

pub invariant_of-self : goal.invariant_of-self
invariant_of-self g c =
    let v = c.self.inside.engine in
    let v3 = c.close_into.new.self in
    let received = c.came-came.ensures.stands in
    let same : IsSameFrame v v3 =
    closes-same (side_of g.K.Kind.CODE) v v3 c.self.inside.ahead.window received.0 (c.close_into.ensures.state received.0 received.1) in
    let index_is : v3.index ≡ v.index = same.index in
    let frame_is : v3.state.frame ≡ v.state.frame = same.frame in
    let epoch_is : v3.state.epoch ≡ v.state.epoch = same.epoch in
    let index : v.index < 16 = c.self.invariant.index in
    let frame : v.state.frame ≤ c.self.inside.had = c.self.invariant.frame in
    let epoch : v.state.epoch ≤ c.self.inside.had = c.self.invariant.epoch in
    let later : c.self.inside.had ≤ c.self.inside.ahead.busy.tick = c.self.invariant.ahead.next.later in
    let below : c.self.inside.ahead.busy.tick < 2 ^ 31 =
    (kept-alone (side_of g.K.Kind.CODE) v c.self.inside.had c.self.inside.ahead c.self.invariant.ahead c.if-not-self.false).below in
    record {
      most = omega arith;
      index = omega arith;
      frame = omega arith;
      epoch = omega arith;
      stamps = c.clear.ensures.stamps (2 ^ 32);
      ahead = c.look_on.ensures;
    }

pub returns : goal.returns
returns g c =
    let me : Side = side_of g.K.Kind.CODE in
    let v = c.self.inside.engine in
    let v3 = c.close_into.new.self in
    let had = c.self.inside.had in
    let a = c.self.inside.ahead in
    let l = c.self.invariant.ahead in
    let received = c.came-came.ensures.stands in
    let same : IsSameFrame v v3 = closes-same me v v3 a.window received.0 (c.close_into.ensures.state received.0 received.1) in
    let alone = kept-alone me v had a l c.if-not-self.false in
    record {
      core = rw (← c.self.view_is) (λ one d k word is next.
          (alone-gives me v v3 had word a c.self.inside.shown c.close_into.new.shown c.self.inside.inbox c.clear.new.self c.bounds.ensures.plan
          c.bounds.ensures.feasible l c.if-not-self.false c.close_into.ensures.state c.close_into.ensures.closed c.clear.ensures.shows
          d k is.state is.had is.inbox next).core);
      act = rw (← c.self.view_is) (λ one d k word is next.
          (alone-gives me v v3 had word a c.self.inside.shown c.close_into.new.shown c.self.inside.inbox c.clear.new.self c.bounds.ensures.plan
          c.bounds.ensures.feasible l c.if-not-self.false c.close_into.ensures.state c.close_into.ensures.closed c.clear.ensures.shows
          d k is.state is.had is.inbox next).act);
      only = rw (← c.self.view_is) (λ one d is.
          let next = next-is me v d had a.busy.tick is.state is.had l.next alone.below in
          (a.busy.tick, (next, alone-ends me v had a d a.busy.tick l c.if-not-self.false is.state is.had next)));
      otherwise = search rules;
      stays = search rules;
      same = rw (← c.self.view_is) (record { sizes = same.sizes; plan = same.plan; index = same.index });
    }
