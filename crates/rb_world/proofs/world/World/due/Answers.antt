use Rattle.std.proofs.Common.{◌≡◌, length, sym, ◌∙◌, subst}
use Rattle.rb_rules.specs.WorldStep.{World as RunWorld, due_of}
use Rattle.rb_world.specs.{Kept.kept_of, Worlds.{KeptWorld, Stands, due_in}}
use Rattle.rb_world.proofs.{Idle.{all-due, busy, ended-idle, free-idle, length-due, none-due, none-due-then}, Steps.some-due, world.World.due.Goals.{then-has_ended-via-then-has_ended, then-has_ended-via-else-has_ended+then-needs_no_event}}
use Rattle.rb_world.proofs.world.World.due.Goals as goal

pub returns-then-has_ended-clause-value : goal.returns-then-has_ended-clause-value
returns-then-has_ended-clause-value c =
    let k : KeptWorld = kept_of c.self.inside in
    let w : RunWorld = c.self.invariant.0 in
    let is : Stands k w = c.self.invariant.1 in
    subst (λ k. 0 ≡ due_in k) c.self.view_is (elim c.then-has_ended.branch [
      | then-has_ended-via-then-has_ended d ↦ sym (none-due k w is (ended-idle k w is (sym (c.has_ended.ensures k.bus w is.scene.book) ∙ d.if-has_ended.true)))
      | then-has_ended-via-else-has_ended+then-needs_no_event d ↦
          sym (none-due k w is (free-idle k w is (sym (d.needs_no_event.ensures k.bus w is.scene.book) ∙ d.if-needs_no_event.true)))
    ])

pub returns-then-has_ended-clause-world : goal.returns-then-has_ended-clause-world
returns-then-has_ended-clause-world c =
    let k : KeptWorld = kept_of c.self.inside in
    subst (λ k. (w : RunWorld) → Stands k w → 0 ≡ length (due_of k.bus w)) c.self.view_is (λ w is. elim c.then-has_ended.branch [
      | then-has_ended-via-then-has_ended d ↦ sym (none-due-then k w is (ended-idle k w is (sym (c.has_ended.ensures k.bus w is.scene.book) ∙ d.if-has_ended.true)))
      | then-has_ended-via-else-has_ended+then-needs_no_event d ↦
          sym (none-due-then k w is (free-idle k w is (sym (d.needs_no_event.ensures k.bus w is.scene.book) ∙ d.if-needs_no_event.true)))
    ])

pub returns-clause-world : goal.returns-clause-world
returns-clause-world c =
    let k : KeptWorld = kept_of c.self.inside in
    subst (λ k. (w : RunWorld) → Stands k w → c.due.result ≡ length (due_of k.bus w)) c.self.view_is (λ w is.
    length-due k w c.due.result
    (busy k w (sym (c.has_ended.ensures k.bus w is.scene.book) ∙ c.if-has_ended.false) (sym (c.needs_no_event.ensures k.bus w is.scene.book) ∙ c.if-needs_no_event.false))
    (c.due.ensures.world k.bus w is.scene.lanes))

pub returns-clause-value : goal.returns-clause-value
returns-clause-value c =
    let k : KeptWorld = kept_of c.self.inside in
    let w : RunWorld = c.self.invariant.0 in
    let is : Stands k w = c.self.invariant.1 in
    subst (λ k. c.due.result ≡ due_in k) c.self.view_is (all-due k w c.due.result is
    (busy k w (sym (c.has_ended.ensures k.bus w is.scene.book) ∙ c.if-has_ended.false) (sym (c.needs_no_event.ensures k.bus w is.scene.book) ∙ c.if-needs_no_event.false))
    c.due.ensures.value)

pub returns-then-has_ended-clause-some : goal.returns-then-has_ended-clause-some
returns-then-has_ended-clause-some c = λ w is needs. some-due c.args.self.now w 0 is needs (returns-then-has_ended-clause-world c w is)

pub returns-clause-some : goal.returns-clause-some
returns-clause-some c = λ w is needs. some-due c.args.self.now w c.due.result is needs (returns-clause-world c w is)
