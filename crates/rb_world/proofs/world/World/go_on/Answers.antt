use Rattle.std.proofs.Common.{◌≡◌, true, false, sym, ◌∙◌, subst}
use Rattle.rb_rules.specs.WorldStep.{World as RunWorld, go_on}
use Rattle.rb_world.specs.{Kept.kept_of, Turning.Gives, Worlds.{KeptWorld, Stands}}
use Rattle.rb_world.proofs.{GoingOn.{ended-gives, going-gives}, LastTurn.reached-ends}
use Rattle.rb_world.proofs.world.World.go_on.Goals as goal

pub returns-then-has_ended-clause-world : goal.returns-then-has_ended-clause-world
returns-then-has_ended-clause-world c =
    let k : KeptWorld = kept_of c.self.inside in
    subst (λ k. (w : RunWorld) → Stands k w → Gives k c.last_turn.result (go_on k.bus w)) c.self.view_is (λ w is.
    let ended : w.book.ended ≡ true = sym (c.has_ended.ensures k.bus w is.scene.book) ∙ c.if-has_ended.true in
    ended-gives k w c.last_turn.result is ended (c.last_turn.ensures w.turn is.last (reached-ends k.bus w is.reached ended)))

pub invariant_of-self : goal.invariant_of-self
invariant_of-self c =
    let k : KeptWorld = kept_of c.self.inside in
    let w : RunWorld = c.self.invariant.0 in
    let is : Stands k w = c.self.invariant.1 in
    let going : w.book.ended ≡ false = sym (c.has_ended.ensures k.bus w is.scene.book) ∙ c.if-has_ended.false in (
      go_on k.bus w,
      (going-gives k w c.settle_into.new.self c.settle_into.new.turn c.last_of-self-inside.result is going
          (c.settle_into.ensures.settled k.bus w is.scene.book) c.last_of-self-inside.ensures).stands,
    )

pub returns-clause-world : goal.returns-clause-world
returns-clause-world c =
    let k : KeptWorld = kept_of c.self.inside in
    let after : KeptWorld = record k { scene = record k.scene { book = c.settle_into.new.self }; last = c.last_of-self-inside.result } in
    subst (λ (x : KeptWorld). (w : RunWorld) → Stands x w → Gives after c.settle_into.new.turn (go_on x.bus w)) c.self.view_is (λ w is.
    let going : w.book.ended ≡ false = sym (c.has_ended.ensures k.bus w is.scene.book) ∙ c.if-has_ended.false in
    going-gives k w c.settle_into.new.self c.settle_into.new.turn c.last_of-self-inside.result is going
    (c.settle_into.ensures.settled k.bus w is.scene.book) c.last_of-self-inside.ensures)
