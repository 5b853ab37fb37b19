use Rattle.std.proofs.Common.{◌≡◌, ℕ, Some, true, false, sym, ◌∙◌, subst}
use Rattle.rb_base.specs.declared.node.NodeName.{NodeName}
use Rattle.rb_rules.specs.{Lawful.IsNodeOf, WorldStep.World as RunWorld}
use Rattle.rb_world.specs.{Kept.kept_of, Runs.nodes_of, declared.ties.Ties.TheVariants.First, Nexts.RunsOn, Observing.RunsTold, Worlds.{KeptWorld, Stands}}
use Rattle.rb_world.proofs.{LastTurn.reached-ends, Running.{may-run, run-ended, run-to}, ToldOn.{told-ended, told-runs}}
use Rattle.rb_world.proofs.world.World.run_first.Goals as goal

pub returns-then-has_ended-clause-world : goal.returns-then-has_ended-clause-world
returns-then-has_ended-clause-world g c =
    let k : KeptWorld = kept_of c.self.inside in
    subst (λ (k : KeptWorld). (w : RunWorld) (state : ℕ) → Stands k w → RunsOn First state state k k c.last_turn.result w) c.self.view_is (λ w state is.
    let ended : w.book.ended ≡ true = sym (c.has_ended.ensures k.bus w is.scene.book) ∙ c.if-has_ended.true in
    run-ended k w c.last_turn.result state is ended (c.last_turn.ensures w.turn is.last (reached-ends k.bus w is.reached ended)))

pub run_ticks-requires-clause-may : goal.run_ticks-requires-clause-may
run_ticks-requires-clause-may g c =
    let k : KeptWorld = kept_of c.self.inside in
    let w : RunWorld = c.self.invariant.0 in
    let is : Stands k w = c.self.invariant.1 in
    (w, may-run k w is (sym (c.has_ended.ensures k.bus w is.scene.book) ∙ c.if-has_ended.false))

pub invariant_of-self : goal.invariant_of-self
invariant_of-self g c =
    let k : KeptWorld = kept_of c.self.inside in
    let w : RunWorld = c.self.invariant.0 in
    let is : Stands k w = c.self.invariant.1 in
    let going : w.book.ended ≡ false = sym (c.has_ended.ensures k.bus w is.scene.book) ∙ c.if-has_ended.false in
    let comes = c.run_ticks.ensures.comes w 0 (may-run k w is going) in
    let to = run-to k w (nodes_of c.run_ticks.new.run) c.run_ticks.new.run.scene c.run_ticks.new.turn c.last_of-self-inside.result 0 is comes
    c.last_of-self-inside.ensures in
    (to.next, to.gives.stands)

pub returns-clause-world : goal.returns-clause-world
returns-clause-world g c =
    let k : KeptWorld = kept_of c.self.inside in
    let after : KeptWorld = record { bus = k.bus; lists = k.lists; nodes = nodes_of c.run_ticks.new.run; scene = c.run_ticks.new.run.scene; seeding = k.seeding; last = c.last_of-self-inside.result } in
    subst (λ (x : KeptWorld). (w : RunWorld) (state : ℕ) → Stands x w → RunsOn First state state x after c.run_ticks.new.turn w) c.self.view_is (λ w state is.
    let going : w.book.ended ≡ false = sym (c.has_ended.ensures k.bus w is.scene.book) ∙ c.if-has_ended.false in
    run-to k w after.nodes after.scene c.run_ticks.new.turn after.last state is (c.run_ticks.ensures.comes w state (may-run k w is going)) c.last_of-self-inside.ensures)

pub returns-then-has_ended-clause-told : goal.returns-then-has_ended-clause-told
returns-then-has_ended-clause-told g c =
    let k : KeptWorld = kept_of c.self.inside in
    subst (λ (k : KeptWorld). (name : NodeName) → c.args.observed ≡ Some name → IsNodeOf k.bus.sizes name → (w : RunWorld) (state : ℕ) → Stands k w
    → RunsTold _ g.T.Observer.observes name c.args.observer.now c.args.observer.now state k k c.last_turn.result w) c.self.view_is (λ name at node w state is.
    let ended : w.book.ended ≡ true = sym (c.has_ended.ensures k.bus w is.scene.book) ∙ c.if-has_ended.true in
    told-ended _ g.T.Observer.observes name c.args.observer.now k w c.last_turn.result state is ended (c.last_turn.ensures w.turn is.last (reached-ends k.bus w is.reached ended)))

pub returns-clause-told : goal.returns-clause-told
returns-clause-told g c =
    let k : KeptWorld = kept_of c.self.inside in
    let after : KeptWorld = record { bus = k.bus; lists = k.lists; nodes = nodes_of c.run_ticks.new.run; scene = c.run_ticks.new.run.scene; seeding = k.seeding; last = c.last_of-self-inside.result } in
    subst (λ (x : KeptWorld). (name : NodeName) → c.args.observed ≡ Some name → IsNodeOf x.bus.sizes name → (w : RunWorld) (state : ℕ) → Stands x w
    → RunsTold _ g.T.Observer.observes name c.args.observer.now c.run_ticks.new.observer state x after c.run_ticks.new.turn w) c.self.view_is (λ name at node w state is.
    let going : w.book.ended ≡ false = sym (c.has_ended.ensures k.bus w is.scene.book) ∙ c.if-has_ended.false in
    told-runs _ g.T.Observer.observes name c.args.observer.now c.run_ticks.new.observer k w after.nodes after.scene c.run_ticks.new.turn after.last state is (c.run_ticks.ensures.told name at node w state (may-run k w is going)) c.last_of-self-inside.ensures)
