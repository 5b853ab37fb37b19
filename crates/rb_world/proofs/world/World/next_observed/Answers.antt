use Rattle.std.proofs.Common.{◌≡◌, is_some, refl, sym, ap, ◌∙◌, subst}
use Rattle.rb_rules.specs.WorldStep.{World as RunWorld}
use Rattle.rb_world.specs.{Kept.kept_of, declared.ties.Seeding.Seeding, declared.ties.Ties.TheVariants.First, Nexts.{RunsOn, begun_with}, Observing.RunsTold, Worlds.{KeptWorld, Stands}}
use Rattle.rb_world.proofs.{NextRecord.{goes-on, with-seeding}, Numbered.next-in-rounds, ToldOn.told-next-record}
use Rattle.rb_world.proofs.world.World.next_observed.Goals as goal

pub invariant_of-self : goal.invariant_of-self
invariant_of-self g c =
    let k : KeptWorld = kept_of c.self-2.inside in
    (c.self-2.invariant.0, with-seeding k c.self-2.invariant.0 c.begin-seeding.result c.self-2.invariant.1)

pub returns-clause-world : goal.returns-clause-world
returns-clause-world g c =
    let k : KeptWorld = kept_of c.self-2.inside in
    let after : Seeding = c.begin-seeding.result in
    let begun : after ≡ begun_with First c.args.self.now.seeding = c.begin-seeding.ensures ∙ ap (λ (x : KeptWorld). begun_with First x.seeding) c.self.view_is in
    λ w is.
    let runs : RunsOn First after.draws.state after.draws.state c.args.self.now k c.run_first.new.turn w =
    subst (λ (x : KeptWorld). RunsOn First after.draws.state after.draws.state c.args.self.now x c.run_first.new.turn w) (sym c.self-2.view_is) (c.run_first.ensures.world w after.draws.state is) in
    goes-on First after after c.args.self.now k c.run_first.new.turn w begun refl runs

pub returns-clause-told : goal.returns-clause-told
returns-clause-told g c =
    let k : KeptWorld = kept_of c.self-2.inside in
    let after : Seeding = c.begin-seeding.result in
    let begun : after ≡ begun_with First c.args.self.now.seeding = c.begin-seeding.ensures ∙ ap (λ (x : KeptWorld). begun_with First x.seeding) c.self.view_is in
    λ w is.
    told-next-record _ g.T.Observer.observes c.args.node c.args.observer.now c.run_first.new.observer after c.args.self.now k c.run_first.new.turn w begun
    (subst (λ (x : KeptWorld). RunsTold _ g.T.Observer.observes c.args.node c.args.observer.now c.run_first.new.observer after.draws.state c.args.self.now x c.run_first.new.turn w) (sym c.self-2.view_is)
    (c.run_first.ensures.told c.args.node refl c.requires.node w after.draws.state is))

pub returns-clause-rounds : goal.returns-clause-rounds
returns-clause-rounds g c =
    let k : KeptWorld = kept_of c.self-2.inside in
    let after : Seeding = c.begin-seeding.result in
    let begun : after ≡ begun_with First c.args.self.now.seeding = c.begin-seeding.ensures ∙ ap (λ (x : KeptWorld). begun_with First x.seeding) c.self.view_is in
    λ w is.
    let runs : RunsOn First after.draws.state after.draws.state c.args.self.now k c.run_first.new.turn w =
    subst (λ (x : KeptWorld). RunsOn First after.draws.state after.draws.state c.args.self.now x c.run_first.new.turn w) (sym c.self-2.view_is) (c.run_first.ensures.world w after.draws.state is) in
    next-in-rounds First c.args.self.now (record k { seeding = after }) c.run_first.new.turn w is (goes-on First after after c.args.self.now k c.run_first.new.turn w begun refl runs)

pub returns-clause-record : goal.returns-clause-record
returns-clause-record g c =
    let w : RunWorld = c.self.invariant.0 in
    let is : Stands c.args.self.now w = subst (λ (x : KeptWorld). Stands x w) c.self.view_is c.self.invariant.1 in
    let runs = c.run_first.ensures.world w c.begin-seeding.result.draws.state is in
    ap is_some (sym runs.gives.turn_is) ∙ runs.is.gives
