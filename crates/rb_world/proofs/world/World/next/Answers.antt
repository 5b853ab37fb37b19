use Rattle.std.proofs.Common.{◌≡◌, refl, sym, ap, ◌∙◌, subst}
use Rattle.rb_world.specs.{Kept.kept_of, declared.ties.Seeding.Seeding, Nexts.{RunsOn, begun_with}, Worlds.KeptWorld}
use Rattle.rb_world.proofs.{NextRecord.{goes-on, with-seeding}, NodesKept.nodes-keep, Numbered.next-in-rounds}
use Rattle.rb_world.proofs.world.World.next.Goals as goal

pub invariant_of-self : goal.invariant_of-self
invariant_of-self g c =
    let k : KeptWorld = kept_of c.self-2.inside in
    let after : Seeding = record { seed = c.begin-seeding.result.seed; draws = c.run_on.new.draws } in
    (c.self-2.invariant.0, with-seeding k c.self-2.invariant.0 after c.self-2.invariant.1)

pub returns-clause-world : goal.returns-clause-world
returns-clause-world g c =
    let k : KeptWorld = kept_of c.self-2.inside in
    let after : Seeding = record { seed = c.begin-seeding.result.seed; draws = c.run_on.new.draws } in
    let begun : c.begin-seeding.result ≡ begun_with c.args.ties c.args.self.now.seeding =
    c.begin-seeding.ensures ∙ ap (λ (x : KeptWorld). begun_with c.args.ties x.seeding) c.self.view_is in
    λ w is.
    let runs : RunsOn c.args.ties c.begin-seeding.result.draws.state c.run_on.new.draws.state c.args.self.now k c.run_on.new.turn w =
    subst (λ (x : KeptWorld). RunsOn c.args.ties c.begin-seeding.result.draws.state c.run_on.new.draws.state c.args.self.now x c.run_on.new.turn w) (sym c.self-2.view_is)
    (c.run_on.ensures.world w is) in
    goes-on c.args.ties c.begin-seeding.result after c.args.self.now k c.run_on.new.turn w begun refl runs

pub returns-clause-rounds : goal.returns-clause-rounds
returns-clause-rounds g c =
    let k : KeptWorld = kept_of c.self-2.inside in
    let after : Seeding = record { seed = c.begin-seeding.result.seed; draws = c.run_on.new.draws } in
    let begun : c.begin-seeding.result ≡ begun_with c.args.ties c.args.self.now.seeding =
    c.begin-seeding.ensures ∙ ap (λ (x : KeptWorld). begun_with c.args.ties x.seeding) c.self.view_is in
    λ w is.
    let runs : RunsOn c.args.ties c.begin-seeding.result.draws.state c.run_on.new.draws.state c.args.self.now k c.run_on.new.turn w =
    subst (λ (x : KeptWorld). RunsOn c.args.ties c.begin-seeding.result.draws.state c.run_on.new.draws.state c.args.self.now x c.run_on.new.turn w) (sym c.self-2.view_is)
    (c.run_on.ensures.world w is) in
    next-in-rounds c.args.ties c.args.self.now (record k { seeding = after }) c.run_on.new.turn w is
    (goes-on c.args.ties c.begin-seeding.result after c.args.self.now k c.run_on.new.turn w begun refl runs)

pub returns-clause-nodes : goal.returns-clause-nodes
returns-clause-nodes g c = λ w is. nodes-keep _ w is
