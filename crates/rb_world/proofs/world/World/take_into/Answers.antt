use Rattle.std.proofs.Common.{◌<◌, sym, subst}
use Rattle.rb_rules.specs.WorldStep.{World as RunWorld, happens, take}
use Rattle.rb_world_book.specs.Records.{record_of}
use Rattle.rb_world.specs.{Kept.kept_of, Numbering.TakesInRounds, Runs.nodes_of, Steps.MayHappen, Turning.Gives, Worlds.{KeptWorld, Stands, due_in}}
use Rattle.rb_world.proofs.{Chosen.may-happen, Numbered.taken-in-rounds, Turns.taken}
use Rattle.rb_world.proofs.world.World.take_into.Goals as goal

pub happen-requires : goal.happen-requires
happen-requires g c =
    let k : KeptWorld = kept_of c.self.inside in
    let i = c.args.i in
    let below : i < due_in k = subst (λ (k : KeptWorld). i < due_in k) (sym c.self.view_is) c.requires.below in
    let lanes = c.take-node.new.self in
    let name = c.take-node.result.0 in
    let event = c.take-node.result.1 in
    let w : RunWorld = c.self.invariant.0 in
    let is : Stands k w = c.self.invariant.1 in
    let both = may-happen k w i name event lanes is below c.take-node.ensures.taken (c.take-node.ensures.world k.bus w is.scene.lanes) in
    let may : MayHappen k.bus k.nodes (record k.scene { agenda = lanes }) c.first_time-time.result name event w i both.0 =
    subst (λ t. MayHappen k.bus k.nodes (record k.scene { agenda = lanes }) t name event w i both.0) (sym c.first_time-time.ensures.value) both.1 in
    (w, i, both.0, may)

pub invariant_of-self : goal.invariant_of-self
invariant_of-self g c =
    let k : KeptWorld = kept_of c.self.inside in
    let i = c.args.i in
    let below : i < due_in k = subst (λ (k : KeptWorld). i < due_in k) (sym c.self.view_is) c.requires.below in
    let lanes = c.take-node.new.self in
    let name = c.take-node.result.0 in
    let event = c.take-node.result.1 in
    let w : RunWorld = c.self.invariant.0 in
    let is : Stands k w = c.self.invariant.1 in
    let both = may-happen k w i name event lanes is below c.take-node.ensures.taken (c.take-node.ensures.world k.bus w is.scene.lanes) in
    let may : MayHappen k.bus k.nodes (record k.scene { agenda = lanes }) c.first_time-time.result name event w i both.0 =
    subst (λ t. MayHappen k.bus k.nodes (record k.scene { agenda = lanes }) t name event w i both.0) (sym c.first_time-time.ensures.value) both.1 in
    let happened = c.happen.ensures w i both.0 may in
    let settles = c.settle_into.ensures.settled k.bus (happens k.bus w both.0) happened.surrounds.book in
    let given = taken k.bus k.lists w i both.0 (nodes_of c.happen.new.run) c.happen.new.run.scene k.seeding c.settle_into.new.self c.settle_into.new.turn
    c.last_of-self-inside.result is.lawful is.listed is.reached may.found happened settles c.last_of-self-inside.ensures in
    (take k.bus w i, given.stands)

pub returns-clause-world : goal.returns-clause-world
returns-clause-world g c =
    λ w stands.
    let k : KeptWorld = kept_of c.self.inside in
    let i = c.args.i in
    let below : i < due_in k = subst (λ (k : KeptWorld). i < due_in k) (sym c.self.view_is) c.requires.below in
    let lanes = c.take-node.new.self in
    let name = c.take-node.result.0 in
    let event = c.take-node.result.1 in
    let is : Stands k w = subst (λ (k : KeptWorld). Stands k w) (sym c.self.view_is) stands in
    let both = may-happen k w i name event lanes is below c.take-node.ensures.taken (c.take-node.ensures.world k.bus w is.scene.lanes) in
    let may : MayHappen k.bus k.nodes (record k.scene { agenda = lanes }) c.first_time-time.result name event w i both.0 =
    subst (λ t. MayHappen k.bus k.nodes (record k.scene { agenda = lanes }) t name event w i both.0) (sym c.first_time-time.ensures.value) both.1 in
    let happened = c.happen.ensures w i both.0 may in
    let settles = c.settle_into.ensures.settled k.bus (happens k.bus w both.0) happened.surrounds.book in
    let given = taken k.bus k.lists w i both.0 (nodes_of c.happen.new.run) c.happen.new.run.scene k.seeding c.settle_into.new.self c.settle_into.new.turn
    c.last_of-self-inside.result is.lawful is.listed is.reached may.found happened settles c.last_of-self-inside.ensures in
    subst (λ (kept : KeptWorld). Gives (record { bus = k.bus; lists = k.lists; nodes = nodes_of c.happen.new.run; scene = record c.happen.new.run.scene { book = c.settle_into.new.self }; seeding = k.seeding; last = c.last_of-self-inside.result }) c.settle_into.new.turn (take kept.bus w i)) c.self.view_is given

pub returns-clause-rounds : goal.returns-clause-rounds
returns-clause-rounds g c =
    λ w stands.
    let k : KeptWorld = kept_of c.self.inside in
    let i = c.args.i in
    let below : i < due_in k = subst (λ (k : KeptWorld). i < due_in k) (sym c.self.view_is) c.requires.below in
    let lanes = c.take-node.new.self in
    let name = c.take-node.result.0 in
    let event = c.take-node.result.1 in
    let is : Stands k w = subst (λ (k : KeptWorld). Stands k w) (sym c.self.view_is) stands in
    let both = may-happen k w i name event lanes is below c.take-node.ensures.taken (c.take-node.ensures.world k.bus w is.scene.lanes) in
    let may : MayHappen k.bus k.nodes (record k.scene { agenda = lanes }) c.first_time-time.result name event w i both.0 =
    subst (λ t. MayHappen k.bus k.nodes (record k.scene { agenda = lanes }) t name event w i both.0) (sym c.first_time-time.ensures.value) both.1 in
    let happened = c.happen.ensures w i both.0 may in
    let settles = c.settle_into.ensures.settled k.bus (happens k.bus w both.0) happened.surrounds.book in
    let given = taken k.bus k.lists w i both.0 (nodes_of c.happen.new.run) c.happen.new.run.scene k.seeding c.settle_into.new.self c.settle_into.new.turn
    c.last_of-self-inside.result is.lawful is.listed is.reached may.found happened settles c.last_of-self-inside.ensures in
    subst (λ (kept : KeptWorld). TakesInRounds kept.bus w (take kept.bus w i) (record_of c.settle_into.new.turn)) c.self.view_is
    (taken-in-rounds k.bus _ c.settle_into.new.turn w i both.0 is.lawful is.reached may.found given)
