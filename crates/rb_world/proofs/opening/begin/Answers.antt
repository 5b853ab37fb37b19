use Rattle.rb_base.specs.Nodes.{side_of}
use Rattle.rb_world.proofs.Beginning.{begun-next, ready}
use Rattle.rb_world.specs.Buses.{scenario_of}
use Rattle.rb_world.proofs.opening.begin.Goals as goal

pub proceed-requires-clause-may : goal.proceed-requires-clause-may
proceed-requires-clause-may g c =
    ready (scenario_of c.args.bus.now) (side_of g.K.Kind.CODE) c.args.i c.from.result c.args.sites.now.items c.index_mut.result.now c.args.scene.now c.requires.lawful c.requires.listed c.requires.within c.from.ensures
    c.index_mut.ensures.value c.requires.may

pub returns : goal.returns
returns g c =
    begun-next (scenario_of c.args.bus.now) (side_of g.K.Kind.CODE) c.args.i c.from.result c.args.sites.now.items c.index_mut.result.now c.proceed.new.site c.args.scene.now c.proceed.new.scene
    c.requires.lawful c.requires.listed c.requires.within c.from.ensures c.index_mut.ensures.value c.proceed.ensures
