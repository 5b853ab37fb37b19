use Rattle.rb_base.specs.Nodes.{side_of}
use Rattle.rb_world.proofs.Beginning.{at-end, none-yet}
use Rattle.rb_world.specs.Buses.{scenario_of}
use Rattle.rb_world.proofs.opening.begin_all.Goals as goal

pub loop-i-init : goal.loop-i-init
loop-i-init g c = λ w may. none-yet (scenario_of c.args.bus.now) (side_of g.K.Kind.CODE) c.args.sites.now.items c.args.scene.now w c.requires.fresh may

pub begin-requires-clause-may : goal.begin-requires-clause-may
begin-requires-clause-may g c = (c.requires.may.0, c.loop-i.invariant c.requires.may.0 c.requires.may.1)

pub loop-i-preserved : goal.loop-i-preserved
loop-i-preserved g c = λ w may. c.begin.ensures w (c.loop-i.invariant w may)

pub returns : goal.returns
returns g c =
    λ w may.
    at-end (scenario_of c.args.bus.now) (side_of g.K.Kind.CODE) c.loop-i.i c.args.count c.loop-i.sites.items c.loop-i.scene w c.loop-i-test.false c.loop-i.auto.i-end (c.loop-i.invariant w may)
