use Rattle.rb_world.proofs.{Lanes.has-lane}
use Rattle.rb_world.specs.Buses.{scenario_of}
use Rattle.rb_world.proofs.proceeding.stop_at.Goals as goal

pub drop_all-requires : goal.drop_all-requires
drop_all-requires c = record { in_shape = has-lane (scenario_of c.args.bus.now) c.args.scene.now c.requires.around.0 c.args.node c.requires.around.1 c.requires.node }
