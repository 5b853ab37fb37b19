use Rattle.std.proofs.Common.{sym, subst}
use Rattle.rb_world.specs.Buses.{HaveRooms, scenario_of}
use Rattle.rb_world.proofs.Lanes.{rooms-spread}
use Rattle.rb_world.proofs.bus.Bus.send.Goals as goal

pub returns-clause-rooms : goal.returns-clause-rooms
returns-clause-rooms c = λ rooms. subst (HaveRooms (scenario_of c.args.self.now)) (sym c.send.ensures.lanes) (rooms-spread (scenario_of c.args.self.now) c.args.agenda.now _ _ _ rooms)
