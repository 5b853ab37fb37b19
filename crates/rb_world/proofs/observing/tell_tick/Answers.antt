use Rattle.rb_base.specs.Nodes.{side_of}
use Rattle.rb_rules.specs.WorldStep.Pending.{Tick}
use Rattle.rb_world.specs.{Sites.number_of, Buses.scenario_of}
use Rattle.rb_world.proofs.Observed.{told-as}
use Rattle.rb_world.proofs.observing.tell_tick.Goals as goal

pub returns : goal.returns
returns g c = λ k states s may.
    told-as _ g.T.Observer.observes c.args.observer.now c.observe.new.self (scenario_of c.args.bus.now) states (side_of g.K.Kind.CODE) (number_of c.args.site.now) c.frame_of.result s (Tick k) c.show_tick-event.result
    c.observe.ensures (c.frame_of.ensures (scenario_of c.args.bus.now) s may.at.stands) (c.show_tick-event.ensures k states s may)
