use Rattle.rb_world_agenda.specs.Agenda.{tick_times}
use Rattle.rb_world_agenda.proofs.{Marks.front-read, Ticks.few-times}
use Rattle.rb_world_agenda.proofs.scan.tick_front.Goals as goal

pub returns-clause-front : goal.returns-clause-front
returns-clause-front c =
    front-read (tick_times c.args.lanes.now) c.args.ticks.now.all c.least-least.result c.requires.ticks (few-times c.args.lanes.now c.args.bius c.requires.few)
    c.least-least.ensures.least c.if-least.false c.least-least.type_inv
