use Rattle.rb_world_traffic.specs.Spans.{span_of}
use Rattle.rb_world_traffic.proofs.Arrivals.{says-to}
use Rattle.rb_world_traffic.proofs.saying.Sayings.say.Goals as goal

pub returns : goal.returns
returns c =
    says-to c.self.inside.said c.args.self.now c.args.clock.now c.args.to (span_of c.args.span.now) c.places-places.result.now c.args.agenda.now c.say_each.new.agenda c.self.view_is c.requires.in_shape c.requires.node
    c.places-places.ensures c.say_each.ensures
