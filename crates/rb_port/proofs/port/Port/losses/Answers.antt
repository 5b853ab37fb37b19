use Rattle.std.proofs.Common.{◌∙◌}
use Rattle.rb_port.proofs.Latest.{losses_are}
use Rattle.rb_port.proofs.port.Port.losses.Goals as goal

pub returns : goal.returns
returns c = λ port is. c.count_lost.ensures ∙ losses_are c.args.self.now.latest _ is.faults
