use Rattle.rb_node.proofs.EventLists.{acts-append, cores-append, ticks-pass}
use Rattle.rb_node.proofs.node.events_come_in_parts.Goals as goal

pub returns : goal.returns
returns c = λ sizes plan me index. record { core = cores-append sizes plan me index; acts = acts-append sizes plan me index; passed = ticks-pass sizes plan me index }
