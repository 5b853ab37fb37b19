use Rattle.rb_queue.proofs.Besides.{IsLeftOf}
use Rattle.rb_queue.proofs.beside.spot_by_sender.Given as goal

abbrev pub invariant-loop-source : goal.invariant-loop-source
invariant-loop-source l = IsLeftOf l.time l.lane l.more l.i l.source l.left
