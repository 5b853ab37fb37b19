use Rattle.std.proofs.Common.{◌≡◌}
use Rattle.rb_picture.specs.{Markup.each_below, Drawing.with_sender}
use Rattle.rb_picture.proofs.drawing.push_senders.Given as goal

abbrev pub invariant-loop-sender : goal.invariant-loop-sender
invariant-loop-sender l = l.out.items ≡ each_below with_sender l.sender l.initial.out.items
