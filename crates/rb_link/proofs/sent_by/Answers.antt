use Rattle.rb_link.specs.Pairs.{places_sent}
use Rattle.rb_link.proofs.sent_by.Goals as goal

pub returns-then-pair-eq0 : goal.returns-then-pair-eq0
unfolding places_sent
returns-then-pair-eq0 c = rw c.sender_of.ensures at c.places_from.ensures
