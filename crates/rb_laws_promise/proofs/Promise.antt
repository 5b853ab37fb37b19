-- The promise of the bus, from the laws of agreement and of synchrony.
use Rattle.rb_laws_agreement.proofs.Skews.{keeps_the_promise}
use Rattle.rb_laws_events.proofs.NodesAreTheBus.{keeps-time}
use Rattle.rb_laws_promise.specs.Laws.{ThePromiseIsKept}

pub promise : ThePromiseIsKept
promise sc hands law = keeps_the_promise sc hands law (keeps-time hands law)
