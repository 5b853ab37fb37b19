use Rattle.std.proofs.Common.{◌≡◌, true, sym, ◌∙◌}
use Rattle.rb_base.specs.Nodes.{has}
use Rattle.rb_eligible.specs.Inboxes.{KeptArrivals}
use Rattle.rb_eligible.proofs.Sensed.{shown_bad}
use Rattle.rb_eligible.proofs.inbox.Inbox.sense.Goals as goal

pub returns-then-contains : goal.returns-then-contains
returns-then-contains g c = λ received shown.
    let kept : KeptArrivals = record { came = c.self.inside.came; spoilt = c.self.inside.spoilt; soles = c.self.inside.soles } in
    let came : has kept.came c.index-source.result ≡ true = rw c.index-source.ensures.value (sym c.contains.ensures ∙ c.if-not-contains.false) in
    let spoilt : has kept.spoilt c.index-source.result ≡ true = rw c.index-source.ensures.value (sym c.contains-else-not-contains.ensures ∙ c.if-contains.true) in
    rw (← c.index-source.ensures.value) (shown_bad c.args.expect.now kept received c.index-source.result (rw (← c.self.view_is) at shown) c.index-source.ensures.range came spoilt)
