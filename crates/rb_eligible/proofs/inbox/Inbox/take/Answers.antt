use Rattle.std.proofs.{Common.{◌≡◌, ◌<◌, List, ◌++◌, ◌∷◌, [], false, length, sym, ◌∙◌, ap, arith}, Math.ListN.length-set}
use Rattle.rb_base.specs.Nodes.{has}
use Rattle.rb_eligible.specs.Inboxes.{KeptArrivals, Received, HoldsArrivals}
use Rattle.rb_eligible.proofs.{Shown.{shows_first, shows_spoilt, short_first, up_to_first, up_to_spoilt}, inbox.Inbox.take.Goals.{else-not-again-via-then-not-again+else-bytes-le-MOST_BYTES, else-not-again-via-else-not-again}}
use Rattle.rb_eligible.proofs.inbox.Inbox.take.Goals as goal

pub invariant_of-self : goal.invariant_of-self
invariant_of-self g c =
    let kept : KeptArrivals = record { came = c.self.inside.came; spoilt = c.self.inside.spoilt; soles = c.self.inside.soles } in
    let first : has kept.came c.index-source.result ≡ false = rw c.index-source.ensures.value (sym c.contains-again.ensures ∙ c.if-not-again.true) in
    let shown =
    shows_first kept c.self.invariant.stands.0 c.index-source.result c.args.at c.args.bytes.now c.sole_of.result c.index-source.ensures.range c.self.invariant.all first c.sole_of.ensures.at
    c.sole_of.ensures.len c.sole_of.ensures.bytes c.self.invariant.stands.1 in
    record {
      all = length-set _ _ _ ∙ c.self.invariant.all;
      short = rw c.from.ensures (short_first c.self.inside.soles c.index-source.result c.sole_of.result c.self.invariant.all c.index-source.ensures.range c.sole_of.ensures.len c.self.invariant.short);
      stands = rw (c.from.ensures, c.insert.ensures, ← c.index-source.ensures.value) (_, shown);
    }

pub returns-then-bytes-le-MOST_BYTES-clause-shows : goal.returns-then-bytes-le-MOST_BYTES-clause-shows
returns-then-bytes-le-MOST_BYTES-clause-shows g c = λ received shown.
    let kept : KeptArrivals = record { came = c.self.inside.came; spoilt = c.self.inside.spoilt; soles = c.self.inside.soles } in
    let first : has kept.came c.index-source.result ≡ false = rw c.index-source.ensures.value (sym c.contains-again.ensures ∙ c.if-not-again.true) in
    rw (c.from.ensures, c.insert.ensures, ← c.index-source.ensures.value)
    (shows_first kept received c.index-source.result c.args.at c.args.bytes.now c.sole_of.result c.index-source.ensures.range c.self.invariant.all first c.sole_of.ensures.at
    c.sole_of.ensures.len c.sole_of.ensures.bytes (rw (← c.self.view_is) at shown))

pub returns-then-bytes-le-MOST_BYTES-clause-stamps : goal.returns-then-bytes-le-MOST_BYTES-clause-stamps
returns-then-bytes-le-MOST_BYTES-clause-stamps g c = λ n most up_to.
    let kept : KeptArrivals = record { came = c.self.inside.came; spoilt = c.self.inside.spoilt; soles = c.self.inside.soles } in
    rw (c.from.ensures, c.insert.ensures, ← c.index-source.ensures.value)
    (up_to_first n kept c.index-source.result c.args.at c.sole_of.result c.index-source.ensures.range c.self.invariant.all c.sole_of.ensures.at most
    (rw (← c.self.view_is) at up_to))

-- any other arrival spoils its source
with_spoilt : (g : _) (c : goal.After-insert-else-not-again g) (received : List Received) → HoldsArrivals c.args.self.now received
    → HoldsArrivals (record { came = c.insert.new.self; spoilt = c.insert-else-not-again.new.self; soles = c.self.inside.soles })
    (received ++ record { source = c.args.from; arrival = record { stamp = c.args.at; bytes = c.args.bytes.now } } ∷ [])
with_spoilt g c received shown =
    let kept : KeptArrivals = record { came = c.self.inside.came; spoilt = c.self.inside.spoilt; soles = c.self.inside.soles } in
    let long : has kept.came c.index-source.result ≡ false → 12 < length c.args.bytes.now = λ no.
    elim c.else-not-again.branch [
      | else-not-again-via-then-not-again+else-bytes-le-MOST_BYTES w ↦ omega arith
      | else-not-again-via-else-not-again w ↦ (let e = sym w.if-not-again.false ∙ c.contains-again.ensures ∙ ap (has kept.came) (sym c.index-source.ensures.value) ∙ no in absurd cc)
    ] in
    rw (c.insert.ensures, c.insert-else-not-again.ensures, ← c.index-source.ensures.value)
    (shows_spoilt kept received c.index-source.result (record { stamp = c.args.at; bytes = c.args.bytes.now }) c.index-source.ensures.range long
    (rw (← c.self.view_is) at shown))

pub invariant_of-self-else-not-again : goal.invariant_of-self-else-not-again
invariant_of-self-else-not-again g c = record {
  all = c.self.invariant.all;
  short = c.self.invariant.short;
  stands = (_, with_spoilt g c c.self.invariant.stands.0 (rw (← c.self.view_is) c.self.invariant.stands.1));
}

pub returns-else-not-again-clause-shows : goal.returns-else-not-again-clause-shows
returns-else-not-again-clause-shows g c = λ received shown. with_spoilt g c received shown

pub returns-else-not-again-clause-stamps : goal.returns-else-not-again-clause-stamps
returns-else-not-again-clause-stamps g c = λ n most up_to.
    let kept : KeptArrivals = record { came = c.self.inside.came; spoilt = c.self.inside.spoilt; soles = c.self.inside.soles } in
    rw (c.insert.ensures, c.insert-else-not-again.ensures, ← c.index-source.ensures.value)
    (up_to_spoilt n kept c.index-source.result c.index-source.ensures.range (rw (← c.self.view_is) at up_to))
