use Rattle.std.proofs.{Common.{◌≡◌, ◌<◌, ◌≤◌, List, ◌++◌, ◌∷◌, [], false, length, refl, sym, ◌∙◌, ap, arith}, Math.ListN.length-set}
use Rattle.rb_base.specs.Nodes.{has}
use Rattle.rb_frame.specs.Spellings.{len_of}
use Rattle.rb_eligible.specs.{declared.reading.Sole.Sole, Readings.bytes_of, Inboxes.{KeptArrivals, Received, HoldsArrivals}}
use Rattle.rb_eligible.proofs.{Shown.{shows_first, shows_spoilt, short_first, up_to_first, up_to_spoilt}, inbox.Inbox.take_spelled.Goals.{else-not-again-via-then-not-again+else-tail, else-not-again-via-else-not-again}}
use Rattle.rb_eligible.proofs.inbox.Inbox.take_spelled.Goals as goal

pub invariant_of-self : goal.invariant_of-self
invariant_of-self g c =
    let kept : KeptArrivals = record { came = c.self.inside.came; spoilt = c.self.inside.spoilt; soles = c.self.inside.soles } in
    let s : Sole = record { at = c.args.at; low = c.words-low.result.0; tail = c.words-low.result.1 } in
    let first : has kept.came c.index-source.result ≡ false = rw c.index-source.ensures.value (sym c.contains-again.ensures ∙ c.if-not-again.true) in
    let short : len_of s.tail ≤ 12 = let few = c.if-tail.true in omega arith in
    let spelled : bytes_of s ≡ c.args.bytes.now = sym (c.words-low.ensures.short (let len = c.words-low.ensures.len in omega arith)) in
    let shown = shows_first kept c.self.invariant.stands.0 c.index-source.result c.args.at c.args.bytes.now s c.index-source.ensures.range c.self.invariant.all first refl short spelled c.self.invariant.stands.1 in
    record {
      all = length-set _ _ _ ∙ c.self.invariant.all;
      short = rw c.from.ensures (short_first c.self.inside.soles c.index-source.result s c.self.invariant.all c.index-source.ensures.range short c.self.invariant.short);
      stands = rw (c.from.ensures, c.insert.ensures, ← c.index-source.ensures.value) (_, shown);
    }

pub returns-then-tail-clause-shows : goal.returns-then-tail-clause-shows
returns-then-tail-clause-shows g c = λ received shown.
    let kept : KeptArrivals = record { came = c.self.inside.came; spoilt = c.self.inside.spoilt; soles = c.self.inside.soles } in
    let s : Sole = record { at = c.args.at; low = c.words-low.result.0; tail = c.words-low.result.1 } in
    let first : has kept.came c.index-source.result ≡ false = rw c.index-source.ensures.value (sym c.contains-again.ensures ∙ c.if-not-again.true) in
    let short : len_of s.tail ≤ 12 = let few = c.if-tail.true in omega arith in
    let spelled : bytes_of s ≡ c.args.bytes.now = sym (c.words-low.ensures.short (let len = c.words-low.ensures.len in omega arith)) in
    rw (c.from.ensures, c.insert.ensures, ← c.index-source.ensures.value)
    (shows_first kept received c.index-source.result c.args.at c.args.bytes.now s c.index-source.ensures.range c.self.invariant.all first refl short spelled (rw (← c.self.view_is) at shown))

pub returns-then-tail-clause-stamps : goal.returns-then-tail-clause-stamps
returns-then-tail-clause-stamps g c = λ n most up_to.
    let kept : KeptArrivals = record { came = c.self.inside.came; spoilt = c.self.inside.spoilt; soles = c.self.inside.soles } in
    let s : Sole = record { at = c.args.at; low = c.words-low.result.0; tail = c.words-low.result.1 } in
    rw (c.from.ensures, c.insert.ensures, ← c.index-source.ensures.value)
    (up_to_first n kept c.index-source.result c.args.at s c.index-source.ensures.range c.self.invariant.all refl most (rw (← c.self.view_is) at up_to))

-- any other arrival spoils its source
with_spoilt : (g : _) (c : goal.After-insert-else-not-again g) (received : List Received) → HoldsArrivals c.args.self.now received
    → HoldsArrivals (record { came = c.insert.new.self; spoilt = c.insert-else-not-again.new.self; soles = c.self.inside.soles })
    (received ++ record { source = c.args.from; arrival = record { stamp = c.args.at; bytes = c.args.bytes.now } } ∷ [])
with_spoilt g c received shown =
    let kept : KeptArrivals = record { came = c.self.inside.came; spoilt = c.self.inside.spoilt; soles = c.self.inside.soles } in
    let len = c.words-low.ensures.len in
    let long : has kept.came c.index-source.result ≡ false → 12 < length c.args.bytes.now = λ no.
    elim c.else-not-again.branch [
      | else-not-again-via-then-not-again+else-tail w ↦ (let many = w.if-tail.false in omega arith)
      | else-not-again-via-else-not-again w ↦ (let e = sym w.if-not-again.false ∙ c.contains-again.ensures ∙ ap (has kept.came) (sym c.index-source.ensures.value) ∙ no in absurd cc)
    ] in
    rw (c.insert.ensures, c.insert-else-not-again.ensures, ← c.index-source.ensures.value)
    (shows_spoilt kept received c.index-source.result (record { stamp = c.args.at; bytes = c.args.bytes.now }) c.index-source.ensures.range long
    (rw (← c.self.view_is) at shown))

pub invariant_of-self-else-not-again : goal.invariant_of-self-else-not-again
invariant_of-self-else-not-again g c = record {
  all = c.self.invariant.all;
  short = c.self.invariant.short;
  stands = (_, with_spoilt g c c.self.invariant.stands.0 (rw (← c.self.view_is) c.self.invariant.stands.1));
}

pub returns-else-not-again-clause-shows : goal.returns-else-not-again-clause-shows
returns-else-not-again-clause-shows g c = λ received shown. with_spoilt g c received shown

pub returns-else-not-again-clause-stamps : goal.returns-else-not-again-clause-stamps
returns-else-not-again-clause-stamps g c = λ n most up_to.
    let kept : KeptArrivals = record { came = c.self.inside.came; spoilt = c.self.inside.spoilt; soles = c.self.inside.soles } in
    rw (c.insert.ensures, c.insert-else-not-again.ensures, ← c.index-source.ensures.value)
    (up_to_spoilt n kept c.index-source.result c.index-source.ensures.range (rw (← c.self.view_is) at up_to))
