use Rattle.std.proofs.Common.{◌≡◌, ◌<◌, ◌≤◌, get_or, length, arith, subst, sym, ap, ◌∙◌}
use Rattle.rb_rules.specs.Hearing.{Coming}
use Rattle.rb_queue.specs.{Waiting.Held, Scanning.is_sooner}
use Rattle.rb_queue.proofs.Readiness.{before_late, before_none, before_some, before_tick}
use Rattle.rb_queue.proofs.lane.Lane.first_before.Goals as goal

pub returns-then-first-arrivals : goal.returns-then-first-arrivals
returns-then-first-arrivals c =
    let lane : Held = c.args.self.now in
    before_none lane.arrivals lane.tick lane.room c.first-first.result c.args.until c.first-first.ensures
    (subst (λ l. length l ≤ c.first-first.result) c.waiting-arrivals.ensures c.if-first-arrivals.true)

pub returns-then-time-until : goal.returns-then-time-until
returns-then-time-until c =
    let lane : Held = c.args.self.now in
    let f : Coming = c.index-arrivals-first.result in
    let within : c.first-first.result < length lane.arrivals = subst (λ l. c.first-first.result < length l) c.waiting-arrivals.ensures (omega (arith, c.if-first-arrivals.false)) in
    let at : f ≡ get_or lane.arrivals c.first-first.result f = subst (λ l. f ≡ get_or l c.first-first.result f) c.waiting-arrivals.ensures c.index-arrivals-first.is in
    before_late lane.arrivals lane.tick lane.room c.first-first.result c.args.until f c.first-first.ensures within at
    (subst (λ n. c.args.until ≤ n) c.time-time.ensures c.if-time-until.true)

pub returns-then-is_sooner : goal.returns-then-is_sooner
returns-then-is_sooner c =
    let lane : Held = c.args.self.now in
    let f : Coming = c.index-arrivals-first.result in
    let within : c.first-first.result < length lane.arrivals = subst (λ l. c.first-first.result < length l) c.waiting-arrivals.ensures (omega (arith, c.if-first-arrivals.false)) in
    let at : f ≡ get_or lane.arrivals c.first-first.result f = subst (λ l. f ≡ get_or l c.first-first.result f) c.waiting-arrivals.ensures c.index-arrivals-first.is in
    before_tick lane.arrivals lane.tick lane.room c.first-first.result c.args.until f c.first-first.ensures within at
    (ap (λ (l : Held). is_sooner l.tick f.time) (sym c.self.view_is) ∙ ap (is_sooner c.self.inside.tick) (sym c.time-time.ensures) ∙ sym c.is_sooner.ensures ∙ c.if-is_sooner.true)

pub returns : goal.returns
returns c =
    let lane : Held = c.args.self.now in
    let f : Coming = c.index-arrivals-first.result in
    let within : c.first-first.result < length lane.arrivals = subst (λ l. c.first-first.result < length l) c.waiting-arrivals.ensures (omega (arith, c.if-first-arrivals.false)) in
    let at : f ≡ get_or lane.arrivals c.first-first.result f = subst (λ l. f ≡ get_or l c.first-first.result f) c.waiting-arrivals.ensures c.index-arrivals-first.is in
    before_some lane.arrivals lane.tick lane.room c.first-first.result c.args.until f c.first-first.ensures within at
    (subst (λ n. n < c.args.until) c.time-time.ensures (omega (arith, c.if-time-until.false)))
    (ap (λ (l : Held). is_sooner l.tick f.time) (sym c.self.view_is) ∙ ap (is_sooner c.self.inside.tick) (sym c.time-time.ensures) ∙ sym c.is_sooner.ensures ∙ c.if-is_sooner.false)
