use Rattle.std.proofs.Common.{◌≡◌, ℕ, true, None, Some, refl, sym, ap, ◌∙◌, subst}
use Rattle.rb_base.specs.Nodes.{Side, side_of}
use Rattle.rb_rules.specs.{Core.{next_tick, pass_to}, WorldStep.{wants_in, word_of}}
use Rattle.rb_node.specs.{Cores.{IsSameNode, next_of}, Ends.EndsExactWindow}
use Rattle.rb_world.specs.Sites.{KeptSite, number_of}
use Rattle.rb_world.proofs.Standing.{ticks}
use Rattle.rb_world.proofs.site.Site.end_window.Goals as goal

pub returns-clause-ticked : goal.returns-clause-ticked
returns-clause-ticked g c =
    let me : Side = side_of g.K.Kind.CODE in
    let k : KeptSite = record { node = c.self.inside.node; runs = c.self.inside.runs; times = c.self.inside.times } in
    let same : IsSameNode k.node k.node = record { sizes = refl; plan = refl; index = refl } in
    rw (← c.self.view_is) (λ ended sc ports t s is next.
    let here : next_of me k.node s.core ≡ Some t =
    ap (λ sizes. next_tick sizes k.node.seat.plan me (number_of k) s.core) is.sizes
    ∙ ap (λ plan. next_tick sc.sizes plan me (number_of k) s.core) is.plan ∙ next in
    let word : ℕ = word_of sc ports (number_of k) (wants_in sc me (number_of k) (pass_to t s.core)) in
    ticks sc ports me k k.node c.end_window.new.self (record { epoch = None; message = None; closed = true }) t word s is same c.end_window.ensures.same refl
    (c.end_window.ensures.core ended s.core t word is.core here)
    (c.end_window.ensures.act ended s.core t word is.core here))

pub returns-clause-only : goal.returns-clause-only
returns-clause-only g c =
    let me : Side = side_of g.K.Kind.CODE in
    let k : KeptSite = record { node = c.self.inside.node; runs = c.self.inside.runs; times = c.self.inside.times } in
    rw (← c.self.view_is) (λ ended sc s is.
    let found = c.end_window.ensures.only ended s.core is.core in
    let both = found.1 in
    let same : next_of me k.node s.core ≡ next_tick sc.sizes sc.plan me (number_of k) s.core =
    ap (λ sizes. next_tick sizes k.node.seat.plan me (number_of k) s.core) is.sizes ∙ ap (λ plan. next_tick sc.sizes plan me (number_of k) s.core) is.plan in
    let ends : EndsExactWindow sc.sizes sc.plan me s.core.state found.0 =
    subst (λ plan. EndsExactWindow sc.sizes plan me s.core.state found.0) is.plan
    (subst (λ sizes. EndsExactWindow sizes k.node.seat.plan me s.core.state found.0) is.sizes both.1) in
    (found.0, (sym same ∙ both.0, ends)))
