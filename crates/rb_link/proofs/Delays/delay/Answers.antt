-- Without rules it is the base, and if the latest rule of the pair has the place it is this rule's.
use Rattle.std.proofs.Common.{◌≡◌, ◌∙◌, [], ap, subst, sym}
use Rattle.rb_rules.specs.Links.{delay_after, delay_of}
use Rattle.rb_link.specs.Pairs.{AreLatest, receiver_of}
use Rattle.rb_link.proofs.Latest.{base_alone}
use Rattle.rb_link.proofs.Delays.delay.Goals as goal

pub returns-then-is_empty : goal.returns-then-is_empty
unfolding delay_of
returns-then-is_empty c =
    let delays = c.self.inside in
    let none : delays.rules.items ≡ [] = sym c.deref.ensures.value ∙ c.is_empty.ensures c.if-is_empty.true in
    rw (← c.self.view_is) (base_alone delays.base delays.rules.items c.args.from c.args.to c.args.place none)

pub returns-in-Some-latest_delay : goal.returns-in-Some-latest_delay
unfolding delay_of
returns-in-Some-latest_delay c =
    let delays = c.self.inside in
    let nodes = c.in-Some.ensures in
    let are : AreLatest delays.base delays.rules.items c.deref-2.result.now =
    subst (AreLatest delays.base delays.rules.items) (sym c.deref-2.ensures.value) c.self.invariant.latest_are in
    rw (← c.self.view_is)
    (c.in-Some-latest_delay.ensures delays.base delays.rules.items are
    ∙ ap (λ n. delay_after delays.base delays.rules.items n (receiver_of c.in-Some.pair) c.args.place) nodes.1
    ∙ ap (λ n. delay_after delays.base delays.rules.items c.args.from n c.args.place) nodes.2)
