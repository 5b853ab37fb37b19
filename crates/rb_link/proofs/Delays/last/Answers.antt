-- Among all rules or among those of the pair, the last that is found is the last that applies.
use Rattle.std.proofs.Common.{◌+◌, ◌<◌, ◌≡◌, ◌∙◌, ap, length, reverse, slice_get, subst}
use Rattle.std.specs.List.{filter_map, find}
use Rattle.rb_rules.specs.Links.{applies, covers, delay_of}
use Rattle.rb_link.specs.Pairs.{delay_or, places_of}
use Rattle.rb_link.proofs.{LastRules.last_of_all, PairIndex.last_by_index}
use Rattle.rb_link.proofs.Delays.last.Goals as goal

pub returns-in-Some-places_of : goal.returns-in-Some-places_of
unfolding delay_of
returns-in-Some-places_of c =
    let delays = c.self.inside in
    let pair = c.in-Some.pair in
    let nodes = c.in-Some.ensures in
    let is = c.in-Some-places_of.ensures in
    let within : pair + 1 < length delays.index.starts.items = subst (λ l. pair + 1 < length l) c.deref-2.ensures.value is.starts in
    let found : c.in-Some-places_of.places.now ≡ places_of delays.index.starts.items delays.index.places.items pair =
    is.places
    ∙ ap (λ l. places_of l c.deref-3.result.now pair) c.deref-2.ensures.value
    ∙ ap (λ l. places_of delays.index.starts.items l pair) c.deref-3.ensures.value in
    rw (← c.self.view_is)
    (ap (delay_or delays.base) (c.last_at.ensures
    ∙ ap (λ rules. find (λ rule. covers rule.frames rule.slots rule.stages c.args.place) (filter_map (slice_get rules) (reverse c.in-Some-places_of.places.now)))
    c.deref-in-Some-places_of.ensures.value)
    ∙ last_by_index delays.base pair delays.rules.items _ _ _ c.args.from c.args.to c.args.place c.self.invariant.index_is within found nodes.1 nodes.2)

pub returns-in-None : goal.returns-in-None
unfolding delay_of
returns-in-None c =
    rw (← c.self.view_is)
    (ap (delay_or c.self.inside.base) (c.last_rule-in-None.ensures
    ∙ ap (λ rules. find (λ rule. applies rule c.args.from c.args.to c.args.place) (reverse rules)) c.deref-in-None.ensures.value)
    ∙ last_of_all c.self.inside.base c.self.inside.rules.items c.args.from c.args.to c.args.place)

pub returns-in_default : goal.returns-in_default
unfolding delay_of
returns-in_default c =
    rw (← c.self.view_is)
    (ap (delay_or c.self.inside.base) (c.last_rule.ensures
    ∙ ap (λ rules. find (λ rule. applies rule c.args.from c.args.to c.args.place) (reverse rules)) c.deref.ensures.value)
    ∙ last_of_all c.self.inside.base c.self.inside.rules.items c.args.from c.args.to c.args.place)
