use Rattle.std.proofs.Common.{◌≡◌, ◌-◌, Some, sym, ap, ◌∙◌, subst}
use Rattle.std.specs.Prelude.{unwrap_or}
use Rattle.rb_base.specs.Nodes.{side_of}
use Rattle.rb_rules.specs.{Core.pass_to, WorldStep.{wants_in, word_of}}
use Rattle.rb_node.specs.{Cores.{IsCore, next_of}, Wants.want_then}
use Rattle.rb_world.specs.{Sites.number_of, Steps.CanWant, Buses.scenario_of}
use Rattle.rb_world_traffic.specs.Arriving.{number_of as number_in}
use Rattle.rb_world_traffic.proofs.Says.{number-of}
use Rattle.rb_world.proofs.{Acting.{next-is, want-is}, Showing.event-same, Words.{can-want, wants-words}}
use Rattle.rb_base.specs.declared.event.EventKind.TheVariants as kind
use Rattle.rb_world.proofs.due.show_tick.Goals as goal

pub word_for-word-requires-clause-want : goal.word_for-word-requires-clause-want
word_for-word-requires-clause-want g c =
    let sc = scenario_of c.args.bus.now in
    let me = side_of g.K.Kind.CODE in
    let site = c.args.site.now in
    let k = c.requires.may.0 in
    let s = c.requires.may.2 in
    let may = c.requires.may.3 in
    let wanted = c.wants_then-want.ensures s.core (subst (λ n. IsCore n s.core) (sym c.node-own.ensures) may.at.stands.core)
    ∙ ap (λ n. want_then me n s.core (next_of me n s.core)) c.node-own.ensures
    ∙ want-is sc me (number_of site) k site s.core may.at.stands.sizes may.at.stands.plan may.at.number may.next in
    subst (λ i. CanWant sc i c.wants_then-want.result) (sym (c.number_of.ensures ∙ ap number_in may.at.named ∙ number-of me (number_of site)))
    (subst (CanWant sc (number_of site)) (sym wanted) (can-want sc me (number_of site) (pass_to k s.core) may.at.within))

pub returns : goal.returns
returns g c =
    λ k states s may.
    let sc = scenario_of c.args.bus.now in
    let me = side_of g.K.Kind.CODE in
    let site = c.args.site.now in
    let i = number_of site in
    let core = subst (λ n. IsCore n s.core) (sym c.node-own.ensures) may.at.stands.core in
    let wanted = c.wants_then-want.ensures s.core core
    ∙ ap (λ n. want_then me n s.core (next_of me n s.core)) c.node-own.ensures
    ∙ want-is sc me i k site s.core may.at.stands.sizes may.at.stands.plan may.at.number may.next in
    let slot = wants_in sc me i (pass_to k s.core) in
    let number : c.number_of.result ≡ i = c.number_of.ensures ∙ ap number_in may.at.named ∙ number-of me i in
    let word : c.word_for-word.result ≡ word_of sc states i slot = c.word_for-word.ensures states slot may.holds (wants-words sc.sizes sc.plan me i (pass_to k s.core)) wanted
    ∙ ap (λ n. word_of sc states n slot) number in
    let next : c.next_tick.result ≡ Some k = c.next_tick.ensures.core s.core core ∙ ap (λ n. next_of me n s.core) c.node-own.ensures
    ∙ next-is sc me i k site s.core may.at.stands.sizes may.at.stands.plan may.at.number may.next in
    let tick : c.unwrap_or-k.result ≡ k = c.unwrap_or-k.ensures ∙ ap (λ o. unwrap_or o c.had-had.result) next in
    let had : c.had-had.result ≡ s.core.had = c.had-had.ensures.value ∙ sym core.had in
    event-same c.args.node _ (c.unwrap_or-k.result - c.had-had.result) (k - s.core.had) _ _ may.at.named
    (ap (λ n. n - c.had-had.result) tick ∙ ap (λ n. k - n) had)
    (ap (λ n. kind.Tick n c.is_word.result) word ∙ ap (kind.Tick (word_of sc states i slot)) (c.is_word.ensures sc.sizes slot wanted))
