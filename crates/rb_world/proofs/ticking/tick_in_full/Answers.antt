use Rattle.std.proofs.Common.{sym, ap, ◌∙◌, subst}
use Rattle.rb_base.specs.Nodes.{side_of}
use Rattle.rb_rules.specs.{Core.pass_to, WorldStep.{wants_in, word_of}}
use Rattle.rb_node.specs.{Cores.{IsCore, next_of}, Wants.want_then}
use Rattle.rb_world.specs.{Sites.number_of, Steps.CanWant, Worlds.HoldsPorts, Buses.scenario_of}
use Rattle.rb_world.proofs.{Acting.want-is, Words.{can-want, wants-words}}
use Rattle.rb_world.proofs.ticking.tick_in_full.Goals as goal

pub word_for-word-requires-clause-want : goal.word_for-word-requires-clause-want
word_for-word-requires-clause-want g c =
    let sc = scenario_of c.args.bus.now in
    let me = side_of g.K.Kind.CODE in
    let site = c.args.site.now in
    let s = c.requires.may.1 in
    let may = c.requires.may.2 in
    let wanted = c.wants_then.ensures s.core (subst (λ n. IsCore n s.core) (sym c.node.ensures) may.at.stands.core)
    ∙ ap (λ n. want_then me n s.core (next_of me n s.core)) c.node.ensures
    ∙ want-is sc me (number_of site) c.args.k site s.core may.at.stands.sizes may.at.stands.plan may.at.number may.next in
    subst (λ i. CanWant sc i c.wants_then.result) (sym c.requires.number)
    (subst (CanWant sc (number_of site)) (sym wanted) (can-want sc me (number_of site) (pass_to c.args.k s.core) may.at.within))

pub tick_with_word-requires-clause-word : goal.tick_with_word-requires-clause-word
tick_with_word-requires-clause-word g c = λ w s may.
    let sc = scenario_of c.args.bus.now in
    let me = side_of g.K.Kind.CODE in
    let site = c.args.site.now in
    let after = pass_to c.args.k s.core in
    c.word_for-word.ensures w.ports (wants_in sc me (number_of site) after) (subst (λ ps. HoldsPorts sc ps w.ports) (sym c.deref.ensures.value) may.at.surrounds.ports)
    (wants-words sc.sizes sc.plan me (number_of site) after)
    (c.wants_then.ensures s.core (subst (λ n. IsCore n s.core) (sym c.node.ensures) may.at.stands.core)
    ∙ ap (λ n. want_then me n s.core (next_of me n s.core)) c.node.ensures
    ∙ want-is sc me (number_of site) c.args.k site s.core may.at.stands.sizes may.at.stands.plan may.at.number may.next)
    ∙ ap (λ n. word_of sc w.ports n (wants_in sc me (number_of site) after)) c.requires.number
