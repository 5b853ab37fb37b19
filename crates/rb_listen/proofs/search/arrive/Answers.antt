use Rattle.std.proofs.Common.{◌≡◌, ◌≤◌, ◌<◌, Some, None, ap, sym, ◌∙◌, subst}
use Rattle.rb_rules.specs.Spelling.{message_in}
use Rattle.rb_listen.specs.Listening.{if_message}
use Rattle.rb_listen.proofs.Searches.{arrive-nobody, arrive-some, arrive-spent}
use Rattle.rb_listen.proofs.search.arrive.Goals as goal

pub returns-then-from-rmu : goal.returns-then-from-rmu
returns-then-from-rmu c =
    let few : c.args.plan.now.sizes.rmus ≤ c.args.from = subst (λ k. k ≤ c.args.from) (rw c.shape.ensures at c.rmu.ensures.value) c.if-from-rmu.true in
    arrive-nobody c.args.plan.now.sizes c.args.plan.now.plan c.args.from c.args.bytes.now c.args.search.now few

pub returns-then-search-ge-MOST_TICKS : goal.returns-then-search-ge-MOST_TICKS
returns-then-search-ge-MOST_TICKS c =
    arrive-spent c.args.plan.now.sizes c.args.plan.now.plan c.args.from c.args.bytes.now c.args.search.now c.if-search-ge-MOST_TICKS.true

pub returns-in-Some : goal.returns-in-Some
returns-in-Some c =
    let there : c.args.from < c.args.plan.now.sizes.rmus = subst (λ k. c.args.from < k) (rw c.shape.ensures at c.rmu.ensures.value) c.if-from-rmu.false in
    let message : message_in c.args.plan.now.plan.version c.args.bytes.now ≡ Some c.in-Some.message =
    sym (rw c.plan.ensures.value at c.decode.ensures.value) ∙ c.in-Some.is in
    c.hear.ensures
    ∙ sym (arrive-some c.args.plan.now.sizes c.args.plan.now.plan c.args.from c.args.bytes.now c.args.search.now there c.if-search-ge-MOST_TICKS.false
    ∙ ap (λ m. if_message c.args.plan.now.sizes c.args.plan.now.plan c.args.from m c.args.search.now) message)

pub returns-in_default : goal.returns-in_default
returns-in_default c =
    let there : c.args.from < c.args.plan.now.sizes.rmus = subst (λ k. c.args.from < k) (rw c.shape.ensures at c.rmu.ensures.value) c.if-from-rmu.false in
    let none : message_in c.args.plan.now.plan.version c.args.bytes.now ≡ None =
    sym (rw c.plan.ensures.value at c.decode.ensures.value) ∙ c.in_default.is in
    sym (arrive-some c.args.plan.now.sizes c.args.plan.now.plan c.args.from c.args.bytes.now c.args.search.now there c.if-search-ge-MOST_TICKS.false
    ∙ ap (λ m. if_message c.args.plan.now.sizes c.args.plan.now.plan c.args.from m c.args.search.now) none)
