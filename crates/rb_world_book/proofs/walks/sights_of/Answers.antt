use Rattle.std.proofs.Common.{ℕ, ◌<◌, ◌^◌, refl, sym, ◌∙◌, ap, subst}
use Rattle.rb_base.specs.{Nodes.TakesFirst, declared.values.See.See}
use Rattle.rb_base.proofs.Sets.{set_of-lt}
use Rattle.rb_world_book.specs.Telling.{see_of, told_at}
use Rattle.rb_world_book.proofs.{Popped.is_below, Sights.{all_are_left, heard_all, not_yet, one_noted, unlike_all}}
use Rattle.rb_world_book.proofs.walks.sights_of.Goals as goal

pub loop-receiver-init : goal.loop-receiver-init
loop-receiver-init g c =
    all_are_left c.args.eps c.those_below-receivers.result (λ i. see_of (told_at c.args.told.now i) c.args.source) c.none-sights.result
    (c.none-sights.ensures c.args.eps c.those_below-receivers.result)

pub noted-sights-requires-clause-good : goal.noted-sights-requires-clause-good
noted-sights-requires-clause-good g c =
    let takes : TakesFirst c.loop-receiver.left c.pop_first.new.self c.index-i.result = rw c.index-i.ensures.value c.in-Some.ensures.first in
    c.loop-receiver.invariant.within c.index-i.result c.index-i.ensures.range takes.inside

pub noted-sights-requires-clause-once : goal.noted-sights-requires-clause-once
noted-sights-requires-clause-once g c =
    let takes : TakesFirst c.loop-receiver.left c.pop_first.new.self c.index-i.result = rw c.index-i.ensures.value c.in-Some.ensures.first in
    not_yet c.args.eps c.those_below-receivers.result c.loop-receiver.left c.index-i.result (λ i. see_of (told_at c.args.told.now i) c.args.source) c.loop-receiver.sights
    c.loop-receiver.invariant c.index-i.ensures.range takes.inside

pub loop-receiver-preserved : goal.loop-receiver-preserved
loop-receiver-preserved g c =
    let sight : ℕ → See = λ i. see_of (told_at c.args.told.now i) c.args.source in
    let takes : TakesFirst c.loop-receiver.left c.pop_first.new.self c.index-i.result = rw c.index-i.ensures.value c.in-Some.ensures.first in
    let few : c.those_below-receivers.result < 2 ^ 16 =
    subst (λ (s : ℕ). s < 2 ^ 16) (sym c.those_below-receivers.ensures) (set_of-lt (is_below c.args.count c.args.good)) in
    one_noted c.args.eps c.those_below-receivers.result c.loop-receiver.left c.pop_first.new.self c.index-i.result c.see-see.result sight c.loop-receiver.sights c.noted-sights.result
    few c.loop-receiver.invariant takes c.index-i.ensures.range (c.see-see.ensures ∙ ap sight c.from.ensures) c.noted-sights.ensures

pub returns-clause-heard : goal.returns-clause-heard
returns-clause-heard g c =
    heard_all c.args.eps c.args.count c.args.good c.those_below-receivers.result c.loop-receiver.left (λ i. see_of (told_at c.args.told.now i) c.args.source) c.loop-receiver.sights
    c.those_below-receivers.ensures c.loop-receiver.invariant (c.in_default.ensures.empty.0 refl)

pub returns-clause-unlike : goal.returns-clause-unlike
returns-clause-unlike g c =
    unlike_all c.args.eps c.args.count c.args.good c.those_below-receivers.result c.loop-receiver.left (λ i. see_of (told_at c.args.told.now i) c.args.source) c.loop-receiver.sights
    c.those_below-receivers.ensures c.loop-receiver.invariant (c.in_default.ensures.empty.0 refl)
