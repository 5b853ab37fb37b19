use Rattle.std.proofs.Common.{ℕ, Bool, not, refl, ◌∙◌, ap}
use Rattle.rb_base.specs.Nodes.{TakesFirst, has}
use Rattle.rb_world_book.specs.{Telling.{has_told, told_at}, Waiting.waiting_for}
use Rattle.rb_world_book.proofs.Popped.{all_gone, is_below, none_gone, one_more}
use Rattle.rb_world_book.proofs.walks.waiting_for.Goals as goal

pub loop-id-init : goal.loop-id-init
loop-id-init g c =
    none_gone (is_below c.args.count c.args.good) c.those_below-left.result c.empty-waiting.result (λ i. not (has_told c.args.milestone (told_at c.args.told.now i)))
    c.those_below-left.ensures c.empty-waiting.ensures.value

pub loop-id-preserved : goal.loop-id-preserved
loop-id-preserved g c =
    let passes : ℕ → Bool = λ i. not (has_told c.args.milestone (told_at c.args.told.now i)) in
    let takes : TakesFirst c.loop-id.left c.pop_first.new.self c.index-i.result = rw c.index-i.ensures.value c.in-Some.ensures.first in
    one_more (is_below c.args.count c.args.good) c.loop-id.left c.pop_first.new.self c.index-i.result c.loop-id.waiting c.with_or_without-waiting.result passes c.is_awaited-member.result
    c.loop-id.invariant takes c.index-i.ensures.range (c.is_awaited-member.ensures ∙ ap passes c.from.ensures) c.with_or_without-waiting.ensures

pub returns : goal.returns
unfolding waiting_for
returns g c =
    all_gone c.args.count (has c.args.good) c.loop-id.left c.loop-id.waiting (λ i. not (has_told c.args.milestone (told_at c.args.told.now i))) c.loop-id.invariant
    (c.in_default.ensures.empty.0 refl)
