use Rattle.std.proofs.Common.{◌≡◌, refl, sym, ◌∙◌, ap, arith}
use Rattle.std.specs.Prelude.{option_to_list}
use Rattle.rb_base.specs.Nodes.{TakesFirst}
use Rattle.rb_rules.specs.WorldStep.{row_for}
use Rattle.rb_world_book.specs.{declared.milestone.Milestone.TheVariants.Stage, Telling.{has_told, row_told, told_at}, Waiting.first_trusted}
use Rattle.rb_world_book.proofs.Popped.{all_left, first_told, is_below, nobody_told, one_less, untold}
use Rattle.rb_world_book.proofs.walks.first_trusted.Goals as goal

pub loop-id-init : goal.loop-id-init
loop-id-init g c =
    all_left (is_below c.args.count c.args.good) c.those_below-left.result (λ i. has_told (Stage c.args.place) (told_at c.args.told.now i)) c.those_below-left.ensures

pub loop-id-preserved : goal.loop-id-preserved
loop-id-preserved g c =
    let told = c.args.told.now in
    let k = c.index.result in
    let takes : TakesFirst c.loop-id.left c.pop_first.new.self k = rw c.index.ensures.value c.in-Some.ensures.first in
    let is : c.trusted_in-trusted.result ≡ first_trusted (option_to_list (row_for c.args.place (row_told (told_at told k)))) =
    c.trusted_in-trusted.ensures ∙ ap (λ n. first_trusted (option_to_list (row_for c.args.place (row_told (told_at told n))))) c.from.ensures in
    one_less (is_below c.args.count c.args.good) c.loop-id.left c.pop_first.new.self k (λ i. has_told (Stage c.args.place) (told_at told i)) c.loop-id.invariant takes
    (untold c.args.place k told c.trusted_in-trusted.result is (sym c.is_some.ensures ∙ c.if-is_some.false))

pub returns-then-is_some : goal.returns-then-is_some
returns-then-is_some g c =
    let told = c.args.told.now in
    let k = c.index.result in
    let takes : TakesFirst c.loop-id.left c.pop_first.new.self k = rw c.index.ensures.value c.in-Some.ensures.first in
    let is : c.trusted_in-trusted.result ≡ first_trusted (option_to_list (row_for c.args.place (row_told (told_at told k)))) =
    c.trusted_in-trusted.ensures ∙ ap (λ n. first_trusted (option_to_list (row_for c.args.place (row_told (told_at told n))))) c.from.ensures in
    first_told c.args.place c.args.count c.args.good c.loop-id.left c.pop_first.new.self k told c.trusted_in-trusted.result (omega arith) (omega arith) c.loop-id.invariant takes c.index.ensures.range
    is (sym c.is_some.ensures ∙ c.if-is_some.true)

pub returns : goal.returns
returns g c =
    sym (nobody_told c.args.place c.args.count c.args.good c.loop-id.left c.args.told.now (omega arith) (omega arith) c.loop-id.invariant (c.in_default.ensures.empty.0 refl))
