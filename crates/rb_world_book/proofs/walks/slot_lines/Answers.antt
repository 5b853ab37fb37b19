use Rattle.std.proofs.Common.{[], true, refl, sym, ◌∙◌, ap, arith}
use Rattle.rb_base.specs.Nodes.{TakesFirst, has}
use Rattle.rb_world_book.specs.{Telling.told_at, Waiting.line_of}
use Rattle.rb_world_book.proofs.Popped.{all_followed, follows_none, has_room, one_follows}
use Rattle.rb_world_book.proofs.walks.slot_lines.Goals as goal

pub loop-id-init : goal.loop-id-init
loop-id-init g c = follows_none (λ i t. line_of c.args.place (has c.args.good i) t) c.args.count c.args.good c.those_below-left.result c.args.told.now [] c.clear.new.self.items (omega arith) c.those_below-left.ensures (c.clear.ensures)

pub add-requires : goal.add-requires
add-requires g c =
    let takes : TakesFirst c.loop-id.left c.pop_first.new.self c.index.result = rw c.index.ensures.value c.in-Some.ensures.first in
    omega (arith, has_room (λ i t. line_of c.args.place (has c.args.good i) t) c.args.count c.args.good c.loop-id.left c.pop_first.new.self c.index.result c.args.told.now [] c.loop-id.lines.items c.loop-id.invariant takes c.index.ensures.range)

pub loop-id-preserved : goal.loop-id-preserved
loop-id-preserved g c =
    let takes : TakesFirst c.loop-id.left c.pop_first.new.self c.index.result = rw c.index.ensures.value c.in-Some.ensures.first in
    one_follows (λ i t. line_of c.args.place (has c.args.good i) t) c.args.count c.args.good c.loop-id.left c.pop_first.new.self c.index.result c.args.told.now [] c.loop-id.lines.items _ c.slot_line-line.result
    (λ j t e. ap (λ b. line_of c.args.place b t) e) (omega arith) (omega arith) c.loop-id.invariant takes c.index.ensures.range
    (λ inside. c.slot_line-line.ensures ∙ ap (λ n. line_of c.args.place true (told_at c.args.told.now n)) c.from.ensures ∙ ap (λ b. line_of c.args.place b (told_at c.args.told.now c.index.result)) (sym inside))
    c.add.ensures

pub returns : goal.returns
returns g c =
    (all_followed (λ i t. line_of c.args.place (has c.args.good i) t) c.args.count c.args.good c.loop-id.left c.args.told.now [] c.loop-id.lines.items (λ j t e. ap (λ b. line_of c.args.place b t) e) (omega arith) c.loop-id.invariant
    (c.in_default.ensures.empty.0 refl)).is
