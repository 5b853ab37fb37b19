use Rattle.std.proofs.Common.{◌≡◌, true, false, sym, ◌∙◌, ap}
use Rattle.rb_base.specs.{Nodes.side_of, Sizes.Sizes}
use Rattle.rb_rules.specs.{Core.is_tick, SyncStage.new_epoch_of}
use Rattle.rb_node.specs.Wants.{slot_of_words, want_for}
use Rattle.rb_node.proofs.Turning.{first-is-due, first-is-not, want-first, want-silent, want-turned}
use Rattle.rb_node.proofs.ahead.want_at.Goals as goal

pub returns-then-is_tick : goal.returns-then-is_tick
returns-then-is_tick g c =
    let v = c.args.engine.now in
    let me = side_of g.K.Kind.CODE in
    let now : is_tick (new_epoch_of v.plan me v.state) c.args.busy.tick ≡ true = rw c.new_epoch.ensures at (sym c.is_tick.ensures ∙ c.if-is_tick.true) in
    sym (want-turned me v c.args.busy.tick c.bounds.ensures.shape c.bounds.ensures.plan now)

pub returns-else-is_tick : goal.returns-else-is_tick
returns-else-is_tick g c =
    let v = c.args.engine.now in
    let me = side_of g.K.Kind.CODE in
    let other : is_tick (new_epoch_of v.plan me v.state) c.args.busy.tick ≡ false = rw c.new_epoch.ensures at (sym c.is_tick.ensures ∙ c.if-is_tick.false) in
    let sizes : c.shape.result.now ≡ v.sizes = rw c.plan.ensures at c.shape.ensures in
    c.want_in.ensures ∙ ap (λ (s : Sizes). want_for s (slot_of_words s c.args.window.now.slot)) sizes
    ∙ sym (want-first me v c.args.window.now c.args.busy.tick other c.requires.window (first-is-due me v _ _ _ c.requires.stage c.if-busy-eq1.true))

pub returns-else-busy-eq1 : goal.returns-else-busy-eq1
returns-else-busy-eq1 g c =
    let v = c.args.engine.now in
    let me = side_of g.K.Kind.CODE in
    sym (want-silent me v c.args.window.now c.args.busy.tick c.bounds.ensures.shape c.bounds.ensures.plan c.requires.window
    (first-is-not me v _ _ _ c.requires.stage c.if-busy-eq1.false))
