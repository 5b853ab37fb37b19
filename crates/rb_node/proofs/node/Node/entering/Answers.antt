use Rattle.std.proofs.Common.{◌≡◌, ◌+◌, true, false, sym, ◌∙◌, ap}
use Rattle.rb_base.specs.Nodes.{side_of}
use Rattle.rb_rules.specs.{Core.is_tick, SyncStage.new_epoch_of}
use Rattle.rb_node.specs.Saids.{span_if}
use Rattle.rb_node.proofs.Turning.{span-staying, span-turned}
use Rattle.rb_node.proofs.node.Node.entering.Goals as goal

pub returns-then-is_tick : goal.returns-then-is_tick
returns-then-is_tick g c =
    let v = c.self.inside.engine in
    let me = side_of g.K.Kind.CODE in
    let turns : is_tick (new_epoch_of v.plan me v.state) c.self.inside.had ≡ true = rw c.new_epoch.ensures at (sym c.is_tick.ensures ∙ c.if-is_tick.true) in
    rw (← c.self.view_is)
    (c.span_at.ensures ∙ ap (λ f. span_if (f + 1) c.self.inside.had c.first_window.result c.self.inside.had) c.frame.ensures
    ∙ sym (span-turned v me c.self.inside.had c.first_window.result turns (rw c.plan.ensures at c.first_window.ensures.value)))

pub returns-else-is_tick : goal.returns-else-is_tick
returns-else-is_tick g c =
    let v = c.self.inside.engine in
    let me = side_of g.K.Kind.CODE in
    let stays : is_tick (new_epoch_of v.plan me v.state) c.self.inside.had ≡ false = rw c.new_epoch.ensures at (sym c.is_tick.ensures ∙ c.if-is_tick.false) in
    rw (← c.self.view_is)
    (c.span_at-else-is_tick.ensures ∙ ap (λ f. span_if f c.epoch.result c.self.inside.ahead.window c.self.inside.had) c.frame-else-is_tick.ensures
    ∙ ap (λ e. span_if v.state.frame e c.self.inside.ahead.window c.self.inside.had) c.epoch.ensures
    ∙ sym (span-staying v me c.self.inside.had c.self.inside.ahead.window stays c.self.invariant.ahead.window.is))
