use Rattle.std.proofs.Common.{◌≡◌, ◌-◌, Some, sym, ◌∙◌}
use Rattle.rb_base.specs.Nodes.{side_of}
use Rattle.rb_rules.specs.Windows.{window_at}
use Rattle.rb_node.proofs.Going.{found-here}
use Rattle.rb_node.proofs.ahead.window_of.Goals as goal

pub returns-in-Some : goal.returns-in-Some
returns-in-Some g c =
    let v = c.args.engine.now in
    let found : window_at v.sizes v.plan (c.args.tick - v.state.epoch) ≡ Some c.in-Some.window =
    rw (c.plan.ensures, c.epoch.ensures) at (sym c.window.ensures.value ∙ c.in-Some.is) in
    found-here (side_of g.K.Kind.CODE) v c.args.tick c.in-Some.window c.bounds.ensures.shape c.bounds.ensures.plan c.requires.epoch c.requires.tick found
