use Rattle.std.proofs.Common.{◌≡◌, ◌+◌, ◌-◌, ◌<◌, Some, sym, ◌∙◌, ap}
use Rattle.rb_base.specs.Nodes.{side_of}
use Rattle.rb_rules.specs.declared.plan.Plan.{Plan}
use Rattle.rb_rules.proofs.Lawfulness.{sends_inside_all}
use Rattle.rb_node.proofs.{Numbering.{IsNumbered, numbered-here, own-stage, sent-here}, Windows.has-ticks}
use Rattle.rb_node.proofs.ahead.sooner_word.Goals as goal

pub sooner_due-requires-clause-tick : goal.sooner_due-requires-clause-tick
sooner_due-requires-clause-tick g c =
    let v = c.args.engine.now in
    let n : IsNumbered v.sizes v.plan (c.args.had - v.state.epoch) c.args.window.now =
    numbered-here (side_of g.K.Kind.CODE) v c.args.had c.args.window.now (has-ticks v.plan c.bounds.ensures.plan) c.requires.window c.requires.slot in
    let plan : c.plan-2.result.now ≡ v.plan = rw c.plan.ensures at c.plan-2.ensures.value in
    let hold : c.from.result ≡ v.plan.h = c.from.ensures ∙ ap (λ (p : Plan). p.h) plan in
    rw c.epoch.ensures
    (sent-here v (c.args.had - v.state.epoch) c.args.window.now n c.requires.slot
    ∙ ap (λ x. Some (v.state.epoch + c.args.window.now.first + x)) (sym hold))

pub returns : goal.returns
returns g c =
    let v = c.args.engine.now in
    let me = side_of g.K.Kind.CODE in
    let n : IsNumbered v.sizes v.plan (c.args.had - v.state.epoch) c.args.window.now =
    numbered-here me v c.args.had c.args.window.now (has-ticks v.plan c.bounds.ensures.plan) c.requires.window c.requires.slot in
    let short : v.plan.h < v.plan.l = (sends_inside_all v.sizes v.plan c.bounds.ensures.plan c.bounds.ensures.feasible).in_l in
    own-stage me v c.args.had c.args.window.now c.args.before c.sooner_due.result short c.requires.epoch n c.requires.slot c.requires.had c.requires.ends
    c.sooner_due.ensures
