use Rattle.std.proofs.Common.{◌<◌, ◌≤◌, subst, sym, arith}
use Rattle.rb_base.specs.Nodes.{side_of}
use Rattle.rb_node.proofs.{Busy.{chosen-sooner, soonest-on}, Numbering.{ends-later, numbered-here}, Windows.has-ticks}
use Rattle.rb_node.proofs.ahead.word_or_end.Goals as goal

pub sooner_word-requires-clause-had : goal.sooner_word-requires-clause-had
sooner_word-requires-clause-had g c =
    let v = c.args.engine.now in
    let w = c.args.window.now in
    let begun : v.state.epoch < c.args.had = c.requires.epoch in
    subst (λ k. c.args.had ≤ k) (sym c.requires.last.last)
    (ends-later v c.args.had w (omega arith)
    (numbered-here (side_of g.K.Kind.CODE) v c.args.had w (has-ticks v.plan c.bounds.ensures.plan) c.requires.window c.requires.last.slot))

pub returns-clause-next : goal.returns-clause-next
returns-clause-next g c =
    let v = c.args.engine.now in
    let w = c.args.window.now in
    let begun : v.state.epoch < c.args.had = c.requires.epoch in
    let from : c.args.had ≤ c.args.last =
    subst (λ k. c.args.had ≤ k) (sym c.requires.last.last)
    (ends-later v c.args.had w (omega arith)
    (numbered-here (side_of g.K.Kind.CODE) v c.args.had w (has-ticks v.plan c.bounds.ensures.plan) c.requires.window c.requires.last.slot)) in
    soonest-on _ v w _ _ _ _ _ (has-ticks v.plan c.bounds.ensures.plan) begun from c.requires.last.soon c.requires.last.last c.requires.window.is c.requires.last.stays
    (chosen-sooner _ _ _ _ _ c.sooner_word.ensures.from_third)
    (chosen-sooner _ _ _ _ _ c.sooner_word.ensures.from_second)
    (chosen-sooner _ _ _ _ _ c.sooner_word.ensures.from_first)
