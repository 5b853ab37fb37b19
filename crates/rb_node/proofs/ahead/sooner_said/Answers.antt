use Rattle.std.proofs.Common.{◌≡◌, ◌<◌, ◌∙◌, ap, arith}
use Rattle.rb_base.specs.{Nodes.side_of, Sizes.sync_slot_of}
use Rattle.rb_node.proofs.{Numbering.{ends-later, numbered-here}, Windows.has-ticks}
use Rattle.rb_node.proofs.ahead.sooner_said.Goals as goal

pub sooner_word-requires-clause-slot : goal.sooner_word-requires-clause-slot
sooner_word-requires-clause-slot g c =
    let sync : c.sync_slot.result ≡ sync_slot_of c.args.engine.now.sizes = c.sync_slot.ensures.value ∙ ap sync_slot_of (rw c.plan.ensures at c.shape.ensures) in
    omega arith

pub sooner_word-requires-clause-ends : goal.sooner_word-requires-clause-ends
sooner_word-requires-clause-ends g c =
    let v = c.args.engine.now in
    let w = c.args.window.now in
    let sync : c.sync_slot.result ≡ sync_slot_of v.sizes = c.sync_slot.ensures.value ∙ ap sync_slot_of (rw c.plan.ensures at c.shape.ensures) in
    let below : w.slot < sync_slot_of v.sizes = omega arith in
    c.requires.ends (ends-later v c.args.had w c.requires.epoch
    (numbered-here (side_of g.K.Kind.CODE) v c.args.had w (has-ticks v.plan c.bounds.ensures.plan) c.requires.window below))
