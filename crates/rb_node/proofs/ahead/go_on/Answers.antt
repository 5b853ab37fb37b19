use Rattle.std.proofs.Common.{◌≡◌, ◌<◌, ◌∙◌, ap, arith}
use Rattle.rb_base.specs.{Nodes.side_of, Sizes.sync_slot_of}
use Rattle.rb_node.specs.Aheads.{following}
use Rattle.rb_node.proofs.Going.{ended-follows, ended-soon, ended-stage}
use Rattle.rb_node.proofs.ahead.go_on.Goals as goal

pub following-requires-clause-stage : goal.following-requires-clause-stage
following-requires-clause-stage g c =
    let sync : c.sync_slot.result ≡ sync_slot_of c.args.engine.now.sizes = c.sync_slot.ensures.value ∙ ap sync_slot_of (rw c.plan.ensures at c.shape.ensures) in
    let below : c.args.window.now.slot < sync_slot_of c.args.engine.now.sizes = omega arith in
    ended-stage c.args.engine.now c.args.window.now c.args.next c.bounds.ensures.plan (c.requires.ended c.if-not-closed.false) below

pub following-requires-clause-last : goal.following-requires-clause-last
following-requires-clause-last g c =
    let sync : c.sync_slot.result ≡ sync_slot_of c.args.engine.now.sizes = c.sync_slot.ensures.value ∙ ap sync_slot_of (rw c.plan.ensures at c.shape.ensures) in
    let below : c.args.window.now.slot < sync_slot_of c.args.engine.now.sizes = omega arith in
    ended-soon c.args.engine.now c.args.window.now c.args.next c.bounds.ensures.shape c.bounds.ensures.plan (c.requires.ended c.if-not-closed.false) below

pub returns-then-window-sync_slot : goal.returns-then-window-sync_slot
returns-then-window-sync_slot g c =
    let sync : c.sync_slot.result ≡ sync_slot_of c.args.engine.now.sizes = c.sync_slot.ensures.value ∙ ap sync_slot_of (rw c.plan.ensures at c.shape.ensures) in
    let below : c.args.window.now.slot < sync_slot_of c.args.engine.now.sizes = omega arith in
    let plan : c.plan-then-window-sync_slot-2.result.now ≡ c.args.engine.now.plan = rw c.plan-then-window-sync_slot.ensures at c.plan-then-window-sync_slot-2.ensures.value in
    ended-follows (side_of g.K.Kind.CODE) c.args.engine.now c.args.window.now c.following.result c.args.next c.bounds.ensures.shape c.bounds.ensures.plan
    c.requires.epoch c.requires.next (c.requires.ended c.if-not-closed.false) below
    (c.following.ensures ∙ ap (λ p. following p c.args.window.now) plan)
