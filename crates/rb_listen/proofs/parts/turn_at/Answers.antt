use Rattle.std.proofs.Common.{◌≡◌, true, false, sym, ◌∙◌, ap}
use Rattle.rb_base.specs.Nodes.Side.{Biu}
use Rattle.rb_rules.specs.{Core.is_tick, NodeState.NodeState, SyncStage.new_epoch_of}
use Rattle.rb_node.proofs.{Busy.no-turn, Steps.{Turned, turns}, Turning.turns-is}
use Rattle.rb_listen.proofs.parts.turn_at.Goals as goal

pub window_of-requires-clause-epoch : goal.window_of-requires-clause-epoch
window_of-requires-clause-epoch c =
    let v = c.args.engine.now in
    let now : is_tick (new_epoch_of v.plan Biu v.state) c.args.now ≡ true = rw c.new_epoch.ensures at (sym c.is_tick.ensures ∙ c.if-is_tick.true) in
    let turned : Turned v c.turn.new.self c.args.now =
    turns Biu v c.turn.new.self c.args.now (c.turn.ensures.state ∙ ap (λ (st : NodeState). record v { state = st }) (sym (turns-is v Biu c.args.now now))) c.requires.epoch in
    turned.epoch

pub returns-then-is_tick-clause-state : goal.returns-then-is_tick-clause-state
returns-then-is_tick-clause-state c =
    let v = c.args.engine.now in
    let now : is_tick (new_epoch_of v.plan Biu v.state) c.args.now ≡ true = rw c.new_epoch.ensures at (sym c.is_tick.ensures ∙ c.if-is_tick.true) in
    c.turn.ensures.state ∙ ap (λ (st : NodeState). record v { state = st }) (sym (turns-is v Biu c.args.now now))

pub returns-else-is_tick-clause-state : goal.returns-else-is_tick-clause-state
returns-else-is_tick-clause-state c =
    let v = c.args.engine.now in
    let later : is_tick (new_epoch_of v.plan Biu v.state) c.args.now ≡ false = rw c.new_epoch.ensures at (sym c.is_tick.ensures ∙ c.if-is_tick.false) in
    ap (λ (st : NodeState). record v { state = st }) (sym (no-turn v Biu c.args.now later))
