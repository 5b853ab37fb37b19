use Rattle.std.proofs.Common.{◌≡◌, true, false, sym, ◌∙◌, ap}
use Rattle.rb_base.specs.Nodes.{side_of}
use Rattle.rb_rules.specs.{declared.plan.Window.Window, Core.is_tick, NodeState.NodeState, SyncStage.new_epoch_of}
use Rattle.rb_slot.specs.Engines.{Seated}
use Rattle.rb_node.proofs.{Busy.{no-turn, turned-epoch}, Steps.{Turned, turns}, Turning.{silent-says, turns-is}}
use Rattle.rb_node.proofs.parts.turn_at.Goals as goal

pub window_of-ahead-requires-clause-epoch : goal.window_of-ahead-requires-clause-epoch
window_of-ahead-requires-clause-epoch g c =
    let v = c.args.engine.now in
    let me = side_of g.K.Kind.CODE in
    let now : is_tick (new_epoch_of v.plan me v.state) c.args.now ≡ true = rw c.new_epoch.ensures at (sym c.is_tick.ensures ∙ c.if-is_tick.true) in
    let turned : Turned v c.turn.new.self c.args.now =
    turns me v c.turn.new.self c.args.now (c.turn.ensures.state ∙ ap (λ (st : NodeState). record v { state = st }) (sym (turns-is v me c.args.now now))) c.requires.epoch in
    turned.epoch

pub returns-then-is_tick-clause-state : goal.returns-then-is_tick-clause-state
returns-then-is_tick-clause-state g c =
    let v = c.args.engine.now in
    let me = side_of g.K.Kind.CODE in
    let now : is_tick (new_epoch_of v.plan me v.state) c.args.now ≡ true = rw c.new_epoch.ensures at (sym c.is_tick.ensures ∙ c.if-is_tick.true) in
    c.turn.ensures.state ∙ ap (λ (st : NodeState). record v { state = st }) (sym (turns-is v me c.args.now now))

pub returns-else-is_tick-clause-state : goal.returns-else-is_tick-clause-state
returns-else-is_tick-clause-state g c =
    let v = c.args.engine.now in
    let me = side_of g.K.Kind.CODE in
    let later : is_tick (new_epoch_of v.plan me v.state) c.args.now ≡ false = rw c.new_epoch.ensures at (sym c.is_tick.ensures ∙ c.if-is_tick.false) in
    ap (λ (st : NodeState). record v { state = st }) (sym (no-turn v me c.args.now later))

pub returns-then-is_tick-clause-ahead : goal.returns-then-is_tick-clause-ahead
returns-then-is_tick-clause-ahead g c =
    let v = c.args.engine.now in
    let me = side_of g.K.Kind.CODE in
    let now : is_tick (new_epoch_of v.plan me v.state) c.args.now ≡ true = rw c.new_epoch.ensures at (sym c.is_tick.ensures ∙ c.if-is_tick.true) in
    let epoch : c.turn.new.self.state.epoch ≡ c.args.now =
    ap (λ (x : Seated). x.state.epoch) c.turn.ensures.state ∙ ap (λ (st : NodeState). st.epoch) (sym (turns-is v me c.args.now now)) ∙ turned-epoch v me c.args.now now in
    record {
      window = c.window_of-ahead.ensures;
      stage = silent-says me c.turn.new.self _ c.args.now c.bounds.ensures.shape c.bounds.ensures.plan epoch (ap (λ (w : Window). w.slot) c.window_of-ahead.ensures.is);
    }
