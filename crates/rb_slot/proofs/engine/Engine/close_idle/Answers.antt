use Rattle.std.proofs.Common.{rules, List, sym, ◌∙◌, ap}
use Rattle.rb_base.specs.Nodes.{has, side_of}
use Rattle.rb_eligible.specs.Inboxes.{Received, HoldsArrivals}
use Rattle.rb_rules.specs.{ExactStage.closing_of, NodeState.sender_at, Slots.role_of, Standing.{has_evidence, with_evidence}}
use Rattle.rb_slot.specs.Engines.{Seated, senses_in}
use Rattle.rb_slot.proofs.{Idle.{idle_shows, idle_steps, owned_state}, Stages.{Steps, closes_so}}
use Rattle.rb_slot.proofs.engine.Engine.close_idle.Goals as goal

pub pass_stage-requires : goal.pass_stage-requires
pass_stage-requires g c = rw c.take_stage.ensures.evidence.same.sizes c.requires.slot

steps : (g : _) (c : goal.After-pass_stage g) (received : List Received) → HoldsArrivals c.args.inbox.now received
    → Steps (side_of g.K.Kind.CODE) c.args.slot c.args.stage (role_of c.args.self.now.sizes c.args.slot)
    (sender_at c.args.self.now.sizes (side_of g.K.Kind.CODE) c.args.self.now.state c.args.slot) c.take_stage.new.closing
    (senses_in c.args.self.now c.args.slot c.args.stage received)
    c.args.self.now c.take_stage.new.self c.take_stage.new.self (owned_state (side_of g.K.Kind.CODE) c.args.slot c.args.stage c.take_stage.new.self)
    (owned_state (side_of g.K.Kind.CODE) c.args.slot c.args.stage c.take_stage.new.self) c.pass_stage.new.self
steps g c received shown =
    let v : Seated = c.args.self.now in
    let senses = senses_in v c.args.slot c.args.stage received in
    idle_steps (side_of g.K.Kind.CODE) c.args.slot c.args.stage c.take_stage.new.closing senses v c.take_stage.new.self c.pass_stage.new.self
    c.requires.idle
    (c.take_stage.ensures.closing received shown ∙ ap (λ s. closing_of v.state.far (has s) senses) c.empty.ensures.value)
    (c.take_stage.ensures.evidence.accused received shown
    ∙ ap (λ s. record v { state = record v.state { far = with_evidence (has_evidence v.state.far (has s) senses) v.state.far } }) c.empty.ensures.value)
    c.pass_stage.ensures

pub returns : goal.returns
returns g c = record {
  state = λ received shown. closes_so _ _ _ _ _ _ _ _ _ _ _ _ _ (steps g c received shown);
  closed = λ received shown.
      idle_shows (side_of g.K.Kind.CODE) c.args.slot c.args.stage c.self.inside.frame _ _ _ _ _ _ _ _ c.requires.idle (steps g c received shown)
      (ap (λ (v : Seated). v.state.frame) c.self.view_is ∙ sym (ap (λ (v : Seated). v.state.frame) c.pass_stage.ensures));
  same = search rules;
}
