use Rattle.std.proofs.Common.{◌∙◌, ap}
use Rattle.rb_base.specs.Nodes.{side_of}
use Rattle.rb_rules.specs.NodeState.{NodeState}
use Rattle.rb_node.proofs.Acting.{keeps-now, said-sendable, says-active, says-none, says-stage, some-stage, stage-most}
use Rattle.rb_node.proofs.parts.say_at.Goals as goal

pub returns-then-stage-eq0-clause-message : goal.returns-then-stage-eq0-clause-message
returns-then-stage-eq0-clause-message g c = says-none (side_of g.K.Kind.CODE) c.args.engine.now _ _ c.args.word c.args.now c.requires.stage c.if-stage-eq0.true

pub returns-else-stage-eq0-clause-message : goal.returns-else-stage-eq0-clause-message
returns-else-stage-eq0-clause-message g c =
    let v = c.args.engine.now in
    let me = side_of g.K.Kind.CODE in
    c.outgoing.ensures.message ∙ says-active me v c.args.slot c.args.stage c.args.word c.requires.index
    ∙ says-stage me v c.args.slot c.args.stage c.args.word c.args.now c.requires.stage c.if-stage-eq0.false

pub returns-else-stage-eq0-clause-keeps : goal.returns-else-stage-eq0-clause-keeps
returns-else-stage-eq0-clause-keeps g c =
    let v = c.args.engine.now in
    c.outgoing.ensures.keeps
    ∙ ap (λ (st : NodeState). record v { state = st })
    (keeps-now (side_of g.K.Kind.CODE) v c.args.slot c.args.stage c.args.word c.outgoing.result c.requires.index c.outgoing.ensures.message)

pub returns-else-stage-eq0-clause-sendable : goal.returns-else-stage-eq0-clause-sendable
returns-else-stage-eq0-clause-sendable g c =
    let me = side_of g.K.Kind.CODE in
    said-sendable me c.args.engine.now c.args.slot c.args.stage c.args.word c.outgoing.result c.requires.index (some-stage c.args.stage c.if-stage-eq0.false) (stage-most me _ _ _ _ c.requires.stage)
    c.outgoing.ensures.message
