use Rattle.std.proofs.Common.{sym, ◌∙◌}
use Rattle.rb_bridge.proofs.SidesPassed.{goes-through, stays-through}
use Rattle.rb_bridge.proofs.frame.pass.Goals as goal

pub returns-then-is_last-clause-passes : goal.returns-then-is_last-clause-passes
returns-then-is_last-clause-passes g c = λ b bank frame both told below same plain before.
    stays-through b bank frame both _ told _ c.args.side.now below plain before (sym c.is_last.ensures ∙ c.if-is_last.true)

pub pass_frame-side-requires : goal.pass_frame-side-requires
pass_frame-side-requires g c = c.requires (sym c.is_last.ensures ∙ c.if-is_last.false)

pub returns-clause-passes : goal.returns-clause-passes
returns-clause-passes g c = λ b bank frame both told below same plain before.
    goes-through b bank frame both _ told _ _ c.args.side.now c.pass_frame-side.new.world c.pass_frame-side.new.passage c.pass_frame-side.result below plain before
    (sym c.is_last.ensures ∙ c.if-is_last.false) c.pass_frame-side.ensures.bus c.pass_frame-side.ensures.passes
