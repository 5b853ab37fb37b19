use Rattle.std.proofs.Common.{sym, ◌∙◌}
use Rattle.rb_bridge.proofs.Exchanged.{begins-over, stays-over}
use Rattle.rb_bridge.proofs.exchanging.turn_over.Goals as goal

pub returns-then-is_last : goal.returns-then-is_last
returns-then-is_last c = stays-over c.args.terms.now c.args.turn.now c.args.passage.now (sym c.is_last.ensures ∙ c.if-is_last.true)

pub returns : goal.returns
returns c = begins-over c.args.terms.now c.args.turn.now c.args.passage.now c.begin_frame.new.passage (sym c.is_last.ensures ∙ c.if-is_last.false) c.begin_frame.ensures
